use Rattle.std.proofs.Common.{◌∙◌}
use Rattle.std.proofs.lemmas.Simd.{map-map, zip2-map}
use Rattle.text_fields.proofs.LaneLemmas.{least_is}
use Rattle.text_fields.proofs.blocks.values.Goals as goal

pub returns : goal.returns
returns c =
    least_is c.plus-decimal.result c.with-letter.result
    ∙ rw (c.plus-decimal.ensures, c.without.ensures, c.plus.ensures, c.with-letter.ensures, c.plus-2.ensures, c.masked.ensures)
    (simp (map-map, zip2-map))

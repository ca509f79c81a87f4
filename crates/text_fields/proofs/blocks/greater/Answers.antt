use Rattle.std.proofs.Common.{sym, ap, ◌∙◌}
use Rattle.text_fields.specs.Blocks.{are_small}
use Rattle.text_fields.proofs.LaneLemmas.{greatest_is, small_both}
use Rattle.text_fields.proofs.blocks.greater.Goals as goal

pub returns : goal.returns
returns c = ap are_small (greatest_is c.args.first c.args.second) ∙ small_both c.args.first c.args.second (c.fits-first.0 ∙ sym c.fits-second.0)

use Rattle.std.proofs.Common.{sym, ◌∙◌}
use Rattle.text_fields.proofs.HexadecimalLemmas.{no_octets}
use Rattle.text_fields.proofs.kept.Text.read_octets.Goals as goal

pub returns-then-not-put_decoded-clause-value : goal.returns-then-not-put_decoded-clause-value
returns-then-not-put_decoded-clause-value c =
    sym (no_octets c.args.digits.now (sym c.put_decoded.ensures.digits ∙ c.if-not-put_decoded.true))

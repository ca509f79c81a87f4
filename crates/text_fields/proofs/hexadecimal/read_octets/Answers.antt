use Rattle.std.proofs.Common.{sym, ◌∙◌}
use Rattle.text_fields.proofs.HexadecimalLemmas.{no_octets}
use Rattle.text_fields.proofs.hexadecimal.read_octets.Goals as goal

pub returns-else-decode-clause-value : goal.returns-else-decode-clause-value
returns-else-decode-clause-value c = sym (no_octets c.args.text.now (sym c.decode.ensures.digits ∙ c.if-decode.false))

use Rattle.std.proofs.Common.{sym, ap, ◌∙◌}
use Rattle.std.specs.Option.{ok_or}
use Rattle.text_fields.proofs.HexadecimalLemmas.{no_octets}
use Rattle.trace_lines.specs.declared.bad.LineBad.TheVariants.{Number}
use Rattle.trace_lines.proofs.MessageLemmas.{teid_none}
use Rattle.trace_lines.proofs.arguments.read_teid.Goals as goal

pub returns-else-decode : goal.returns-else-decode
returns-else-decode c =
    sym (ap (λ value. ok_or value Number)
    (teid_none c.args.text.now (no_octets c.args.text.now (sym c.decode.ensures.digits ∙ c.if-decode.false))))

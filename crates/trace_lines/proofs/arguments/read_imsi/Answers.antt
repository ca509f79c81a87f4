use Rattle.std.proofs.Common.{sym, ap}
use Rattle.std.specs.Option.{ok_or}
use Rattle.trace_lines.specs.declared.bad.LineBad.TheVariants.{Number}
use Rattle.trace_lines.proofs.FormLemmas.{imsi_is}
use Rattle.trace_lines.proofs.arguments.read_imsi.Goals as goal

pub returns-in-Some : goal.returns-in-Some
returns-in-Some c =
    rw c.in-Some.ensures.1 (sym (ap (λ value. ok_or value Number) (imsi_is c.args.text.now c.in-Some.ensures.0)))

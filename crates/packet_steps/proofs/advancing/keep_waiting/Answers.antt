use Rattle.std.proofs.Common.{rules}
use Rattle.std.proofs.lemmas.Fn.{filter_same}
use Rattle.packet_steps.specs.Rows.{HeldRow}
use Rattle.packet_steps.specs.Change.{waits}
use Rattle.packet_steps.proofs.advancing.keep_waiting.Goals as goal

pub returns : goal.returns
returns c = filter_same _ (λ (row : HeldRow). waits c.args.bearers.now row.life) _
    (λ row b f called. search rules) _ _ c.retain.ensures.filtered

use Rattle.std.proofs.Common.{ap, ◌∙◌}
use Rattle.epoch_schedule.specs.Front.{line_done}
use Rattle.epoch_schedule.specs.Lines.{asked}
use Rattle.epoch_schedule.specs.Worlds.{world_of}
use Rattle.epoch_schedule.proofs.Spared.{sent_at_once}
use Rattle.epoch_schedule.proofs.pumping.slot_sent.Goals as goal

pub returns-then-is_settled : goal.returns-then-is_settled
returns-then-is_settled c rooms bounds =
    let so = c.if-is_settled.ensures in
    let world = world_of c.args.numbers.now in
    ap (λ ask. line_done rooms bounds world (asked ask)) c.in-Packet.is
    ∙ sent_at_once rooms bounds world c.in-Packet.slot so.made so.parks so.gone

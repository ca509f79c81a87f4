use Rattle.std.proofs.Common.{refl}
use Rattle.front_core.proofs.Commanding.{came_back, commanded, may_send}
use Rattle.front_core.proofs.halves.Halves.try_command.Goals as goal

pub send-requires : goal.send-requires
send-requires g c =
    may_send c.args.self.now c.slot.inside.0 c.args.slot c.slot.view_is c.requires c.index_mut.result.now
    c.index_mut.ensures.value

pub returns-in-Ok-clause-sent : goal.returns-in-Ok-clause-sent
returns-in-Ok-clause-sent g c =
    commanded c.args.self.now c.slot.inside.0 c.args.slot c.slot.view_is c.requires c.index_mut.result.now
    c.index_mut.ensures.value _ c.send.new.lot refl refl refl c.args.line c.args.command c.in-Ok.ensures.sent

pub returns-in-Err-clause-full : goal.returns-in-Err-clause-full
returns-in-Err-clause-full g c =
    came_back c.args.self.now c.slot.inside.0 c.args.slot c.slot.view_is c.requires c.index_mut.result.now
    c.index_mut.ensures.value _ c.send.new.lot refl refl refl _ _ c.in-Err.ensures.full.0 c.in-Err.ensures.full.1
    c.saturating_add-self.ensures

use Rattle.std.proofs.Common.{get_or, ◌∙◌, ap}
use Rattle.packet_steps.specs.Meters.{unused}
use Rattle.packet_steps.proofs.OwnMeters.{own_is}
use Rattle.packet_steps.proofs.meters.Meters.own_meter.Goals as goal

pub returns : goal.returns
returns c = c.own_at.ensures ∙ ap (λ own. get_or own c.args.index unused) c.deref.ensures.value
    ∙ own_is c.args.self.now.own.items c.args.index

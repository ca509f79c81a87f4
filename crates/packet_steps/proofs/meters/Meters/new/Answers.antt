use Rattle.std.proofs.Common.{ap}
use Rattle.packet_steps.specs.Meters.{own_in_use}
use Rattle.packet_steps.proofs.meters.Meters.new.Goals as goal

pub returns-clause-own : goal.returns-clause-own
returns-clause-own c = ap own_in_use c.new.ensures.items

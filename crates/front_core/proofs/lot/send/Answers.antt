use Rattle.std.proofs.Common.{◌≡◌}
use Rattle.std.specs.Prelude.{Some}
use Rattle.front_core.specs.declared.lot.Lot.TheVariants.{Split}
use Rattle.front_core.proofs.Lots.{lot_refuses, lot_sends}
use Rattle.front_core.proofs.lot.send.Goals as goal

pub returns-clause-sent : goal.returns-clause-sent
returns-clause-sent g c =
    let is : c.args.lot.now ≡ Some (Split c.in-Some-Split.end) = cc in
    lot_sends c.give_command.result c.args.line c.args.command c.in-Some-Split.end c.give_command.new.self c.args.lot.now
    is c.give_command.ensures.same c.give_command.ensures.packets c.give_command.ensures.hop
    c.give_command.ensures.floors c.give_command.ensures.ok

pub returns-clause-full : goal.returns-clause-full
returns-clause-full g c =
    let is : c.args.lot.now ≡ Some (Split c.in-Some-Split.end) = cc in
    lot_refuses c.give_command.result c.args.command c.in-Some-Split.end c.give_command.new.self c.args.lot.now is
    c.give_command.ensures.same c.give_command.ensures.packets c.give_command.ensures.hop
    c.give_command.ensures.floors c.give_command.ensures.full c.give_command.ensures.room

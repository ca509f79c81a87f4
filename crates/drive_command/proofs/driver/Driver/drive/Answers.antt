use Rattle.std.proofs.Common.{refl}
use Rattle.packet_steps.proofs.ResultLemmas.{on_ok}
use Rattle.drive_command.specs.Standing.{schedule_of}
use Rattle.drive_command.proofs.Reports.{drives_on, may_come}
use Rattle.drive_command.proofs.driver.Driver.drive.Goals as goal

pub returns : goal.returns
returns c = λ first done latest closed open_ sent so_far.
    on_ok c.drive_lines.result
    (λ drives. drives_on first c.args.self.now (record c.args.self.now {
      gateway = c.drive_lines.new.gateway;
      lines = c.drive_lines.new.lines;
      turns = c.drive_lines.new.turns;
    }) done latest closed open_ sent c.args.bad c.args.number c.args.text.now c.drive_lines.new.report so_far drives refl)
    (c.drive_lines.ensures so_far.start open_ (schedule_of first) closed so_far.told so_far.taken
    (may_come first c.args.self.now done latest closed open_ sent c.args.text.now so_far) so_far.workers so_far.stands)

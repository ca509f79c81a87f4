use Rattle.std.proofs.Common.{refl}
use Rattle.drive_command.proofs.Reports.{takes_so}
use Rattle.drive_command.proofs.driver.DriverReporter.take.Goals as goal

pub returns : goal.returns
returns c = λ first done latest closed open_ sent so_far next.
    takes_so first c.args.self.now (record c.args.self.now {
      gateway = c.take.new.self;
      lines = c.take.new.lines;
    }) done latest closed open_ sent c.args._text.now c.args.line.now so_far next (refl, refl) c.in_ok-take.ensures

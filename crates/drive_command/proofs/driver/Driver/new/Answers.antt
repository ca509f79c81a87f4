use Rattle.drive_command.proofs.Reports.{begins_so}
use Rattle.drive_command.proofs.driver.Driver.new.Goals as goal

pub returns-clause-first : goal.returns-clause-first
returns-clause-first c =
    begins_so (record {
      gateway = c.of.result;
      lines = c.new-2.result;
      turns = c.args.turns;
      places = c.args.places;
    }) c.new.result c.args.slices c.args.room c.args.lane c.new.ensures.new c.new.ensures.represents
    c.new.ensures.behind c.of.ensures c.new-2.ensures c.requires.workers

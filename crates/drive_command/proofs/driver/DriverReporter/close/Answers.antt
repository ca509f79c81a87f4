use Rattle.std.proofs.Common.{[], ◌∷◌, ◌++◌}
use Rattle.packet_steps.proofs.ResultLemmas.{on_ok}
use Rattle.drive_command.proofs.Reports.{closes_so, says_epochs}
use Rattle.drive_command.proofs.driver.DriverReporter.close.Goals as goal

pub returns-clause-closed : goal.returns-clause-closed
returns-clause-closed c = λ first done latest closed open_ sent so_far cut.
    on_ok c.drive.result
    (closes_so first c.args.self.now c.drive.new.self done latest closed open_ sent 0 c.drive.new.text)
    (c.drive.ensures first done latest closed open_ sent so_far)

pub returns-clause-says : goal.returns-clause-says
returns-clause-says c = λ first done latest closed open_ sent so_far cut.
    on_ok c.drive.result
    (λ on. says_epochs first c.drive.new.self done latest (closed ++ open_ ∷ []) (sent ++ c.drive.new.text) []
    (closes_so first c.args.self.now c.drive.new.self done latest closed open_ sent 0 c.drive.new.text on) cut)
    (c.drive.ensures first done latest closed open_ sent so_far)

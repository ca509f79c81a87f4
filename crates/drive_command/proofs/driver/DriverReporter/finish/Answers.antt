use Rattle.std.proofs.Common.{◌++◌, subst}
use Rattle.packet_steps.proofs.ResultLemmas.{on_ok}
use Rattle.lawful_run.specs.Run.{behind_all, no_events}
use Rattle.trace_run.specs.Noted.{bad_at, meant_all}
use Rattle.drive_command.specs.Standing.{DroveAll, schedule_of}
use Rattle.drive_command.proofs.Reports.{due_so}
use Rattle.drive_command.proofs.driver.DriverReporter.finish.Goals as goal

pub returns : goal.returns
returns c = λ first done latest closed open_ sent so_far cut counted.
    let now = c.drive_rest.new.self in
    let all : DroveAll first now done closed open_ (bad_at c.args.ending) (sent ++ c.drive_rest.new.text) =
    subst (λ bad. DroveAll first now done closed open_ bad (sent ++ c.drive_rest.new.text)) c.bad_at.ensures
    (c.in_ok-drive_rest.ensures first done latest closed open_ sent so_far counted) in
    on_ok c.push_counters.result
    (due_so first now done closed open_ c.args.ending sent c.drive_rest.new.text c.push_counters.new.text cut all)
    (c.push_counters.ensures first.places
    (behind_all no_events (meant_all (schedule_of first).slices closed open_ (bad_at c.args.ending)) all.told) all.represents)

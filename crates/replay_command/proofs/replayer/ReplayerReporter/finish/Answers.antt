use Rattle.std.proofs.Common.{◌++◌, subst}
use Rattle.packet_steps.proofs.ResultLemmas.{on_ok}
use Rattle.lawful_run.specs.Run.{behind_all, no_events}
use Rattle.trace_run.specs.Noted.{bad_at, meant_all}
use Rattle.replay_command.specs.Standing.{ReplayedAll}
use Rattle.replay_command.proofs.Reports.{due_so}
use Rattle.replay_command.proofs.replayer.ReplayerReporter.finish.Goals as goal

pub returns : goal.returns
returns g c = λ first done latest closed open_ sent so_far cut counted.
    let now = c.run_rest.new.self in
    let all : ReplayedAll first.replay now done closed open_ (bad_at c.args.ending) (sent ++ c.run_rest.new.text) =
    subst (λ bad. ReplayedAll first.replay now done closed open_ bad (sent ++ c.run_rest.new.text)) c.bad_at.ensures
    (c.in_ok-run_rest.ensures first.replay done latest closed open_ sent so_far.1 counted) in
    on_ok c.push_counters.result
    (due_so first.replay now done closed open_ c.args.ending sent c.run_rest.new.text c.push_counters.new.text cut all)
    (c.push_counters.ensures first.replay.places
    (behind_all no_events (meant_all first.replay.rest.slices closed open_ (bad_at c.args.ending)) all.told)
    all.represents)

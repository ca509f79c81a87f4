use Rattle.replay_command.proofs.Reports.{says_nothing}
use Rattle.pepc.proofs.replay.replay.Goals as goal

pub run_report_in_blocks-requires-clause-nothing : goal.run_report_in_blocks-requires-clause-nothing
run_report_in_blocks-requires-clause-nothing g c = λ κs within.
    (let first = c.new-replayer.result.replay in
    says_nothing first.rest.slices first.rest.room first.rest.lane first.places)

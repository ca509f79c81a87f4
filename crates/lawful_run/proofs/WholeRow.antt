-- The whole trace, on one thread, has its report.
use Rattle.std.proofs.Common.{◌≡◌, refl, subst}
use Rattle.gate_model.specs.SlotPast.{happens}
use Rattle.rate_policer.specs.Conforming.{conforms}
use Rattle.packet_steps.specs.Messages.{gpdu}
use Rattle.tft_match.specs.Chosen.{chosen}
use Rattle.lawful_run.specs.AnsweredRun.{answered_run}
use Rattle.lawful_run.specs.Setup.{Setup}
use Rattle.lawful_run.specs.Run.{IsRun}
use Rattle.lawful_run.specs.WholeTrace.{whole_meant, whole_report}
use Rattle.lawful_run.proofs.EveryTrace.{answered_is_run}

answered_whole : answered_run 2 whole_meant ≡ whole_report
unfolding happens conforms chosen gpdu
answered_whole = refl

-- so it is lawful under every setup
whole_trace : (setup : Setup) → IsRun setup 2 whole_meant whole_report
whole_trace setup = subst (IsRun setup 2 whole_meant) answered_whole (answered_is_run setup 2 whole_meant)

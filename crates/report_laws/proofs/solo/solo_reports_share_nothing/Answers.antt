use Rattle.report_laws.proofs.SoloLemmas.{solo_tells_the_same, solo_in_each_epoch, solo_parts_tell_all}
use Rattle.report_laws.proofs.solo.solo_reports_share_nothing.Goals as goal

pub returns : goal.returns
returns c = record { all = solo_tells_the_same; epochs = solo_in_each_epoch; parts = solo_parts_tell_all }

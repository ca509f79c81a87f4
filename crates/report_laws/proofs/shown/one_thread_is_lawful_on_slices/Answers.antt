use Rattle.report_laws.proofs.OneThread.{lawful_on_slices}
use Rattle.report_laws.proofs.shown.one_thread_is_lawful_on_slices.Goals as goal

pub returns : goal.returns
returns c = lawful_on_slices

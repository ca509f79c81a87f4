use Rattle.lawful_run.proofs.OneText.{text_is_one}
use Rattle.lawful_run.proofs.laws.one_text_of_one_thread.Goals as goal

pub returns : goal.returns
returns c = text_is_one

use Rattle.solo_command.proofs.TellLemmas.{waits_nothing}
use Rattle.solo_command.proofs.solo.Solo.behind.Goals as goal

pub returns-clause-waits : goal.returns-clause-waits
returns-clause-waits c = λ slots. waits_nothing c.new.result slots c.new.ensures

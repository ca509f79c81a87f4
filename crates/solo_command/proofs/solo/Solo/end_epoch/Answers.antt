use Rattle.solo_command.proofs.Answered.{on_ok}
use Rattle.solo_command.proofs.TellLemmas.{waits_nothing}
use Rattle.solo_command.proofs.solo.Solo.end_epoch.Goals as goal

pub returns-clause-emptied : goal.returns-clause-emptied
returns-clause-emptied c =
    on_ok c.push_all.result (λ none slots. waits_nothing c.push_all.new.self slots none) c.push_all.ensures.emptied

use Rattle.audit_core.proofs.HavingLines.{traces_have_lines}
use Rattle.audit_core.proofs.LawLemmas.{sentences_are_the_run}
use Rattle.audit_core.proofs.sentence_laws.sentences_are_the_run.Goals as goal

pub returns : goal.returns
returns c = record { sentences = sentences_are_the_run; lines = traces_have_lines }

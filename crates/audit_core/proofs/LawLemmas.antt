-- The six sentences together are the lawful run.
use Rattle.std.proofs.Common.{sym, subst}
use Rattle.audit_core.specs.Lawful.{SentencesAreTheRun, AllSentences}
use Rattle.audit_core.proofs.BackLemmas.{lawful_back}
use Rattle.audit_core.proofs.ThereLemmas.{sentences_there}

pub sentences_are_the_run : SentencesAreTheRun
sentences_are_the_run setup slots made entries have = (
  lawful_back setup slots made entries,
  (λ lawful. subst (AllSentences setup slots made) (sym lawful.2)
      (sentences_there setup slots made lawful.0 have lawful.1)),
)

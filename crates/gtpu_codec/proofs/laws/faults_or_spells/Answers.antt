use Rattle.gtpu_codec.proofs.SpellingLemmas.{no_fault}
use Rattle.gtpu_codec.proofs.MessageLemmas.{faultless_spells}
use Rattle.gtpu_codec.proofs.laws.faults_or_spells.Goals as goal

pub returns : goal.returns
returns c = record { faultless = no_fault; spells = faultless_spells }

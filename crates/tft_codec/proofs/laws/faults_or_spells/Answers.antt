use Rattle.std.proofs.Common.{arith}
use Rattle.tft_codec.specs.Reading.{tft_at}
use Rattle.tft_codec.proofs.TftLemmas.{tft_again, tft_taken}
use Rattle.tft_codec.proofs.laws.faults_or_spells.Goals as goal

pub returns-clause-faultless : goal.returns-clause-faultless
returns-clause-faultless c = λ t spelled. (tft_again c.args.octets.now t spelled).faultless

pub returns-clause-spells : goal.returns-clause-spells
returns-clause-spells c =
    λ nothing. (tft_at c.args.octets.now, tft_taken c.args.octets.now (λ i. omega (arith, c.type_inv.octets i)) nothing)

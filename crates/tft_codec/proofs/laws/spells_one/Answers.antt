use Rattle.std.proofs.Common.{sym, ◌∙◌}
use Rattle.tft_codec.proofs.TftLemmas.{tft_again}
use Rattle.tft_codec.proofs.laws.spells_one.Goals as goal

pub returns : goal.returns
returns c = λ octets t u spelled other. sym (tft_again octets t spelled).value ∙ (tft_again octets u other).value

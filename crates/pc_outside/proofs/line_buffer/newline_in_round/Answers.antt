use Rattle.std.proofs.Common.{refl}
use Rattle.pc_outside.proofs.RoundLemmas.{found_in_round, round_without}
use Rattle.pc_outside.proofs.line_buffer.newline_in_round.Goals as goal

pub returns-then-here-ne0 : goal.returns-then-here-ne0
returns-then-here-ne0 c =
    found_in_round c.args.octets.now _ _ c.requires refl (λ none. c.if-here-ne0.true none) refl

pub returns : goal.returns
returns c = round_without c.args.octets.now _ c.requires refl c.if-here-ne0.false

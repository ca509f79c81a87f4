use Rattle.text_fields.proofs.DigitLemmas.{Counted}
use Rattle.text_fields.proofs.number.short_value.Given as goal

abbrev pub invariant-loop-digit : goal.invariant-loop-digit
invariant-loop-digit l = Counted l.text l.number l.digit-index

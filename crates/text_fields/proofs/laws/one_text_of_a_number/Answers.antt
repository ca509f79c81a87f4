use Rattle.text_fields.proofs.DigitLemmas.{number_read, number_only}
use Rattle.text_fields.proofs.laws.one_text_of_a_number.Goals as goal

pub returns-clause-read : goal.returns-clause-read
returns-clause-read c least last n fits low high = number_read least last n fits low high

pub returns-clause-only : goal.returns-clause-only
returns-clause-only c least last n text fits read = number_only least last n text fits read

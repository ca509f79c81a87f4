use Rattle.text_fields.proofs.AddressLemmas.{address_read, address_only}
use Rattle.text_fields.proofs.laws.one_text_of_an_address.Goals as goal

pub returns-clause-read : goal.returns-clause-read
returns-clause-read c address fits = address_read address fits

pub returns-clause-only : goal.returns-clause-only
returns-clause-only c address text read = address_only address text read

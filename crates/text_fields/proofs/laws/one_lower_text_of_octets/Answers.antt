use Rattle.text_fields.proofs.LowerLemmas.{lower_octets_read, lower_octets_only}
use Rattle.text_fields.proofs.laws.one_lower_text_of_octets.Goals as goal

pub returns-clause-read : goal.returns-clause-read
returns-clause-read c octets some fits = lower_octets_read octets some fits

pub returns-clause-only : goal.returns-clause-only
returns-clause-only c text octets read = lower_octets_only text octets read

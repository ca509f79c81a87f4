use Rattle.text_fields.proofs.HexadecimalLemmas.{octets_read, octets_only}
use Rattle.text_fields.proofs.laws.one_text_of_octets.Goals as goal

pub returns-clause-read : goal.returns-clause-read
returns-clause-read c text octets some all same = octets_read text octets some all same

pub returns-clause-only : goal.returns-clause-only
returns-clause-only c text octets read = octets_only text octets read

use Rattle.text_fields.specs.Fields.{space}
use Rattle.text_fields.proofs.FieldLemmas.{pieces-joined, joined-pieces}
use Rattle.text_fields.proofs.laws.fields_stand_apart.Goals as goal

pub returns-clause-apart : goal.returns-clause-apart
returns-clause-apart c first fields lack = pieces-joined space first fields lack

pub returns-clause-again : goal.returns-clause-again
returns-clause-again c text = joined-pieces space text

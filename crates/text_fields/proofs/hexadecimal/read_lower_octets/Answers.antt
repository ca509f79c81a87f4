use Rattle.std.proofs.Common.{sym, ◌∙◌}
use Rattle.text_fields.proofs.LowerLemmas.{not_lower, read_in_lower, refused_in_lower}
use Rattle.text_fields.proofs.hexadecimal.read_lower_octets.Goals as goal

pub returns-then-are_lower_digits-clause-value : goal.returns-then-are_lower_digits-clause-value
returns-then-are_lower_digits-clause-value c =
    read_in_lower c.read_octets.result c.args.text.now (sym c.are_lower_digits.ensures ∙ c.if-are_lower_digits.true)
    c.read_octets.ensures.value

pub returns-then-are_lower_digits-clause-memory : goal.returns-then-are_lower_digits-clause-memory
returns-then-are_lower_digits-clause-memory c =
    refused_in_lower c.read_octets.result c.args.text.now c.type_inv.text
    (sym c.are_lower_digits.ensures ∙ c.if-are_lower_digits.true) c.read_octets.ensures.memory

pub returns-else-are_lower_digits-clause-value : goal.returns-else-are_lower_digits-clause-value
returns-else-are_lower_digits-clause-value c =
    sym (not_lower c.args.text.now (sym c.are_lower_digits.ensures ∙ c.if-are_lower_digits.false))

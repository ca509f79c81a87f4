use Rattle.std.proofs.Common.{◌≡◌, take}
use Rattle.std.specs.List.{list_all}
use Rattle.text_fields.specs.Hexadecimal.{is_lower_digit}
use Rattle.text_fields.proofs.hexadecimal.are_lower_digits.Given as goal

abbrev pub invariant-loop-digit : goal.invariant-loop-digit
invariant-loop-digit l = l.all ≡ list_all is_lower_digit (take l.digit-index l.text)

use Rattle.std.proofs.Common.{◌≡◌, ◌*◌, ◌++◌, take, drop}
use Rattle.hex.specs.Hex.{encode_with, lower_digits}
use Rattle.text_fields.proofs.hexadecimal.encode_each.Given as goal

abbrev pub invariant-loop-place : goal.invariant-loop-place
invariant-loop-place l =
    take (2 * l.place) l.digits ++ encode_with lower_digits (drop l.place l.octets) ≡ encode_with lower_digits l.octets

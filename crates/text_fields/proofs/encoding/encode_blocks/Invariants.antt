use Rattle.std.proofs.Common.{◌≡◌, ◌*◌, take}
use Rattle.hex.specs.Hex.{encode_lower}
use Rattle.text_fields.proofs.encoding.encode_blocks.Given as goal

abbrev pub invariant-loop-place : goal.invariant-loop-place
invariant-loop-place l = take (128 * l.place) l.digits ≡ encode_lower (take (64 * l.place) l.octets)

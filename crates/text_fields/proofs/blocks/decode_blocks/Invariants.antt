use Rattle.std.proofs.Common.{◌≡◌, ◌*◌, take}
use Rattle.text_fields.specs.Blocks.{values_of, are_small, packed}
use Rattle.text_fields.proofs.blocks.decode_blocks.Given as goal

abbrev pub invariant-loop-place : goal.invariant-loop-place
invariant-loop-place l = record {
  octets : take (64 * l.place) l.octets ≡ packed (take (128 * l.place) (values_of l.digits));
  worst : are_small l.worst ≡ are_small (take (128 * l.place) (values_of l.digits));
}

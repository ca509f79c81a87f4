use Rattle.std.proofs.Common.{◌≡◌, ◌*◌, take, drop, true}
use Rattle.std.specs.List.{list_all}
use Rattle.hex.specs.Hex.{decode_pairs, is_hex_digit}
use Rattle.hex.proofs.Pairs.{prepend}
use Rattle.text_fields.proofs.hexadecimal.decode_each.Given as goal

abbrev pub invariant-loop-place : goal.invariant-loop-place
invariant-loop-place l = record {
  tested : l.all ≡ list_all is_hex_digit (take (2 * l.place) l.digits);
  decoded : l.all ≡ true
      → decode_pairs 0 l.digits ≡ prepend (take l.place l.octets)
      (decode_pairs (2 * l.place) (drop (2 * l.place) l.digits));
}

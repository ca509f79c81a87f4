use Rattle.std.proofs.Common.{◌≡◌, map, take}
use Rattle.charging_book.specs.Parts.{counts_in, moments_in}
use Rattle.charging_book.proofs.accounts.parts.pieces_of.Given as goal

abbrev pub invariant-loop-place : goal.invariant-loop-place
invariant-loop-place l = record {
  counts : map counts_in l.pieces.items ≡ take l.place l.opens;
  moments : map moments_in l.pieces.items ≡ take l.place l.spans;
}

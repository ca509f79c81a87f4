use Rattle.std.proofs.Common.{◌≡◌, vec_capacity, vec_len}
use Rattle.std.specs.List.{All}
use Rattle.epoch_drive.specs.Shares.{IsEmpty}
use Rattle.epoch_drive.proofs.sharing.empty_shares.Given as goal

abbrev pub invariant-loop-i : goal.invariant-loop-i
invariant-loop-i l = record {
  many : vec_len l.shares ≡ l.i;
  room : vec_capacity l.shares ≡ l.slots;
  empty : All IsEmpty l.shares.items;
}

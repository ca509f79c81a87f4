use Rattle.std.proofs.Common.{◌≡◌, ℕ, length, map, take, vec_len}
use Rattle.slot_execution.specs.Kept.{meaning_in}
use Rattle.epoch_drive.specs.Opened.{opened}
use Rattle.epoch_drive.specs.Shares.{AreShares}
use Rattle.epoch_drive.proofs.sharing.shares_of.Given as goal

abbrev pub invariant-loop-i : goal.invariant-loop-i
invariant-loop-i l = record {
  many : vec_len l.shares ≡ length l.subscribers;
  shares : (first : ℕ) → AreShares l.shares.items l.subscribers l.scheduled
      (take l.i (opened first (map (meaning_in l.fn.octets) l.kept) l.scheduled.outcomes));
}

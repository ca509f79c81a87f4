use Rattle.std.proofs.Common.{◌≡◌, ℕ, ◌+◌, List, length, map, drop, vec_capacity, vec_len}
use Rattle.lawful_run.specs.Filling.{filled}
use Rattle.epoch_drive.specs.Joins.{AllShort, mets_at, replies_at}
use Rattle.slot_execution.specs.Kept.{meaning_in}
use Rattle.epoch_drive.specs.DrivenOpened.{open_entries}
use Rattle.epoch_drive.specs.Telling.{AreShort}
use Rattle.epoch_drive.proofs.EntryLemmas.{Joins}
use Rattle.epoch_drive.proofs.joining.join.Given as goal

abbrev pub invariant-loop-i : goal.invariant-loop-i
invariant-loop-i l = record {
  room : vec_capacity l.entries ≡ length l.kept;
  put : vec_len l.entries ≡ l.i;
  many : length l.answers.items ≡ length l.fn.answers.items;
  joins : (octets : List ℕ) → Joins l.entries.items
      (open_entries (l.first + l.i) (drop l.i (map (meaning_in octets) l.kept)) (drop l.i l.outcomes))
      (replies_at l.answers.items) (mets_at l.answers.items)
      (filled (open_entries l.first (map (meaning_in octets) l.kept) l.outcomes)
      (replies_at l.fn.answers.items) (mets_at l.fn.answers.items));
  short : AreShort l.entries.items;
  still : AllShort l.answers.items;
}

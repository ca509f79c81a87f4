use Rattle.std.proofs.Common.{◌≡◌, ◌+◌, All, length}
use Rattle.std.specs.Prelude.{reverse}
use Rattle.lawful_run.specs.Filling.{filled}
use Rattle.front_core.specs.declared.taken.Taken.{Taken}
use Rattle.front_core.specs.Entries.{opens_of}
use Rattle.front_core.specs.Filled.{IsWithin, mets_at, replies_at}
use Rattle.front_core.proofs.Entries.{Fills}
use Rattle.front_core.proofs.filling.fill_all.Given as goal

abbrev pub invariant-loop-place : goal.invariant-loop-place
invariant-loop-place l = record {
  left : length l.entries.items + l.place ≡ length l.fn.entries.items;
  many : length l.answers.items ≡ length l.fn.answers.items;
  within : All (λ (taken : Taken). IsWithin (length l.fn.answers.items) taken.open) (reverse l.entries.items);
  fills : Fills l.told.items (opens_of (l.first + l.place) (reverse l.entries.items)) l.answers.items
      (filled (opens_of l.first l.fn.entries.items) (replies_at l.fn.answers.items) (mets_at l.fn.answers.items));
}

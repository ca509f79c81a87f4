-- What is kept of the lines before one, for the counts of a slot.
use Rattle.std.specs.Prelude.{◌≡◌, ℕ, ◌+◌, ◌≤◌, IfSome, IsTrue, Option, None, Some, List, ◌++◌, All, take, drop}
use Rattle.report_lines.specs.declared.entry.LineEntry.{LineEntry}
use Rattle.lawful_run.specs.Accepted.{command_count}
use Rattle.lawful_run.specs.LinesTold.{LineTold}
use Rattle.lawful_run.specs.Moves.{before_last_move, before_next_move}
use Rattle.lawful_run.specs.Telling.{commands_told}
use Rattle.audit_core.specs.Bounds.{last_before}
use Rattle.audit_core.specs.Meant.{is_about}
use Rattle.audit_core.specs.Telling.{slot_in}
use Rattle.audit_core.specs.declared.counts.Passed.{Passed}

-- behind so many lines, where the slot had so many commands before the epoch
pub record IsPassed (slot start : ℕ) (lines : List LineTold) (at : ℕ) (passed : Passed) : Type 0 where
  pub commands_are : passed.commands ≡ start + command_count slot (take at lines)
  pub least_is : passed.least ≡ start + command_count slot (before_last_move slot (take at lines))
  pub most_is : passed.most ≡ start + command_count slot (take at lines ++ before_next_move slot (drop at lines))
  pub last_is : passed.last ≡ last_before slot start (take at lines)

-- the count that an entry tells lies between them
abbrev pub LiesIn : ℕ → Passed → LineEntry → Type 0
LiesIn slot passed entry =
    IfSome (commands_told slot entry) (λ count.
    (passed.least ≤ count) × (passed.last ≤ count) × (count ≤ passed.most))

-- the last count behind an entry
abbrev pub last_behind : ℕ → Option ℕ → ℕ
last_behind last None = last
last_behind last (Some count) = count

-- a line is about a slot, and its entry is one of it, or a note · so are lines
pub record IsOf (slot : ℕ) (now : LineTold) : Type 0 where
  pub about : IsTrue (is_about slot now)
  pub named : IfSome (slot_in now.entry) (λ own. own ≡ slot)

abbrev pub AreOf : ℕ → List LineTold → Type 0
AreOf slot lines = All (IsOf slot) lines

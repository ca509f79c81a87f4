-- What waits for the end of an epoch, as entries by slot.
use Rattle.std.specs.Prelude.{◌≡◌, ℕ, ◌<◌, ◌==◌, if◌then◌else◌, false, All, List}
use Rattle.std.specs.Prelude.{[], ◌++◌, flat_map}
use Rattle.demux.specs.Trace.{Meaning}
use Rattle.report_lines.specs.Records.{Effected}
use Rattle.report_lines.specs.declared.entry.ChargeEntry.{ChargeEntry}
use Rattle.lawful_run.specs.AnsweredRun.{brought}
use Rattle.lawful_run.specs.Merging.{Histories}
use Rattle.lawful_run.specs.Outcomes.{effects, rows}
use Rattle.trace_run.specs.Entries as texts
use Rattle.lawful_run.specs.Run.{by_slot}
use Rattle.slot_execution.specs.Replaying.{effects_caused, rows_closed}
use Rattle.slot_execution.specs.declared.replayed.Caused.{Caused}
use Rattle.slot_execution.specs.declared.replayed.Closed.{Closed}
use Rattle.solo_command.specs.declared.gathered.Gathered.{Gathered}

-- the effects of a slot's commands as entries, and its charging records, in the order in which they were made
abbrev pub effects_for : ℕ → List Caused → List Effected
effects_for slot all = flat_map (λ (caused : Caused). if caused.slot == slot then effects_caused caused else []) all

abbrev pub rows_for : ℕ → List Closed → List ChargeEntry
rows_for slot all = flat_map (λ (closed : Closed). if closed.slot == slot then rows_closed closed else []) all

-- they are all of slots below so many
abbrev pub CausedBelow : ℕ → List Caused → Type 0
CausedBelow slots all = All (λ (caused : Caused). caused.slot < slots) all

abbrev pub ClosedBelow : ℕ → List Closed → Type 0
ClosedBelow slots all = All (λ (closed : Closed). closed.slot < slots) all

-- what was gathered, of slots below so many, is what lines brought behind the events of each slot before them
pub record Gathers (gathered : Gathered) (slots : ℕ) (before : Histories) (made : List Meaning) : Type 0 where
  pub effects : (slot : ℕ) → effects_for slot gathered.effects.items
      ≡ effects slot (before slot) (brought slot (before slot) made)
  pub rows : (slot : ℕ) → rows_for slot gathered.rows.items ≡ rows slot (before slot) (brought slot (before slot) made)
  pub effects_below : CausedBelow slots gathered.effects.items
  pub rows_below : ClosedBelow slots gathered.rows.items

-- effects of a slot were added, and nothing else
pub record AddsEffects (old new : Gathered) (own : ℕ) (added : List Effected) : Type 0 where
  pub effects : (slot : ℕ) → effects_for slot new.effects.items ≡ effects_for slot old.effects.items
      ++ (if own == slot then added else [])
  pub below : (slots : ℕ) → own < slots → CausedBelow slots old.effects.items → CausedBelow slots new.effects.items
  pub same : new.rows.items ≡ old.rows.items

-- the same of charging records
pub record AddsRows (old new : Gathered) (own : ℕ) (added : List ChargeEntry) : Type 0 where
  pub rows : (slot : ℕ) → rows_for slot new.rows.items ≡ rows_for slot old.rows.items
      ++ (if own == slot then added else [])
  pub below : (slots : ℕ) → own < slots → ClosedBelow slots old.rows.items → ClosedBelow slots new.rows.items
  pub same : new.effects.items ≡ old.effects.items

-- nothing waits
abbrev pub IsEmpty : Gathered → Type 0
IsEmpty gathered = (gathered.effects.items ≡ []) × (gathered.rows.items ≡ [])

-- texts of effects by slot, and of charging records
abbrev pub effects_text : List Effected → List ℕ
effects_text told = texts.effects_text false told

abbrev pub charges_text : List ChargeEntry → List ℕ
charges_text told = texts.charges_text false told

-- what an epoch has behind the entries of its lines
abbrev pub closing_text : ℕ → Histories → List Meaning → List ℕ
closing_text slots before made =
    effects_text (by_slot slots (λ slot. effects slot (before slot) (brought slot (before slot) made)))
    ++ charges_text (by_slot slots (λ slot. rows slot (before slot) (brought slot (before slot) made)))

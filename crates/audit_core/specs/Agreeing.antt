-- Items of a report and those that are made, slot by slot.
use Rattle.std.specs.Prelude.{◌≡◌, ℕ, ◌==◌, List, filter, flat_map, map, All, Contains, length}
use Rattle.std.specs.Borrow.{Bor}
use Rattle.lawful_run.specs.Telling.{counted}
use Rattle.report_lines.specs.Records.{Effected}
use Rattle.report_lines.specs.declared.entry.ChargeEntry.{ChargeEntry}

-- those of a slot
abbrev pub of_slot : {X : Type 0} → (X → ℕ) → ℕ → List X → List X
of_slot whose slot items = filter (λ item. whose item == slot) items

-- those of each slot below so many
abbrev pub each_slot : {X : Type 0} → (X → ℕ) → ℕ → List X → List (List X)
each_slot whose slots items = map (λ slot. of_slot whose slot items) (counted 0 slots)

-- they stand in order of their slots, all of them below so many
abbrev pub AreBySlot : {X : Type 0} → (X → ℕ) → ℕ → List X → Type 0
AreBySlot whose slots items = items ≡ flat_map (λ slot. of_slot whose slot items) (counted 0 slots)

-- each slot has the same
abbrev pub AgreeBySlot : {X : Type 0} → (X → ℕ) → List X → List X → Type 0
AgreeBySlot whose told made = (slot : ℕ) → of_slot whose slot told ≡ of_slot whose slot made

abbrev pub slot_effected : Effected → ℕ
slot_effected effect = effect.slot

-- what is lent
abbrev pub lent : {X : Type 0} → List (Bor X) → List X
lent items = map (λ (item : Bor _). item.now) items

-- each open counter of one list is in the other, of as many
pub record AreTold (told made : List ChargeEntry) : Type 0 where
  pub each : All (Contains told) made
  pub as_many : length told ≡ length made

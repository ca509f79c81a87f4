-- The fifth sentence: the first effect, charging record or open counter that differs from what the lines lead to.
use Rattle.std.specs.Prelude.{◌≡◌, ◌≢◌, ℕ, ◌+◌, ◌<◌, ◌≤◌, ◌==◌, ◌&&◌, ◌⊎◌, Bool, false, Option, Some, None}
use Rattle.std.specs.Prelude.{List, [], ◌∷◌, ◌++◌, length, find, flat_map, All, Contains}
use Rattle.std.specs.Option.{option_map}
use Rattle.demux.specs.Trace.{Meaning}
use Rattle.report_lines.specs.declared.entry.ChargeEntry.{ChargeEntry}
use Rattle.report_lines.specs.declared.entry.ChargeEntry.TheVariants as charge
use Rattle.report_lines.specs.declared.entry.Entry.{Entry}
use Rattle.report_lines.specs.declared.entry.Entry.TheVariants as entry
use Rattle.lawful_run.specs.Report.{EpochReport, Report}
use Rattle.lawful_run.specs.Telling.{counted}
use Rattle.audit_core.specs.Entries.{effects_told, opens_told, rows_told, slot_charged}
use Rattle.audit_core.specs.Sentences.{EffectsAre, RowsAre}
use Rattle.audit_core.specs.Agreeing.{AgreeBySlot, of_slot, slot_effected}
use Rattle.audit_core.specs.Places.{FirstDifference}
use Rattle.audit_core.specs.Telling.{tells}
use Rattle.audit_core.specs.declared.telling.Break.{Break}

-- items in order of their slots
abbrev pub in_slot_order : {X : Type 0} → (X → ℕ) → ℕ → List X → List X
in_slot_order whose slots items = flat_map (λ slot. of_slot whose slot items) (counted 0 slots)

-- all items are of slots that there are · this one is the first that isn't
abbrev pub AreOfSlots : {X : Type 0} → (X → ℕ) → ℕ → List X → Type 0
AreOfSlots whose slots items = All (λ item. whose item < slots) items

pub record IsFirstBeyond {X : Type 0} (whose : X → ℕ) (slots : ℕ) (told : List X) (item : X) : Type 0 where
  pub prefix : List X
  pub later : List X
  pub parts : told ≡ prefix ++ item ∷ later
  pub known : AreOfSlots whose slots prefix
  pub beyond : slots ≤ whose item

-- The first item of a slot that there isn't.
pub record BeyondSlots {X : Type 0} (whose : X → ℕ) (as_entry : X → Entry) (slots : ℕ) (told : List X) (found : Break) :
    Type 0 where
  pub item : X
  pub first : IsFirstBeyond whose slots told item
  pub is : found ≡ tells (Some (as_entry item)) None

-- Where there is none, the first one that differs, in order of slots.
pub record ItemDiffers {X : Type 0} (as_entry : X → Entry) (told made : List X) (found : Break) : Type 0 where
  pub stands : Option X
  pub due : Option X
  pub first : FirstDifference told made stands due
  pub is : found ≡ tells (option_map as_entry stands) (option_map as_entry due)

abbrev pub ItemBreak : {X : Type 0} → (X → ℕ) → (X → Entry) → ℕ → List X → List X → Break → Type 0
ItemBreak whose as_entry slots told made found =
    BeyondSlots whose as_entry slots told found
    ⊎ (AreOfSlots whose slots told × ItemDiffers as_entry (in_slot_order whose slots told) made found)

-- each slot has the same, epoch by epoch from this one on
abbrev pub AgreeUpTo : {X : Type 0} → (X → ℕ) → (ℕ → List X) → (EpochReport → List X) → ℕ → List EpochReport → Type 0
AgreeUpTo whose told made epoch [] = Unit {0}
AgreeUpTo whose told made epoch (now ∷ epochs) =
    AgreeBySlot whose (told epoch) (made now) × AgreeUpTo whose told made (epoch + 1) epochs

-- Where there is no epoch, the first item that is told.
pub record NoEpoch {X : Type 0} (as_entry : X → Entry) (told : ℕ → List X) (n : ℕ) (found : Break) : Type 0 where
  pub none : n ≡ 0
  pub item : X
  pub others : List X
  pub stands : told 0 ≡ item ∷ others
  pub is : found ≡ tells (Some (as_entry item)) None

-- Or the first epoch in which a slot has something else.
pub record EpochDiffers {X : Type 0} (whose : X → ℕ) (as_entry : X → Entry) (slots : ℕ) (told : ℕ → List X)
    (made : EpochReport → List X) (epochs : List EpochReport) (found : Break) : Type 0 where
  pub prefix : List EpochReport
  pub now : EpochReport
  pub later : List EpochReport
  pub parts : epochs ≡ prefix ++ now ∷ later
  pub holds : AgreeUpTo whose told made 0 prefix
  pub first : ItemBreak whose as_entry slots (told (length prefix)) (made now) found

abbrev pub EpochsBreak : {X : Type 0} → (X → ℕ) → (X → Entry) → ℕ → (ℕ → List X) → (EpochReport → List X)
    → List EpochReport → Break → Type 0
EpochsBreak whose as_entry slots told made epochs found =
    NoEpoch as_entry told (length epochs) found ⊎ EpochDiffers whose as_entry slots told made epochs found

-- the open counters of the same life of a bearer
abbrev pub same_life : ChargeEntry → ChargeEntry → Bool
same_life (charge.O slot counters) (charge.O own told) = slot == own && counters.life == told.life
same_life (charge.O slot counters) (charge.R own row) = false
same_life (charge.R slot row) other = false

-- open counters that no entry tells, and those that are told of their life
pub record OpenMissing (told made : List ChargeEntry) (found : Break) : Type 0 where
  pub prefix : List ChargeEntry
  pub open_ : ChargeEntry
  pub later : List ChargeEntry
  pub parts : made ≡ prefix ++ open_ ∷ later
  pub holds : All (Contains told) prefix
  pub missing : ¬ Contains told open_
  pub is : found ≡ tells (option_map entry.Charge (find (same_life open_) told)) (Some (entry.Charge open_))

-- open counters that are told again, behind these, or are of no bearer
abbrev pub IsTooMany : List ChargeEntry → List ChargeEntry → ChargeEntry → Type 0
IsTooMany made prefix open_ = Contains prefix open_ ⊎ ¬ Contains made open_

-- so it is with the one behind so many
pub record IsTooManyAt (made told : List ChargeEntry) (at : ℕ) : Type 0 where
  pub prefix : List ChargeEntry
  pub open_ : ChargeEntry
  pub later : List ChargeEntry
  pub parts : told ≡ prefix ++ open_ ∷ later
  pub behind : length prefix ≡ at
  pub too_many : IsTooMany made prefix open_

-- none of them are · these are, and none before them
abbrev pub NoneTooMany : List ChargeEntry → List ChargeEntry → Type 0
NoneTooMany made told = (prefix later : List ChargeEntry) (open_ : ChargeEntry) → told ≡ prefix ++ open_ ∷ later
    → ¬ IsTooMany made prefix open_

pub record IsFirstTooMany (made told : List ChargeEntry) (open_ : ChargeEntry) : Type 0 where
  pub prefix : List ChargeEntry
  pub later : List ChargeEntry
  pub parts : told ≡ prefix ++ open_ ∷ later
  pub before : NoneTooMany made prefix
  pub too_many : IsTooMany made prefix open_

-- the first ones that are, if any
abbrev pub Surplus : List ChargeEntry → List ChargeEntry → Option ChargeEntry → Type 0
Surplus made told None = NoneTooMany made told
Surplus made told (Some open_) = IsFirstTooMany made told open_

pub record OpensTooMany (told made : List ChargeEntry) (found : Break) : Type 0 where
  pub each : All (Contains told) made
  pub other_count : length told ≢ length made
  pub surplus : Option ChargeEntry
  pub first : Surplus made told surplus
  pub is : found ≡ tells (option_map entry.Charge surplus) None

-- effects, then charging records, then open counters
abbrev pub EffectBreak : ℕ → List (List Meaning) → List Entry → Report → Break → Type 0
EffectBreak slots made entries report found =
    EpochsBreak slot_effected entry.Effect slots (λ epoch. effects_told made epoch entries)
    (λ (now : EpochReport). now.effects) report.epochs found

abbrev pub RowBreak : ℕ → List (List Meaning) → List Entry → Report → Break → Type 0
RowBreak slots made entries report found =
    EpochsBreak slot_charged entry.Charge slots (λ epoch. rows_told made epoch entries)
    (λ (now : EpochReport). now.rows) report.epochs found

abbrev pub OpenBreakOf : List ChargeEntry → List ChargeEntry → Break → Type 0
OpenBreakOf told made found = OpenMissing told made found ⊎ OpensTooMany told made found

abbrev pub OpenBreak : List Entry → Report → Break → Type 0
OpenBreak entries report found = OpenBreakOf (opens_told entries) report.opens found

abbrev pub ChargeBreak : ℕ → List (List Meaning) → List Entry → Report → Break → Type 0
ChargeBreak slots made entries report found =
    EffectBreak slots made entries report found
    ⊎ (EffectsAre made entries 0 report.epochs
    × (RowBreak slots made entries report found
    ⊎ (RowsAre made entries 0 report.epochs × OpenBreak entries report found)))

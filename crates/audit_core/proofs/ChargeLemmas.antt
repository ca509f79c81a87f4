-- Effects, records and open counters that differ aren't those that are made.
use Rattle.std.proofs.Common.{◌≡◌, ℕ, suc, ◌+◌, ◌-◌, ◌==◌, Bool, true, false, cond, List, [], ◌∷◌, ◌++◌, length, refl, sym, ap, ◌∙◌, subst, inl, inr, arith, eq-eqb}
use Rattle.std.specs.List.{All, Contains}
use Rattle.std.proofs.lemmas.List.Elements.{All-head, All-tail}
use Rattle.demux.specs.Trace.{Meaning}
use Rattle.report_lines.specs.declared.entry.ChargeEntry.{ChargeEntry}
use Rattle.report_lines.specs.declared.entry.Entry.{Entry}
use Rattle.report_lines.specs.declared.entry.Entry.TheVariants as entry
use Rattle.lawful_run.specs.LinesTold.{LineTold}
use Rattle.lawful_run.specs.Merging.{Histories, behind, events_in}
use Rattle.lawful_run.specs.Outcomes as made_of
use Rattle.lawful_run.specs.Report.{EpochReport}
use Rattle.lawful_run.specs.Run.{no_events}
use Rattle.audit_core.specs.Entries.{effects_told, opens_told, rows_told, slot_charged}
use Rattle.audit_core.specs.Sentences.{ChargesAre, EffectsAre, RowsAre, made_epoch, made_epochs, made_report}
use Rattle.audit_core.specs.Agreeing.{AgreeBySlot, AreBySlot, of_slot, slot_effected}
use Rattle.audit_core.proofs.BehindLemmas.{effects_behind, rows_behind}
use Rattle.audit_core.proofs.MadeLemmas.{stands_by_slot}
use Rattle.audit_core.proofs.SlotLemmas.{beyond, flat_from}
use Rattle.audit_core.proofs.OwnLemmas.{effects_own, rows_own}
use Rattle.audit_core.specs.Charges.{ChargeBreak, EffectBreak, EpochsBreak, ItemBreak, OpenBreakOf, RowBreak, in_slot_order}
use Rattle.audit_core.specs.declared.telling.Break.{Break}
use Rattle.audit_core.proofs.Differing.{differ}

from_none : (n : ℕ) → 0 + n ≡ n
from_none n = omega arith

-- an item stands among those of its slot
stands_there : {X : Type 0} (whose : X → ℕ) (prefix : List X) (item : X) (later : List X)
    → of_slot whose (whose item) (prefix ++ item ∷ later) ≡ [] → ⊥
stands_there whose [] item later none =
    let rest = of_slot whose (whose item) later in
    let here : item ∷ rest ≡ [] =
    sym (ap (λ own. cond own (item ∷ rest) rest) (eq-eqb (whose item) (whose item) refl)) ∙ none in
    cc
stands_there whose (first ∷ prefix) item later none =
    by_slot (whose first == whose item) (stands_there whose prefix item later) none
  where
    by_slot : (own : Bool) → (of_slot whose (whose item) (prefix ++ item ∷ later) ≡ [] → ⊥)
        → cond own (first ∷ of_slot whose (whose item) (prefix ++ item ∷ later))
        (of_slot whose (whose item) (prefix ++ item ∷ later)) ≡ [] → ⊥
    by_slot true behind is = cc
    by_slot false behind is = behind is

-- an item that is told of a slot is made of it, and so in order of slots
pub item_broken : {X : Type 0} (whose : X → ℕ) (as_entry : X → Entry) (slots : ℕ) (told made : List X) (found : Break)
    → AreBySlot whose slots made → ItemBreak whose as_entry slots told made found → AgreeBySlot whose told made → ⊥
item_broken whose as_entry slots told made found by (inl past) agree =
    let first = past.first in
    let slot = whose past.item in
    let at : slots + (slot - slots) ≡ slot = omega (arith, first.beyond) in
    let none : of_slot whose slot made ≡ [] =
    subst (λ k. of_slot whose k made ≡ []) at (beyond whose slots made by (slot - slots)) in
    stands_there whose first.prefix past.item first.later
    (subst (λ xs. of_slot whose slot xs ≡ []) first.parts (agree slot ∙ none))
item_broken whose as_entry slots told made found by (inr differs) agree =
    differ (in_slot_order whose slots told) made differs.1.stands differs.1.due differs.1.first
    (flat_from whose slots told made by agree)

module _ {X : Type 0} (whose : X → ℕ) (as_entry : X → Entry) (slots : ℕ) (told : ℕ → List X) (made : EpochReport → List X)
    (Are : ℕ → List EpochReport → Type 0)
    (first : (epoch : ℕ) (now : EpochReport) (epochs : List EpochReport) → Are epoch (now ∷ epochs)
    → AgreeBySlot whose (told epoch) (made now))
    (others : (epoch : ℕ) (now : EpochReport) (epochs : List EpochReport) → Are epoch (now ∷ epochs)
    → Are (epoch + 1) epochs)
    (past : (epochs : List EpochReport) → Are 0 epochs → (later : ℕ) → told (length epochs + later) ≡ []) where
  agree_at : (epoch : ℕ) (prefix : List EpochReport) (now : EpochReport) (later : List EpochReport)
      → Are epoch (prefix ++ now ∷ later)
      → AgreeBySlot whose (told (epoch + length prefix)) (made now)
  agree_at epoch [] now later are =
      let at : epoch ≡ epoch + 0 = omega arith in
      subst (λ k. AgreeBySlot whose (told k) (made now)) at (first epoch now later are)
  agree_at epoch (one ∷ prefix) now later are =
      let at : epoch + 1 + length prefix ≡ epoch + suc (length prefix) = omega arith in
      subst (λ k. AgreeBySlot whose (told k) (made now)) at
      (agree_at (epoch + 1) prefix now later (others epoch one (prefix ++ now ∷ later) are))

  pub epochs_broken : (epochs : List EpochReport) (found : Break)
      → ((prefix later : List EpochReport) (now : EpochReport) → epochs ≡ prefix ++ now ∷ later
      → AreBySlot whose slots (made now))
      → EpochsBreak whose as_entry slots told made epochs found → Are 0 epochs → ⊥
  epochs_broken epochs found by (inl gone) are =
      let at : length epochs + 0 ≡ 0 = omega (arith, gone.none) in
      let none : gone.item ∷ gone.others ≡ [] =
      sym gone.stands ∙ subst (λ k. told k ≡ []) at (past epochs are 0) in
      cc
  epochs_broken epochs found by (inr differs) are =
      item_broken whose as_entry slots (told (length differs.prefix)) (made differs.now) found
      (by differs.prefix differs.later differs.now differs.parts) differs.first
      (subst (λ k. AgreeBySlot whose (told k) (made differs.now)) (from_none (length differs.prefix))
      (agree_at 0 differs.prefix differs.now differs.later (subst (Are 0) differs.parts are)))

nothing_there : {X : Type 0} (prefix : List X) (now : X) (later : List X) → [] ≡ prefix ++ now ∷ later → ⊥
nothing_there [] now later parts = cc
nothing_there (one ∷ prefix) now later parts = cc

-- what an epoch makes stands by slot
module _ (slots : ℕ) where
  pub effects_by : (before : Histories) (epochs : List (List LineTold)) (prefix later : List EpochReport)
      (now : EpochReport)
      → made_epochs slots before epochs ≡ prefix ++ now ∷ later
      → AreBySlot slot_effected slots now.effects
  effects_by before [] prefix later now parts = absurd (nothing_there prefix now later parts)
  effects_by before (lines ∷ epochs) [] later now parts =
      let here : made_epoch slots before lines ≡ now = cc in
      stands_by_slot slot_effected (λ s. made_of.effects s (before s) (events_in (before s) lines s))
      (λ s. effects_own s (before s) (events_in (before s) lines s)) slots now.effects
      (ap (λ (e : EpochReport). e.effects) (sym here))
  effects_by before (lines ∷ epochs) (one ∷ prefix) later now parts =
      let rest : made_epochs slots (behind before lines) epochs ≡ prefix ++ now ∷ later = cc in
      effects_by (behind before lines) epochs prefix later now rest

  pub rows_by : (before : Histories) (epochs : List (List LineTold)) (prefix later : List EpochReport)
      (now : EpochReport)
      → made_epochs slots before epochs ≡ prefix ++ now ∷ later
      → AreBySlot slot_charged slots now.rows
  rows_by before [] prefix later now parts = absurd (nothing_there prefix now later parts)
  rows_by before (lines ∷ epochs) [] later now parts =
      let here : made_epoch slots before lines ≡ now = cc in
      stands_by_slot slot_charged (λ s. made_of.rows s (before s) (events_in (before s) lines s))
      (λ s. rows_own s (before s) (events_in (before s) lines s)) slots now.rows
      (ap (λ (e : EpochReport). e.rows) (sym here))
  rows_by before (lines ∷ epochs) (one ∷ prefix) later now parts =
      let rest : made_epochs slots (behind before lines) epochs ≡ prefix ++ now ∷ later = cc in
      rows_by (behind before lines) epochs prefix later now rest

pub all_behind : {X : Type 0} (P : X → Type 0) (prefix : List X) (x : X) (later : List X) → All P (prefix ++ x ∷ later) → P x
all_behind P [] x later all = All-head P x later all
all_behind P (first ∷ prefix) x later all = all_behind P prefix x later (All-tail P first (prefix ++ x ∷ later) all)

pub open_broken : (told made : List ChargeEntry) (found : Break) → OpenBreakOf told made found → All (Contains told) made
    → length told ≡ length made → ⊥
open_broken told made found (inl gone) each as_many =
    gone.missing (all_behind (Contains told) gone.prefix gone.open_ gone.later
    (subst (All (Contains told)) gone.parts each))
open_broken told made found (inr more) each as_many = more.other_count as_many

-- what is told of effects, or of charging records, that differ isn't all that is made
pub effects_clash : (slots : ℕ) (made : List (List Meaning)) (entries : List Entry) (epochs : List (List LineTold))
    (found : Break) → EffectBreak slots made entries (made_report slots epochs) found
    → EffectsAre made entries 0 (made_report slots epochs).epochs → ⊥
effects_clash slots made entries epochs found effects are =
    epochs_broken slot_effected entry.Effect slots (λ epoch. effects_told made epoch entries)
    (λ (now : EpochReport). now.effects) (EffectsAre made entries) (λ epoch now later each. each.0)
    (λ epoch now later each. each.1) (λ all each later. subst (λ k. effects_told made (k + later) entries ≡ []) (from_none (length all))
    (effects_behind made entries 0 all each later))
    (made_report slots epochs).epochs found (effects_by slots no_events epochs) effects are

pub rows_clash : (slots : ℕ) (made : List (List Meaning)) (entries : List Entry) (epochs : List (List LineTold))
    (found : Break) → RowBreak slots made entries (made_report slots epochs) found
    → RowsAre made entries 0 (made_report slots epochs).epochs → ⊥
rows_clash slots made entries epochs found rows are =
    epochs_broken slot_charged entry.Charge slots (λ epoch. rows_told made epoch entries)
    (λ (now : EpochReport). now.rows) (RowsAre made entries) (λ epoch now later each. each.0)
    (λ epoch now later each. each.1) (λ all each later. subst (λ k. rows_told made (k + later) entries ≡ []) (from_none (length all))
    (rows_behind made entries 0 all each later))
    (made_report slots epochs).epochs found (rows_by slots no_events epochs) rows are

pub charges_broken : (slots : ℕ) (made : List (List Meaning)) (entries : List Entry) (epochs : List (List LineTold))
    (found : Break) → ChargeBreak slots made entries (made_report slots epochs) found
    → ChargesAre made entries (made_report slots epochs) → ⊥
charges_broken slots made entries epochs found (inl effects) are =
    effects_clash slots made entries epochs found effects are.effects
charges_broken slots made entries epochs found (inr (effects, inl rows)) are =
    rows_clash slots made entries epochs found rows are.rows
charges_broken slots made entries epochs found (inr (effects, inr (rows, opens))) are =
    open_broken (opens_told entries) (made_report slots epochs).opens found opens are.opens are.as_many

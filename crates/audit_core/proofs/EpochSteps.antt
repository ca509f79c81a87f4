-- What an epoch more leads to, and what is broken in it.
use Rattle.std.proofs.Common.{◌≡◌, ℕ, suc, ◌+◌, List, [], ◌∷◌, ◌++◌, length, map, refl, sym, ap, ◌∙◌, subst, inr, arith, append_assoc, append-nil}
use Rattle.std.specs.List.{flat_map}
use Rattle.std.proofs.lemmas.Grind.{flat_map-append}
use Rattle.report_lines.specs.declared.entry.Entry.{Entry}
use Rattle.report_lines.specs.declared.entry.Entry.TheVariants as entry
use Rattle.lawful_run.specs.LinesTold.{LineTold}
use Rattle.lawful_run.specs.Merging.{Histories, behind}
use Rattle.lawful_run.specs.Report.{EpochReport, entries_of, epoch_entries}
use Rattle.lawful_run.specs.Run.{no_events}
use Rattle.audit_core.specs.Agreeing.{AgreeBySlot}
use Rattle.audit_core.specs.Charges.{AgreeUpTo, EpochsBreak, ItemBreak}
use Rattle.audit_core.specs.Dues.{DiffersAt, StandsSo}
use Rattle.audit_core.specs.Judged.{BreakOf, Case, Epoch, With, due_of, histories_at, led_here, led_to, told_of}
use Rattle.audit_core.specs.Sentences.{EachEpoch, behind_epochs, made_epoch, made_epochs, made_report}
use Rattle.audit_core.specs.Why.{EpochBreak, OrderBreak}
use Rattle.audit_core.specs.declared.sentence.Sentence.TheVariants as of
use Rattle.audit_core.specs.declared.telling.Break.{Break}
use Rattle.audit_core.proofs.EpochCharges.{agree_more}
use Rattle.audit_core.proofs.OrderLemmas.{differs_on, differs_order}

made_parts : (slots : ℕ) (before : Histories) (told : List (List LineTold)) (here : List LineTold)
    (later : List (List LineTold))
    → made_epochs slots before (told ++ here ∷ later)
    ≡ made_epochs slots before told
    ++ made_epoch slots (behind_epochs before told) here
    ∷ made_epochs slots (behind (behind_epochs before told) here) later
made_parts slots before [] here later = refl
made_parts slots before (first ∷ told) here later =
    ap (λ (rest : List EpochReport). made_epoch slots before first ∷ rest)
    (made_parts slots (behind before first) told here later)

pub made_count : (slots : ℕ) (before : Histories) (told : List (List LineTold))
    → length (made_epochs slots before told) ≡ length told
made_count slots before [] = refl
made_count slots before (first ∷ told) = ap suc (made_count slots (behind before first) told)

pub behind_more : (before : Histories) (told : List (List LineTold)) (here : List LineTold)
    → behind_epochs before (told ++ here ∷ []) ≡ behind (behind_epochs before told) here
behind_more before [] here = refl
behind_more before (first ∷ told) here = behind_more (behind before first) told here

module _ (own : Case) (at : Epoch) where
  led_more : led_to own (at.told ++ at.here ∷ []) ≡ led_to own at.told ++ led_here own at ∷ []
  led_more = made_parts own.slots no_events at.told at.here []

  due_more : due_of own (at.told ++ at.here ∷ []) ≡ due_of own at.told ++ epoch_entries (led_here own at)
  due_more =
      ap (flat_map epoch_entries) led_more
      ∙ flat_map-append epoch_entries (led_to own at.told) (led_here own at ∷ [])
      ∙ ap (λ (l : List Entry). due_of own at.told ++ l) (append-nil (epoch_entries (led_here own at)))

  module _ (told_parts : told_of own ≡ at.told ++ at.here ∷ at.later) where
    abbrev behind_here : List EpochReport
    behind_here = made_epochs own.slots (behind (histories_at at) at.here) at.later

    led_parts : led_to own (told_of own) ≡ led_to own at.told ++ led_here own at ∷ behind_here
    led_parts = ap (led_to own) told_parts ∙ made_parts own.slots no_events at.told at.here at.later

    -- something is broken in the epoch, and held before
    pub epoch_break : (P : Histories → List LineTold → Type 0) (B : Histories → List LineTold → Break → Type 0)
        (found : Break) → EachEpoch P no_events at.told → B (histories_at at) at.here found
        → (P (histories_at at) at.here → ⊥) → EpochBreak P B (told_of own) found
    epoch_break P B found holds there broken = record {
      prefix = at.told;
      lines = at.here;
      first = record { later = at.later; parts = told_parts; holds = holds; broken = broken };
      there = there;
    }

    module _ {X : Type 0} (whose : X → ℕ) (as_entry : X → Entry) (told : ℕ → List X) (made : EpochReport → List X)
        (as_many : length at.told ≡ length at.prefix)
        (each : AgreeUpTo whose told made 0 (led_to own at.told)) where
      count : length (led_to own at.told) ≡ length at.prefix
      count = made_count own.slots no_events at.told ∙ as_many

      pub charge_break : (found : Break)
          → ItemBreak whose as_entry own.slots (told (length at.prefix)) (made (led_here own at)) found
          → EpochsBreak whose as_entry own.slots told made (led_to own (told_of own)) found
      charge_break found first = inr (record {
        prefix = led_to own at.told;
        now = led_here own at;
        later = behind_here;
        parts = led_parts;
        holds = each;
        first = subst (λ k. ItemBreak whose as_entry own.slots (told k) (made (led_here own at)) found) (sym count) first;
      })

      pub charge_agrees : AgreeBySlot whose (told (length at.prefix)) (made (led_here own at))
          → AgreeUpTo whose told made 0 (led_to own (at.told ++ at.here ∷ []))
      charge_agrees here =
          let place : length at.prefix ≡ 0 + length (led_to own at.told) = omega (arith, count) in
          subst (AgreeUpTo whose told made 0) (sym led_more)
          (agree_more whose told made 0 (led_to own at.told) (led_here own at) each
          (subst (λ k. AgreeBySlot whose (told k) (made (led_here own at))) place here))

    abbrev due_behind : List Entry
    due_behind = flat_map epoch_entries behind_here ++ map entry.Charge (made_report own.slots (told_of own)).opens

    due_parts : entries_of (made_report own.slots (told_of own))
        ≡ (due_of own at.told ++ epoch_entries (led_here own at)) ++ due_behind
    due_parts =
        let opens = map entry.Charge (made_report own.slots (told_of own)).opens in
        let prefix = due_of own at.told in
        let here = epoch_entries (led_here own at) in
        let rest = flat_map epoch_entries behind_here in
        ap (λ (l : List Entry). l ++ opens)
        (ap (flat_map epoch_entries) led_parts
        ∙ flat_map-append epoch_entries (led_to own at.told) (led_here own at ∷ behind_here)
        ∙ sym (append_assoc prefix here rest))
        ∙ append_assoc (prefix ++ here) rest opens

    pub order_break : (found : Break)
        → DiffersAt own.entries (due_of own at.told ++ epoch_entries (led_here own at)) found
        → BreakOf own of.Order found
    order_break found differs =
        let asked = due_of own at.told ++ epoch_entries (led_here own at) in
        subst (λ due. OrderBreak own.entries due found) (sym due_parts)
        (differs_order own.entries (asked ++ due_behind) found (differs_on own.entries asked due_behind found differs))

  pub order_holds : (place : ℕ) → StandsSo own.entries (due_of own at.told ++ epoch_entries (led_here own at)) place
      → With own at of.Order
  order_holds place so = (so.left, so.parts ∙ ap (λ (d : List Entry). d ++ so.left) (sym due_more))

  pub order_counted : (place : ℕ)
      → StandsSo own.entries (due_of own at.told ++ epoch_entries (led_here own at)) place
      → place ≡ length (due_of own (at.told ++ at.here ∷ []))
  order_counted place so = so.behind ∙ ap length (sym due_more)

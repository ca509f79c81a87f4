-- Two inputs whose lines are alike to some slots: the same is told of these.
use Rattle.std.proofs.Common.{◌≡◌, ◌≢◌, ℕ, Bool, true, false, [], length, refl, sym, ap, ◌∙◌, inl, inr}
use Rattle.std.specs.List.{filter}
use Rattle.std.proofs.lemmas.Bool.{cases_Bool, eqb-true, ne_eqb}
use Rattle.trace_lines.specs.Input.{Input}
use Rattle.lawful_run.specs.AnsweredRun.{brought, behind_epochs}
use Rattle.lawful_run.specs.Merging.{Histories}
use Rattle.lawful_run.specs.Outcomes as made_of
use Rattle.lawful_run.specs.Run.{by_slot, no_events}
use Rattle.lawful_run.specs.Setup.{Setup, slices_of}
use Rattle.lawful_run.specs.Trace.{answered_report, epochs_told, meant_from, slots_of}
use Rattle.report_laws.specs.Lines.{AreAlike}
use Rattle.report_laws.specs.Neighbours.{NeighboursChangeNothing}
use Rattle.report_laws.specs.Told.{in_one, is_charge_of, is_effect_of, only, opens_of, tells_of}
use Rattle.report_laws.proofs.Epochs.{flat, kept_by_slot, lines_in_one, events_in_one, effects_in_one, rows_in_one, effects_out, rows_out, opens_out}
use Rattle.report_laws.proofs.Inputs.{brought_told, events_told, kept_told}
use Rattle.report_laws.proofs.LineLemmas.{all_alike, alike_to_fewer, one_book}
use Rattle.report_laws.proofs.Meanings.{AllAlike, SameEvents, same_brought, same_entries, same_events}

-- what is kept by slot is the same, where these slots have the same events before and now
module _ (own : ℕ → Bool) (slots : ℕ) (before other now later : Histories) (same : SameEvents own before other)
    (brings : SameEvents own now later) where
  each_effects : (s : ℕ) → filter (is_effect_of own) (made_of.effects s (before s) (now s))
      ≡ filter (is_effect_of own) (made_of.effects s (other s) (later s))
  each_effects s = elim (cases_Bool (own s)) [
    | inl mine ↦ λ i. filter (is_effect_of own) (made_of.effects s (same s mine i) (brings s mine i))
    | inr out ↦ effects_out own s (before s) (now s) out ∙ sym (effects_out own s (other s) (later s) out)
  ]

  each_rows : (s : ℕ) → filter (is_charge_of own) (made_of.rows s (before s) (now s))
      ≡ filter (is_charge_of own) (made_of.rows s (other s) (later s))
  each_rows s = elim (cases_Bool (own s)) [
    | inl mine ↦ λ i. filter (is_charge_of own) (made_of.rows s (same s mine i) (brings s mine i))
    | inr out ↦ rows_out own s (before s) (now s) out ∙ sym (rows_out own s (other s) (later s) out)
  ]

  pub same_effects : filter (is_effect_of own) (by_slot slots (λ s. made_of.effects s (before s) (now s)))
      ≡ filter (is_effect_of own) (by_slot slots (λ s. made_of.effects s (other s) (later s)))
  same_effects = kept_by_slot (is_effect_of own) slots (λ s. made_of.effects s (before s) (now s))
      (λ s. made_of.effects s (other s) (later s)) each_effects

  pub same_rows : filter (is_charge_of own) (by_slot slots (λ s. made_of.rows s (before s) (now s)))
      ≡ filter (is_charge_of own) (by_slot slots (λ s. made_of.rows s (other s) (later s)))
  same_rows = kept_by_slot (is_charge_of own) slots (λ s. made_of.rows s (before s) (now s))
      (λ s. made_of.rows s (other s) (later s)) each_rows

module _ (own : ℕ → Bool) (slots : ℕ) (before other : Histories) (same : SameEvents own before other) where
  each_opens : (s : ℕ) → filter (is_charge_of own) (made_of.opens s (before s))
      ≡ filter (is_charge_of own) (made_of.opens s (other s))
  each_opens s = elim (cases_Bool (own s)) [
    | inl mine ↦ ap (λ events. filter (is_charge_of own) (made_of.opens s events)) (same s mine)
    | inr out ↦ opens_out own s (before s) out ∙ sym (opens_out own s (other s) out)
  ]

  pub same_opens : filter (is_charge_of own) (by_slot slots (λ s. made_of.opens s (before s)))
      ≡ filter (is_charge_of own) (by_slot slots (λ s. made_of.opens s (other s)))
  same_opens = kept_by_slot (is_charge_of own) slots (λ s. made_of.opens s (before s))
      (λ s. made_of.opens s (other s)) each_opens

-- one slot alone
pub only_own : (own : ℕ → Bool) (slot s : ℕ) → own slot ≡ true → only slot s ≡ true → own s ≡ true
only_own own slot s mine is = ap own (eqb-true s slot is) ∙ mine

not_only : (slot s : ℕ) → s ≢ slot → only slot s ≡ false
not_only slot s other = ne_eqb s slot other

module _ (own : ℕ → Bool) (setup : Setup) (input other : Input)
    (alike : AreAlike own (slices_of setup) [] input.lines other.lines) where
  meant : AllAlike own (meant_from (slices_of setup) [] input.lines) (meant_from (slices_of setup) [] other.lines)
  meant = all_alike own (slices_of setup) [] [] input.lines other.lines alike refl

  pub one_count : slots_of input ≡ slots_of other
  one_count = ap length (one_book own (slices_of setup) [] input.lines other.lines alike)

  brings : (slot : ℕ) → own slot ≡ true
      → brought slot [] (flat (epochs_told (slices_of setup) input))
      ≡ brought slot [] (flat (epochs_told (slices_of setup) other))
  brings slot mine =
      brought_told (slices_of setup) slot [] input
      ∙ same_brought own slot [] (meant_from (slices_of setup) [] input.lines)
      (meant_from (slices_of setup) [] other.lines) meant mine
      ∙ sym (brought_told (slices_of setup) slot [] other)

  lines_same : filter (tells_of own) (in_one (answered_report setup input)).lines
      ≡ filter (tells_of own) (in_one (answered_report setup other)).lines
  lines_same =
      ap (filter (tells_of own)) (lines_in_one (slots_of input) 1 no_events (epochs_told (slices_of setup) input))
      ∙ kept_told own (slices_of setup) 1 no_events input
      ∙ same_entries own 1 no_events no_events (meant_from (slices_of setup) [] input.lines)
      (meant_from (slices_of setup) [] other.lines) meant (λ slot mine. refl)
      ∙ sym (kept_told own (slices_of setup) 1 no_events other)
      ∙ ap (filter (tells_of own))
      (sym (lines_in_one (slots_of other) 1 no_events (epochs_told (slices_of setup) other)))

  -- of one of these slots
  module _ (slot : ℕ) (mine : own slot ≡ true) where
    only_brings : SameEvents (only slot) (λ s. brought s [] (flat (epochs_told (slices_of setup) input)))
        (λ s. brought s [] (flat (epochs_told (slices_of setup) other)))
    only_brings s is = brings s (only_own own slot s mine is)

    effects_same : filter (is_effect_of (only slot)) (in_one (answered_report setup input)).effects
        ≡ filter (is_effect_of (only slot)) (in_one (answered_report setup other)).effects
    effects_same =
        effects_in_one slot (only slot) (not_only slot) (slots_of input) 1 no_events (epochs_told (slices_of setup) input)
        ∙ same_effects (only slot) (slots_of input) no_events no_events
        (λ s. brought s [] (flat (epochs_told (slices_of setup) input)))
        (λ s. brought s [] (flat (epochs_told (slices_of setup) other))) (λ s is. refl) only_brings
        ∙ ap (λ n. filter (is_effect_of (only slot)) (by_slot n
        (λ s. made_of.effects s [] (brought s [] (flat (epochs_told (slices_of setup) other)))))) one_count
        ∙ sym (effects_in_one slot (only slot) (not_only slot) (slots_of other) 1 no_events
        (epochs_told (slices_of setup) other))

    rows_same : filter (is_charge_of (only slot)) (in_one (answered_report setup input)).rows
        ≡ filter (is_charge_of (only slot)) (in_one (answered_report setup other)).rows
    rows_same =
        rows_in_one slot (only slot) (not_only slot) (slots_of input) 1 no_events (epochs_told (slices_of setup) input)
        ∙ same_rows (only slot) (slots_of input) no_events no_events
        (λ s. brought s [] (flat (epochs_told (slices_of setup) input)))
        (λ s. brought s [] (flat (epochs_told (slices_of setup) other))) (λ s is. refl) only_brings
        ∙ ap (λ n. filter (is_charge_of (only slot)) (by_slot n
        (λ s. made_of.rows s [] (brought s [] (flat (epochs_told (slices_of setup) other)))))) one_count
        ∙ sym (rows_in_one slot (only slot) (not_only slot) (slots_of other) 1 no_events
        (epochs_told (slices_of setup) other))

  -- the events behind all
  all_events : SameEvents own (behind_epochs no_events (epochs_told (slices_of setup) input))
      (behind_epochs no_events (epochs_told (slices_of setup) other))
  all_events slot mine =
      events_in_one no_events (epochs_told (slices_of setup) input) slot
      ∙ events_told (slices_of setup) slot [] input
      ∙ same_events own slot [] (meant_from (slices_of setup) [] input.lines)
      (meant_from (slices_of setup) [] other.lines) meant mine
      ∙ sym (events_told (slices_of setup) slot [] other)
      ∙ sym (events_in_one no_events (epochs_told (slices_of setup) other) slot)

  pub opens_same : opens_of own (answered_report setup input) ≡ opens_of own (answered_report setup other)
  opens_same =
      same_opens own (slots_of input) (behind_epochs no_events (epochs_told (slices_of setup) input))
      (behind_epochs no_events (epochs_told (slices_of setup) other)) all_events
      ∙ ap (λ n. filter (is_charge_of own) (by_slot n (λ s. made_of.opens s
      (behind_epochs no_events (epochs_told (slices_of setup) other) s)))) one_count

pub neighbours_change_nothing : NeighboursChangeNothing
neighbours_change_nothing own setup input other alike = record {
  lines = lines_same own setup input other alike;
  each = λ slot mine.
      let lines = lines_same (only slot) setup input other (alike_to_fewer own (only slot) (slices_of setup) [] input.lines
      other.lines (λ s is. only_own own slot s mine is) alike) in
      let effects = effects_same own setup input other alike slot mine in
      let rows = rows_same own setup input other alike slot mine in
      λ i. record { lines = lines i; effects = effects i; rows = rows i };
  opens = opens_same own setup input other alike;
}

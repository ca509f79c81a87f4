-- What is told of a slot over all epochs is what one epoch of all lines tells.
use Rattle.std.proofs.Common.{◌≡◌, ◌≢◌, ℕ, zero, suc, ◌+◌, ◌≤◌, Bool, false, List, [], ◌∷◌, ◌++◌, length, map, cond, refl, sym, ap, ◌∙◌, inl, inr, arith, append-nil}
use Rattle.std.specs.List.{filter, flat_map}
use Rattle.std.proofs.lemmas.Bool.{cases_eq}
use Rattle.std.proofs.lemmas.List.{append_cancel_left}
use Rattle.std.proofs.lemmas.List.Elements.{filter-append}
use Rattle.demux.specs.Trace.{Meaning}
use Rattle.gate_model.specs.Events.{commands_of}
use Rattle.gate_model.specs.SlotPast.{effects_after, records_after, records_made}
use Rattle.gate_model.specs.declared.event.Event.{Event}
use Rattle.gate_model.specs.declared.event.Event.TheVariants as event
use Rattle.gate_model.proofs.Charges.{records_added}
use Rattle.report_lines.specs.Records.{Effected}
use Rattle.report_lines.specs.declared.entry.ChargeEntry.TheVariants.{R, O}
use Rattle.lawful_run.specs.AnsweredRun.{answered_from, answered_epoch, entries_from, events_after, brought, behind_lines, behind_epochs}
use Rattle.lawful_run.specs.Merging.{Histories}
use Rattle.lawful_run.specs.Outcomes as made_of
use Rattle.lawful_run.specs.Report.{EpochReport}
use Rattle.lawful_run.specs.Run.{by_slot}
use Rattle.lawful_run.specs.Telling.{counted}
use Rattle.lawful_run.proofs.EveryTrace.{with_brought}
use Rattle.lawful_run.proofs.Growing.{effects-append, rows-append}
use Rattle.report_laws.specs.Told.{is_effect_of, is_charge_of}
use Rattle.report_laws.proofs.Meanings.{entries_from-append, events_after-append, brought-append}

-- the lines of epochs
abbrev pub flat : List (List Meaning) → List Meaning
flat epochs = flat_map (λ (made : List Meaning). made) epochs

-- what is kept of lists that stand by slot
module _ {X : Type 0} (test : X → Bool) where
  -- equal where what is kept of each slot is equal
  kept_counted : (has other : ℕ → List X) (first n : ℕ) → ((s : ℕ) → filter test (has s) ≡ filter test (other s))
      → filter test (flat_map has (counted first n)) ≡ filter test (flat_map other (counted first n))
  kept_counted has other first zero same = refl
  kept_counted has other first (suc n) same =
      filter-append test (has first) (flat_map has (counted (first + 1) n))
      ∙ (λ i. same first i ++ kept_counted has other (first + 1) n same i)
      ∙ sym (filter-append test (other first) (flat_map other (counted (first + 1) n)))

  pub kept_by_slot : (slots : ℕ) (has other : ℕ → List X) → ((s : ℕ) → filter test (has s) ≡ filter test (other s))
      → filter test (by_slot slots has) ≡ filter test (by_slot slots other)
  kept_by_slot slots has other same = kept_counted has other 0 slots same

  none_counted : (has : ℕ → List X) (first n : ℕ) → ((s : ℕ) → first ≤ s → filter test (has s) ≡ [])
      → filter test (flat_map has (counted first n)) ≡ []
  none_counted has first zero none = refl
  none_counted has first (suc n) none =
      filter-append test (has first) (flat_map has (counted (first + 1) n))
      ∙ (λ i. none first (omega arith) i ++ none_counted has (first + 1) n (λ s above. none s (omega (arith, above))) i)

  -- lists of one slot, one behind another
  module _ (slot : ℕ) (has more : ℕ → List X) (none : (s : ℕ) → s ≢ slot → filter test (has s) ≡ [])
      (none_more : (s : ℕ) → s ≢ slot → filter test (more s) ≡ []) where
    both_counted : (first n : ℕ)
        → filter test (flat_map has (counted first n)) ++ filter test (flat_map more (counted first n))
        ≡ filter test (flat_map (λ s. has s ++ more s) (counted first n))
    both_counted first zero = refl
    both_counted first (suc n) =
        let left = flat_map has (counted (first + 1) n) in
        let right = flat_map more (counted (first + 1) n) in
        let all = flat_map (λ s. has s ++ more s) (counted (first + 1) n) in
        let parts : filter test (has first ++ left) ++ filter test (more first ++ right)
        ≡ (filter test (has first) ++ filter test left) ++ (filter test (more first) ++ filter test right) =
        λ i. filter-append test (has first) left i ++ filter-append test (more first) right i in
        let whole : (filter test (has first) ++ filter test (more first)) ++ filter test all
        ≡ filter test ((has first ++ more first) ++ all) =
        ap (λ xs. xs ++ filter test all) (sym (filter-append test (has first) (more first)))
        ∙ sym (filter-append test (has first ++ more first) all) in
        elim (cases_eq first slot) [
          | inl same ↦
              let gone : filter test left ≡ [] =
              none_counted has (first + 1) n (λ s above. none s (λ is. omega (arith, is, above, same))) in
              let also : filter test right ≡ [] =
              none_counted more (first + 1) n (λ s above. none_more s (λ is. omega (arith, is, above, same))) in
              let rest : filter test all ≡ [] = sym (both_counted (first + 1) n) ∙ (λ i. gone i ++ also i) in
              parts
              ∙ (λ i. (filter test (has first) ++ gone i) ++ (filter test (more first) ++ also i))
              ∙ (λ i. append-nil (filter test (has first)) i ++ append-nil (filter test (more first)) i)
              ∙ sym (append-nil (filter test (has first) ++ filter test (more first)))
              ∙ ap (λ xs. (filter test (has first) ++ filter test (more first)) ++ xs) (sym rest)
              ∙ whole
          | inr other ↦
              parts
              ∙ (λ i. (none first other i ++ filter test left) ++ (none_more first other i ++ filter test right))
              ∙ both_counted (first + 1) n
              ∙ (λ i. (sym (none first other) i ++ sym (none_more first other) i) ++ filter test all)
              ∙ whole
        ]

-- what events come to, slot by slot and epoch by epoch
module _ {X : Type 0} (outcome : ℕ → List Event → List Event → List X)
    (nothing : (s : ℕ) (events : List Event) → outcome s events [] ≡ [])
    (append : (s : ℕ) (events now more : List Event)
    → outcome s events (now ++ more) ≡ outcome s events now ++ outcome s (events ++ now) more)
    (told : EpochReport → List X)
    (is : (slots first : ℕ) (before : Histories) (made : List Meaning)
    → told (answered_epoch slots first before made)
    ≡ by_slot slots (λ s. outcome s (before s) (brought s (before s) made)))
    (test : X → Bool) (slot : ℕ)
    (none : (s : ℕ) (events now : List Event) → s ≢ slot → filter test (outcome s events now) ≡ []) where
  two : (s : ℕ) (events : List Event) (made more : List Meaning)
      → outcome s events (brought s events made)
      ++ outcome s (events_after s events made) (brought s (events_after s events made) more)
      ≡ outcome s events (brought s events (made ++ more))
  two s events made more =
      ap (λ done. outcome s events (brought s events made)
      ++ outcome s done (brought s (events_after s events made) more)) (sym (with_brought s events made))
      ∙ sym (append s events (brought s events made) (brought s (events_after s events made) more))
      ∙ ap (outcome s events) (sym (brought-append s events made more))

  pub told_in_one : (slots first : ℕ) (before : Histories) (epochs : List (List Meaning))
      → filter test (flat_map told (answered_from slots first before epochs))
      ≡ filter test (by_slot slots (λ s. outcome s (before s) (brought s (before s) (flat epochs))))
  told_in_one slots first before [] =
      sym (none_counted test (λ s. outcome s (before s) []) 0 slots (λ s above. ap (filter test) (nothing s (before s))))
  told_in_one slots first before (made ∷ epochs) =
      let behind = behind_lines before made in
      let now : ℕ → List X = λ s. outcome s (before s) (brought s (before s) made) in
      let later : ℕ → List X = λ s. outcome s (behind s) (brought s (behind s) (flat epochs)) in
      let rest = flat_map told (answered_from slots (first + length made) behind epochs) in
      filter-append test (told (answered_epoch slots first before made)) rest
      ∙ (λ i. filter test (is slots first before made i)
      ++ told_in_one slots (first + length made) behind epochs i)
      ∙ both_counted test slot now later
      (λ s other. none s (before s) (brought s (before s) made) other)
      (λ s other. none s (behind s) (brought s (behind s) (flat epochs)) other) 0 slots
      ∙ kept_by_slot test slots (λ s. now s ++ later s)
      (λ s. outcome s (before s) (brought s (before s) (made ++ flat epochs)))
      (λ s. ap (filter test) (two s (before s) made (flat epochs)))

-- the entries of lines
pub lines_in_one : (slots first : ℕ) (before : Histories) (epochs : List (List Meaning))
    → flat_map (λ (told : EpochReport). told.lines) (answered_from slots first before epochs)
    ≡ entries_from first before (flat epochs)
lines_in_one slots first before [] = refl
lines_in_one slots first before (made ∷ epochs) =
    ap (λ rest. entries_from first before made ++ rest)
    (lines_in_one slots (first + length made) (behind_lines before made) epochs)
    ∙ sym (entries_from-append first before made (flat epochs))

-- the events behind all epochs
pub events_in_one : (before : Histories) (epochs : List (List Meaning)) (slot : ℕ)
    → behind_epochs before epochs slot ≡ events_after slot (before slot) (flat epochs)
events_in_one before [] slot = refl
events_in_one before (made ∷ epochs) slot =
    events_in_one (behind_lines before made) epochs slot
    ∙ sym (events_after-append slot (before slot) made (flat epochs))

-- what is told of a slot is told of no other
pub all_kept_out : {X Y : Type 0} (test : Y → Bool) (of : X → Y) → ((x : X) → test (of x) ≡ false)
    → (xs : List X) → filter test (map of xs) ≡ []
all_kept_out test of out [] = refl
all_kept_out test of out (x ∷ xs) =
    (λ i. cond (out x i) (of x ∷ filter test (map of xs)) (filter test (map of xs)))
    ∙ all_kept_out test of out xs

pub effects_out : (own : ℕ → Bool) (s : ℕ) (events now : List Event) → own s ≡ false
    → filter (is_effect_of own) (made_of.effects s events now) ≡ []
effects_out own s events [] out = refl
effects_out own s events (event.Command c ∷ now) out =
    let told : List Effected = map (made_of.effect_entry s (length (commands_of events))) (effects_after s events c) in
    filter-append (is_effect_of own) told (made_of.effects s (events ++ event.Command c ∷ []) now)
    ∙ (λ i. all_kept_out (is_effect_of own) (made_of.effect_entry s (length (commands_of events))) (λ x. out)
    (effects_after s events c) i ++ effects_out own s (events ++ event.Command c ∷ []) now out i)
effects_out own s events (event.Packet p ∷ now) out = effects_out own s (events ++ event.Packet p ∷ []) now out

pub rows_out : (own : ℕ → Bool) (s : ℕ) (events now : List Event) → own s ≡ false
    → filter (is_charge_of own) (made_of.rows s events now) ≡ []
rows_out own s events now out = all_kept_out (is_charge_of own) (R s) (λ x. out) (records_made s events now)

pub opens_out : (own : ℕ → Bool) (s : ℕ) (events : List Event) → own s ≡ false
    → filter (is_charge_of own) (made_of.opens s events) ≡ []
opens_out own s events out = all_kept_out (is_charge_of own) (O s) (λ x. out) (made_of.open_counters s events)

-- no events make no records
no_records : (s : ℕ) (events : List Event) → records_made s events [] ≡ []
no_records s events = append_cancel_left (records_after s events) (records_made s events []) [] (
    sym (records_added s events []) ∙ ap (records_after s) (append-nil events) ∙ sym (append-nil (records_after s events)))

no_rows : (s : ℕ) (events : List Event) → made_of.rows s events [] ≡ []
no_rows s events = ap (map (R s)) (no_records s events)

module _ (slot : ℕ) (only : ℕ → Bool) (alone : (s : ℕ) → s ≢ slot → only s ≡ false) (slots first : ℕ)
    (before : Histories) (epochs : List (List Meaning)) where
  pub effects_in_one : filter (is_effect_of only)
      (flat_map (λ (told : EpochReport). told.effects) (answered_from slots first before epochs))
      ≡ filter (is_effect_of only)
      (by_slot slots (λ s. made_of.effects s (before s) (brought s (before s) (flat epochs))))
  effects_in_one =
      told_in_one made_of.effects (λ s events. refl) effects-append (λ told. told.effects)
      (λ n k h made. refl) (is_effect_of only) slot (λ s events now other. effects_out only s events now (alone s other))
      slots first before epochs

  pub rows_in_one : filter (is_charge_of only)
      (flat_map (λ (told : EpochReport). told.rows) (answered_from slots first before epochs))
      ≡ filter (is_charge_of only)
      (by_slot slots (λ s. made_of.rows s (before s) (brought s (before s) (flat epochs))))
  rows_in_one =
      told_in_one made_of.rows no_rows rows-append (λ told. told.rows)
      (λ n k h made. refl) (is_charge_of only) slot (λ s events now other. rows_out only s events now (alone s other))
      slots first before epochs

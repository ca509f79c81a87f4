-- What was gathered, behind one line more, and told at the end of an epoch.
use Rattle.std.proofs.Common.{◌≡◌, ℕ, ◌+◌, ◌<◌, ◌≤◌, List, [], ◌∷◌, ◌++◌, length, map, drop, sym, ap, subst, ◌∙◌, arith, append-nil}
use Rattle.std.proofs.lemmas.List.Elements.{All-weaker}
use Rattle.demux.specs.Trace.{Meaning}
use Rattle.gate_model.specs.declared.event.Event.{Event}
use Rattle.gate_model.specs.SlotPast.{records_after}
use Rattle.report_lines.specs.declared.entry.ChargeEntry.TheVariants.{R}
use Rattle.std.proofs.lemmas.List.{drop_all}
use Rattle.lawful_run.specs.AnsweredRun.{brings, brought, events_after}
use Rattle.lawful_run.specs.Merging.{Histories}
use Rattle.lawful_run.specs.Outcomes as made_of
use Rattle.lawful_run.specs.Run.{by_slot}
use Rattle.lawful_run.proofs.EveryTrace.{with_brought}
use Rattle.lawful_run.proofs.Growing.{brought-push, effects-append, rows-append, by_slot-more}
use Rattle.slot_execution.specs.Replaying.{effects_caused, rows_closed}
use Rattle.slot_execution.specs.declared.replayed.Caused.{Caused}
use Rattle.slot_execution.specs.declared.replayed.Closed.{Closed}
use Rattle.solo_command.specs.declared.gathered.Gathered.{Gathered}
use Rattle.solo_command.specs.Gathering.{CausedBelow, ClosedBelow, Gathers, IsEmpty, charges_text, closing_text, effects_for, effects_text, rows_for}
use Rattle.solo_command.proofs.InSlots.{none_beyond}

-- the outcomes of one line more are those of its own event behind all before it
effects-next : (slot : ℕ) (before : List Event) (made : List Meaning) (now : Meaning)
    → made_of.effects slot before (brought slot before (made ++ now ∷ []))
    ≡ made_of.effects slot before (brought slot before made)
    ++ made_of.effects slot (events_after slot before made) (brings slot (events_after slot before made) now)
effects-next slot before made now =
    ap (made_of.effects slot before) (brought-push slot before made now)
    ∙ effects-append slot before (brought slot before made) (brings slot (events_after slot before made) now)
    ∙ ap (λ events. made_of.effects slot before (brought slot before made)
    ++ made_of.effects slot events (brings slot (events_after slot before made) now))
    (with_brought slot before made)

rows-next : (slot : ℕ) (before : List Event) (made : List Meaning) (now : Meaning)
    → made_of.rows slot before (brought slot before (made ++ now ∷ []))
    ≡ made_of.rows slot before (brought slot before made)
    ++ made_of.rows slot (events_after slot before made) (brings slot (events_after slot before made) now)
rows-next slot before made now =
    ap (made_of.rows slot before) (brought-push slot before made now)
    ∙ rows-append slot before (brought slot before made) (brings slot (events_after slot before made) now)
    ∙ ap (λ events. made_of.rows slot before (brought slot before made)
    ++ made_of.rows slot events (brings slot (events_after slot before made) now))
    (with_brought slot before made)

-- what a line makes was added
pub gathers_more : (old new : Gathered) (slots : ℕ) (before : Histories) (made : List Meaning) (now : Meaning)
    → Gathers old slots before made
    → (CausedBelow slots old.effects.items → CausedBelow slots new.effects.items)
    → (ClosedBelow slots old.rows.items → ClosedBelow slots new.rows.items)
    → ((slot : ℕ) → effects_for slot new.effects.items
    ≡ effects_for slot old.effects.items ++ made_of.effects slot (events_after slot (before slot) made)
    (brings slot (events_after slot (before slot) made) now))
    → ((slot : ℕ) → rows_for slot new.rows.items
    ≡ rows_for slot old.rows.items ++ made_of.rows slot (events_after slot (before slot) made)
    (brings slot (events_after slot (before slot) made) now))
    → Gathers new slots before (made ++ now ∷ [])
gathers_more old new slots before made now gathers caused closed effects rows = record {
  effects = λ slot. effects slot
      ∙ ap (λ prefix. prefix ++ made_of.effects slot (events_after slot (before slot) made)
      (brings slot (events_after slot (before slot) made) now)) (gathers.effects slot)
      ∙ sym (effects-next slot (before slot) made now);
  rows = λ slot. rows slot
      ∙ ap (λ prefix. prefix ++ made_of.rows slot (events_after slot (before slot) made)
      (brings slot (events_after slot (before slot) made) now)) (gathers.rows slot)
      ∙ sym (rows-next slot (before slot) made now);
  effects_below = caused gathers.effects_below;
  rows_below = closed gathers.rows_below;
}

-- a line that brings no event adds nothing
pub gathers_none : (gathered : Gathered) (slots : ℕ) (before : Histories) (made : List Meaning) (now : Meaning)
    → Gathers gathered slots before made
    → ((slot : ℕ) → brings slot (events_after slot (before slot) made) now ≡ [])
    → Gathers gathered slots before (made ++ now ∷ [])
gathers_none gathered slots before made now gathers none = record {
  effects = λ slot. gathers.effects slot
      ∙ sym (append-nil (made_of.effects slot (before slot) (brought slot (before slot) made)))
      ∙ ap (λ events. made_of.effects slot (before slot) (brought slot (before slot) made)
      ++ made_of.effects slot (events_after slot (before slot) made) events)
      (sym (none slot))
      ∙ sym (effects-next slot (before slot) made now);
  rows = λ slot. gathers.rows slot
      ∙ ap (λ events. made_of.rows slot (before slot) events)
      (sym (append-nil (brought slot (before slot) made))
      ∙ ap (λ events. brought slot (before slot) made ++ events) (sym (none slot))
      ∙ sym (brought-push slot (before slot) made now));
  effects_below = gathers.effects_below;
  rows_below = gathers.rows_below;
}

-- the same, with more slots
pub gathers_wider : (gathered : Gathered) (slots more : ℕ) (before : Histories) (made : List Meaning)
    → slots ≤ more → Gathers gathered slots before made
    → Gathers gathered more before made
gathers_wider gathered slots more before made wider gathers = record {
  effects = gathers.effects;
  rows = gathers.rows;
  effects_below = All-weaker (λ (caused : Caused). caused.slot < slots) (λ caused. caused.slot < more)
      (λ caused below. omega (arith, below, wider)) gathered.effects.items gathers.effects_below;
  rows_below = All-weaker (λ (closed : Closed). closed.slot < slots) (λ closed. closed.slot < more)
      (λ closed below. omega (arith, below, wider)) gathered.rows.items gathers.rows_below;
}

-- what is told of it is what the epoch has behind the entries of its lines
pub closing : (gathered : Gathered) (slots : ℕ) (before : Histories) (made : List Meaning)
    → Gathers gathered slots before made
    → effects_text (by_slot slots (λ slot. effects_for slot gathered.effects.items))
    ++ charges_text (by_slot slots (λ slot. rows_for slot gathered.rows.items))
    ≡ closing_text slots before made
closing gathered slots before made gathers =
    λ i. effects_text (by_slot slots (λ slot. gathers.effects slot i))
    ++ charges_text (by_slot slots (λ slot. gathers.rows slot i))

-- further slots change nothing of it
pub closing_more : (gathered : Gathered) (slots more : ℕ) (before : Histories) (made : List Meaning)
    → Gathers gathered slots before made
    → closing_text (slots + more) before made ≡ closing_text slots before made
closing_more gathered slots more before made gathers =
    let effects = by_slot-more slots more (λ slot. made_of.effects slot (before slot) (brought slot (before slot) made))
    (λ slot beyond. sym (gathers.effects slot)
    ∙ none_beyond (λ (caused : Caused). caused.slot) effects_caused slots gathered.effects.items
    gathers.effects_below slot beyond) in
    let rows = by_slot-more slots more (λ slot. made_of.rows slot (before slot) (brought slot (before slot) made))
    (λ slot beyond. sym (gathers.rows slot)
    ∙ none_beyond (λ (closed : Closed). closed.slot) rows_closed slots gathered.rows.items gathers.rows_below
    slot beyond) in
    λ i. effects_text (effects i) ++ charges_text (rows i)

pub no_rows : (slot : ℕ) (before : List Event) → made_of.rows slot before [] ≡ []
no_rows slot before =
    ap (λ events. map (R slot) (drop (length (records_after slot before)) (records_after slot events)))
    (append-nil before)
    ∙ ap (map (R slot)) (drop_all (length (records_after slot before)) (records_after slot before) (omega arith))

-- nothing waits for an epoch that has no lines
pub gathers_nothing : (gathered : Gathered) (slots : ℕ) (before : Histories) → IsEmpty gathered
    → Gathers gathered slots before []
gathers_nothing gathered slots before empty = record {
  effects = λ slot. ap (effects_for slot) empty.0;
  rows = λ slot. ap (rows_for slot) empty.1 ∙ sym (no_rows slot (before slot));
  effects_below = subst (λ items. CausedBelow slots items) (sym empty.0) (λ k d within. absurd (omega (arith, within)));
  rows_below = subst (λ items. ClosedBelow slots items) (sym empty.1) (λ k d within. absurd (omega (arith, within)));
}

-- The sequential run grows line by line, and epoch by epoch.
use Rattle.std.proofs.Common.{◌≡◌, ℕ, zero, suc, ◌+◌, ◌≤◌, List, [], ◌∷◌, ◌++◌, length, map, refl, sym, ap, ◌∙◌, arith, append_assoc, append-nil, length-append}
use Rattle.std.specs.List.{flat_map}
use Rattle.demux.specs.Trace.{Meaning}
use Rattle.std.proofs.lemmas.List.{append_cancel_left, map-append}
use Rattle.gate_model.specs.Events.{commands_of}
use Rattle.gate_model.specs.SlotPast.{effects_after, records_after, records_made, reply_after, verdict_after}
use Rattle.gate_model.specs.declared.event.Event.{Event}
use Rattle.gate_model.specs.declared.event.Event.TheVariants as event
use Rattle.gate_model.proofs.Charges.{records_added}
use Rattle.report_lines.specs.Records.{Effected}
use Rattle.report_lines.specs.declared.entry.ChargeEntry.TheVariants.{R}
use Rattle.lawful_run.specs.AnsweredRun.{entry_after, entries_from, brings, brought, with_line, events_after, behind_line, behind_lines, answered_epoch, answered_from, behind_epochs}
use Rattle.lawful_run.specs.Merging.{Histories}
use Rattle.lawful_run.specs.Outcomes as made_of
use Rattle.lawful_run.specs.Run.{by_slot}
use Rattle.lawful_run.specs.Telling.{counted}

-- one line more
pub entries_from-push : (n : ℕ) (before : Histories) (made : List Meaning) (now : Meaning)
    → entries_from n before (made ++ now ∷ []) ≡ entries_from n before made
    ++ entry_after (n + length made) (behind_lines before made) now ∷ []
entries_from-push n before [] now = ap (λ k. entry_after k before now ∷ []) (omega arith)
entries_from-push n before (first ∷ made) now =
    ap (λ rest. entry_after n before first ∷ rest)
    (entries_from-push (n + 1) (behind_line before first) made now
    ∙ ap (λ k. entries_from (n + 1) (behind_line before first) made
    ++ entry_after k (behind_lines before (first ∷ made)) now ∷ []) (omega arith))

pub brought-push : (slot : ℕ) (events : List Event) (made : List Meaning) (now : Meaning)
    → brought slot events (made ++ now ∷ []) ≡ brought slot events made
    ++ brings slot (events_after slot events made) now
brought-push slot events [] now = append-nil (brings slot events now)
brought-push slot events (first ∷ made) now =
    ap (λ rest. brings slot events first ++ rest) (brought-push slot (with_line slot events first) made now)
    ∙ sym (append_assoc (brings slot events first) (brought slot (with_line slot events first) made)
    (brings slot (events_after slot (with_line slot events first) made) now))

pub events_after-push : (slot : ℕ) (events : List Event) (made : List Meaning) (now : Meaning)
    → events_after slot events (made ++ now ∷ []) ≡ with_line slot (events_after slot events made) now
events_after-push slot events [] now = refl
events_after-push slot events (first ∷ made) now = events_after-push slot (with_line slot events first) made now

-- one epoch more
pub answered_from-push : (slots first : ℕ) (before : Histories) (epochs : List (List Meaning)) (made : List Meaning)
    → answered_from slots first before (epochs ++ made ∷ [])
    ≡ answered_from slots first before epochs
    ++ answered_epoch slots (first + length (flat_map (λ (lines : List Meaning). lines) epochs))
    (behind_epochs before epochs) made ∷ []
answered_from-push slots first before [] made = ap (λ k. answered_epoch slots k before made ∷ []) (omega arith)
answered_from-push slots first before (done ∷ epochs) made =
    ap (λ rest. answered_epoch slots first before done ∷ rest)
    (answered_from-push slots (first + length done) (behind_lines before done) epochs made
    ∙ ap (λ k. answered_from slots (first + length done) (behind_lines before done) epochs
    ++ answered_epoch slots k (behind_epochs before (done ∷ epochs)) made ∷ [])
    (let count = length-append done (flat_map (λ (lines : List Meaning). lines) epochs) in omega (arith, count)))

pub behind_epochs-push : (before : Histories) (epochs : List (List Meaning)) (made : List Meaning)
    → behind_epochs before (epochs ++ made ∷ []) ≡ behind_lines (behind_epochs before epochs) made
behind_epochs-push before [] made = refl
behind_epochs-push before (done ∷ epochs) made = behind_epochs-push (behind_lines before done) epochs made

-- further slots that have nothing change nothing
counted_none : {X : Type 0} (first n : ℕ) (has : ℕ → List X) → ((s : ℕ) → first ≤ s → has s ≡ [])
    → flat_map has (counted first n) ≡ []
counted_none first zero has none = refl
counted_none first (suc n) has none =
    ap (λ xs. xs ++ flat_map has (counted (first + 1) n)) (none first (omega arith))
    ∙ counted_none (first + 1) n has (λ s above. none s (omega (arith, above)))

counted_more : {X : Type 0} (first n more : ℕ) (has : ℕ → List X) → ((s : ℕ) → first + n ≤ s → has s ≡ [])
    → flat_map has (counted first (n + more)) ≡ flat_map has (counted first n)
counted_more first zero more has none = counted_none first (0 + more) has (λ s above. none s (omega (arith, above)))
counted_more first (suc n) more has none =
    let is : suc (n + more) ≡ suc n + more = omega arith in
    ap (λ k. flat_map has (counted first k)) (sym is)
    ∙ ap (λ xs. has first ++ xs) (counted_more (first + 1) n more has (λ s above. none s (omega (arith, above))))

pub by_slot-more : {X : Type 0} (slots more : ℕ) (has : ℕ → List X) → ((s : ℕ) → slots ≤ s → has s ≡ [])
    → by_slot (slots + more) has ≡ by_slot slots has
by_slot-more slots more has none = counted_more 0 slots more has (λ s above. none s (omega (arith, above)))

-- outcomes of events, one behind another
pub effects-append : (slot : ℕ) (before events more : List Event)
    → made_of.effects slot before (events ++ more) ≡ made_of.effects slot before events
    ++ made_of.effects slot (before ++ events) more
effects-append slot before [] more = ap (λ done. made_of.effects slot done more) (sym (append-nil before))
effects-append slot before (event.Command c ∷ events) more =
    let now : List Effected = map (made_of.effect_entry slot (length (commands_of before)))
    (effects_after slot before c) in
    ap (λ rest. now ++ rest) (effects-append slot (before ++ event.Command c ∷ []) events more)
    ∙ sym (append_assoc now (made_of.effects slot (before ++ event.Command c ∷ []) events)
    (made_of.effects slot ((before ++ event.Command c ∷ []) ++ events) more))
    ∙ ap (λ done. (now ++ made_of.effects slot (before ++ event.Command c ∷ []) events)
    ++ made_of.effects slot done more)
    (append_assoc before (event.Command c ∷ []) events)
effects-append slot before (event.Packet p ∷ events) more =
    effects-append slot (before ++ event.Packet p ∷ []) events more
    ∙ ap (λ done. made_of.effects slot (before ++ event.Packet p ∷ []) events ++ made_of.effects slot done more)
    (append_assoc before (event.Packet p ∷ []) events)

-- one event more
pub replies-push : (slot : ℕ) (before now : List Event) (e : Event)
    → made_of.replies slot before (now ++ e ∷ []) ≡ made_of.replies slot before now
    ++ made_of.replies slot (before ++ now) (e ∷ [])
replies-push slot before [] e = ap (λ done. made_of.replies slot done (e ∷ [])) (sym (append-nil before))
replies-push slot before (event.Command c ∷ now) e =
    ap (λ rest. reply_after slot before c ∷ rest) (replies-push slot (before ++ event.Command c ∷ []) now e
    ∙ ap (λ done. made_of.replies slot (before ++ event.Command c ∷ []) now ++ made_of.replies slot done (e ∷ []))
    (append_assoc before (event.Command c ∷ []) now))
replies-push slot before (event.Packet p ∷ now) e =
    replies-push slot (before ++ event.Packet p ∷ []) now e
    ∙ ap (λ done. made_of.replies slot (before ++ event.Packet p ∷ []) now ++ made_of.replies slot done (e ∷ []))
    (append_assoc before (event.Packet p ∷ []) now)

pub verdicts-push : (slot : ℕ) (before now : List Event) (e : Event)
    → made_of.verdicts slot before (now ++ e ∷ []) ≡ made_of.verdicts slot before now
    ++ made_of.verdicts slot (before ++ now) (e ∷ [])
verdicts-push slot before [] e = ap (λ done. made_of.verdicts slot done (e ∷ [])) (sym (append-nil before))
verdicts-push slot before (event.Command c ∷ now) e =
    verdicts-push slot (before ++ event.Command c ∷ []) now e
    ∙ ap (λ done. made_of.verdicts slot (before ++ event.Command c ∷ []) now ++ made_of.verdicts slot done (e ∷ []))
    (append_assoc before (event.Command c ∷ []) now)
verdicts-push slot before (event.Packet p ∷ now) e =
    ap (λ rest. verdict_after slot before p ∷ rest) (verdicts-push slot (before ++ event.Packet p ∷ []) now e
    ∙ ap (λ done. made_of.verdicts slot (before ++ event.Packet p ∷ []) now ++ made_of.verdicts slot done (e ∷ []))
    (append_assoc before (event.Packet p ∷ []) now))

pub records-append : (slot : ℕ) (before events more : List Event)
    → records_made slot before (events ++ more) ≡ records_made slot before events
    ++ records_made slot (before ++ events) more
records-append slot before events more =
    append_cancel_left (records_after slot before) (records_made slot before (events ++ more))
    (records_made slot before events ++ records_made slot (before ++ events) more)
    (sym (records_added slot before (events ++ more))
    ∙ ap (records_after slot) (sym (append_assoc before events more))
    ∙ records_added slot (before ++ events) more
    ∙ ap (λ rows. rows ++ records_made slot (before ++ events) more) (records_added slot before events)
    ∙ append_assoc (records_after slot before) (records_made slot before events)
    (records_made slot (before ++ events) more))

pub rows-append : (slot : ℕ) (before events more : List Event)
    → made_of.rows slot before (events ++ more) ≡ made_of.rows slot before events
    ++ made_of.rows slot (before ++ events) more
rows-append slot before events more =
    ap (map (R slot)) (records-append slot before events more)
    ∙ map-append (R slot) (records_made slot before events) (records_made slot (before ++ events) more)

-- no events have no effects, make no records, and leave nothing open
no_effects : (slot : ℕ) (before events : List Event) → events ≡ [] → made_of.effects slot before events ≡ []
no_effects slot before events none = ap (made_of.effects slot before) none

no_rows : (slot : ℕ) (before events : List Event) → before ≡ [] → events ≡ [] → made_of.rows slot before events ≡ []
no_rows slot before events first none = λ i. made_of.rows slot (first i) (none i)

no_opens : (slot : ℕ) (events : List Event) → events ≡ [] → made_of.opens slot events ≡ []
no_opens slot events none = ap (made_of.opens slot) none

pub epoch_slots : (slots more first : ℕ) (before : Histories) (made : List Meaning)
    → ((slot : ℕ) → slots ≤ slot → before slot ≡ [])
    → ((slot : ℕ) → slots ≤ slot → brought slot (before slot) made ≡ [])
    → answered_epoch (slots + more) first before made ≡ answered_epoch slots first before made
epoch_slots slots more first before made unknown none =
    let effects = by_slot-more slots more (λ slot. made_of.effects slot (before slot) (brought slot (before slot) made))
    (λ s above. no_effects s (before s) (brought s (before s) made) (none s above)) in
    let rows = by_slot-more slots more (λ slot. made_of.rows slot (before slot) (brought slot (before slot) made))
    (λ s above. no_rows s (before s) (brought s (before s) made) (unknown s above) (none s above)) in
    λ i. record { lines = entries_from first before made; effects = effects i; rows = rows i }

pub open_slots : (slots more : ℕ) (events : Histories) → ((slot : ℕ) → slots ≤ slot → events slot ≡ [])
    → by_slot (slots + more) (λ slot. made_of.opens slot (events slot))
    ≡ by_slot slots (λ slot. made_of.opens slot (events slot))
open_slots slots more events none = by_slot-more slots more (λ slot. made_of.opens slot (events slot))
    (λ s above. no_opens s (events s) (none s above))

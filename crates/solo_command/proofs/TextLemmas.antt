-- The texts of epochs, one behind another, and of the whole report.
use Rattle.std.proofs.Common.{◌≡◌, ℕ, ◌+◌, ◌-◌, ◌≤◌, false, List, [], ◌∷◌, ◌++◌, length, map, flat_map, refl, sym, ap, ◌∙◌, arith, append_assoc, append-nil}
use Rattle.std.proofs.lemmas.Grind.{flat_map-append}
use Rattle.std.proofs.lemmas.List.{map-append}
use Rattle.trace_lines.specs.Input.{Stop, bad, long, big, ended}
use Rattle.trace_lines.specs.Line.{Line}
use Rattle.demux.specs.Trace.{Meaning, book_of, note}
use Rattle.gate_model.specs.declared.event.Event.{Event}
use Rattle.report_lines.specs.declared.entry.Entry.{Entry}
use Rattle.report_lines.specs.declared.entry.Entry.TheVariants as entry
use Rattle.lawful_run.specs.AnsweredRun.{answered_epoch, answered_from, answered_run, behind_epochs, behind_lines, brought, entries_from, entry_after, events_after}
use Rattle.lawful_run.specs.Merging.{Histories}
use Rattle.lawful_run.specs.Outcomes.{effects, opens, rows}
use Rattle.lawful_run.specs.Report.{EpochReport, epoch_entries, report_text, texts_of}
use Rattle.lawful_run.specs.Run.{by_slot, no_events}
use Rattle.lawful_run.specs.Trace.{epochs_from, epochs_told, meant_epochs, own_epoch, stop_noted}
use Rattle.lawful_run.proofs.CutEpochs.{cut_means}
use Rattle.lawful_run.proofs.EveryTrace.{with_brought}
use Rattle.lawful_run.proofs.Growing.{answered_from-push, behind_epochs-push, brought-push, entries_from-push, epoch_slots, by_slot-more}
use Rattle.lawful_run.specs.Cut.{IsCut, lines_in}
use Rattle.solo_command.specs.Entries.{text_line}
use Rattle.solo_command.specs.Gathering.{charges_text, closing_text, effects_text}
use Rattle.solo_command.specs.Progress.{SaysClosed, closed_events, closed_text, entries_text, open_entries, open_meant, rest_text}
use Rattle.solo_command.specs.Report.{slices}
use Rattle.solo_command.specs.Standing.{story_of}
use Rattle.lawful_run.proofs.CutLines.{count_meant, epochs_are}
use Rattle.solo_command.proofs.GatherLemmas.{no_rows}

-- entries, one behind another
texts-append : (xs ys : List Entry) → texts_of false (xs ++ ys) ≡ texts_of false xs ++ texts_of false ys
texts-append xs ys = flat_map-append text_line xs ys

-- one line's entry more
pub entries_text-push : (first : ℕ) (before : Histories) (made : List Meaning) (now : Meaning)
    → entries_text (entries_from first before (made ++ now ∷ []))
    ≡ entries_text (entries_from first before made) ++ text_line
    (entry.Line (entry_after (first + length made) (behind_lines before made) now))
entries_text-push first before made now =
    let last = entry_after (first + length made) (behind_lines before made) now in
    ap entries_text (entries_from-push first before made now)
    ∙ ap (texts_of false) (map-append entry.Line (entries_from first before made) (last ∷ []))
    ∙ texts-append (map entry.Line (entries_from first before made)) (entry.Line last ∷ [])
    ∙ ap (λ text. entries_text (entries_from first before made) ++ text) (append-nil (text_line (entry.Line last)))

-- the text of an epoch
epoch_text : (slots first : ℕ) (before : Histories) (made : List Meaning)
    → texts_of false (epoch_entries (answered_epoch slots first before made))
    ≡ entries_text (entries_from first before made) ++ closing_text slots before made
epoch_text slots first before made =
    let told = answered_epoch slots first before made in
    texts-append (map entry.Line told.lines) (map entry.Effect told.effects ++ map entry.Charge told.rows)
    ∙ ap (λ text. entries_text told.lines ++ text) (texts-append (map entry.Effect told.effects)
    (map entry.Charge told.rows))

-- one epoch more
epochs_text-push : (slots : ℕ) (epochs : List (List Meaning)) (made : List Meaning)
    → texts_of false (flat_map epoch_entries (answered_from slots 1 no_events (epochs ++ made ∷ [])))
    ≡ texts_of false (flat_map epoch_entries (answered_from slots 1 no_events epochs))
    ++ (entries_text (entries_from (1 + length (flat_map (λ (lines : List Meaning). lines) epochs))
    (behind_epochs no_events epochs) made)
    ++ closing_text slots (behind_epochs no_events epochs) made)
epochs_text-push slots epochs made =
    let first = 1 + length (flat_map (λ (lines : List Meaning). lines) epochs) in
    let before = behind_epochs no_events epochs in
    let told = answered_epoch slots first before made in
    let prefix = answered_from slots 1 no_events epochs in
    ap (λ reports. texts_of false (flat_map epoch_entries reports)) (answered_from-push slots 1 no_events epochs made)
    ∙ ap (texts_of false) (flat_map-append epoch_entries prefix (told ∷ [])
    ∙ ap (λ entries. flat_map epoch_entries prefix ++ entries) (append-nil (epoch_entries told)))
    ∙ texts-append (flat_map epoch_entries prefix) (epoch_entries told)
    ∙ ap (λ text. texts_of false (flat_map epoch_entries prefix) ++ text) (epoch_text slots first before made)

pub closed_text-push : (slots : ℕ) (closed : List (List Line)) (epochs : List (List Meaning)) (made : List Meaning)
    → epochs ≡ meant_epochs slices [] closed ++ made ∷ []
    → texts_of false (flat_map epoch_entries (answered_from slots 1 no_events epochs))
    ≡ closed_text slots closed ++ (entries_text (entries_from (1 + length (lines_in closed))
    (closed_events closed) made)
    ++ closing_text slots (closed_events closed) made)
closed_text-push slots closed epochs made is =
    ap (λ e. texts_of false (flat_map epoch_entries (answered_from slots 1 no_events e))) is
    ∙ epochs_text-push slots (meant_epochs slices [] closed) made
    ∙ ap (λ n. closed_text slots closed ++ (entries_text (entries_from (1 + n) (closed_events closed) made)
    ++ closing_text slots (closed_events closed) made))
    (count_meant slices [] closed)

-- nothing before, and nothing brought
both_none : (xs ys : List Event) → xs ++ ys ≡ [] → (xs ≡ []) × (ys ≡ [])
both_none [] ys none = (refl, none)
both_none (x ∷ xs) ys none = cc

-- further slots, of which nothing is told
pub closing_wider : (slots known : ℕ) (before : Histories) (made : List Meaning) → slots ≤ known
    → ((slot : ℕ) → slots ≤ slot → behind_lines before made slot ≡ [])
    → closing_text known before made ≡ closing_text slots before made
closing_wider slots known before made wider none =
    let parts : (slot : ℕ) → slots ≤ slot → (before slot ≡ []) × (brought slot (before slot) made ≡ []) =
    λ slot beyond. both_none (before slot) (brought slot (before slot) made) (with_brought slot (before slot) made
    ∙ none slot beyond) in
    let same : slots + (known - slots) ≡ known = omega (arith, wider) in
    let told = epoch_slots slots (known - slots) 0 before made (λ slot beyond. (parts slot beyond).0)
    (λ slot beyond. (parts slot beyond).1) in
    ap (λ n. closing_text n before made) (sym same)
    ∙ ap (λ (report : EpochReport). effects_text report.effects ++ charges_text report.rows) told

-- an epoch without lines has nothing
pub by_slot-none : {X : Type 0} (slots : ℕ) (has : ℕ → List X) → ((slot : ℕ) → has slot ≡ []) → by_slot slots has ≡ []
by_slot-none slots has none =
    ap (λ n. by_slot n has) (omega arith) ∙ by_slot-more 0 slots has (λ slot beyond. none slot)

pub closing_nothing : (slots : ℕ) (before : Histories) → closing_text slots before [] ≡ []
closing_nothing slots before =
    let none = by_slot-none slots (λ slot. effects slot (before slot) []) (λ slot. refl) in
    let no_row = by_slot-none slots (λ slot. rows slot (before slot) []) (λ slot. no_rows slot (before slot)) in
    λ i. effects_text (none i) ++ charges_text (no_row i)

-- the note on a bad line brings nothing
pub brought_noted : (slot : ℕ) (events : List Event) (made : List Meaning) (stop : Stop)
    → brought slot events (made ++ stop_noted stop) ≡ brought slot events made
brought_noted slot events made (bad n why) =
    brought-push slot events made (note _) ∙ append-nil (brought slot events made)
brought_noted slot events made (long n) = ap (brought slot events) (append-nil made)
brought_noted slot events made big = ap (brought slot events) (append-nil made)
brought_noted slot events made ended = ap (brought slot events) (append-nil made)

events_noted : (slot : ℕ) (events : List Event) (made : List Meaning) (stop : Stop)
    → events_after slot events (made ++ stop_noted stop) ≡ events_after slot events made
events_noted slot events made stop =
    sym (with_brought slot events (made ++ stop_noted stop))
    ∙ ap (λ more. events ++ more) (brought_noted slot events made stop) ∙ with_brought slot events made

closing_noted : (slots : ℕ) (before : Histories) (made : List Meaning) (stop : Stop)
    → closing_text slots before (made ++ stop_noted stop) ≡ closing_text slots before made
closing_noted slots before made stop =
    λ i. effects_text (by_slot slots (λ slot. effects slot (before slot)
    (brought_noted slot (before slot) made stop i)))
    ++ charges_text (by_slot slots (λ slot. rows slot (before slot) (brought_noted slot (before slot) made stop i)))

-- the last epoch, where it has lines or a note
last_epoch : (slots : ℕ) (closed : List (List Line)) (made : List Meaning)
    → texts_of false (flat_map epoch_entries (answered_from slots 1 no_events (meant_epochs slices [] closed
    ++ own_epoch made)))
    ≡ closed_text slots closed ++ (entries_text (entries_from (1 + length (lines_in closed))
    (closed_events closed) made)
    ++ closing_text slots (closed_events closed) made)
last_epoch slots closed [] =
    ap (λ e. texts_of false (flat_map epoch_entries (answered_from slots 1 no_events e)))
    (append-nil (meant_epochs slices [] closed))
    ∙ sym (append-nil (closed_text slots closed))
    ∙ ap (λ text. closed_text slots closed ++ text) (sym (closing_nothing slots (closed_events closed)))
last_epoch slots closed (now ∷ made) = closed_text-push slots closed _ (now ∷ made) refl

last_events : (closed : List (List Line)) (made : List Meaning)
    → behind_epochs no_events (meant_epochs slices [] closed ++ own_epoch made)
    ≡ behind_lines (closed_events closed) made
last_events closed [] = ap (behind_epochs no_events) (append-nil (meant_epochs slices [] closed))
last_events closed (now ∷ made) = behind_epochs-push no_events (meant_epochs slices [] closed) (now ∷ made)

-- the text of a whole report
pub whole_text : (done : List Line) (closed : List (List Line)) (open_ : List Line) (stop : Stop) (latest : ℕ)
    (sent waiting : List ℕ) → IsCut done closed open_
    → SaysClosed sent closed → length (book_of (lines_in closed)) ≤ length (book_of done)
    → waiting ≡ entries_text (open_entries closed open_ (stop_noted stop))
    → sent ++ (waiting ++ rest_text (story_of done latest (closed_events closed) (open_meant closed open_)))
    ≡ report_text false (answered_run (length (book_of done))
    (epochs_told slices (record { lines = done; stop = stop })))
whole_text done closed open_ stop latest sent waiting cut said grown waits =
    let slots = length (book_of done) in
    let before = closed_events closed in
    let made = open_meant closed open_ in
    let noted = made ++ stop_noted stop in
    let means : epochs_told slices (record { lines = done; stop = stop }) ≡ meant_epochs slices [] closed
    ++ own_epoch noted =
    ap (λ epochs. epochs_from slices [] epochs (stop_noted stop)) (epochs_are done closed open_ cut)
    ∙ cut_means slices [] closed open_ (stop_noted stop) cut.whole cut.unfinished in
    let lines = entries_text (entries_from (1 + length (lines_in closed)) before noted) in
    let charges = charges_text (by_slot slots (λ slot. opens slot (behind_lines before made slot))) in
    let whole : report_text false (answered_run slots (meant_epochs slices [] closed ++ own_epoch noted))
    ≡ (closed_text slots closed ++ (lines ++ closing_text slots before made)) ++ charges =
    texts-append (flat_map epoch_entries (answered_from slots 1 no_events (meant_epochs slices [] closed
    ++ own_epoch noted)))
    (map entry.Charge (by_slot slots (λ slot. opens slot
    (behind_epochs no_events (meant_epochs slices [] closed ++ own_epoch noted) slot))))
    ∙ ap (λ text. text ++ charges_text (by_slot slots (λ slot.
    opens slot (behind_epochs no_events (meant_epochs slices [] closed ++ own_epoch noted) slot))))
    (last_epoch slots closed noted ∙ ap (λ text. closed_text slots closed ++ (lines ++ text))
    (closing_noted slots before made stop))
    ∙ ap (λ (events : Histories). (closed_text slots closed ++ (lines ++ closing_text slots before made))
    ++ charges_text (by_slot slots (λ slot. opens slot (events slot))))
    (last_events closed noted ∙ (λ i slot. events_noted slot (before slot) made stop i)) in
    ap (λ text. text ++ (waiting ++ (closing_text slots before made ++ charges))) (said slots grown)
    ∙ ap (λ text. closed_text slots closed ++ (text ++ (closing_text slots before made ++ charges))) waits
    ∙ ap (λ text. closed_text slots closed ++ text) (sym (append_assoc lines (closing_text slots before made) charges))
    ∙ sym (append_assoc (closed_text slots closed) (lines ++ closing_text slots before made) charges)
    ∙ sym (ap (λ m. report_text false (answered_run slots m)) means ∙ whole)

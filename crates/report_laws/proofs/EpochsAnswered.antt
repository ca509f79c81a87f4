-- Such a gateway gives the epochs of the sequential run, with the note on a bad line behind them.
use Rattle.std.proofs.Common.{◌≡◌, ℕ, ◌+◌, ◌-◌, ◌<◌, ◌≤◌, ◌^◌, ◌==◌, Bool, true, false, List, [], ◌∷◌, ◌++◌, length, codes, refl, sym, ap, subst, ◌∙◌, arith, append-nil, append_assoc, length-append}
use Rattle.std.specs.List.{filter, flat_map}
use Rattle.std.proofs.lemmas.Grind.{flat_map-append}
use Rattle.std.proofs.lemmas.List.{map-append}
use Rattle.trace_lines.specs.Input.{Stop, bad, big, ended, long}
use Rattle.trace_lines.specs.Line.{Line}
use Rattle.trace_lines.specs.Word.{word_of}
use Rattle.demux.specs.Trace.{Meaning, book_of, note}
use Rattle.gate_model.specs.declared.event.Event.{Event}
use Rattle.report_lines.specs.Records.{Effected}
use Rattle.report_lines.specs.declared.entry.LineEntry.TheVariants as line_entry
use Rattle.lawful_run.specs.AnsweredRun.{answered_epoch, answered_from, behind_epochs, behind_lines, brought, events_after}
use Rattle.lawful_run.specs.Cut.{lines_in}
use Rattle.lawful_run.specs.Merging.{Histories}
use Rattle.lawful_run.specs.Outcomes as made_of
use Rattle.lawful_run.specs.Report.{EpochReport}
use Rattle.lawful_run.specs.Run.{by_slot}
use Rattle.lawful_run.specs.Trace.{epochs_from, is_whole, meant_from, own_epoch, stop_noted, with_noted}
use Rattle.lawful_run.proofs.BookGrows.{book_grows_all}
use Rattle.lawful_run.proofs.CutLines.{length-meant_from}
use Rattle.lawful_run.proofs.EveryTrace.{with_brought}
use Rattle.lawful_run.proofs.Growing.{brought-push, entries_from-push, epoch_slots, events_after-push}
use Rattle.solo_command.specs.Gateway.{Gateway, Told, noted}
use Rattle.solo_command.specs.Reports.{AnswersEpochs, is_of, own_told, reports_of, stop_told, told_epoch, with_stop}
use Rattle.solo_command.specs.Report.{slices}
use Rattle.solo_command.proofs.GatherLemmas.{no_rows}
use Rattle.report_laws.proofs.InputsInOrder.{InOrder, StopAt, in_order_split, latest_in}
use Rattle.report_laws.proofs.LinesAnswered.{LinesGo, Stands, TellAll, lines_go}

-- slots beyond those of a book have no events
abbrev NoneBeyond : ℕ → Histories → Type 0
NoneBeyond known histories = (slot : ℕ) → known ≤ slot → histories slot ≡ []

both_none : {X : Type 0} (xs ys : List X) → xs ++ ys ≡ [] → (xs ≡ []) × (ys ≡ [])
both_none [] ys none = (refl, none)
both_none (x ∷ xs) ys none = absurd cc

-- what is told of an epoch is its report
tells_epoch : (known slots : ℕ) (told : List Told) (n : ℕ) (histories : Histories) (made : List Meaning)
    → known ≤ slots → TellAll told n histories made → NoneBeyond known (behind_lines histories made)
    → told_epoch known told ≡ answered_epoch slots n histories made
tells_epoch known slots told n histories made few tell beyond =
    let more = slots - known in
    let same : known + more ≡ slots = omega (arith, few) in
    let none : (slot : ℕ) → known ≤ slot → (histories slot ≡ []) × (brought slot (histories slot) made ≡ []) =
    λ slot above. both_none (histories slot) (brought slot (histories slot) made)
    (with_brought slot (histories slot) made ∙ beyond slot above) in
    let told_is : told_epoch known told ≡ answered_epoch known n histories made = λ i. record {
      lines = tell.entries i;
      effects = by_slot known (λ slot. tell.effects slot i);
      rows = by_slot known (λ slot. tell.rows slot i);
    } in
    told_is
    ∙ sym (epoch_slots known more n histories made (λ slot above. (none slot above).0)
    (λ slot above. (none slot above).1))
    ∙ ap (λ k. answered_epoch k n histories made) same

-- a note behind lines
noted_tell : (told : List Told) (n : ℕ) (histories : Histories) (made : List Meaning) (number : ℕ) (text : List ℕ)
    → TellAll told n histories made → number ≡ n + length made
    → TellAll (told ++ noted number text ∷ []) n histories (made ++ note text ∷ [])
noted_tell told n histories made number text tell at = record {
  entries = map-append (λ (one : Told). one.entry) told (noted number text ∷ [])
      ∙ (λ i. tell.entries i ++ line_entry.N (record { line = at i; note = text }) ∷ [])
      ∙ sym (entries_from-push n histories made (note text));
  effects = λ slot.
      let test : Effected → Bool = λ effected. effected.slot == slot in
      ap (filter test) (flat_map-append (λ (one : Told). one.effects) told (noted number text ∷ [])
      ∙ append-nil (flat_map (λ (one : Told). one.effects) told))
      ∙ tell.effects slot
      ∙ ap (made_of.effects slot (histories slot)) (sym (brought-push slot (histories slot) made (note text)
      ∙ append-nil (brought slot (histories slot) made)));
  rows = λ slot.
      ap (filter (is_of slot)) (flat_map-append (λ (one : Told). one.rows) told (noted number text ∷ [])
      ∙ append-nil (flat_map (λ (one : Told). one.rows) told))
      ∙ tell.rows slot
      ∙ ap (made_of.rows slot (histories slot)) (sym (brought-push slot (histories slot) made (note text)
      ∙ append-nil (brought slot (histories slot) made)));
}

same_tell : (told more : List Told) (n : ℕ) (histories : Histories) (made other : List Meaning) → told ≡ more
    → made ≡ other → TellAll told n histories made → TellAll more n histories other
same_tell told more n histories made other same means tell =
    subst (λ (t : List Told). TellAll t n histories other) same
    (subst (λ (m : List Meaning). TellAll told n histories m) means tell)

stop_tell : (told : List Told) (n : ℕ) (histories : Histories) (made : List Meaning) (stop : Stop)
    → TellAll told n histories made → StopAt (n + length made) stop
    → TellAll (told ++ stop_told stop) n histories (made ++ stop_noted stop)
stop_tell told n histories made (bad number why) tell at =
    noted_tell told n histories made number (codes "line" ++ 32 ∷ word_of why) tell at
stop_tell told n histories made (long number) tell at =
    same_tell told (told ++ []) n histories made (made ++ []) (sym (append-nil told)) (sym (append-nil made)) tell
stop_tell told n histories made big tell at =
    same_tell told (told ++ []) n histories made (made ++ []) (sym (append-nil told)) (sym (append-nil made)) tell
stop_tell told n histories made ended tell at =
    same_tell told (told ++ []) n histories made (made ++ []) (sym (append-nil told)) (sym (append-nil made)) tell

-- it brings nothing
stop_brings : (slot : ℕ) (events : List Event) (made : List Meaning) (stop : Stop)
    → events_after slot events (made ++ stop_noted stop) ≡ events_after slot events made
stop_brings slot events made (bad number why) =
    events_after-push slot events made (note (codes "line" ++ 32 ∷ word_of why))
stop_brings slot events made (long number) = ap (events_after slot events) (append-nil made)
stop_brings slot events made big = ap (events_after slot events) (append-nil made)
stop_brings slot events made ended = ap (events_after slot events) (append-nil made)

-- an epoch of its own
nothing_tells : (n : ℕ) (histories : Histories) → TellAll [] n histories []
nothing_tells n histories =
    record { entries = refl; effects = λ slot. refl; rows = λ slot. sym (no_rows slot (histories slot)) }

stop_alone : (known slots n : ℕ) (histories : Histories) (stop : Stop) → known ≤ slots → StopAt n stop
    → NoneBeyond known histories
    → reports_of known (own_told (stop_told stop)) ≡ answered_from slots n histories (own_epoch (stop_noted stop))
stop_alone known slots n histories (bad number why) few at beyond =
    let text = codes "line" ++ 32 ∷ word_of why in
    ap (λ (report : EpochReport). report ∷ [])
    (tells_epoch known slots (noted number text ∷ []) n histories (note text ∷ []) few
    (noted_tell [] n histories [] number text (nothing_tells n histories) (omega (arith, at))) beyond)
stop_alone known slots n histories (long number) few at beyond = refl
stop_alone known slots n histories big few at beyond = refl
stop_alone known slots n histories ended few at beyond = refl

stop_behind : (slot : ℕ) (histories : Histories) (stop : Stop)
    → behind_epochs histories (own_epoch (stop_noted stop)) slot ≡ histories slot
stop_behind slot histories (bad number why) = refl
stop_behind slot histories (long number) = refl
stop_behind slot histories big = refl
stop_behind slot histories ended = refl

-- the last epoch
last_told : (whole : Bool) (known slots n : ℕ) (histories : Histories) (told : List Told) (made : List Meaning)
    (stop : Stop) → known ≤ slots → TellAll told n histories made → StopAt (n + length made) stop
    → NoneBeyond known (behind_lines histories made)
    → reports_of known (with_stop whole told (stop_told stop))
    ≡ answered_from slots n histories (with_noted whole made (stop_noted stop))
last_told true known slots n histories told made stop few tell at beyond =
    let own = tells_epoch known slots told n histories made few tell beyond in
    let rest = stop_alone known slots (n + length made) (behind_lines histories made) stop few at beyond in
    λ i. own i ∷ rest i
last_told false known slots n histories told made stop few tell at beyond =
    ap (λ (report : EpochReport). report ∷ [])
    (tells_epoch known slots (told ++ stop_told stop) n histories (made ++ stop_noted stop) few
    (stop_tell told n histories made stop tell at)
    (λ slot above. stop_brings slot (histories slot) made stop ∙ beyond slot above))

last_behind : (whole : Bool) (slot : ℕ) (histories : Histories) (made : List Meaning) (stop : Stop)
    → behind_epochs histories (with_noted whole made (stop_noted stop)) slot ≡ behind_lines histories made slot
last_behind true slot histories made stop = stop_behind slot (behind_lines histories made) stop
last_behind false slot histories made stop = stop_brings slot (histories slot) made stop

-- all epochs
pub record EpochsGo (slots : ℕ) (stop : Stop) (done : List Line) (epochs : List (List Line)) (old : Gateway)
    (histories : Histories) : Type 0 where
  pub last : Gateway
  pub latest : ℕ
  pub answers : AnswersEpochs slices epochs (stop_told stop) old
      (answered_from slots (length done + 1) histories (epochs_from slices done epochs (stop_noted stop))) last
  pub stands : Stands last (done ++ lines_in epochs) latest
      (behind_epochs histories (epochs_from slices done epochs (stop_noted stop)))

-- the same of histories that are the same
stands_as : (gateway : Gateway) (done more : List Line) (latest : ℕ) (histories behind : Histories) → done ≡ more
    → ((slot : ℕ) → behind slot ≡ histories slot) → Stands gateway done latest histories
    → Stands gateway more latest behind
stands_as gateway done more latest histories behind same alike stands =
    subst (λ lines. Stands gateway lines latest behind) same
    (subst (λ (h : Histories). Stands gateway done latest h) (λ i slot. sym (alike slot) i) stands)

pub epochs_go : (slots : ℕ) (stop : Stop) (done : List Line) (epochs : List (List Line)) (old : Gateway) (latest : ℕ)
    (histories : Histories) → Stands old done latest histories
    → InOrder (length done + 1) latest (lines_in epochs) → length done + length (lines_in epochs) < 2 ^ 40
    → length (book_of (done ++ lines_in epochs)) ≤ slots
    → StopAt (length done + 1 + length (lines_in epochs)) stop → EpochsGo slots stop done epochs old histories
epochs_go slots stop done [] old latest histories stands in_order few known at =
    let book : length old.book ≡ length (book_of done) = ap length stands.same_book in
    let number : length done + 1 + 0 ≡ length done + 1 = omega arith in
    record {
      last = old;
      latest = latest;
      answers = (
        sym (stop_alone (length old.book) slots (length done + 1) histories stop
            (omega (arith, book, known, ap (λ lines. length (book_of lines)) (append-nil done)))
            (subst (λ n. StopAt n stop) number at)
            (λ slot above. stands.none_beyond slot (omega (arith, book, above)))),
        refl,
      );
      stands = stands_as old done (done ++ []) latest histories
          (behind_epochs histories (own_epoch (stop_noted stop))) (sym (append-nil done))
          (λ slot. stop_behind slot histories stop) stands;
    }
epochs_go slots stop done (epoch ∷ []) old latest histories stands in_order few known at =
    let plain : epoch ++ [] ≡ epoch = append-nil epoch in
    let go : LinesGo done epoch old latest histories =
    lines_go done epoch old latest histories stands (subst (InOrder (length done + 1) latest) plain in_order)
    (omega (arith, few, ap length plain)) in
    let made = meant_from slices done epoch in
    let book : length go.next.book ≡ length (book_of (done ++ epoch)) = ap length go.stands.same_book in
    record {
      last = go.next;
      latest = latest_in latest epoch;
      answers = (
        go.told,
        go.answers,
        sym (last_told (is_whole [] epoch) (length go.next.book) slots (length done + 1) histories go.told made stop
            (omega (arith, book, known, ap (λ lines. length (book_of (done ++ lines))) plain)) go.tell
            (subst (λ k. StopAt (length done + 1 + k) stop)
            (ap length plain ∙ sym (length-meant_from slices done epoch)) at)
            (λ slot above. go.stands.none_beyond slot (omega (arith, book, above)))),
      );
      stands = stands_as go.next (done ++ epoch) (done ++ (epoch ++ [])) (latest_in latest epoch)
          (behind_lines histories made)
          (behind_epochs histories (with_noted (is_whole [] epoch) made (stop_noted stop)))
          (ap (λ lines. done ++ lines) (sym plain))
          (λ slot. last_behind (is_whole [] epoch) slot histories made stop) go.stands;
    }
epochs_go slots stop done (epoch ∷ next ∷ epochs) old latest histories stands in_order few known at =
    let later = lines_in (next ∷ epochs) in
    let parts = in_order_split (length done + 1) latest epoch later in_order in
    let many : length (epoch ++ later) ≡ length epoch + length later = length-append epoch later in
    let go : LinesGo done epoch old latest histories =
    lines_go done epoch old latest histories stands parts.0 (omega (arith, few, many)) in
    let made = meant_from slices done epoch in
    let behind : length (done ++ epoch) ≡ length done + length epoch = length-append done epoch in
    let all : done ++ (epoch ++ later) ≡ (done ++ epoch) ++ later = sym (append_assoc done epoch later) in
    let as_many : length made ≡ length epoch = length-meant_from slices done epoch in
    let number : length (done ++ epoch) + 1 ≡ length done + 1 + length made = omega (arith, behind, as_many) in
    let next_number : length done + 1 + length epoch ≡ length (done ++ epoch) + 1 = omega (arith, behind) in
    let last_number : length done + 1 + length (epoch ++ later) ≡ length (done ++ epoch) + 1 + length later =
    omega (arith, many, behind) in
    let rest : EpochsGo slots stop (done ++ epoch) (next ∷ epochs) go.next (behind_lines histories made) =
    epochs_go slots stop (done ++ epoch) (next ∷ epochs) go.next (latest_in latest epoch)
    (behind_lines histories made) go.stands
    (subst (λ n. InOrder n (latest_in latest epoch) later) next_number parts.1)
    (omega (arith, few, many, behind)) (omega (arith, known, ap (λ lines. length (book_of lines)) all))
    (subst (λ n. StopAt n stop) last_number at) in
    let book : length go.next.book ≡ length (book_of (done ++ epoch)) = ap length go.stands.same_book in
    record {
      last = rest.last;
      latest = rest.latest;
      answers = (
        go.next,
        go.told,
        go.answers,
        sym (tells_epoch (length go.next.book) slots go.told (length done + 1) histories made
            (omega (
              arith,
              book,
              known,
              ap (λ lines. length (book_of lines)) all,
              book_grows_all (done ++ epoch) later,
            )) go.tell
            (λ slot above. go.stands.none_beyond slot (omega (arith, book, above)))),
        subst (λ n. AnswersEpochs slices (next ∷ epochs) (stop_told stop) go.next
            (answered_from slots n (behind_lines histories made)
            (epochs_from slices (done ++ epoch) (next ∷ epochs) (stop_noted stop))) rest.last) number rest.answers,
      );
      stands = subst (λ lines. Stands rest.last lines rest.latest
          (behind_epochs (behind_lines histories made)
          (epochs_from slices (done ++ epoch) (next ∷ epochs) (stop_noted stop)))) (sym all) rest.stands;
    }

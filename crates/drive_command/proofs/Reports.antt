-- The report of a run, by the epochs that were driven.
use Rattle.std.proofs.Common.{◌≡◌, ℕ, ◌+◌, ◌%◌, ◌≤◌, Bool, Option, None, Some, List, [], ◌∷◌, ◌++◌, length, flat_map, map, refl, sym, ap, ap₂, subst, ◌∙◌, arith, length-append, append_assoc, append-nil}
use Rattle.trace_lines.specs.Input.{Stop, ended}
use Rattle.trace_lines.specs.Line.{Line}
use Rattle.trace_lines.specs.declared.bad.LineBad.{LineBad}
use Rattle.demux.specs.Trace.{Meaning, book_of}
use Rattle.report_lines.specs.declared.entry.Entry.TheVariants as entry
use Rattle.lawful_run.specs.Cut.{IsCut, lines_in}
use Rattle.lawful_run.specs.Merging.{Histories, behind}
use Rattle.lawful_run.specs.Outcomes.{opens}
use Rattle.lawful_run.specs.Report.{EpochReport, Report, epoch_entries}
use Rattle.lawful_run.specs.Run.{behind_all, by_slot, no_events, told_in}
use Rattle.lawful_run.specs.Trace.{epochs_told, meant_from, open_epoch, own_epoch, stop_noted}
use Rattle.lawful_run.proofs.CutLines.{cut_closed, cut_nothing, epochs_are, length-meant_from, lines_in-push, meant_epochs-push}
use Rattle.lawful_run.proofs.MoreEpochs.{behind_all-push}
use Rattle.at_rest.specs.Rest.{IsBehind, Rest, RepresentsAll, bound_at, new_rest}
use Rattle.epoch_schedule.specs.World.{Rooms}
use Rattle.epoch_schedule.specs.TurnsTold.{AreWorkers}
use Rattle.epoch_drive.specs.Kept.{AreNone}
use Rattle.at_rest.proofs.Coming.{latest-push, later-push}
use Rattle.at_rest.specs.Meant.{AreStanding, Stand}
use Rattle.epoch_drive.specs.Taken.{HasTaken, IsResting, MayCome}
use Rattle.epoch_drive.specs.declared.gateway.DrivenGateway.{DrivenGateway}
use Rattle.epoch_drive.specs.declared.kept.EpochLines.{EpochLines}
use Rattle.epoch_drive.proofs.Keeping.{lines_begin}
use Rattle.epoch_drive.specs.Driven.{IsDriven}
use Rattle.epoch_drive.specs.Runs.{AreDriven}
use Rattle.epoch_drive.proofs.NotedEpoch.{note_is_driven}
use Rattle.trace_run.specs.Entries.{charges_text}
use Rattle.trace_run.specs.Lines.{stop_of}
use Rattle.trace_run.specs.Noted.{bad_at, meant_all, noted, noted_entry, noted_meant, words_of}
use Rattle.trace_run.specs.Reporting.{IsDue, SaysEpochs}
use Rattle.trace_run.specs.Takers.{IsNextOf}
use Rattle.trace_run.specs.declared.ending.Ending.{Ending}
use Rattle.drive_command.specs.Driven.{IsDrivenReport, Schedule, Turns, drawn, listed, rooms_in, turns_by_epoch, turns_for, turns_in, turns_left}
use Rattle.drive_command.specs.Standing.{Drove, DroveAll, DroveLines, DroveOn, Stands, events_behind, start_slices, meant_in, schedule_of}
use Rattle.drive_command.specs.declared.driver.Driver.{Driver}
use Rattle.lawful_run.proofs.BookGrows.{book_grows_all}
use Rattle.drive_command.proofs.EpochLemmas.{driven_untold, length-turns_for, told_length, turns_by_epoch-push}
use Rattle.drive_command.proofs.StandLemmas.{drives_more}
use Rattle.trace_run.proofs.EntryLemmas.{texts-append}
use Rattle.trace_run.proofs.NotedLemmas.{cut_so, noted_behind, on_text, own_so, same_note, some_noted}

-- ---- between two epochs

-- the gateway still represents the events, and has as many subscribers as its book has slots
stand_still : (rest : Rest) (gateway : DrivenGateway) (lines : EpochLines) (events : Histories) → HasTaken rest [] gateway lines
    → RepresentsAll rest events → AreStanding gateway.subscribers.items events
stand_still rest gateway lines events has represents =
    has.are.turned.keep events (record { each = represents.each; beyond = represents.beyond })

slots_so : (rest : Rest) (gateway : DrivenGateway) (lines : EpochLines) (done : List Line) → HasTaken rest [] gateway lines
    → IsBehind rest done → length gateway.subscribers.items ≡ length (book_of done)
slots_so rest gateway lines done has behind =
    let stand : Stand rest.slices gateway.book gateway.subscribers.items (done ++ []) =
    has.are.turned.stand done (record { book_is = behind.book; bounds = behind.bounds }) in
    has.are.turned.many ∙ ap length stand.book_is ∙ ap (λ all. length (book_of all)) (append-nil done)

-- the lines of the open epoch may come
pub may_come : (first now : Driver) (done : List Line) (latest : ℕ) (closed : List (List Line)) (open_ : List Line)
    (sent waiting : List ℕ) → (so_far : Drove first now done latest closed open_ sent waiting)
    → MayCome so_far.start open_
may_come first now done latest closed open_ sent waiting so_far = record {
  later = so_far.later;
  few = omega (
    arith,
    so_far.few,
    so_far.stands.behind.count,
    ap length so_far.parts,
    length-append (lines_in closed) open_,
  );
}

-- ---- the first line

pub begins_so : (now : Driver) (rest : Rest) (slices room lane : ℕ) → rest ≡ new_rest slices room lane
    → RepresentsAll rest no_events → IsBehind rest [] → IsResting rest now.gateway → AreNone [] now.lines
    → AreWorkers slices now.turns → Drove now now [] 0 [] [] [] []
begins_so now rest slices room lane is represents behind resting none workers = record {
  start = rest;
  told = [];
  stands = record {
    represents = represents;
    behind = behind;
    bounds = λ slot.
        behind.bounds slot ∙ ap (λ k. slot % k) (sym resting.set_up.same_slices);
    same_slices = sym resting.set_up.same_slices;
    same_room = sym resting.set_up.same_room;
    same_lane = sym resting.set_up.same_lane;
    goes_on = refl;
    driven = λ slots known. tt;
  };
  parts = refl;
  few = omega arith;
  taken = lines_begin rest now.gateway now.lines resting
      (subst (λ ss. AreNone ss now.lines) (sym (ap (λ (r : Rest). r.subscribers) is)) none);
  places = refl;
  workers = subst (λ (r : Rest). AreWorkers r.slices now.turns) (sym is) workers;
  later = tt;
  latest_is = ap (λ (r : Rest). r.latest) is;
  said = refl;
  waits = refl;
}

-- ---- one line more

pub takes_so : (first old now : Driver) (done : List Line) (latest : ℕ) (closed : List (List Line)) (open_ : List Line)
    (sent waiting : List ℕ) (line : Line) → Drove first old done latest closed open_ sent waiting
    → IsNextOf done latest line → (now.turns ≡ old.turns) × (now.places ≡ old.places)
    → ((start : Rest) (taken : List Line) → HasTaken start taken old.gateway old.lines
    → HasTaken start (taken ++ line ∷ []) now.gateway now.lines)
    → Drove first now (done ++ line ∷ []) line.moment closed (open_ ++ line ∷ []) sent waiting
takes_so first old now done latest closed open_ sent waiting line so_far next same takes = record {
  start = so_far.start;
  told = so_far.told;
  stands = subst (λ given. Stands (schedule_of first) so_far.start given closed so_far.told) (sym same.0) so_far.stands;
  parts = ap (λ lines. lines ++ line ∷ []) so_far.parts ∙ append_assoc (lines_in closed) open_ (line ∷ []);
  few = omega (arith, next.few, length-append done (line ∷ []));
  taken = takes so_far.start open_ so_far.taken;
  places = same.1 ∙ so_far.places;
  workers = subst (AreWorkers so_far.start.slices) (sym same.0) so_far.workers;
  later = later-push so_far.start.latest open_ line so_far.later (omega (arith, next.late, so_far.latest_is));
  latest_is = latest-push so_far.start.latest open_ line;
  said = so_far.said;
  waits = so_far.waits;
}

-- ---- the report

abbrev report_of : (schedule : Schedule) (done : List Line) (closed : List (List Line)) (open_ : List Line)
    (bad : Option LineBad) (told : List EpochReport) → Report
report_of schedule done closed open_ bad told = record {
  epochs = told;
  opens = by_slot (length (book_of done))
      (λ slot. opens slot (behind_all no_events (meant_all schedule.slices closed open_ bad) told slot));
}

is_report : (schedule : Schedule) (done : List Line) (closed : List (List Line)) (open_ : List Line) (stop : Stop)
    (bad : Option LineBad) (told : List EpochReport) → IsCut done closed open_ → stop_noted stop ≡ noted_meant bad
    → AreDriven (rooms_in schedule) (start_slices schedule)
    (turns_by_epoch schedule.turns schedule.slices (closed ++ open_epoch open_)) (length (book_of done)) 1 no_events
    (meant_all schedule.slices closed open_ bad) told
    → IsDrivenReport schedule (record { lines = done; stop = stop }) (report_of schedule done closed open_ bad told)
is_report schedule done closed open_ stop bad told cut same driven =
    let slots = length (book_of done) in
    let means = cut_so schedule.slices done closed open_ stop bad cut same in
    record {
      epochs = subst (λ epochs. AreDriven (rooms_in schedule) (start_slices schedule)
          (turns_by_epoch schedule.turns schedule.slices epochs) slots 1 no_events
          (epochs_told schedule.slices (record { lines = done; stop = stop })) told)
          (sym (epochs_are done closed open_ cut))
          (subst (λ made. AreDriven (rooms_in schedule) (start_slices schedule)
          (turns_by_epoch schedule.turns schedule.slices (closed ++ open_epoch open_)) slots 1 no_events made told)
          (sym means) driven);
      opens = ap (λ made. by_slot slots (λ slot. opens slot (behind_all no_events made told slot))) (sym means);
    }

-- whole epochs alone, as they were driven
driven_whole : (schedule : Schedule) (closed : List (List Line)) (told : List EpochReport) (slots : ℕ)
    → AreDriven (rooms_in schedule) (start_slices schedule) (turns_by_epoch schedule.turns schedule.slices closed) slots 1
    no_events (meant_in schedule closed) told
    → AreDriven (rooms_in schedule) (start_slices schedule)
    (turns_by_epoch schedule.turns schedule.slices (closed ++ open_epoch [])) slots 1 no_events
    (meant_all schedule.slices closed [] None) told
driven_whole schedule closed told slots driven =
    subst (λ epochs. AreDriven (rooms_in schedule) (start_slices schedule)
    (turns_by_epoch schedule.turns schedule.slices epochs) slots 1 no_events (meant_all schedule.slices closed [] None) told)
    (sym (append-nil closed))
    (subst (λ made. AreDriven (rooms_in schedule) (start_slices schedule)
    (turns_by_epoch schedule.turns schedule.slices closed) slots 1 no_events made told)
    (sym (append-nil (meant_in schedule closed))) driven)

pub says_epochs : (first now : Driver) (done : List Line) (latest : ℕ) (closed : List (List Line))
    (sent waiting : List ℕ) → Drove first now done latest closed [] sent waiting → IsCut done closed []
    → SaysEpochs (IsDrivenReport (schedule_of first)) first.places closed sent
says_epochs first now done latest closed sent waiting so_far cut =
    let schedule = schedule_of first in
    record {
      report = report_of schedule (lines_in closed) closed [] None so_far.told;
      allowed = is_report schedule (lines_in closed) closed [] ended None so_far.told (cut_closed done closed [] cut) refl
          (driven_whole schedule closed so_far.told (length (book_of (lines_in closed)))
          (so_far.stands.driven (length (book_of (lines_in closed))) (omega arith)));
      written = so_far.said;
    }

-- the report of no lines
pub says_nothing : (schedule : Schedule) (places : Bool) → SaysEpochs (IsDrivenReport schedule) places [] []
says_nothing schedule places = record {
  report = report_of schedule [] [] [] None [];
  allowed = is_report schedule [] [] [] ended None [] cut_nothing refl tt;
  written = refl;
}

-- ---- the open epoch

pub closes_so : (first old now : Driver) (done : List Line) (latest : ℕ) (closed : List (List Line))
    (open_ : List Line) (sent : List ℕ) (n : ℕ) (text : List ℕ)
    → DroveOn first old now done latest closed open_ sent None n text
    → Drove first now done latest (closed ++ open_ ∷ []) [] (sent ++ text) []
closes_so first old now done latest closed open_ sent n text on = record {
  start = on.rest;
  told = on.so_far.told ++ on.entry ∷ [];
  stands = on.stands;
  parts = on.so_far.parts ∙ sym (lines_in-push closed open_) ∙ sym (append-nil (lines_in (closed ++ open_ ∷ [])));
  few = on.so_far.few;
  taken = on.opened;
  places = on.places;
  workers = on.workers;
  later = tt;
  latest_is = on.latest_is;
  said = on_text first.places on.so_far.told on.entry None n sent text on.so_far.said on.said;
  waits = refl;
}

-- what driving its lines gives
pub drives_on : (first old now : Driver) (done : List Line) (latest : ℕ) (closed : List (List Line))
    (open_ : List Line) (sent : List ℕ) (bad : Option LineBad) (n : ℕ) (before after : List ℕ)
    → (so_far : Drove first old done latest closed open_ sent before)
    → DroveLines (schedule_of first) so_far.start old.turns closed so_far.told open_ bad n old.places before after
    now.gateway now.lines now.turns
    → now.places ≡ old.places → DroveOn first old now done latest closed open_ sent bad n after
drives_on first old now done latest closed open_ sent bad n before after so_far drives places =
    let schedule = schedule_of first in
    let so : Drove first old done latest closed open_ sent [] = record {
      start = so_far.start;
      told = so_far.told;
      stands = so_far.stands;
      parts = so_far.parts;
      few = so_far.few;
      taken = so_far.taken;
      places = so_far.places;
      workers = so_far.workers;
      later = so_far.later;
      latest_is = so_far.latest_is;
      said = so_far.said;
      waits = refl;
    } in
    let it : DroveLines schedule so.start old.turns closed so.told open_ bad n first.places [] after now.gateway
    now.lines now.turns =
    subst (λ p. DroveLines schedule so.start old.turns closed so.told open_ bad n p [] after now.gateway now.lines
    now.turns) so.places
    (subst (λ text. DroveLines schedule so.start old.turns closed so.told open_ bad n old.places text after now.gateway
    now.lines now.turns) so_far.waits drives) in
    record {
      so_far = so;
      entry = it.drives.now;
      next = it.drives.next;
      rest = it.rest;
      stands = it.drives.stands;
      opened = it.opened;
      places = places ∙ so.places;
      workers = it.workers;
      latest_is = it.latest ∙ so.latest_is;
      said = it.drives.said;
    }

-- its lines and a bad line's note are driven
noted_driven : (rooms : Rooms) (bounds : ℕ → ℕ) (turned : List (List ℕ)) (slots first : ℕ) (before : Histories)
    (made : List Meaning) (told : EpochReport) (bad : Option LineBad) → length turned ≡ length made
    → IsDriven rooms bounds turned slots first before made told
    → IsDriven rooms bounds turned slots first before (made ++ noted_meant bad)
    (noted_entry told bad (first + length made))
noted_driven rooms bounds turned slots first before made told None same is =
    subst (λ all. IsDriven rooms bounds turned slots first before all told) (sym (append-nil made)) is
noted_driven rooms bounds turned slots first before made told (Some why) same is =
    note_is_driven rooms bounds turned slots first before made told (words_of why) same is

-- behind no lines there are no turns
no_turns : (turns : Turns) (slices : ℕ) → turns_for turns slices 0 ≡ []
no_turns (listed workers) slices = refl
no_turns (drawn state per) slices = refl

-- the last epoch's lines, or the note alone
some_lines : (schedule : Schedule) (turns : Turns) (closed : List (List Line)) (told : List EpochReport)
    (open_ : List Line) (noted : List Meaning) (slots : ℕ) → turns ≡ turns_left schedule.turns closed
    → (open_ ≡ [] → noted ≡ [] → ⊥)
    → AreDriven (rooms_in schedule) (start_slices schedule) (turns_by_epoch schedule.turns schedule.slices closed
    ++ turns_for turns schedule.slices (length open_) ∷ []) slots 1 no_events
    (meant_in schedule closed ++ (meant_from schedule.slices (lines_in closed) open_ ++ noted) ∷ []) told
    → AreDriven (rooms_in schedule) (start_slices schedule)
    (turns_by_epoch schedule.turns schedule.slices (closed ++ open_epoch open_)) slots 1 no_events
    (meant_in schedule closed ++ own_epoch (meant_from schedule.slices (lines_in closed) open_ ++ noted)) told
some_lines schedule turns closed told [] [] slots goes_on some driven = absurd (some refl refl)
some_lines schedule turns closed told [] (now ∷ noted) slots goes_on some driven =
    subst (λ epochs. AreDriven (rooms_in schedule) (start_slices schedule)
    (turns_by_epoch schedule.turns schedule.slices epochs) slots 1 no_events
    (meant_in schedule closed ++ (now ∷ noted) ∷ []) told) (sym (append-nil closed))
    (driven_untold (rooms_in schedule) (start_slices schedule) (turns_by_epoch schedule.turns schedule.slices closed) slots 1
    no_events (meant_in schedule closed ++ (now ∷ noted) ∷ []) told
    (subst (λ last. AreDriven (rooms_in schedule) (start_slices schedule)
    (turns_by_epoch schedule.turns schedule.slices closed ++ last ∷ []) slots 1 no_events
    (meant_in schedule closed ++ (now ∷ noted) ∷ []) told) (no_turns turns schedule.slices) driven))
some_lines schedule turns closed told (line ∷ open_) noted slots goes_on some driven =
    subst (λ turned. AreDriven (rooms_in schedule) (start_slices schedule) turned slots 1 no_events
    (meant_in schedule closed ++ (meant_from schedule.slices (lines_in closed) (line ∷ open_) ++ noted) ∷ []) told)
    (ap (λ t. turns_by_epoch schedule.turns schedule.slices closed
    ++ turns_for t schedule.slices (length (line ∷ open_)) ∷ []) goes_on
    ∙ sym (turns_by_epoch-push schedule.turns schedule.slices closed (line ∷ open_))) driven

pub all_so : (first old now : Driver) (done : List Line) (latest : ℕ) (closed : List (List Line))
    (open_ : List Line) (sent : List ℕ) (bad : Option LineBad) (n : ℕ) (text : List ℕ)
    → n ≡ length done + 1 → (open_ ≡ [] → bad ≡ None → ⊥)
    → DroveOn first old now done latest closed open_ sent bad n text
    → DroveAll first now done closed open_ bad (sent ++ text)
all_so first old now done latest closed open_ sent bad n text counted some on =
    let schedule = schedule_of first in
    let told = on.so_far.told in
    let made = meant_from schedule.slices (lines_in closed) open_ in
    let before = events_behind schedule closed told in
    let slots = length (book_of done) in
    let known : length (book_of (lines_in closed ++ open_)) ≤ slots =
    omega (arith, ap (λ lines. length (book_of lines)) on.so_far.parts) in
    let is = on.next slots known in
    let number : 1 + length (lines_in closed) + length made ≡ n =
    omega (
      arith,
      counted,
      ap length on.so_far.parts,
      length-append (lines_in closed) open_,
      length-meant_from schedule.slices (lines_in closed) open_,
    ) in
    let same : length (turns_for (turns_in old.turns) schedule.slices (length open_)) ≡ length made =
    length-turns_for (turns_in old.turns) schedule.slices (length open_)
    ∙ sym (length-meant_from schedule.slices (lines_in closed) open_) in
    let with_bad : IsDriven (rooms_in schedule) (bound_at on.so_far.start)
    (turns_for (turns_in old.turns) schedule.slices (length open_)) slots (1 + length (lines_in closed)) before
    (made ++ noted_meant bad) (noted_entry on.entry bad n) =
    subst (λ m. IsDriven (rooms_in schedule) (bound_at on.so_far.start)
    (turns_for (turns_in old.turns) schedule.slices (length open_)) slots (1 + length (lines_in closed)) before
    (made ++ noted_meant bad) (noted_entry on.entry bad m)) number
    (noted_driven (rooms_in schedule) (bound_at on.so_far.start)
    (turns_for (turns_in old.turns) schedule.slices (length open_)) slots (1 + length (lines_in closed)) before made
    on.entry bad same is) in
    let closed_known : length (book_of (lines_in closed)) ≤ slots =
    omega (arith, known, book_grows_all (lines_in closed) open_) in
    let driven = some_lines schedule (turns_in old.turns) closed (told ++ noted_entry on.entry bad n ∷ []) open_
    (noted_meant bad) slots on.so_far.stands.goes_on (some_noted open_ bad some)
    (drives_more schedule on.so_far.start old.turns closed told (made ++ noted_meant bad)
    (turns_for (turns_in old.turns) schedule.slices (length open_)) (noted_entry on.entry bad n) slots on.so_far.stands
    closed_known with_bad) in
    let many = told_length (rooms_in schedule) (start_slices schedule) (turns_by_epoch schedule.turns schedule.slices closed)
    slots 1 no_events (meant_in schedule closed) told (on.so_far.stands.driven slots closed_known) in
    let events : events_behind schedule (closed ++ open_ ∷ []) (told ++ on.entry ∷ [])
    ≡ behind_all no_events (meant_in schedule closed ++ (made ++ noted_meant bad) ∷ [])
    (told ++ noted_entry on.entry bad n ∷ []) =
    ap (λ epochs. behind_all no_events epochs (told ++ on.entry ∷ []))
    (meant_epochs-push schedule.slices [] closed open_)
    ∙ behind_all-push no_events (meant_in schedule closed) made told on.entry many
    ∙ sym (noted_behind (1 + length (lines_in closed)) before made on.entry bad is.one_each)
    ∙ ap (λ m. behind before (told_in (made ++ noted_meant bad) (noted_entry on.entry bad m))) number
    ∙ sym (behind_all-push no_events (meant_in schedule closed) (made ++ noted_meant bad) told
    (noted_entry on.entry bad n) many) in
    record {
      told = told ++ noted_entry on.entry bad n ∷ [];
      driven = driven;
      represents = stand_still on.rest now.gateway now.lines _ on.opened
          (subst (RepresentsAll on.rest) (events ∙ ap (λ epochs. behind_all no_events epochs
          (told ++ noted_entry on.entry bad n ∷ []))
          (own_so schedule.slices closed open_ bad (some_noted open_ bad some))) on.stands.represents);
      slots = slots_so on.rest now.gateway now.lines done on.opened
          (subst (IsBehind on.rest) (lines_in-push closed open_ ∙ sym on.so_far.parts) on.stands.behind);
      places = on.places;
      said = on_text first.places told on.entry bad n sent text on.so_far.said on.said;
    }

-- no epoch is open, and no line is bad
pub none_so : (first now : Driver) (done : List Line) (latest : ℕ) (closed : List (List Line))
    (sent waiting : List ℕ) → Drove first now done latest closed [] sent waiting
    → DroveAll first now done closed [] None (sent ++ waiting)
none_so first now done latest closed sent waiting so_far =
    let schedule = schedule_of first in
    let parts : done ≡ lines_in closed = so_far.parts ∙ append-nil (lines_in closed) in
    let slots = length (book_of done) in
    record {
      told = so_far.told;
      driven = driven_whole schedule closed so_far.told slots
          (so_far.stands.driven slots (omega (arith, ap (λ lines. length (book_of lines)) parts)));
      represents = stand_still so_far.start now.gateway now.lines _ so_far.taken
          (subst (RepresentsAll so_far.start) (ap (λ epochs. behind_all no_events epochs so_far.told)
          (sym (append-nil (meant_in schedule closed)))) so_far.stands.represents);
      slots = slots_so so_far.start now.gateway now.lines done so_far.taken
          (subst (IsBehind so_far.start) (sym parts) so_far.stands.behind);
      places = so_far.places;
      said = ap (λ w. sent ++ w) so_far.waits ∙ append-nil sent ∙ so_far.said;
    }

-- ---- the end

pub due_so : (first now : Driver) (done : List Line) (closed : List (List Line)) (open_ : List Line)
    (ending : Ending) (sent text after : List ℕ) → IsCut done closed open_
    → (all : DroveAll first now done closed open_ (bad_at ending) (sent ++ text))
    → after ≡ text ++ charges_text first.places (by_slot (length now.gateway.subscribers.items)
    (λ slot. opens slot (behind_all no_events (meant_all (schedule_of first).slices closed open_ (bad_at ending)) all.told slot)))
    → IsDue (IsDrivenReport (schedule_of first)) first.places ending done (sent ++ after)
due_so first now done closed open_ ending sent text after cut all appended =
    let schedule = schedule_of first in
    let bad = bad_at ending in
    let report = report_of schedule done closed open_ bad all.told in
    let slots : length now.gateway.subscribers.items ≡ length (book_of done) = all.slots in
    record {
      report = report;
      allowed = is_report schedule done closed open_ (stop_of ending (length done + 1)) bad all.told cut
          (same_note ending (length done + 1)) all.driven;
      written = ap (λ t. sent ++ t) appended
          ∙ sym (append_assoc sent text (charges_text first.places (by_slot (length now.gateway.subscribers.items)
          (λ slot. opens slot (behind_all no_events (meant_all schedule.slices closed open_ bad) all.told slot)))))
          ∙ ap₂ (λ one two. one ++ two) all.said
          (ap (λ m. charges_text first.places (by_slot m
          (λ slot. opens slot (behind_all no_events (meant_all schedule.slices closed open_ bad) all.told slot)))) slots)
          ∙ sym (texts-append first.places (flat_map epoch_entries all.told) (map entry.Charge report.opens));
    }

-- The report of a run, by the epochs that were run.
use Rattle.std.proofs.Common.{◌≡◌, ℕ, ◌+◌, ◌≤◌, Result, Ok, Err, OnOk, Option, None, Some, List, [], ◌∷◌, ◌++◌, length, flat_map, map, refl, sym, ap, ap₂, subst, ◌∙◌, arith, length-append, append_assoc, append-nil}
use Rattle.trace_lines.specs.Input.{Stop, ended}
use Rattle.trace_lines.specs.Line.{Line}
use Rattle.trace_lines.specs.declared.bad.LineBad.{LineBad}
use Rattle.demux.specs.Trace.{Meaning, book_of}
use Rattle.report_lines.specs.declared.entry.Entry.TheVariants as entry
use Rattle.lawful_run.specs.Cut.{IsCut, lines_in}
use Rattle.lawful_run.specs.Merging.{Histories, behind}
use Rattle.lawful_run.specs.Outcomes.{opens}
use Rattle.lawful_run.specs.Report.{EpochReport, Report, epoch_entries}
use Rattle.lawful_run.specs.Run.{AreEpochRuns, IsEpochRun, behind_all, by_slot, no_events, told_in}
use Rattle.lawful_run.specs.Setup.{Setup, sliced, slices_of}
use Rattle.lawful_run.specs.Trace.{IsReport, meant_from, stop_noted}
use Rattle.lawful_run.proofs.BookGrows.{book_grows_all}
use Rattle.lawful_run.proofs.CutLines.{cut_closed, cut_nothing, length-meant_from, lines_in-push, meant_epochs-push}
use Rattle.lawful_run.proofs.MoreEpochs.{behind_all-push}
use Rattle.lawful_run.proofs.NotedEpoch.{note_is_lawful}
use Rattle.at_rest.specs.Coming.{AreLater}
use Rattle.at_rest.specs.Rest.{IsBehind, Rest, RepresentsAll, new_rest}
use Rattle.at_rest.proofs.Coming.{latest-push, later-push}
use Rattle.trace_run.specs.Entries.{charges_text}
use Rattle.trace_run.specs.Lines.{stop_of}
use Rattle.trace_run.specs.Noted.{bad_at, meant_all, noted_entry, noted_meant, words_of}
use Rattle.trace_run.specs.Reporting.{IsDue, SaysEpochs}
use Rattle.trace_run.specs.Takers.{IsNextOf}
use Rattle.trace_run.specs.declared.ending.Ending.{Ending}
use Rattle.trace_run.proofs.EntryLemmas.{texts-append}
use Rattle.trace_run.proofs.NotedLemmas.{cut_so, noted_behind, on_text, own_so, same_note, some_noted}
use Rattle.replay_command.specs.Epoch.{IsReplayed}
use Rattle.replay_command.specs.Standing.{Replayed, ReplayedAll, ReplayedOn, Stands, events_behind, meant_in, setup_of}
use Rattle.slice_core.specs.declared.pace.Pace.{Pace}
use Rattle.replay_command.specs.declared.replay.Replay.{Replay}
use Rattle.replay_command.proofs.Stands.{lawful_more, many_so, next_so, stands_more}

-- two facts of a result
pub on_both : {T E : Type 0} {P Q S : Type 0} (r : Result T E) → (P → Q → S) → OnOk r P → OnOk r Q → OnOk r S
on_both (Ok x) gives one other = gives one other
on_both (Err e) gives one other = tt

-- ---- the first line

pub begins_so : (now : Replay) (slices room lane : ℕ) → now.rest ≡ new_rest slices room lane
    → RepresentsAll now.rest no_events → IsBehind now.rest [] → now.lines.items ≡ []
    → Replayed now now [] 0 [] [] [] []
begins_so now slices room lane is represents behind none = record {
  told = [];
  stands = record {
    represents = represents;
    behind = behind;
    same = refl;
    lawful = λ slots known. tt;
  };
  parts = refl;
  few = omega arith;
  kept = none;
  places = refl;
  later = tt;
  latest_is = ap (λ (rest : Rest). rest.latest) is;
  said = refl;
  waits = refl;
}

-- ---- one line more

pub takes_so : (first old now : Replay) (done : List Line) (latest : ℕ) (closed : List (List Line)) (open_ : List Line)
    (sent waiting : List ℕ) (line : Line) → Replayed first old done latest closed open_ sent waiting
    → IsNextOf done latest line → now.rest ≡ old.rest → now.places ≡ old.places
    → now.lines.items ≡ old.lines.items ++ line ∷ []
    → Replayed first now (done ++ line ∷ []) line.moment closed (open_ ++ line ∷ []) sent waiting
takes_so first old now done latest closed open_ sent waiting line so_far next rest places lines = record {
  told = so_far.told;
  stands = subst (λ r. Stands (setup_of first) r closed so_far.told) (sym rest) so_far.stands;
  parts = ap (λ all. all ++ line ∷ []) so_far.parts ∙ append_assoc (lines_in closed) open_ (line ∷ []);
  few = omega (arith, next.few, length-append done (line ∷ []));
  kept = lines ∙ ap (λ all. all ++ line ∷ []) so_far.kept;
  places = places ∙ so_far.places;
  later = subst (λ (r : Rest). AreLater r.latest (open_ ++ line ∷ [])) (sym rest)
      (later-push old.rest.latest open_ line so_far.later (omega (arith, next.late, so_far.latest_is)));
  latest_is = latest-push now.rest.latest open_ line;
  said = so_far.said;
  waits = so_far.waits;
}

-- ---- the report

abbrev report_of : (setup : Setup) (done : List Line) (closed : List (List Line)) (open_ : List Line)
    (bad : Option LineBad) (told : List EpochReport) → Report
report_of setup done closed open_ bad told = record {
  epochs = told;
  opens = by_slot (length (book_of done))
      (λ slot. opens slot (behind_all no_events (meant_all (slices_of setup) closed open_ bad) told slot));
}

is_report : (setup : Setup) (done : List Line) (closed : List (List Line)) (open_ : List Line) (stop : Stop)
    (bad : Option LineBad) (told : List EpochReport) → IsCut done closed open_ → stop_noted stop ≡ noted_meant bad
    → AreEpochRuns setup (length (book_of done)) 1 no_events (meant_all (slices_of setup) closed open_ bad) told
    → IsReport setup (record { lines = done; stop = stop }) (report_of setup done closed open_ bad told)
is_report setup done closed open_ stop bad told cut same lawful =
    let slots = length (book_of done) in
    let means = cut_so (slices_of setup) done closed open_ stop bad cut same in
    record {
      epochs = subst (λ made. AreEpochRuns setup slots 1 no_events made told) (sym means) lawful;
      opens = ap (λ made. by_slot slots (λ slot. opens slot (behind_all no_events made told slot))) (sym means);
    }

-- whole epochs alone
lawful_whole : (setup : Setup) (closed : List (List Line)) (told : List EpochReport) (slots : ℕ)
    → AreEpochRuns setup slots 1 no_events (meant_in setup closed) told
    → AreEpochRuns setup slots 1 no_events (meant_all (slices_of setup) closed [] None) told
lawful_whole setup closed told slots lawful =
    subst (λ made. AreEpochRuns setup slots 1 no_events made told) (sym (append-nil (meant_in setup closed))) lawful

pub says_epochs : (first now : Replay) (done : List Line) (latest : ℕ) (closed : List (List Line))
    (sent waiting : List ℕ) → Replayed first now done latest closed [] sent waiting → IsCut done closed []
    → SaysEpochs (IsReport (setup_of first)) first.places closed sent
says_epochs first now done latest closed sent waiting so_far cut =
    let setup = setup_of first in
    let slots = length (book_of (lines_in closed)) in
    record {
      report = report_of setup (lines_in closed) closed [] None so_far.told;
      allowed = is_report setup (lines_in closed) closed [] ended None so_far.told (cut_closed done closed [] cut) refl
          (lawful_whole setup closed so_far.told slots (so_far.stands.lawful slots (omega arith)));
      written = so_far.said;
    }

-- the report of no lines
pub says_nothing : (slices room lane : ℕ) (places : _) → SaysEpochs (IsReport (sliced slices room lane)) places [] []
says_nothing slices room lane places = record {
  report = report_of (sliced slices room lane) [] [] [] None [];
  allowed = is_report (sliced slices room lane) [] [] [] ended None [] cut_nothing refl tt;
  written = refl;
}

-- ---- the open epoch

pub closes_so : (first old now : Replay) (done : List Line) (latest : ℕ) (closed : List (List Line))
    (open_ : List Line) (sent : List ℕ) (n : ℕ) (text : List ℕ)
    → ReplayedOn first old now done latest closed open_ sent None n text
    → Replayed first now done latest (closed ++ open_ ∷ []) [] (sent ++ text) []
closes_so first old now done latest closed open_ sent n text on = record {
  told = on.so_far.told ++ on.entry ∷ [];
  stands = on.stands;
  parts = on.so_far.parts ∙ sym (lines_in-push closed open_) ∙ sym (append-nil (lines_in (closed ++ open_ ∷ [])));
  few = on.so_far.few;
  kept = on.emptied;
  places = on.places;
  later = tt;
  latest_is = on.latest_is;
  said = on_text first.places on.so_far.told on.entry None n sent text on.so_far.said on.said;
  waits = refl;
}

-- what running its lines gives
pub runs_on : (first old now : Replay) (done : List Line) (latest : ℕ) (closed : List (List Line))
    (open_ : List Line) (sent : List ℕ) (bad : Option LineBad) (n : ℕ) (before after : List ℕ) (pace : Pace)
    → Replayed first old done latest closed open_ sent before
    → IsReplayed old.rest old.lines.items pace bad n old.places before after now.rest
    → now.lines.items ≡ [] → now.places ≡ old.places
    → ReplayedOn first old now done latest closed open_ sent bad n after
runs_on first old now done latest closed open_ sent bad n before after pace so_far runs emptied places =
    let setup = setup_of first in
    let it : IsReplayed old.rest open_ pace bad n first.places [] after now.rest =
    subst (λ p. IsReplayed old.rest open_ pace bad n p [] after now.rest) so_far.places
    (subst (λ lines. IsReplayed old.rest lines pace bad n old.places [] after now.rest) so_far.kept
    (subst (λ text. IsReplayed old.rest old.lines.items pace bad n old.places text after now.rest) so_far.waits runs)) in
    record {
      so_far = record {
        told = so_far.told;
        stands = so_far.stands;
        parts = so_far.parts;
        few = so_far.few;
        kept = so_far.kept;
        places = so_far.places;
        later = so_far.later;
        latest_is = so_far.latest_is;
        said = so_far.said;
        waits = refl;
      };
      entry = it.told;
      next = next_so setup old.rest now.rest closed so_far.told open_ it.told so_far.stands it.closes;
      stands = stands_more setup old.rest now.rest closed so_far.told open_ it.told so_far.stands it.closes;
      emptied = emptied;
      places = places ∙ so_far.places;
      latest_is = it.latest ∙ so_far.latest_is;
      said = it.said;
    }

-- its lines and a bad line's note
noted_lawful : (setup : Setup) (slots first : ℕ) (before : Histories) (made : List Meaning) (told : EpochReport)
    (bad : Option LineBad) → IsEpochRun setup slots first before made told
    → IsEpochRun setup slots first before (made ++ noted_meant bad) (noted_entry told bad (first + length made))
noted_lawful setup slots first before made told None is =
    subst (λ all. IsEpochRun setup slots first before all told) (sym (append-nil made)) is
noted_lawful setup slots first before made told (Some why) is =
    note_is_lawful setup slots first before made told (words_of why) is

pub all_so : (first old now : Replay) (done : List Line) (latest : ℕ) (closed : List (List Line))
    (open_ : List Line) (sent : List ℕ) (bad : Option LineBad) (n : ℕ) (text : List ℕ)
    → n ≡ length done + 1 → (open_ ≡ [] → bad ≡ None → ⊥)
    → ReplayedOn first old now done latest closed open_ sent bad n text
    → ReplayedAll first now done closed open_ bad (sent ++ text)
all_so first old now done latest closed open_ sent bad n text counted some on =
    let setup = setup_of first in
    let slices = first.rest.slices in
    let told = on.so_far.told in
    let stands = on.so_far.stands in
    let made = meant_from slices (lines_in closed) open_ in
    let before = events_behind setup closed told in
    let slots = length (book_of done) in
    let known : length (book_of (lines_in closed ++ open_)) ≤ slots =
    omega (arith, ap (λ lines. length (book_of lines)) on.so_far.parts) in
    let closed_known : length (book_of (lines_in closed)) ≤ slots =
    omega (arith, known, book_grows_all (lines_in closed) open_) in
    let is = on.next slots known in
    let number : 1 + length (lines_in closed) + length made ≡ n =
    omega (
      arith,
      counted,
      ap length on.so_far.parts,
      length-append (lines_in closed) open_,
      length-meant_from slices (lines_in closed) open_,
    ) in
    let last = noted_entry on.entry bad n in
    let with_bad : IsEpochRun setup slots (1 + length (lines_in closed)) before (made ++ noted_meant bad) last =
    subst (λ m. IsEpochRun setup slots (1 + length (lines_in closed)) before (made ++ noted_meant bad)
    (noted_entry on.entry bad m)) number
    (noted_lawful setup slots (1 + length (lines_in closed)) before made on.entry bad is) in
    let own = own_so slices closed open_ bad (some_noted open_ bad some) in
    let many = many_so setup old.rest closed told stands in
    let events : events_behind setup (closed ++ open_ ∷ []) (told ++ on.entry ∷ [])
    ≡ behind_all no_events (meant_all slices closed open_ bad) (told ++ last ∷ []) =
    ap (λ epochs. behind_all no_events epochs (told ++ on.entry ∷ [])) (meant_epochs-push slices [] closed open_)
    ∙ behind_all-push no_events (meant_in setup closed) made told on.entry many
    ∙ sym (noted_behind (1 + length (lines_in closed)) before made on.entry bad is.one_each)
    ∙ ap (λ m. behind before (told_in (made ++ noted_meant bad) (noted_entry on.entry bad m))) number
    ∙ sym (behind_all-push no_events (meant_in setup closed) (made ++ noted_meant bad) told last many)
    ∙ ap (λ epochs. behind_all no_events epochs (told ++ last ∷ [])) own in
    record {
      told = told ++ last ∷ [];
      lawful = subst (λ epochs. AreEpochRuns setup slots 1 no_events epochs (told ++ last ∷ [])) own
          (lawful_more setup closed told (made ++ noted_meant bad) last slots old.rest stands closed_known with_bad);
      represents = subst (RepresentsAll now.rest) events on.stands.represents;
      book = ap length on.stands.behind.book
          ∙ ap (λ lines. length (book_of lines)) (lines_in-push closed open_ ∙ sym on.so_far.parts);
      said = on_text first.places told on.entry bad n sent text on.so_far.said on.said;
    }

-- no epoch is open, and no line is bad
pub none_so : (first now : Replay) (done : List Line) (latest : ℕ) (closed : List (List Line))
    (sent waiting : List ℕ) → Replayed first now done latest closed [] sent waiting
    → ReplayedAll first now done closed [] None (sent ++ waiting)
none_so first now done latest closed sent waiting so_far =
    let setup = setup_of first in
    let parts : done ≡ lines_in closed = so_far.parts ∙ append-nil (lines_in closed) in
    let slots = length (book_of done) in
    record {
      told = so_far.told;
      lawful = lawful_whole setup closed so_far.told slots
          (so_far.stands.lawful slots (omega (arith, ap (λ lines. length (book_of lines)) parts)));
      represents = subst (RepresentsAll now.rest) (ap (λ epochs. behind_all no_events epochs so_far.told)
          (sym (append-nil (meant_in setup closed)))) so_far.stands.represents;
      book = ap length so_far.stands.behind.book ∙ ap (λ lines. length (book_of lines)) (sym parts);
      said = ap (λ w. sent ++ w) so_far.waits ∙ append-nil sent ∙ so_far.said;
    }

-- ---- the end

pub due_so : (first now : Replay) (done : List Line) (closed : List (List Line)) (open_ : List Line)
    (ending : Ending) (sent text after : List ℕ) → IsCut done closed open_
    → (all : ReplayedAll first now done closed open_ (bad_at ending) (sent ++ text))
    → after ≡ text ++ charges_text first.places (by_slot (length now.rest.book)
    (λ slot. opens slot (behind_all no_events (meant_all first.rest.slices closed open_ (bad_at ending)) all.told slot)))
    → IsDue (IsReport (setup_of first)) first.places ending done (sent ++ after)
due_so first now done closed open_ ending sent text after cut all appended =
    let setup = setup_of first in
    let bad = bad_at ending in
    let report = report_of setup done closed open_ bad all.told in
    let counters = λ (m : ℕ). charges_text first.places (by_slot m
    (λ slot. opens slot (behind_all no_events (meant_all first.rest.slices closed open_ bad) all.told slot))) in
    record {
      report = report;
      allowed = is_report setup done closed open_ (stop_of ending (length done + 1)) bad all.told cut
          (same_note ending (length done + 1)) all.lawful;
      written = ap (λ t. sent ++ t) appended
          ∙ sym (append_assoc sent text (counters (length now.rest.book)))
          ∙ ap₂ (λ one two. one ++ two) all.said (ap counters all.book)
          ∙ sym (texts-append first.places (flat_map epoch_entries all.told) (map entry.Charge report.opens));
    }

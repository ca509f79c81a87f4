-- With places left out, the texts of the lawful runs of one thread are one.
use Rattle.std.proofs.Common.{◌≡◌, ℕ, ◌+◌, false, List, [], ◌∷◌, ◌++◌, length, map, refl, sym, ap, subst, ◌∙◌}
use Rattle.std.specs.List.{flat_map}
use Rattle.std.proofs.lemmas.List.Concat.{flat_map-append}
use Rattle.demux.specs.Trace.{Meaning}
use Rattle.report_lines.specs.Text.{entry_text, line_without_place}
use Rattle.report_lines.specs.declared.entry.Entry.{Entry}
use Rattle.report_lines.specs.declared.entry.Entry.TheVariants as entry
use Rattle.report_lines.specs.declared.entry.LineEntry.{LineEntry}
use Rattle.lawful_run.specs.AnsweredRun.{answered_run, answered_from, answered_epoch, behind_lines, behind_epochs}
use Rattle.lawful_run.specs.Setup.{solo}
use Rattle.lawful_run.specs.Merging.{Histories}
use Rattle.lawful_run.specs.Outcomes as made_of
use Rattle.lawful_run.specs.Report.{EpochReport, Report, epoch_entries, texts_of, report_text}
use Rattle.lawful_run.specs.Run.{by_slot, told_in, AreEpochRuns, IsRun, no_events}
use Rattle.lawful_run.proofs.Meets.{solo_meets}
use Rattle.lawful_run.proofs.OneRun.{lines_are_one, effects_are_one, rows_are_one, behind_is_one, events_behind, solo_epochs_meet}

-- the text of an entry with its newline
abbrev line_text : LineEntry → List ℕ
line_text told = entry_text (entry.Line told) ++ 10 ∷ []

-- without places, texts are those of the entries without them
lines_shown : (lines : List LineEntry) → texts_of false (map entry.Line lines)
    ≡ flat_map line_text (map line_without_place lines)
lines_shown [] = refl
lines_shown (told ∷ lines) = ap (λ rest. line_text (line_without_place told) ++ rest) (lines_shown lines)

texts-append : (entries others : List Entry) → texts_of false (entries ++ others) ≡ texts_of false entries
    ++ texts_of false others
texts-append entries others = flat_map-append _ entries others

-- the text of an epoch
epoch_shown : (told other : EpochReport) → map line_without_place told.lines ≡ map line_without_place other.lines
    → told.effects ≡ other.effects
    → told.rows ≡ other.rows → texts_of false (epoch_entries told) ≡ texts_of false (epoch_entries other)
epoch_shown told other lines effects rows =
    texts-append (map entry.Line told.lines) (map entry.Effect told.effects ++ map entry.Charge told.rows)
    ∙ (λ i. (lines_shown told.lines ∙ ap (flat_map line_text) lines ∙ sym (lines_shown other.lines)) i
    ++ texts_of false (map entry.Effect (effects i) ++ map entry.Charge (rows i)))
    ∙ sym (texts-append (map entry.Line other.lines) (map entry.Effect other.effects ++ map entry.Charge other.rows))

epochs_shown : (slots first : ℕ) (before : Histories) (epochs : List (List Meaning)) (others : List EpochReport)
    → AreEpochRuns solo slots first before epochs others
    → texts_of false (flat_map epoch_entries others) ≡ texts_of false
    (flat_map epoch_entries (answered_from slots first before epochs))
epochs_shown slots first before [] [] runs = refl
epochs_shown slots first before [] (told ∷ others) runs = absurd runs
epochs_shown slots first before (made ∷ epochs) [] runs = absurd runs
epochs_shown slots first before (made ∷ epochs) (told ∷ others) runs =
    let each = solo_meets before [] (told_in made told) runs.0.bounds runs.0.refusals in
    let same = behind_is_one solo slots first before made told runs.0 each in
    let head = epoch_shown told (answered_epoch slots first before made)
    (lines_are_one solo slots first before made told runs.0 each)
    (effects_are_one solo slots first before made told runs.0 each)
    (rows_are_one solo slots first before made told runs.0 each) in
    let tail = epochs_shown slots (first + length made) (behind_lines before made) epochs others
    (subst (λ h. AreEpochRuns solo slots (first + length made) h epochs others) same runs.1) in
    texts-append (epoch_entries told) (flat_map epoch_entries others)
    ∙ (λ i. head i ++ tail i)
    ∙ sym (texts-append (epoch_entries (answered_epoch slots first before made))
    (flat_map epoch_entries (answered_from slots (first + length made) (behind_lines before made) epochs)))

pub text_is_one : (slots : ℕ) (made : List (List Meaning)) (report : Report) → IsRun solo slots made report
    → report_text false report ≡ report_text false (answered_run slots made)
text_is_one slots made report run =
    let events = events_behind solo slots 1 no_events made report.epochs run.epochs
    (solo_epochs_meet slots 1 no_events made report.epochs run.epochs) in
    let opens : report.opens ≡ by_slot slots (λ slot. made_of.opens slot (behind_epochs no_events made slot)) =
    run.opens ∙ (λ i. by_slot slots (λ slot. made_of.opens slot (events i slot))) in
    texts-append (flat_map epoch_entries report.epochs) (map entry.Charge report.opens)
    ∙ (λ i. epochs_shown slots 1 no_events made report.epochs run.epochs i
    ++ texts_of false (map entry.Charge (opens i)))
    ∙ sym (texts-append (flat_map epoch_entries (answered_run slots made).epochs)
    (map entry.Charge (answered_run slots made).opens))

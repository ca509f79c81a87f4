-- A lawful run of one thread without its places is that of the sequential gateway, which slices may report too.
use Rattle.std.proofs.Common.{◌≡◌, ℕ, ◌+◌, false, List, [], ◌∷◌, ◌++◌, length, map, refl, sym, ap, ◌∙◌, subst}
use Rattle.std.specs.List.{flat_map}
use Rattle.std.proofs.lemmas.List.{map-append}
use Rattle.demux.specs.Trace.{Meaning}
use Rattle.report_lines.specs.Records.{Effected}
use Rattle.report_lines.specs.Text.{line_without_place, shown}
use Rattle.report_lines.specs.declared.entry.ChargeEntry.{ChargeEntry}
use Rattle.report_lines.specs.declared.entry.Entry.TheVariants as entry
use Rattle.report_lines.specs.declared.entry.LineEntry.{LineEntry}
use Rattle.lawful_run.specs.AnsweredRun.{answered_from, answered_run, behind_epochs, behind_lines}
use Rattle.lawful_run.specs.Merging.{Histories}
use Rattle.lawful_run.specs.Outcomes as made_of
use Rattle.lawful_run.specs.Report.{EpochReport, Report, epoch_entries}
use Rattle.lawful_run.specs.Run.{AreEpochRuns, IsRun, by_slot, no_events, told_in}
use Rattle.lawful_run.specs.Setup.{solo}
use Rattle.lawful_run.proofs.EveryTrace.{answered_is_run}
use Rattle.lawful_run.proofs.Meets.{solo_meets}
use Rattle.lawful_run.proofs.OneRun.{behind_is_one, effects_are_one, events_behind, lines_are_one, rows_are_one, solo_epochs_meet}
use Rattle.report_laws.specs.Shown.{EntriesAreShown, OneThreadIsLawful, epoch_shown, report_shown}
use Rattle.report_laws.proofs.WithoutPlaces.{left_out}

epochs_are : (slots first : ℕ) (before : Histories) (epochs : List (List Meaning)) (others : List EpochReport)
    → AreEpochRuns solo slots first before epochs others
    → map epoch_shown others ≡ map epoch_shown (answered_from slots first before epochs)
epochs_are slots first before [] [] runs = refl
epochs_are slots first before [] (told ∷ others) runs = absurd runs
epochs_are slots first before (made ∷ epochs) [] runs = absurd runs
epochs_are slots first before (made ∷ epochs) (told ∷ others) runs =
    let each = solo_meets before [] (told_in made told) runs.0.bounds runs.0.refusals in
    let same = behind_is_one solo slots first before made told runs.0 each in
    let lines = lines_are_one solo slots first before made told runs.0 each in
    let effects = effects_are_one solo slots first before made told runs.0 each in
    let rows = rows_are_one solo slots first before made told runs.0 each in
    let rest = epochs_are slots (first + length made) (behind_lines before made) epochs others
    (subst (λ h. AreEpochRuns solo slots (first + length made) h epochs others) same runs.1) in
    λ i. record { lines = lines i; effects = effects i; rows = rows i } ∷ rest i

shown_is_one : (slots : ℕ) (made : List (List Meaning)) (report : Report) → IsRun solo slots made report
    → report_shown report ≡ report_shown (answered_run slots made)
shown_is_one slots made report run =
    let epochs = epochs_are slots 1 no_events made report.epochs run.epochs in
    let events = events_behind solo slots 1 no_events made report.epochs run.epochs
    (solo_epochs_meet slots 1 no_events made report.epochs run.epochs) in
    let opens : report.opens ≡ by_slot slots (λ slot. made_of.opens slot (behind_epochs no_events made slot)) =
    run.opens ∙ (λ i. by_slot slots (λ slot. made_of.opens slot (events i slot))) in
    λ i. record { epochs = epochs i; opens = opens i }

pub lawful_on_slices : OneThreadIsLawful
lawful_on_slices setup slots made report run =
    subst (IsRun setup slots made) (sym (shown_is_one slots made report run))
    (left_out setup slots made (answered_run slots made) (answered_is_run setup slots made))

-- the entries of a report without places
lines_shown : (lines : List LineEntry)
    → map entry.Line (map line_without_place lines) ≡ map (shown false) (map entry.Line lines)
lines_shown [] = refl
lines_shown (line ∷ lines) = ap (λ rest. entry.Line (line_without_place line) ∷ rest) (lines_shown lines)

effects_shown : (effects : List Effected) → map entry.Effect effects ≡ map (shown false) (map entry.Effect effects)
effects_shown [] = refl
effects_shown (effect ∷ effects) = ap (λ rest. entry.Effect effect ∷ rest) (effects_shown effects)

charges_shown : (charges : List ChargeEntry) → map entry.Charge charges ≡ map (shown false) (map entry.Charge charges)
charges_shown [] = refl
charges_shown (charge ∷ charges) = ap (λ rest. entry.Charge charge ∷ rest) (charges_shown charges)

epoch_is_shown : (told : EpochReport) → epoch_entries (epoch_shown told) ≡ map (shown false) (epoch_entries told)
epoch_is_shown told =
    (λ i. lines_shown told.lines i ++ (effects_shown told.effects i ++ charges_shown told.rows i))
    ∙ ap (λ rest. map (shown false) (map entry.Line told.lines) ++ rest)
    (sym (map-append (shown false) (map entry.Effect told.effects) (map entry.Charge told.rows)))
    ∙ sym (map-append (shown false) (map entry.Line told.lines)
    (map entry.Effect told.effects ++ map entry.Charge told.rows))

epochs_shown : (epochs : List EpochReport)
    → flat_map epoch_entries (map epoch_shown epochs) ≡ map (shown false) (flat_map epoch_entries epochs)
epochs_shown [] = refl
epochs_shown (told ∷ epochs) =
    (λ i. epoch_is_shown told i ++ epochs_shown epochs i)
    ∙ sym (map-append (shown false) (epoch_entries told) (flat_map epoch_entries epochs))

pub entries_shown : EntriesAreShown
entries_shown report =
    (λ i. epochs_shown report.epochs i ++ charges_shown report.opens i)
    ∙ sym (map-append (shown false) (flat_map epoch_entries report.epochs) (map entry.Charge report.opens))

-- The charging records and open counters that a lawful report tells of a slot are those of its events.
use Rattle.std.proofs.Common.{◌≡◌, ◌≢◌, ℕ, ◌+◌, ◌<◌, List, [], ◌∷◌, ◌++◌, length, map, refl, sym, ap, ◌∙◌, arith, append_assoc, append-nil}
use Rattle.std.specs.List.{filter_map, flat_map}
use Rattle.std.proofs.lemmas.Bool.{ne_eqb}
use Rattle.std.proofs.lemmas.List.Elements.{filter_map-append}
use Rattle.charging_book.specs.Rows.{Charged, Counters}
use Rattle.demux.specs.Trace.{Meaning}
use Rattle.gate_model.specs.SlotPast.{records_after, records_made}
use Rattle.gate_model.specs.declared.event.Event.{Event}
use Rattle.gate_model.proofs.Charges.{records_added}
use Rattle.report_lines.specs.declared.entry.ChargeEntry.TheVariants.{R, O}
use Rattle.lawful_run.specs.Setup.{Setup}
use Rattle.lawful_run.specs.Ledger.{row_by, counters_by, rows_told, opens_told}
use Rattle.lawful_run.specs.Merging.{Histories, events_in, behind}
use Rattle.lawful_run.specs.Outcomes as made_of
use Rattle.lawful_run.specs.Report.{EpochReport, Report}
use Rattle.lawful_run.specs.Run.{told_in, IsEpochRun, AreEpochRuns, IsRun, behind_all, no_events}
use Rattle.lawful_run.proofs.BySlot.{one_of}
use Rattle.lawful_run.proofs.SlotCases.{eqb_same}

own_rows : (slot : ℕ) (rows : List Charged) → filter_map (row_by slot) (map (R slot) rows) ≡ rows
own_rows slot [] = refl
own_rows slot (row ∷ rows) = rw (eqb_same slot) (ap (λ rs. row ∷ rs) (own_rows slot rows))

other_rows : (slot s : ℕ) (rows : List Charged) → s ≢ slot → filter_map (row_by slot) (map (R s) rows) ≡ []
other_rows slot s [] other = refl
other_rows slot s (row ∷ rows) other = rw (ne_eqb s slot other) (other_rows slot s rows other)

own_opens : (slot : ℕ) (opens : List Counters) → filter_map (counters_by slot) (map (O slot) opens) ≡ opens
own_opens slot [] = refl
own_opens slot (counters ∷ opens) = rw (eqb_same slot) (ap (λ os. counters ∷ os) (own_opens slot opens))

other_opens : (slot s : ℕ) (opens : List Counters) → s ≢ slot → filter_map (counters_by slot) (map (O s) opens) ≡ []
other_opens slot s [] other = refl
other_opens slot s (counters ∷ opens) other = rw (ne_eqb s slot other) (other_opens slot s opens other)

-- the events of a slot in an epoch
abbrev pub now_events : Histories → List Meaning → EpochReport → ℕ → List Event
now_events before made told slot = events_in (before slot) (told_in made told) slot

epoch_rows : (setup : Setup) (slots first : ℕ) (before : Histories) (made : List Meaning) (told : EpochReport)
    (slot : ℕ) → slot < slots
    → IsEpochRun setup slots first before made told
    → filter_map (row_by slot) told.rows ≡ records_made slot (before slot) (now_events before made told slot)
epoch_rows setup slots first before made told slot within run =
    ap (filter_map (row_by slot)) run.rows
    ∙ one_of (filter_map (row_by slot)) refl (filter_map-append (row_by slot))
    (λ s. made_of.rows s (before s) (now_events before made told s))
    slot 0 slots (omega arith) (omega (arith, within))
    (λ s other. other_rows slot s (records_made s (before s) (now_events before made told s)) other)
    ∙ own_rows slot (records_made slot (before slot) (now_events before made told slot))

rows_from : (setup : Setup) (slots first : ℕ) (before : Histories) (epochs : List (List Meaning))
    (others : List EpochReport) (slot : ℕ) → slot < slots
    → AreEpochRuns setup slots first before epochs others
    → records_after slot (before slot) ++ flat_map (λ (told : EpochReport). filter_map (row_by slot) told.rows) others
    ≡ records_after slot (behind_all before epochs others slot)
rows_from setup slots first before [] [] slot within runs = append-nil (records_after slot (before slot))
rows_from setup slots first before [] (told ∷ others) slot within runs = absurd runs
rows_from setup slots first before (made ∷ epochs) [] slot within runs = absurd runs
rows_from setup slots first before (made ∷ epochs) (told ∷ others) slot within runs =
    let rest : List Charged = flat_map (λ (t : EpochReport). filter_map (row_by slot) t.rows) others in
    ap (λ rows. records_after slot (before slot) ++ (rows ++ rest))
    (epoch_rows setup slots first before made told slot within runs.0)
    ∙ sym (append_assoc (records_after slot (before slot))
    (records_made slot (before slot) (now_events before made told slot)) rest)
    ∙ ap (λ rows. rows ++ rest) (sym (records_added slot (before slot) (now_events before made told slot)))
    ∙ rows_from setup slots (first + length made) (behind before (told_in made told)) epochs others slot within runs.1

-- the events of a slot in all epochs
abbrev pub all_events : List (List Meaning) → Report → ℕ → List Event
all_events made report slot = behind_all no_events made report.epochs slot

pub rows_are : (setup : Setup) (slots : ℕ) (made : List (List Meaning)) (report : Report) (slot : ℕ) → slot < slots
    → IsRun setup slots made report
    → rows_told slot report ≡ records_after slot (all_events made report slot)
rows_are setup slots made report slot within run =
    rows_from setup slots 1 no_events made report.epochs slot within run.epochs

pub opens_are : (setup : Setup) (slots : ℕ) (made : List (List Meaning)) (report : Report) (slot : ℕ) → slot < slots
    → IsRun setup slots made report
    → opens_told slot report ≡ made_of.open_counters slot (all_events made report slot)
opens_are setup slots made report slot within run =
    ap (filter_map (counters_by slot)) run.opens
    ∙ one_of (filter_map (counters_by slot)) refl (filter_map-append (counters_by slot))
    (λ s. made_of.opens s (all_events made report s))
    slot 0 slots (omega arith) (omega (arith, within))
    (λ s other. other_opens slot s (made_of.open_counters s (all_events made report s)) other)
    ∙ own_opens slot (made_of.open_counters slot (all_events made report slot))

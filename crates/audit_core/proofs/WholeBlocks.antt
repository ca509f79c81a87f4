-- Entries of whole pieces: those of an epoch end where its piece does. And what is told among the entries of an epoch.
use Rattle.std.proofs.Common.{◌≡◌, ℕ, suc, ◌+◌, ◌<◌, Bool, true, false, if◌then◌else◌, Option, None, Some, List, [], ◌∷◌, ◌++◌, length, map, refl, sym, ap, subst, ◌∙◌, arith, append_assoc, append-nil}
use Rattle.std.specs.List.{All, cons_option, filter_map, flat_map}
use Rattle.std.proofs.lemmas.List.Elements.{All-append, All-cons, All-head, All-nil, All-tail}
use Rattle.demux.specs.Trace.{Meaning}
use Rattle.report_lines.specs.Records.{Effected}
use Rattle.report_lines.specs.declared.entry.ChargeEntry.{ChargeEntry}
use Rattle.report_lines.specs.declared.entry.ChargeEntry.TheVariants as charge
use Rattle.report_lines.specs.declared.entry.Entry.{Entry}
use Rattle.report_lines.specs.declared.entry.Entry.TheVariants as entry
use Rattle.report_lines.specs.declared.entry.LineEntry.{LineEntry}
use Rattle.lawful_run.specs.Merging.{Histories, behind}
use Rattle.lawful_run.specs.Outcomes as made_of
use Rattle.lawful_run.specs.Report.{EpochReport, epoch_entries}
use Rattle.lawful_run.specs.Run.{AreEpochRuns, IsEpochRun, by_slot, events_now}
use Rattle.lawful_run.specs.Setup.{Setup}
use Rattle.audit_core.specs.Belonging.{effect_of, row_of}
use Rattle.audit_core.specs.Entries.{line_entries, opens_told}
use Rattle.audit_core.specs.WholePieces.{BeginsOwn, is_outcome}
use Rattle.audit_core.proofs.LineOrder.{as_many}
use Rattle.audit_core.proofs.Placed.{as_open, as_row, lines_stand, opens_are_opens, rows_are_rows}

abbrev IsOutcome : Entry → Type 0
IsOutcome told = is_outcome told ≡ true

pub none_of : {X : Type 0} (xs : List X) → length xs ≡ 0 → xs ≡ []
none_of [] is = refl
none_of (x ∷ xs) is = absurd (omega (arith, is))

-- what is no entry of a line, and no open counter
outcomes_of : (entries : List Entry) → line_entries entries ≡ [] → opens_told entries ≡ [] → All IsOutcome entries
outcomes_of [] none quiet = All-nil IsOutcome
outcomes_of (entry.Line of_line ∷ entries) none quiet = absurd (cc)
outcomes_of (entry.Effect effect ∷ entries) none quiet =
    All-cons IsOutcome (entry.Effect effect) entries refl (outcomes_of entries none quiet)
outcomes_of (entry.Charge (charge.R slot row) ∷ entries) none quiet =
    All-cons IsOutcome (entry.Charge (charge.R slot row)) entries refl (outcomes_of entries none quiet)
outcomes_of (entry.Charge (charge.O slot counters) ∷ entries) none quiet = absurd (cc)

effects_outcomes : (effects : List Effected) → All IsOutcome (map entry.Effect effects)
effects_outcomes [] = All-nil IsOutcome
effects_outcomes (effect ∷ effects) =
    All-cons IsOutcome (entry.Effect effect) (map entry.Effect effects) refl (effects_outcomes effects)

rows_outcomes : (rows : List ChargeEntry) → filter_map as_open rows ≡ [] → All IsOutcome (map entry.Charge rows)
rows_outcomes [] quiet = All-nil IsOutcome
rows_outcomes (charge.R slot row ∷ rows) quiet =
    All-cons IsOutcome (entry.Charge (charge.R slot row)) (map entry.Charge rows) refl (rows_outcomes rows quiet)
rows_outcomes (charge.O slot counters ∷ rows) quiet = absurd (cc)

-- Outcomes end where what begins with none begins.
parted_rest : (own later tail more : List Entry) → All IsOutcome own → All IsOutcome tail → BeginsOwn later
    → BeginsOwn more → own ++ later ≡ tail ++ more → (own ≡ tail) × (later ≡ more)
parted_rest [] later [] more ours theirs one other is = (refl, is)
parted_rest [] later (first ∷ tail) more ours theirs one other is =
    let quiet : is_outcome first ≡ false = subst BeginsOwn is one in
    let clash : true ≡ false = sym (All-head IsOutcome first tail theirs) ∙ quiet in absurd (cc)
parted_rest (first ∷ own) later [] more ours theirs one other is =
    let quiet : is_outcome first ≡ false = subst BeginsOwn (sym is) other in
    let clash : true ≡ false = sym (All-head IsOutcome first own ours) ∙ quiet in absurd (cc)
parted_rest (first ∷ own) later (now ∷ tail) more ours theirs one other is =
    let same : first ≡ now = cc in
    let rest : own ++ later ≡ tail ++ more = cc in
    let parts = parted_rest own later tail more (All-tail IsOutcome first own ours) (All-tail IsOutcome now tail theirs)
    one other rest in
    ((λ i. same i ∷ parts.0 i), parts.1)

parted : (lines : List LineEntry) (own later tail more : List Entry) → length (line_entries own) ≡ length lines
    → opens_told own ≡ [] → All IsOutcome tail → BeginsOwn later → BeginsOwn more
    → own ++ later ≡ map entry.Line lines ++ (tail ++ more)
    → (own ≡ map entry.Line lines ++ tail) × (later ≡ more)
parted [] own later tail more many quiet theirs one other is =
    parted_rest own later tail more (outcomes_of own (none_of (line_entries own) many) quiet) theirs one other is
parted (now ∷ lines) [] later tail more many quiet theirs one other is = absurd (omega (arith, many))
parted (now ∷ lines) (first ∷ own) later tail more many quiet theirs one other is =
    let same : first ≡ entry.Line now = cc in
    let rest : own ++ later ≡ map entry.Line lines ++ (tail ++ more) = cc in
    let count : suc (length (line_entries own)) ≡ suc (length lines) =
    subst (λ e. length (line_entries (e ∷ own)) ≡ suc (length lines)) same many in
    let quiet_rest : opens_told own ≡ [] = subst (λ e. opens_told (e ∷ own) ≡ []) same quiet in
    let parts = parted lines own later tail more (omega (arith, count)) quiet_rest theirs one other rest in
    ((λ i. same i ∷ parts.0 i), parts.1)

-- the entries of a piece and of those behind it, where an epoch's and those of others are the same
pub parted_epoch : (told : EpochReport) (own later more : List Entry) → length (line_entries own) ≡ length told.lines
    → opens_told own ≡ [] → filter_map as_open told.rows ≡ [] → BeginsOwn later → BeginsOwn more
    → own ++ later ≡ epoch_entries told ++ more → (own ≡ epoch_entries told) × (later ≡ more)
parted_epoch told own later more many quiet rows one other is =
    let tail = map entry.Effect told.effects ++ map entry.Charge told.rows in
    parted told.lines own later tail more many quiet
    (All-append IsOutcome (map entry.Effect told.effects) (map entry.Charge told.rows) (effects_outcomes told.effects)
    (rows_outcomes told.rows rows)) one other
    (is ∙ append_assoc (map entry.Line told.lines) tail more)

-- how they begin
pub begins_both : (own later : List Entry) → 0 < length own → BeginsOwn own → BeginsOwn (own ++ later)
begins_both [] later some begins = absurd (omega (arith, some))
begins_both (first ∷ own) later some begins = begins

pub begins_lines : (lines : List LineEntry) (later : List Entry) → 0 < length lines
    → BeginsOwn (map entry.Line lines ++ later)
begins_lines [] later some = absurd (omega (arith, some))
begins_lines (first ∷ lines) later some = refl

pub begins_opens : (opens : List ChargeEntry) → filter_map as_row opens ≡ [] → BeginsOwn (map entry.Charge opens)
begins_opens [] quiet = tt
begins_opens (charge.R slot row ∷ opens) quiet = absurd (cc)
begins_opens (charge.O slot counters ∷ opens) quiet = refl

-- the first of some epochs, if there is one, has a line
abbrev pub FirstHas : List (List Meaning) → Type 0
FirstHas [] = Unit {0}
FirstHas (now ∷ later) = 0 < length now

pub begins_epochs : (setup : Setup) (slots first : ℕ) (before : Histories) (made : List (List Meaning))
    (others : List EpochReport) (opens : List ChargeEntry) → AreEpochRuns setup slots first before made others
    → FirstHas made → filter_map as_row opens ≡ []
    → BeginsOwn (flat_map epoch_entries others ++ map entry.Charge opens)
begins_epochs setup slots first before [] [] opens runs has quiet = begins_opens opens quiet
begins_epochs setup slots first before [] (told ∷ others) opens runs has quiet = absurd runs
begins_epochs setup slots first before (now ∷ made) [] opens runs has quiet = absurd runs
begins_epochs setup slots first before (now ∷ made) (told ∷ others) opens runs has quiet =
    let tail = map entry.Effect told.effects ++ map entry.Charge told.rows in
    let later = flat_map epoch_entries others in
    let many = as_many first now told.lines runs.0.one_each in
    subst BeginsOwn (sym (append_assoc (epoch_entries told) later (map entry.Charge opens)
    ∙ append_assoc (map entry.Line told.lines) tail (later ++ map entry.Charge opens)))
    (begins_lines told.lines (tail ++ (later ++ map entry.Charge opens)) (omega (arith, many, has)))

-- what is told among the entries of an epoch
past_none : {X Y : Type 0} (keep : Entry → Option X) (wrap : Y → Entry) → ((y : Y) → keep (wrap y) ≡ None)
    → (ys : List Y) (later : List Entry) → filter_map keep (map wrap ys ++ later) ≡ filter_map keep later
past_none keep wrap quiet [] later = refl
past_none keep wrap quiet (y ∷ ys) later =
    ap (λ o. cons_option o (filter_map keep (map wrap ys ++ later))) (quiet y) ∙ past_none keep wrap quiet ys later

effects_kept : (effects : List Effected) (later : List Entry)
    → filter_map effect_of (map entry.Effect effects ++ later) ≡ effects ++ filter_map effect_of later
effects_kept [] later = refl
effects_kept (effect ∷ effects) later = ap (λ (xs : List Effected). effect ∷ xs) (effects_kept effects later)

rows_kept : (charges : List ChargeEntry) (later : List Entry)
    → filter_map row_of (map entry.Charge charges ++ later) ≡ filter_map as_row charges ++ filter_map row_of later
rows_kept [] later = refl
rows_kept (charge.R slot row ∷ charges) later =
    ap (λ (xs : List ChargeEntry). charge.R slot row ∷ xs) (rows_kept charges later)
rows_kept (charge.O slot counters ∷ charges) later = rows_kept charges later

module _ (told : EpochReport) (opens : List ChargeEntry) where
  abbrev pub all : List Entry
  all = epoch_entries told ++ map entry.Charge opens

  abbrev charges : List Entry
  charges = map entry.Charge told.rows ++ map entry.Charge opens

  apart : all ≡ map entry.Line told.lines ++ (map entry.Effect told.effects ++ charges)
  apart =
      append_assoc (map entry.Line told.lines) (map entry.Effect told.effects ++ map entry.Charge told.rows)
      (map entry.Charge opens)
      ∙ ap (λ es. map entry.Line told.lines ++ es)
      (append_assoc (map entry.Effect told.effects) (map entry.Charge told.rows) (map entry.Charge opens))

  pub lines_of_epoch : line_entries all ≡ told.lines
  lines_of_epoch =
      ap (λ es. line_entries (es ++ map entry.Charge opens)) (sym (append-nil (epoch_entries told)))
      ∙ lines_stand (told ∷ []) opens ∙ append-nil told.lines

  pub effects_of_epoch : filter_map effect_of all ≡ told.effects
  effects_of_epoch =
      ap (filter_map effect_of) apart
      ∙ past_none effect_of entry.Line (λ l. refl) told.lines (map entry.Effect told.effects ++ charges)
      ∙ effects_kept told.effects charges
      ∙ ap (λ es. told.effects ++ es)
      (past_none effect_of entry.Charge (λ c. refl) told.rows (map entry.Charge opens)
      ∙ ap (filter_map effect_of) (sym (append-nil (map entry.Charge opens)))
      ∙ past_none effect_of entry.Charge (λ c. refl) opens [])
      ∙ append-nil told.effects

  pub rows_of_epoch : filter_map as_row told.rows ≡ told.rows → filter_map as_row opens ≡ []
      → filter_map row_of all ≡ told.rows
  rows_of_epoch rows quiet =
      ap (filter_map row_of) apart
      ∙ past_none row_of entry.Line (λ l. refl) told.lines (map entry.Effect told.effects ++ charges)
      ∙ past_none row_of entry.Effect (λ e. refl) told.effects charges
      ∙ rows_kept told.rows (map entry.Charge opens)
      ∙ (λ i. rows i ++ (ap (filter_map row_of) (sym (append-nil (map entry.Charge opens)))
      ∙ rows_kept opens [] ∙ append-nil (filter_map as_row opens) ∙ quiet) i)
      ∙ append-nil told.rows

-- the records of an epoch of a run, and the open counters that are asked for
pub run_rows : (setup : Setup) (slots first : ℕ) (before : Histories) (made : List Meaning) (told : EpochReport)
    → IsEpochRun setup slots first before made told
    → (filter_map as_row told.rows ≡ told.rows) × (filter_map as_open told.rows ≡ [])
run_rows setup slots first before made told run =
    let so = rows_are_rows slots before (events_now before made told) in
    (ap (filter_map as_row) run.rows ∙ so.0 ∙ sym run.rows, ap (filter_map as_open) run.rows ∙ so.1)

abbrev pub asked_if : Bool → ℕ → Histories → List ChargeEntry
asked_if last slots events = if last then by_slot slots (λ slot. made_of.opens slot (events slot)) else []

pub asked_opens : (last : Bool) (slots : ℕ) (events : Histories)
    → (filter_map as_row (asked_if last slots events) ≡ [])
    × (filter_map as_open (asked_if last slots events) ≡ asked_if last slots events)
asked_opens true slots events = opens_are_opens slots events
asked_opens false slots events = (refl, refl)

-- In a run the effects and the charging records stand in their epochs.
use Rattle.std.proofs.Common.{◌≡◌, ℕ, zero, suc, ◌+◌, ◌-◌, ◌==◌, ◌<◌, ◌≤◌, Bool, true, false, Option, Some, None, List, [], ◌∷◌, ◌++◌, length, map, cond, refl, sym, ap, ◌∙◌, arith, append_assoc, append-nil, All, ◌⊎◌, inl, inr}
use Rattle.std.specs.List.{flat_map, filter_map, cons_option}
use Rattle.std.specs.Prelude.{nat_le}
use Rattle.std.proofs.lemmas.Bool.{le-leb, lt-leb}
use Rattle.std.proofs.lemmas.List.Elements.{filter_map-append, All-head, All-tail}
use Rattle.demux.specs.Trace.{Meaning}
use Rattle.report_lines.specs.declared.entry.ChargeEntry.{ChargeEntry}
use Rattle.report_lines.specs.declared.entry.ChargeEntry.TheVariants as charge
use Rattle.report_lines.specs.declared.entry.Entry.{Entry}
use Rattle.report_lines.specs.declared.entry.Entry.TheVariants as entry
use Rattle.report_lines.specs.declared.entry.LineEntry.{LineEntry}
use Rattle.gate_model.specs.SlotPast.{records_made}
use Rattle.lawful_run.specs.Answers.{AnswersAll}
use Rattle.lawful_run.specs.Setup.{Setup}
use Rattle.lawful_run.specs.Merging.{Histories, behind}
use Rattle.lawful_run.specs.Outcomes as made_of
use Rattle.lawful_run.specs.Report.{EpochReport, epoch_entries}
use Rattle.lawful_run.specs.Run.{told_in, AreEpochRuns, by_slot, events_now, no_events}
use Rattle.lawful_run.specs.Telling.{counted}
use Rattle.audit_core.specs.Entries.{line_of, as_line, line_entries, epoch_at, epoch_behind, effect_in, row_in, told_in_epoch, effects_told, rows_told, open_of, opens_told}
use Rattle.audit_core.proofs.EpochLines.{lines_all}
use Rattle.audit_core.proofs.LineOrder.{line_is}

-- of charges: the records, and the open counters
abbrev pub as_row : ChargeEntry → Option ChargeEntry
as_row (charge.R slot row) = Some (charge.R slot row)
as_row (charge.O slot counters) = None

abbrev pub as_open : ChargeEntry → Option ChargeEntry
as_open (charge.R slot row) = None
as_open (charge.O slot counters) = Some (charge.O slot counters)

-- what stands by slot, filtered
by_slot-filter : {X : Type 0} (keep : X → Option X) (slots first : ℕ) (has : ℕ → List X)
    → ((slot : ℕ) → filter_map keep (has slot) ≡ has slot)
    → filter_map keep (flat_map has (counted first slots)) ≡ flat_map has (counted first slots)
by_slot-filter keep zero first has each = refl
by_slot-filter keep (suc slots) first has each =
    filter_map-append keep (has first) (flat_map has (counted (first + 1) slots))
    ∙ ap (λ xs. xs ++ filter_map keep (flat_map has (counted (first + 1) slots))) (each first)
    ∙ ap (λ xs. has first ++ xs) (by_slot-filter keep slots (first + 1) has each)

by_slot-none : {X : Type 0} (keep : X → Option X) (slots first : ℕ) (has : ℕ → List X)
    → ((slot : ℕ) → filter_map keep (has slot) ≡ []) → filter_map keep (flat_map has (counted first slots)) ≡ []
by_slot-none keep zero first has each = refl
by_slot-none keep (suc slots) first has each =
    filter_map-append keep (has first) (flat_map has (counted (first + 1) slots))
    ∙ ap (λ xs. xs ++ filter_map keep (flat_map has (counted (first + 1) slots))) (each first)
    ∙ by_slot-none keep slots (first + 1) has each

kept_map : {X Y : Type 0} (keep : X → Option X) (f : Y → X) → ((y : Y) → keep (f y) ≡ Some (f y)) → (ys : List Y)
    → filter_map keep (map f ys) ≡ map f ys
kept_map keep f each [] = refl
kept_map keep f each (y ∷ ys) =
    ap (λ o. cons_option o (filter_map keep (map f ys))) (each y) ∙ ap (λ xs. f y ∷ xs) (kept_map keep f each ys)

none_map : {X Y Z : Type 0} (keep : X → Option Z) (f : Y → X) → ((y : Y) → keep (f y) ≡ None) → (ys : List Y)
    → filter_map keep (map f ys) ≡ []
none_map keep f each [] = refl
none_map keep f each (y ∷ ys) =
    ap (λ o. cons_option o (filter_map keep (map f ys))) (each y) ∙ none_map keep f each ys

-- the records of slots are records, and their open counters open counters
pub rows_are_rows : (slots : ℕ) (before now : Histories)
    → let rows = by_slot slots (λ slot. made_of.rows slot (before slot) (now slot)) in
    (filter_map as_row rows ≡ rows) × (filter_map as_open rows ≡ [])
rows_are_rows slots before now = (
  by_slot-filter as_row slots 0 (λ slot. made_of.rows slot (before slot) (now slot))
      (λ slot. kept_map as_row (charge.R slot) (λ row. refl) (records_made slot (before slot) (now slot))),
  by_slot-none as_open slots 0 (λ slot. made_of.rows slot (before slot) (now slot))
      (λ slot. none_map as_open (charge.R slot) (λ row. refl) (records_made slot (before slot) (now slot))),
)

pub opens_are_opens : (slots : ℕ) (now : Histories)
    → let opens = by_slot slots (λ slot. made_of.opens slot (now slot)) in
    (filter_map as_row opens ≡ []) × (filter_map as_open opens ≡ opens)
opens_are_opens slots now = (
  by_slot-none as_row slots 0 (λ slot. made_of.opens slot (now slot))
      (λ slot. none_map as_row (charge.O slot) (λ counters. refl) (made_of.open_counters slot (now slot))),
  by_slot-filter as_open slots 0 (λ slot. made_of.opens slot (now slot))
      (λ slot. kept_map as_open (charge.O slot) (λ counters. refl) (made_of.open_counters slot (now slot))),
)

-- what belongs to an epoch, behind entries of lines
module _ {X : Type 0} (belongs : ℕ → Entry → Option X)
    (quiet : (now : ℕ) (of_line : LineEntry) → belongs now (entry.Line of_line) ≡ None)
    (made : List (List Meaning)) where
  behind_lines : (i now n : ℕ) (lines : List Meaning) (entries : List LineEntry) (later : List Entry)
      → (0 < length lines) ⊎ (now ≡ i) → AnswersAll n lines entries
      → ((k : ℕ) → n ≤ k → k < n + length lines → epoch_at made k ≡ i)
      → told_in_epoch belongs made now (map entry.Line entries ++ later) ≡ told_in_epoch belongs made i later
  behind_lines i now n [] [] later some answers within =
      elim some [
        | inl less ↦ absurd (omega (arith, less))
        | inr same ↦ ap (λ e. told_in_epoch belongs made e later) same
      ]
  behind_lines i now n [] (first ∷ entries) later some answers within = absurd answers
  behind_lines i now n (meaning ∷ lines) [] later some answers within = absurd answers
  behind_lines i now n (meaning ∷ lines) (first ∷ entries) later some answers within =
      let its = line_is n meaning first answers.0 in
      let here : epoch_at made (line_of first) ≡ i = ap (epoch_at made) its ∙ within n (omega arith) (omega arith) in
      ap (λ o. cons_option o []
      ++ told_in_epoch belongs made (epoch_at made (line_of first)) (map entry.Line entries ++ later)) (quiet now first)
      ∙ behind_lines i (epoch_at made (line_of first)) (n + 1) lines entries later (inr here) answers.1
      (λ k above below. within k (omega (arith, above)) (omega (arith, below)))

joined : {X : Type 0} (o : Option X) (xs ys : List X) → cons_option o [] ++ (xs ++ ys) ≡ cons_option o xs ++ ys
joined None xs ys = refl
joined (Some x) xs ys = refl

-- behind others
behind_items : {X Y : Type 0} (belongs : ℕ → Entry → Option X) (made : List (List Meaning)) (wrap : Y → Entry) (i : ℕ)
    (later : List Entry) → ((y : Y) → epoch_behind made i (wrap y) ≡ i) → (ys : List Y)
    → told_in_epoch belongs made i (map wrap ys ++ later)
    ≡ filter_map (λ y. belongs i (wrap y)) ys ++ told_in_epoch belongs made i later
behind_items belongs made wrap i later stays [] = refl
behind_items belongs made wrap i later stays (y ∷ ys) =
    ap (λ e. cons_option (belongs i (wrap y)) [] ++ told_in_epoch belongs made e (map wrap ys ++ later)) (stays y)
    ∙ ap (λ xs. cons_option (belongs i (wrap y)) [] ++ xs) (behind_items belongs made wrap i later stays ys)
    ∙ joined (belongs i (wrap y)) (filter_map (λ z. belongs i (wrap z)) ys) (told_in_epoch belongs made i later)

none_kept : {X Y : Type 0} (keep : X → Option Y) → ((x : X) → keep x ≡ None) → (xs : List X) → filter_map keep xs ≡ []
none_kept keep each [] = refl
none_kept keep each (x ∷ xs) = ap (λ o. cons_option o (filter_map keep xs)) (each x) ∙ none_kept keep each xs

kept_when : {X : Type 0} (test : Bool) (xs : List X) → filter_map (λ x. cond test (Some x) None) xs ≡ cond test xs []
kept_when true [] = refl
kept_when true (x ∷ xs) = ap (λ ys. x ∷ ys) (kept_when true xs)
kept_when false [] = refl
kept_when false (x ∷ xs) = kept_when false xs

nil_when : {X : Type 0} (test : Bool) → let none : List X = [] in none ≡ cond test none none
nil_when true = refl
nil_when false = refl

row_when : (test : Bool) (row : ChargeEntry) (rows : List ChargeEntry)
    → cons_option (cond test (Some row) None) (cond test rows []) ≡ cond test (row ∷ rows) []
row_when true row rows = refl
row_when false row rows = refl

rows_when : (epoch i : ℕ) (charges : List ChargeEntry)
    → filter_map (λ c. row_in epoch i (entry.Charge c)) charges ≡ cond (i == epoch) (filter_map as_row charges) []
rows_when epoch i [] = nil_when (i == epoch)
rows_when epoch i (charge.R slot row ∷ charges) =
    ap (cons_option (cond (i == epoch) (Some (charge.R slot row)) None)) (rows_when epoch i charges)
    ∙ row_when (i == epoch) (charge.R slot row) (filter_map as_row charges)
rows_when epoch i (charge.O slot counters ∷ charges) = rows_when epoch i charges

-- where lines stand: behind some lines the others' epochs are counted on
behind_epoch : (now : List Meaning) (rest : List (List Meaning)) (k : ℕ)
    → epoch_at (now ∷ rest) ((length now + k) + 1) ≡ epoch_at rest (k + 1) + 1
behind_epoch now rest k =
    let past : nat_le ((length now + k) + 1) (length now) ≡ false =
    lt-leb ((length now + k) + 1) (length now) (omega arith) in
    let left : ((length now + k) + 1) - length now ≡ k + 1 = omega arith in
    ap (λ test. cond test 0 (epoch_at rest (((length now + k) + 1) - length now) + 1)) past
    ∙ ap (λ n. epoch_at rest n + 1) left

in_epoch : (now : List Meaning) (rest : List (List Meaning)) (k : ℕ) → k < length now
    → epoch_at (now ∷ rest) (k + 1) ≡ 0
in_epoch now rest k below =
    ap (λ test. cond test 0 (epoch_at rest ((k + 1) - length now) + 1))
    (le-leb (k + 1) (length now) (omega (arith, below)))

-- the lines from one on stand in these epochs
abbrev StandFrom : List (List Meaning) → (first i : ℕ) → List (List Meaning) → Type 0
StandFrom made first i rest = (k : ℕ) → epoch_at made (first + k) ≡ i + epoch_at rest (k + 1)

stand_all : (made : List (List Meaning)) → StandFrom made 1 0 made
stand_all made k =
    let same : 1 + k ≡ k + 1 = omega arith in
    let whole : epoch_at made (k + 1) ≡ 0 + epoch_at made (k + 1) = omega arith in
    ap (epoch_at made) same ∙ whole

stand_on : (made : List (List Meaning)) (first i : ℕ) (now : List Meaning) (rest : List (List Meaning))
    → StandFrom made first i (now ∷ rest) → StandFrom made (first + length now) (i + 1) rest
stand_on made first i now rest stand k =
    let same : (first + length now) + k ≡ first + (length now + k) = omega arith in
    let more : i + (epoch_at rest (k + 1) + 1) ≡ (i + 1) + epoch_at rest (k + 1) = omega arith in
    ap (epoch_at made) same ∙ stand (length now + k) ∙ ap (λ n. i + n) (behind_epoch now rest k) ∙ more

stand_here : (made : List (List Meaning)) (first i : ℕ) (now : List Meaning) (rest : List (List Meaning))
    → StandFrom made first i (now ∷ rest)
    → (k : ℕ) → first ≤ k → k < first + length now → epoch_at made k ≡ i
stand_here made first i now rest stand k above below =
    let same : k ≡ first + (k - first) = omega (arith, above) in
    let alone : i + 0 ≡ i = omega arith in
    ap (epoch_at made) same ∙ stand (k - first)
    ∙ ap (λ n. i + n) (in_epoch now rest (k - first) (omega (arith, above, below))) ∙ alone

-- what an epoch has, out of all from one on
abbrev pub picked : {X : Type 0} → (EpochReport → List X) → (epoch i : ℕ) → List EpochReport → List X
picked of epoch i [] = []
picked of epoch i (told ∷ others) = cond (i == epoch) (of told) [] ++ picked of epoch (i + 1) others

module _ (setup : Setup) (slots : ℕ) (made : List (List Meaning)) (epoch : ℕ) where
  -- the effects
  told_effects : (i first now : ℕ) (before : Histories) (rest : List (List Meaning)) (others : List EpochReport)
      (opens : List ChargeEntry) → All (λ (lines : List Meaning). 0 < length lines) rest
      → AreEpochRuns setup slots first before rest others → StandFrom made first i rest
      → told_in_epoch (effect_in epoch) made now (flat_map epoch_entries others ++ map entry.Charge opens)
      ≡ picked (λ (told : EpochReport). told.effects) epoch i others
  told_effects i first now before [] [] opens have runs stand =
      ap (told_in_epoch (effect_in epoch) made now) (sym (append-nil (map entry.Charge opens)))
      ∙ behind_items (effect_in epoch) made entry.Charge now [] (λ c. refl) opens
      ∙ append-nil (filter_map (λ c. effect_in epoch now (entry.Charge c)) opens)
      ∙ none_kept (λ c. effect_in epoch now (entry.Charge c)) (λ c. refl) opens
  told_effects i first now before [] (told ∷ others) opens have runs stand = absurd runs
  told_effects i first now before (lines ∷ rest) [] opens have runs stand = absurd runs
  told_effects i first now before (lines ∷ rest) (told ∷ others) opens have runs stand =
      let later = flat_map epoch_entries others ++ map entry.Charge opens in
      let apart : (epoch_entries told ++ flat_map epoch_entries others) ++ map entry.Charge opens
      ≡ map entry.Line told.lines ++ (map entry.Effect told.effects ++ (map entry.Charge told.rows ++ later)) =
      simp append_assoc in
      let own : filter_map (λ e. effect_in epoch i (entry.Effect e)) told.effects ≡ cond (i == epoch) told.effects [] =
      kept_when (i == epoch) told.effects in
      ap (told_in_epoch (effect_in epoch) made now) apart
      ∙ behind_lines (effect_in epoch) (λ n l. refl) made i now first lines told.lines
      (map entry.Effect told.effects ++ (map entry.Charge told.rows ++ later))
      (inl (All-head (λ (l : List Meaning). 0 < length l) lines rest have)) runs.0.one_each
      (stand_here made first i lines rest stand)
      ∙ behind_items (effect_in epoch) made entry.Effect i (map entry.Charge told.rows ++ later) (λ e. refl)
      told.effects
      ∙ ap (λ xs. xs ++ told_in_epoch (effect_in epoch) made i (map entry.Charge told.rows ++ later)) own
      ∙ ap (λ xs. cond (i == epoch) told.effects [] ++ xs)
      (behind_items (effect_in epoch) made entry.Charge i later (λ c. refl) told.rows
      ∙ ap (λ xs. xs ++ told_in_epoch (effect_in epoch) made i later)
      (none_kept (λ c. effect_in epoch i (entry.Charge c)) (λ c. refl) told.rows)
      ∙ told_effects (i + 1) (first + length lines) i (behind before (told_in lines told)) rest others opens
      (All-tail (λ (l : List Meaning). 0 < length l) lines rest have) runs.1 (stand_on made first i lines rest stand))

  -- the charging records
  told_rows : (i first now : ℕ) (before : Histories) (rest : List (List Meaning)) (others : List EpochReport)
      (opens : List ChargeEntry) → filter_map as_row opens ≡ []
      → All (λ (lines : List Meaning). 0 < length lines) rest
      → AreEpochRuns setup slots first before rest others → StandFrom made first i rest
      → told_in_epoch (row_in epoch) made now (flat_map epoch_entries others ++ map entry.Charge opens)
      ≡ picked (λ (told : EpochReport). told.rows) epoch i others
  told_rows i first now before [] [] opens none have runs stand =
      ap (told_in_epoch (row_in epoch) made now) (sym (append-nil (map entry.Charge opens)))
      ∙ behind_items (row_in epoch) made entry.Charge now [] (λ c. refl) opens
      ∙ append-nil (filter_map (λ c. row_in epoch now (entry.Charge c)) opens)
      ∙ rows_when epoch now opens
      ∙ ap (λ xs. cond (now == epoch) xs []) none
      ∙ sym (nil_when (now == epoch))
  told_rows i first now before [] (told ∷ others) opens none have runs stand = absurd runs
  told_rows i first now before (lines ∷ rest) [] opens none have runs stand = absurd runs
  told_rows i first now before (lines ∷ rest) (told ∷ others) opens none have runs stand =
      let later = flat_map epoch_entries others ++ map entry.Charge opens in
      let apart : (epoch_entries told ++ flat_map epoch_entries others) ++ map entry.Charge opens
      ≡ map entry.Line told.lines ++ (map entry.Effect told.effects ++ (map entry.Charge told.rows ++ later)) =
      simp append_assoc in
      let all_rows : filter_map as_row told.rows ≡ told.rows =
      ap (filter_map as_row) runs.0.rows
      ∙ (rows_are_rows slots before (events_now before lines told)).0 ∙ sym runs.0.rows in
      let own : filter_map (λ c. row_in epoch i (entry.Charge c)) told.rows ≡ cond (i == epoch) told.rows [] =
      rows_when epoch i told.rows ∙ ap (λ xs. cond (i == epoch) xs []) all_rows in
      ap (told_in_epoch (row_in epoch) made now) apart
      ∙ behind_lines (row_in epoch) (λ n l. refl) made i now first lines told.lines
      (map entry.Effect told.effects ++ (map entry.Charge told.rows ++ later))
      (inl (All-head (λ (l : List Meaning). 0 < length l) lines rest have)) runs.0.one_each
      (stand_here made first i lines rest stand)
      ∙ behind_items (row_in epoch) made entry.Effect i (map entry.Charge told.rows ++ later) (λ e. refl) told.effects
      ∙ ap (λ xs. xs ++ told_in_epoch (row_in epoch) made i (map entry.Charge told.rows ++ later))
      (none_kept (λ e. row_in epoch i (entry.Effect e)) (λ e. refl) told.effects)
      ∙ behind_items (row_in epoch) made entry.Charge i later (λ c. refl) told.rows
      ∙ ap (λ xs. xs ++ told_in_epoch (row_in epoch) made i later) own
      ∙ ap (λ xs. cond (i == epoch) told.rows [] ++ xs)
      (told_rows (i + 1) (first + length lines) i (behind before (told_in lines told)) rest others opens none
      (All-tail (λ (l : List Meaning). 0 < length l) lines rest have) runs.1 (stand_on made first i lines rest stand))

pub effects_stand : (setup : Setup) (slots : ℕ) (made : List (List Meaning)) (others : List EpochReport)
    (opens : List ChargeEntry) → All (λ (lines : List Meaning). 0 < length lines) made
    → AreEpochRuns setup slots 1 no_events made others → (epoch : ℕ)
    → effects_told made epoch (flat_map epoch_entries others ++ map entry.Charge opens)
    ≡ picked (λ (told : EpochReport). told.effects) epoch 0 others
effects_stand setup slots made others opens have runs epoch =
    told_effects setup slots made epoch 0 1 0 no_events made others opens have runs (stand_all made)

pub rows_stand : (setup : Setup) (slots : ℕ) (made : List (List Meaning)) (others : List EpochReport)
    (opens : List ChargeEntry) → filter_map as_row opens ≡ [] → All (λ (lines : List Meaning). 0 < length lines) made
    → AreEpochRuns setup slots 1 no_events made others → (epoch : ℕ)
    → rows_told made epoch (flat_map epoch_entries others ++ map entry.Charge opens)
    ≡ picked (λ (told : EpochReport). told.rows) epoch 0 others
rows_stand setup slots made others opens none have runs epoch =
    told_rows setup slots made epoch 0 1 0 no_events made others opens none have runs (stand_all made)

-- the entries of lines
lines_kept : (entries : List LineEntry) → filter_map as_line (map entry.Line entries) ≡ entries
lines_kept [] = refl
lines_kept (first ∷ entries) = ap (λ xs. first ∷ xs) (lines_kept entries)

pub lines_stand : (others : List EpochReport) (opens : List ChargeEntry)
    → line_entries (flat_map epoch_entries others ++ map entry.Charge opens) ≡ lines_all others
lines_stand [] opens = none_map as_line entry.Charge (λ c. refl) opens
lines_stand (told ∷ others) opens =
    let later = flat_map epoch_entries others ++ map entry.Charge opens in
    let apart : (epoch_entries told ++ flat_map epoch_entries others) ++ map entry.Charge opens
    ≡ map entry.Line told.lines ++ ((map entry.Effect told.effects ++ map entry.Charge told.rows) ++ later) =
    simp append_assoc in
    ap (filter_map as_line) apart
    ∙ filter_map-append as_line (map entry.Line told.lines)
    ((map entry.Effect told.effects ++ map entry.Charge told.rows) ++ later)
    ∙ ap (λ xs. xs ++ filter_map as_line ((map entry.Effect told.effects ++ map entry.Charge told.rows) ++ later))
    (lines_kept told.lines)
    ∙ ap (λ xs. told.lines ++ xs)
    (filter_map-append as_line (map entry.Effect told.effects ++ map entry.Charge told.rows) later
    ∙ ap (λ xs. xs ++ filter_map as_line later)
    (filter_map-append as_line (map entry.Effect told.effects) (map entry.Charge told.rows)
    ∙ ap (λ xs. xs ++ filter_map as_line (map entry.Charge told.rows))
    (none_map as_line entry.Effect (λ e. refl) told.effects)
    ∙ none_map as_line entry.Charge (λ c. refl) told.rows)
    ∙ lines_stand others opens)

-- the open counters
opens_kept : (charges : List ChargeEntry) → filter_map open_of (map entry.Charge charges) ≡ filter_map as_open charges
opens_kept [] = refl
opens_kept (charge.R slot row ∷ charges) = opens_kept charges
opens_kept (charge.O slot counters ∷ charges) = ap (λ xs. charge.O slot counters ∷ xs) (opens_kept charges)

pub opens_stand : (setup : Setup) (slots first : ℕ) (before : Histories) (made : List (List Meaning))
    (others : List EpochReport) (opens : List ChargeEntry) → AreEpochRuns setup slots first before made others
    → filter_map as_open opens ≡ opens
    → opens_told (flat_map epoch_entries others ++ map entry.Charge opens) ≡ opens
opens_stand setup slots first before [] [] opens runs whole = opens_kept opens ∙ whole
opens_stand setup slots first before [] (told ∷ others) opens runs whole = absurd runs
opens_stand setup slots first before (lines ∷ made) [] opens runs whole = absurd runs
opens_stand setup slots first before (lines ∷ made) (told ∷ others) opens runs whole =
    let later = flat_map epoch_entries others ++ map entry.Charge opens in
    let apart : (epoch_entries told ++ flat_map epoch_entries others) ++ map entry.Charge opens
    ≡ map entry.Line told.lines ++ (map entry.Effect told.effects ++ (map entry.Charge told.rows ++ later)) =
    simp append_assoc in
    let no_rows : filter_map as_open told.rows ≡ [] =
    ap (filter_map as_open) runs.0.rows ∙ (rows_are_rows slots before (events_now before lines told)).1 in
    ap (filter_map open_of) apart
    ∙ filter_map-append open_of (map entry.Line told.lines)
    (map entry.Effect told.effects ++ (map entry.Charge told.rows ++ later))
    ∙ ap (λ xs. xs ++ filter_map open_of (map entry.Effect told.effects ++ (map entry.Charge told.rows ++ later)))
    (none_map open_of entry.Line (λ l. refl) told.lines)
    ∙ filter_map-append open_of (map entry.Effect told.effects) (map entry.Charge told.rows ++ later)
    ∙ ap (λ xs. xs ++ filter_map open_of (map entry.Charge told.rows ++ later))
    (none_map open_of entry.Effect (λ e. refl) told.effects)
    ∙ filter_map-append open_of (map entry.Charge told.rows) later
    ∙ ap (λ xs. xs ++ filter_map open_of later) (opens_kept told.rows ∙ no_rows)
    ∙ opens_stand setup slots (first + length lines) (behind before (told_in lines told)) made others opens runs.1 whole

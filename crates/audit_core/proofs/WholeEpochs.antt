-- A piece whose entries are those of an epoch of a run is lawful.
use Rattle.std.proofs.Common.{◌≡◌, ℕ, ◌+◌, ◌-◌, ◌<◌, ◌≤◌, ◌||◌, nat_le, nat_lt, if◌then◌else◌, false, Option, None, Some, List, [], ◌∷◌, ◌++◌, find, length, map, refl, sym, ap, subst, ◌∙◌, arith, append-nil}
use Rattle.std.specs.Prelude.{Contains}
use Rattle.std.specs.List.{All, filter_map}
use Rattle.std.proofs.lemmas.Bool.{le-ltb, lt-leb}
use Rattle.std.proofs.lemmas.List.Elements.{All-contains_itself}
use Rattle.demux.specs.Trace.{Meaning}
use Rattle.report_lines.specs.Records.{Effected}
use Rattle.report_lines.specs.declared.entry.ChargeEntry.{ChargeEntry}
use Rattle.report_lines.specs.declared.entry.Entry.TheVariants as entry
use Rattle.report_lines.specs.declared.entry.LineEntry.{LineEntry}
use Rattle.lawful_run.specs.Answers.{AnswersAll}
use Rattle.lawful_run.specs.LinesTold.{LineTold, lines_told}
use Rattle.lawful_run.specs.Merging.{behind, events_in}
use Rattle.lawful_run.specs.Outcomes as made_of
use Rattle.lawful_run.specs.Report.{EpochReport, epoch_entries}
use Rattle.lawful_run.specs.Run.{IsEpochRun, by_slot, told_in as told_epoch}
use Rattle.lawful_run.proofs.Growing.{by_slot-more}
use Rattle.audit_core.specs.Agreeing.{of_slot, slot_effected}
use Rattle.audit_core.specs.Belonging.{effect_of, row_of}
use Rattle.audit_core.specs.Entries.{line_entries, line_of, opens_told, slot_charged}
use Rattle.audit_core.specs.Holding.{AreKnownTold, IsKnown}
use Rattle.audit_core.specs.Matched.{in_range}
use Rattle.audit_core.specs.Pieces.{HoldsIn, IsLawfulPiece, Piece, answers_in, is_elsewhere, led_by, opens_asked, told_in}
use Rattle.audit_core.specs.Sentences.{AreNumbered, AreOfTheGateway, CountsAreLawful, WaitsAreLawful, made_epoch}
use Rattle.audit_core.specs.declared.sentence.Sentence.{Sentence}
use Rattle.audit_core.specs.declared.sentence.Sentence.TheVariants as of
use Rattle.audit_core.proofs.LineOrder.{as_many, each_number, entries_told, line_is}
use Rattle.audit_core.proofs.NextEpoch.{known_told, told_means}
use Rattle.audit_core.proofs.Placed.{as_open, as_row, opens_stand}
use Rattle.audit_core.proofs.PlayLemmas.{no_events as none_in, no_rows}
use Rattle.audit_core.proofs.ShareLemmas.{none_shared}
use Rattle.audit_core.proofs.ThereLemmas.{counts_there, gateway_there, numbers_there, waits_there}
use Rattle.audit_core.proofs.WholeBlocks.{asked_if, asked_opens, effects_of_epoch, lines_of_epoch, rows_of_epoch, run_rows}

-- entries that answer its lines are of no others
none_elsewhere : (before count n : ℕ) (made : List Meaning) (entries : List LineEntry) → before < n
    → n + length made ≡ before + count + 1 → AnswersAll n made entries
    → find (is_elsewhere before count) entries ≡ None
none_elsewhere before count n [] [] low high answers = refl
none_elsewhere before count n [] (first ∷ entries) low high answers = absurd answers
none_elsewhere before count n (now ∷ made) [] low high answers = absurd answers
none_elsewhere before count n (now ∷ made) (first ∷ entries) low high answers =
    let its = line_is n now first answers.0 in
    let other : is_elsewhere before count first ≡ false =
    ap (λ t. t || nat_lt (before + count) (line_of first)) (lt-leb (line_of first) before (omega (arith, its, low)))
    ∙ le-ltb (before + count) (line_of first) (omega (arith, its, high)) in
    ap (λ t. if t then Some first else find (is_elsewhere before count) entries) other
    ∙ none_elsewhere before count (n + 1) made entries (omega (arith, low)) (omega (arith, high)) answers.1

module _ (own : Piece) (slots : ℕ) (told : EpochReport) (opens : List ChargeEntry) (low : own.slots ≤ slots)
    (known : All (IsKnown own.slots) own.made)
    (run : IsEpochRun own.setup slots (own.lines + 1) own.before own.made told)
    (entries_are : own.entries ≡ epoch_entries told ++ map entry.Charge opens)
    (asked : opens ≡ asked_if own.last own.slots (behind own.before (told_epoch own.made told))) where
  abbrev pub its : List LineTold
  its = told_epoch own.made told

  lines_are : line_entries own.entries ≡ told.lines
  lines_are = ap line_entries entries_are ∙ lines_of_epoch told opens

  answers_are : answers_in own ≡ told.lines
  answers_are =
      ap (in_range (own.lines + 1) (length own.made)) lines_are
      ∙ each_number (own.lines + 1) own.made told.lines run.one_each

  pub told_are : told_in own ≡ its
  told_are = ap (lines_told own.made) answers_are

  known_in : AreKnownTold own.slots its
  known_in =
      known_told own.slots its own.made
      (told_means own.made told.lines (as_many (own.lines + 1) own.made told.lines run.one_each)) known

  -- slots that its lines aren't about change nothing
  at : own.slots + (slots - own.slots) ≡ slots
  at = omega (arith, low)

  effects_are : told.effects ≡ by_slot own.slots (λ slot. made_of.effects slot (own.before slot)
      (events_in (own.before slot) its slot))
  effects_are =
      run.effects
      ∙ ap (λ n. by_slot n (λ slot. made_of.effects slot (own.before slot) (events_in (own.before slot) its slot)))
      (sym at)
      ∙ by_slot-more own.slots (slots - own.slots)
      (λ slot. made_of.effects slot (own.before slot) (events_in (own.before slot) its slot))
      (λ slot past. ap (made_of.effects slot (own.before slot))
      (none_in slot (own.before slot) its (none_shared own.slots slot its known_in past)))

  rows_are : told.rows ≡ by_slot own.slots (λ slot. made_of.rows slot (own.before slot)
      (events_in (own.before slot) its slot))
  rows_are =
      run.rows
      ∙ ap (λ n. by_slot n (λ slot. made_of.rows slot (own.before slot) (events_in (own.before slot) its slot)))
      (sym at)
      ∙ by_slot-more own.slots (slots - own.slots)
      (λ slot. made_of.rows slot (own.before slot) (events_in (own.before slot) its slot))
      (λ slot past. ap (made_of.rows slot (own.before slot))
      (none_in slot (own.before slot) its (none_shared own.slots slot its known_in past))
      ∙ no_rows slot (own.before slot))

  lines_so : map (λ (t : LineTold). t.entry) its ≡ told.lines
  lines_so = entries_told (own.lines + 1) own.made told.lines run.one_each

  -- what its events make is the epoch
  led_is : led_by own ≡ told
  led_is =
      ap (made_epoch own.slots own.before) told_are
      ∙ (λ i. record { lines = lines_so i; effects = sym effects_are i; rows = sym rows_are i })

  asked_is : opens ≡ opens_asked own
  asked_is = asked ∙ ap (λ (l : List LineTold). asked_if own.last own.slots (behind own.before l)) (sym told_are)

  quiet : (filter_map as_row opens ≡ []) × (filter_map as_open opens ≡ opens)
  quiet =
      let so = asked_opens own.last own.slots (behind own.before its) in
      (ap (filter_map as_row) asked ∙ so.0, ap (filter_map as_open) asked ∙ so.1 ∙ sym asked)

  effects_told : filter_map effect_of own.entries ≡ (led_by own).effects
  effects_told =
      ap (filter_map effect_of) entries_are ∙ effects_of_epoch told opens
      ∙ ap (λ (e : EpochReport). e.effects) (sym led_is)

  rows_told : filter_map row_of own.entries ≡ (led_by own).rows
  rows_told =
      ap (filter_map row_of) entries_are
      ∙ rows_of_epoch told opens
      (run_rows own.setup slots (own.lines + 1) own.before own.made told run).0 quiet.0
      ∙ ap (λ (e : EpochReport). e.rows) (sym led_is)

  opens_so : opens_told own.entries ≡ opens_asked own
  opens_so =
      ap opens_told (entries_are ∙ ap (λ es. es ++ map entry.Charge opens) (sym (append-nil (epoch_entries told))))
      ∙ opens_stand own.setup slots (own.lines + 1) own.before (own.made ∷ []) (told ∷ []) opens (run, tt) quiet.1
      ∙ asked_is

  pub lawful_piece : IsLawfulPiece own
  lawful_piece of.Entries = tt
  lawful_piece of.Answers = subst (AnswersAll (own.lines + 1) own.made) (sym answers_are) run.one_each
  lawful_piece of.Outside =
      ap (find (is_elsewhere own.lines (length own.made))) lines_are
      ∙ none_elsewhere own.lines (length own.made) (own.lines + 1) own.made told.lines (omega arith) (omega arith)
      run.one_each
  lawful_piece of.Numbers =
      subst (AreNumbered own.before) (sym told_are)
      (numbers_there own.setup slots (own.lines + 1) own.before own.made told run)
  lawful_piece of.Counts =
      subst (CountsAreLawful own.before) (sym told_are)
      (counts_there own.setup slots (own.lines + 1) own.before own.made told run)
  lawful_piece of.Gateway =
      subst (AreOfTheGateway own.before) (sym told_are)
      (gateway_there own.setup slots (own.lines + 1) own.before own.made told run)
  lawful_piece of.Effects = λ slot. ap (of_slot slot_effected slot) effects_told
  lawful_piece of.Rows = λ slot. ap (of_slot slot_charged slot) rows_told
  lawful_piece of.Opens = record {
    each = subst (λ xs. All (Contains xs) (opens_asked own)) (sym opens_so) (All-contains_itself (opens_asked own));
    as_many = ap length opens_so;
  }
  lawful_piece of.Waits =
      subst (WaitsAreLawful own.setup own.before) (sym told_are)
      (waits_there own.setup slots (own.lines + 1) own.before own.made told run)
  lawful_piece of.Order =
      entries_are ∙ (λ i. epoch_entries (sym led_is i) ++ map entry.Charge (asked_is i))

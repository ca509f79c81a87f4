-- Of a lawful run all six sentences hold.
use Rattle.std.proofs.Common.{◌≡◌, ℕ, zero, suc, ◌+◌, ◌==◌, ◌<◌, ◌≤◌, List, [], ◌∷◌, ◌++◌, length, cond, refl, sym, ap, ◌∙◌, subst, arith, append-nil, All}
use Rattle.std.specs.List.{filter, filter_map}
use Rattle.std.proofs.lemmas.Bool.{eq-eqb, ne_eqb}
use Rattle.std.proofs.lemmas.List.Elements.{All-contains_itself}
use Rattle.std.specs.Prelude.{Contains}
use Rattle.demux.specs.Trace.{Meaning}
use Rattle.report_lines.specs.Records.{Effected}
use Rattle.report_lines.specs.declared.entry.ChargeEntry.{ChargeEntry}
use Rattle.report_lines.specs.declared.entry.Entry.{Entry}
use Rattle.report_lines.specs.declared.entry.LineEntry.{LineEntry}
use Rattle.report_lines.specs.declared.entry.LineEntry.TheVariants as line
use Rattle.lawful_run.specs.Answers.{AnswersAll}
use Rattle.lawful_run.specs.Bounds.{MeetsBounds, MeetsAs}
use Rattle.lawful_run.specs.Setup.{Setup, solo, sliced}
use Rattle.lawful_run.specs.LinesTold.{LineTold}
use Rattle.lawful_run.specs.Merging.{Histories}
use Rattle.lawful_run.specs.Outcomes as made_of
use Rattle.lawful_run.specs.Report.{EpochReport, Report, entries_of}
use Rattle.lawful_run.specs.Run.{told_in, IsEpochRun, IsRun, by_slot, no_events, behind_all}
use Rattle.lawful_run.specs.Telling.{reply_told, verdict_told}
use Rattle.lawful_run.proofs.Lawful.{each_gives, meets_in_sequence}
use Rattle.audit_core.proofs.LineKinds.{told_entries}
use Rattle.audit_core.proofs.TogetherLemmas.{numbers_of_slots, counts_of_slots}
use Rattle.audit_core.specs.Entries.{line_entries, in_line_order, cut, all_lines, effects_told, rows_told, opens_told, slot_charged}
use Rattle.audit_core.specs.Lawful.{HaveLines}
use Rattle.audit_core.specs.Sentences.{LinesAreAnswered, told_epochs, EachEpoch, AreNumbered, CountsAreLawful, AreOfTheGateway, made_report, behind_epochs, EffectsAre, RowsAre, ChargesAre, WaitsAreLawful, Sentence}
use Rattle.audit_core.proofs.EpochLines.{told_all, lines_all, runs_answer, cut_is, made_is, each_epoch, behind_is}
use Rattle.audit_core.proofs.LineOrder.{in_order_already, as_many}
use Rattle.audit_core.proofs.Placed.{as_row, as_open, opens_are_opens, picked, effects_stand, rows_stand, lines_stand, opens_stand}

-- what an epoch has among all, counted from one that isn't behind it
picked_none : {X : Type 0} (of : EpochReport → List X) (epoch i : ℕ) (others : List EpochReport) → epoch < i
    → picked of epoch i others ≡ []
picked_none of epoch i [] below = refl
picked_none of epoch i (told ∷ others) below =
    ap (λ test. cond test (of told) [] ++ picked of epoch (i + 1) others)
    (ne_eqb i epoch (λ same. omega (arith, same, below)))
    ∙ picked_none of epoch (i + 1) others (omega (arith, below))

picked_first : {X : Type 0} (of : EpochReport → List X) (i : ℕ) (told : EpochReport) (others : List EpochReport)
    → picked of i i (told ∷ others) ≡ of told
picked_first of i told others =
    ap (λ test. cond test (of told) [] ++ picked of i (i + 1) others) (eq-eqb i i refl)
    ∙ ap (λ xs. of told ++ xs) (picked_none of i (i + 1) others (omega arith)) ∙ append-nil (of told)

picked_later : {X : Type 0} (of : EpochReport → List X) (epoch i : ℕ) (told : EpochReport) (others : List EpochReport)
    → i < epoch → picked of epoch i (told ∷ others) ≡ picked of epoch (i + 1) others
picked_later of epoch i told others above =
    ap (λ test. cond test (of told) [] ++ picked of epoch (i + 1) others)
    (ne_eqb i epoch (λ same. omega (arith, same, above)))

-- so the effects and the charging records are those of their epochs
effects_are : (made : List (List Meaning)) (entries : List Entry) (i : ℕ) (others : List EpochReport)
    → ((epoch : ℕ) → i ≤ epoch
    → effects_told made epoch entries ≡ picked (λ (told : EpochReport). told.effects) epoch i others)
    → EffectsAre made entries i others
effects_are made entries i [] are = λ later. are (i + later) (omega arith)
effects_are made entries i (told ∷ others) are = (
  (λ slot. ap (filter (λ (e : Effected). e.slot == slot))
      (are i (omega arith) ∙ picked_first (λ (t : EpochReport). t.effects) i told others)),
  effects_are made entries (i + 1) others (λ epoch above. are epoch (omega (arith, above))
      ∙ picked_later (λ (t : EpochReport). t.effects) epoch i told others (omega (arith, above))),
)

rows_are : (made : List (List Meaning)) (entries : List Entry) (i : ℕ) (others : List EpochReport)
    → ((epoch : ℕ) → i ≤ epoch
    → rows_told made epoch entries ≡ picked (λ (told : EpochReport). told.rows) epoch i others)
    → RowsAre made entries i others
rows_are made entries i [] are = λ later. are (i + later) (omega arith)
rows_are made entries i (told ∷ others) are = (
  (λ slot. ap (filter (λ r. slot_charged r == slot))
      (are i (omega arith) ∙ picked_first (λ (t : EpochReport). t.rows) i told others)),
  rows_are made entries (i + 1) others (λ epoch above. are epoch (omega (arith, above))
      ∙ picked_later (λ (t : EpochReport). t.rows) epoch i told others (omega (arith, above))),
)

-- the counts of a run on one thread lie within the bounds that slices have
solo_within : (start : Histories) (before : List LineTold) (entry : LineEntry) (later : List LineTold)
    → MeetsAs solo start before entry later → MeetsAs (sliced 1 1 1) start before entry later
solo_within start before (line.N noted) later meets = tt
solo_within start before (line.C answered) later meets = tt
solo_within start before (line.P judged) later meets =
    meets_in_sequence (sliced 1 1 1) start judged.slot before later judged.commands meets
solo_within start before (line.F refused) later meets = tt

pub counts_there : (setup : Setup) (slots first : ℕ) (before : Histories) (now : List Meaning) (told : EpochReport)
    → IsEpochRun setup slots first before now told → CountsAreLawful before (told_in now told)
counts_there solo slots first before now told run =
    (counts_of_slots 1 1 1 before first now told.lines run.one_each).0 (record {
      counts_rise = run.counts_rise;
      bounds = each_gives (MeetsBounds solo before) (MeetsBounds (sliced 1 1 1) before)
          (λ prefix this later. solo_within before prefix this.entry later) [] (told_in now told) run.bounds;
    })
counts_there (sliced slices room lane) slots first before now told run =
    (counts_of_slots slices room lane before first now told.lines run.one_each).0
    (record { counts_rise = run.counts_rise; bounds = run.bounds })

module _ (setup : Setup) (slots : ℕ) where
  pub numbers_there : (first : ℕ) (before : Histories) (now : List Meaning) (told : EpochReport)
      → IsEpochRun setup slots first before now told → AreNumbered before (told_in now told)
  numbers_there first before now told run =
      (numbers_of_slots before first now told.lines run.one_each).0
      (record { command_numbers = run.command_numbers; packet_numbers = run.packet_numbers })

  pub gateway_there : (first : ℕ) (before : Histories) (now : List Meaning) (told : EpochReport)
      → IsEpochRun setup slots first before now told → AreOfTheGateway before (told_in now told)
  gateway_there first before now told run = record {
    replies = λ slot. told_entries (reply_told slot) first now told.lines run.one_each ∙ run.replies slot;
    verdicts = λ slot. told_entries (verdict_told slot) first now told.lines run.one_each ∙ run.verdicts slot;
  }

  pub waits_there : (first : ℕ) (before : Histories) (now : List Meaning) (told : EpochReport)
      → IsEpochRun setup slots first before now told → WaitsAreLawful setup before (told_in now told)
  waits_there first before now told run =
      record { refusals = run.refusals; parking = run.parking; counts = run.bounds }

  -- what holds of the lines of each epoch of a run
  module _ (made : List (List Meaning)) (report : Report) (have : HaveLines made)
      (run : IsRun setup slots made report) where
    answered : AnswersAll 1 (all_lines made) (lines_all report.epochs)
    answered = runs_answer setup slots 1 no_events made report.epochs run.epochs

    in_order : in_line_order (length (all_lines made)) (line_entries (entries_of report)) ≡ lines_all report.epochs
    in_order =
        ap (in_line_order (length (all_lines made))) (lines_stand report.epochs report.opens)
        ∙ in_order_already (all_lines made) (lines_all report.epochs) answered

    cut_there : told_epochs made (entries_of report) ≡ told_all made report.epochs
    cut_there =
        ap (cut made) in_order ∙ cut_is setup slots 1 no_events made report.epochs run.epochs

    made_there : made_report slots (told_epochs made (entries_of report)) ≡ report
    made_there =
        ap (made_report slots) cut_there
        ∙ ap (λ (xs : List EpochReport). record {
          epochs = xs;
          opens = by_slot slots (λ slot.
              made_of.opens slot (behind_epochs no_events (told_all made report.epochs) slot));
        }) (made_is setup slots 1 no_events made report.epochs run.epochs)
        ∙ ap (λ (xs : List ChargeEntry). record { epochs = report.epochs; opens = xs })
        (ap (λ (behind : Histories). by_slot slots (λ slot. made_of.opens slot (behind slot)))
        (behind_is no_events made report.epochs) ∙ sym run.opens)

    each : (P : Histories → List LineTold → Type 0)
        → ((first : ℕ) (before : Histories) (now : List Meaning) (told : EpochReport)
        → IsEpochRun setup slots first before now told → P before (told_in now told))
        → EachEpoch P no_events (told_epochs made (entries_of report))
    each P gives =
        subst (EachEpoch P no_events) (sym cut_there)
        (each_epoch setup slots P gives 1 no_events made report.epochs run.epochs)

    pub first_there : LinesAreAnswered made (entries_of report)
    first_there = record {
      answers = subst (AnswersAll 1 (all_lines made)) (sym in_order) answered;
      no_others = ap length (lines_stand report.epochs report.opens)
          ∙ as_many 1 (all_lines made) (lines_all report.epochs) answered;
    }

    opens_whole : opens_told (entries_of report) ≡ report.opens
    opens_whole =
        let open_ = opens_are_opens slots (behind_all no_events made report.epochs) in
        opens_stand setup slots 1 no_events made report.epochs report.opens run.epochs
        (ap (λ xs. filter_map as_open xs) run.opens ∙ open_.1 ∙ sym run.opens)

    charges_there : ChargesAre made (entries_of report) report
    charges_there =
        let open_ = opens_are_opens slots (behind_all no_events made report.epochs) in
        let none : filter_map as_row report.opens ≡ [] = ap (λ xs. filter_map as_row xs) run.opens ∙ open_.0 in record {
          effects = effects_are made (entries_of report) 0 report.epochs (λ epoch above.
              effects_stand setup slots made report.epochs report.opens have run.epochs epoch);
          rows = rows_are made (entries_of report) 0 report.epochs (λ epoch above.
              rows_stand setup slots made report.epochs report.opens none have run.epochs epoch);
          opens = subst (λ xs. All (Contains xs) report.opens) (sym opens_whole) (All-contains_itself report.opens);
          as_many = ap length opens_whole;
        }

    pub sentences_there : (k : ℕ) → Sentence setup slots made (entries_of report) k
    sentences_there zero = tt
    sentences_there (suc zero) = first_there
    sentences_there (suc (suc zero)) = each AreNumbered numbers_there
    sentences_there (suc (suc (suc zero))) = each CountsAreLawful (counts_there setup slots)
    sentences_there (suc (suc (suc (suc zero)))) = each AreOfTheGateway gateway_there
    sentences_there (suc (suc (suc (suc (suc zero))))) =
        subst (ChargesAre made (entries_of report)) (sym made_there) charges_there
    sentences_there (suc (suc (suc (suc (suc (suc zero)))))) = record {
      waits = each (WaitsAreLawful setup) waits_there;
      order = ap entries_of (sym made_there);
    }
    sentences_there (suc (suc (suc (suc (suc (suc (suc k))))))) = tt

-- The lines of each epoch with their entries, as they stand in a run, and as they are cut.
use Rattle.std.proofs.Common.{◌≡◌, ℕ, ◌+◌, List, [], ◌∷◌, ◌++◌, length, drop, refl, sym, ap, ◌∙◌}
use Rattle.std.specs.List.{flat_map}
use Rattle.std.proofs.lemmas.List.{take_at, drop_at}
use Rattle.demux.specs.Trace.{Meaning}
use Rattle.report_lines.specs.Records.{Effected}
use Rattle.report_lines.specs.declared.entry.ChargeEntry.{ChargeEntry}
use Rattle.report_lines.specs.declared.entry.LineEntry.{LineEntry}
use Rattle.lawful_run.specs.Answers.{AnswersAll}
use Rattle.lawful_run.specs.Setup.{Setup}
use Rattle.lawful_run.specs.LinesTold.{LineTold, lines_told}
use Rattle.lawful_run.specs.Merging.{Histories, behind}
use Rattle.lawful_run.specs.Report.{EpochReport}
use Rattle.lawful_run.specs.Run.{told_in, IsEpochRun, AreEpochRuns, behind_all}
use Rattle.audit_core.specs.Entries.{all_lines, cut}
use Rattle.audit_core.specs.Sentences.{EachEpoch, made_epoch, made_epochs, behind_epochs}
use Rattle.audit_core.proofs.LineOrder.{as_many, entries_told, answers_both}

abbrev pub told_all : List (List Meaning) → List EpochReport → List (List LineTold)
told_all [] others = []
told_all (made ∷ epochs) [] = []
told_all (made ∷ epochs) (told ∷ others) = told_in made told ∷ told_all epochs others

abbrev pub lines_all : List EpochReport → List LineEntry
lines_all others = flat_map (λ (told : EpochReport). told.lines) others

module _ (setup : Setup) (slots : ℕ) where
  -- in a run all lines are answered
  pub runs_answer : (first : ℕ) (before : Histories) (made : List (List Meaning)) (others : List EpochReport)
      → AreEpochRuns setup slots first before made others → AnswersAll first (all_lines made) (lines_all others)
  runs_answer first before [] [] runs = tt
  runs_answer first before [] (told ∷ others) runs = absurd runs
  runs_answer first before (now ∷ made) [] runs = absurd runs
  runs_answer first before (now ∷ made) (told ∷ others) runs =
      answers_both first (first + length now) now (all_lines made) told.lines (lines_all others) refl
      runs.0.one_each
      (runs_answer (first + length now) (behind before (told_in now told)) made others runs.1)

  -- and cut into its epochs
  pub cut_is : (first : ℕ) (before : Histories) (made : List (List Meaning)) (others : List EpochReport)
      → AreEpochRuns setup slots first before made others → cut made (lines_all others) ≡ told_all made others
  cut_is first before [] [] runs = refl
  cut_is first before [] (told ∷ others) runs = absurd runs
  cut_is first before (now ∷ made) [] runs = absurd runs
  cut_is first before (now ∷ made) (told ∷ others) runs =
      let many = as_many first now told.lines runs.0.one_each in
      ap (λ xs. lines_told now xs ∷ cut made (drop (length now) (told.lines ++ lines_all others)))
      (take_at told.lines (lines_all others) (length now) many)
      ∙ ap (λ xs. lines_told now told.lines ∷ xs) (ap (cut made)
      (drop_at told.lines (lines_all others) (length now) many)
      ∙ cut_is (first + length now) (behind before (told_in now told)) made others runs.1)

  -- what its events make is what it has
  epoch_is : (before : Histories) (now : List Meaning) (told : EpochReport) (first : ℕ)
      → IsEpochRun setup slots first before now told → made_epoch slots before (told_in now told) ≡ told
  epoch_is before now told first run =
      let made = made_epoch slots before (told_in now told) in
      ap (λ (xs : List LineEntry). record { lines = xs; effects = made.effects; rows = made.rows })
      (entries_told first now told.lines run.one_each)
      ∙ ap (λ (xs : List Effected). record { lines = told.lines; effects = xs; rows = made.rows }) (sym run.effects)
      ∙ ap (λ (xs : List ChargeEntry). record { lines = told.lines; effects = told.effects; rows = xs }) (sym run.rows)

  pub made_is : (first : ℕ) (before : Histories) (made : List (List Meaning)) (others : List EpochReport)
      → AreEpochRuns setup slots first before made others → made_epochs slots before (told_all made others) ≡ others
  made_is first before [] [] runs = refl
  made_is first before [] (told ∷ others) runs = absurd runs
  made_is first before (now ∷ made) [] runs = absurd runs
  made_is first before (now ∷ made) (told ∷ others) runs =
      ap (λ (epoch : EpochReport). epoch ∷ made_epochs slots (behind before (told_in now told)) (told_all made others))
      (epoch_is before now told first runs.0)
      ∙ ap (λ xs. told ∷ xs) (made_is (first + length now) (behind before (told_in now told)) made others runs.1)

  -- what each epoch of a run gives
  pub each_epoch : (P : Histories → List LineTold → Type 0)
      → ((first : ℕ) (before : Histories) (now : List Meaning) (told : EpochReport)
      → IsEpochRun setup slots first before now told → P before (told_in now told))
      → (first : ℕ) (before : Histories) (made : List (List Meaning)) (others : List EpochReport)
      → AreEpochRuns setup slots first before made others → EachEpoch P before (told_all made others)
  each_epoch P gives first before [] [] runs = tt
  each_epoch P gives first before [] (told ∷ others) runs = absurd runs
  each_epoch P gives first before (now ∷ made) [] runs = absurd runs
  each_epoch P gives first before (now ∷ made) (told ∷ others) runs = (
    gives first before now told runs.0,
    each_epoch P gives (first + length now) (behind before (told_in now told)) made others runs.1,
  )

pub behind_is : (before : Histories) (made : List (List Meaning)) (others : List EpochReport)
    → behind_epochs before (told_all made others) ≡ behind_all before made others
behind_is before [] others = refl
behind_is before (now ∷ made) [] = refl
behind_is before (now ∷ made) (told ∷ others) = behind_is (behind before (told_in now told)) made others

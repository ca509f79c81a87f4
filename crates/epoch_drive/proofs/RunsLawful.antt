-- Driven runs, epoch after epoch.
use Rattle.std.proofs.Common.{◌≡◌, ℕ, ◌+◌, ◌%◌, List, [], ◌∷◌, length, drop, refl, sym, ap, subst, ◌∙◌}
use Rattle.demux.specs.Trace.{Meaning}
use Rattle.lawful_run.specs.Merging.{Histories, behind}
use Rattle.lawful_run.specs.Outcomes as made_of
use Rattle.lawful_run.specs.Report.{EpochReport}
use Rattle.lawful_run.specs.Run.{told_in, by_slot, behind_all, no_events, AreEpochRuns}
use Rattle.lawful_run.specs.Setup.{sliced}
use Rattle.epoch_schedule.specs.World.{Rooms}
use Rattle.epoch_drive.specs.Runs.{bounds_behind, next_turns, AreDriven, DrivenRunsAreLawful, OneRunIsDriven, EachRunIsDriven}
use Rattle.epoch_drive.proofs.Lawful.{driven_lawful}
use Rattle.epoch_drive.proofs.One.{one_driven}
use Rattle.epoch_drive.proofs.There.{each_driven}

epochs_lawful : (slices room lane : ℕ) (bounds : ℕ → ℕ) (turns : List (List (List ℕ))) (slots first : ℕ)
    (before : Histories) (made : List (List Meaning)) (told : List EpochReport)
    → AreDriven (record { room = room; lane = lane }) bounds turns slots first before made told
    → AreEpochRuns (sliced slices room lane) slots first before made told
epochs_lawful slices room lane bounds turns slots first before [] [] are = tt
epochs_lawful slices room lane bounds turns slots first before [] (now ∷ told) are = absurd are
epochs_lawful slices room lane bounds turns slots first before (lines ∷ made) [] are = absurd are
epochs_lawful slices room lane bounds turns slots first before (lines ∷ made) (now ∷ told) are = (
  driven_lawful slices room lane bounds (next_turns turns) slots first before lines now are.0,
  epochs_lawful slices room lane (bounds_behind bounds lines) (drop 1 turns) slots (first + length lines)
      (behind before (told_in lines now)) made told are.1,
)

pub runs_lawful : DrivenRunsAreLawful
runs_lawful slices room lane turns slots made report is = record {
  epochs = epochs_lawful slices room lane (λ slot. slot % slices) turns slots 1 no_events made report.epochs is.epochs;
  opens = is.opens;
}

epochs_same : (rooms : Rooms) (bounds : ℕ → ℕ) (turns : List (List (List ℕ))) (slots first : ℕ)
    (before : Histories) (made : List (List Meaning)) (ones others : List EpochReport)
    → AreDriven rooms bounds turns slots first before made ones
    → AreDriven rooms bounds turns slots first before made others → ones ≡ others
epochs_same rooms bounds turns slots first before [] [] [] are also = refl
epochs_same rooms bounds turns slots first before [] [] (other ∷ others) are also = absurd also
epochs_same rooms bounds turns slots first before [] (one ∷ ones) others are also = absurd are
epochs_same rooms bounds turns slots first before (lines ∷ made) [] others are also = absurd are
epochs_same rooms bounds turns slots first before (lines ∷ made) (one ∷ ones) [] are also = absurd also
epochs_same rooms bounds turns slots first before (lines ∷ made) (one ∷ ones) (other ∷ others) are also =
    let same = one_driven rooms bounds (next_turns turns) slots first before lines one other are.0 also.0 in
    let rest = epochs_same rooms (bounds_behind bounds lines) (drop 1 turns) slots (first + length lines)
    (behind before (told_in lines one)) made ones others are.1
    (subst (λ now. AreDriven rooms (bounds_behind bounds lines) (drop 1 turns) slots (first + length lines)
    (behind before (told_in lines now)) made others) (sym same) also.1) in
    λ i. same i ∷ rest i

pub one_run : OneRunIsDriven
one_run rooms slices turns slots made one other is also =
    let same = epochs_same rooms (λ slot. slot % slices) turns slots 1 no_events made one.epochs other.epochs is.epochs
    also.epochs in
    let opens : one.opens ≡ other.opens = is.opens
    ∙ ap (λ epochs. by_slot slots (λ slot. made_of.opens slot (behind_all no_events made epochs slot))) same
    ∙ sym also.opens in
    λ i. record { epochs = same i; opens = opens i }

epochs_there : (rooms : Rooms) (bounds : ℕ → ℕ) (turns : List (List (List ℕ))) (slots first : ℕ)
    (before : Histories) (made : List (List Meaning))
    → (told : List EpochReport) × AreDriven rooms bounds turns slots first before made told
epochs_there rooms bounds turns slots first before [] = ([], tt)
epochs_there rooms bounds turns slots first before (lines ∷ made) =
    let one = each_driven rooms bounds (next_turns turns) slots first before lines in
    let rest = epochs_there rooms (bounds_behind bounds lines) (drop 1 turns) slots (first + length lines)
    (behind before (told_in lines one.0)) made in
    (one.0 ∷ rest.0, (one.1, rest.1))

pub run_there : EachRunIsDriven
run_there rooms slices turns slots made =
    let epochs = epochs_there rooms (λ slot. slot % slices) turns slots 1 no_events made in (
      record {
        epochs = epochs.0;
        opens = by_slot slots (λ slot. made_of.opens slot (behind_all no_events made epochs.0 slot));
      },
      record { epochs = epochs.1; opens = refl },
    )

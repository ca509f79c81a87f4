-- One more epoch behind those that were driven.
use Rattle.std.proofs.Common.{◌≡◌, ℕ, zero, suc, ◌+◌, ◌*◌, List, [], ◌∷◌, ◌++◌, length, drop, replicate, refl, sym, ap, ◌∙◌, arith}
use Rattle.trace_lines.specs.Line.{Line}
use Rattle.demux.specs.Trace.{Meaning}
use Rattle.lawful_run.specs.Merging.{Histories, behind}
use Rattle.lawful_run.specs.Report.{EpochReport}
use Rattle.lawful_run.specs.Run.{behind_all, told_in}
use Rattle.lawful_run.specs.Trace.{meant_epochs}
use Rattle.lawful_run.proofs.MoreEpochs.{first_behind}
use Rattle.epoch_schedule.specs.Turns.{state_behind}
use Rattle.epoch_schedule.specs.World.{Rooms}
use Rattle.epoch_schedule.specs.TurnsTold.{drawn_told}
use Rattle.epoch_drive.specs.Driven.{IsDriven}
use Rattle.epoch_drive.specs.Runs.{AreDriven, bounds_behind}
use Rattle.drive_command.specs.Driven.{Turns, listed, drawn, bounds_all, turns_by_epoch, turns_for, turns_left, turns_past}

-- how many there are
pub told_length : (rooms : Rooms) (bounds : ℕ → ℕ) (given : List (List (List ℕ))) (slots first : ℕ) (before : Histories)
    (made : List (List Meaning)) (told : List EpochReport)
    → AreDriven rooms bounds given slots first before made told → length told ≡ length made
told_length rooms bounds given slots first before [] [] are = refl
told_length rooms bounds given slots first before [] (now ∷ told) are = absurd are
told_length rooms bounds given slots first before (now ∷ made) [] are = absurd are
told_length rooms bounds given slots first before (now ∷ made) (entry ∷ told) are =
    ap suc (told_length rooms (bounds_behind bounds now) (drop 1 given) slots (first + length now)
    (behind before (told_in now entry)) made told are.1)

-- one more is driven
pub driven-push : (rooms : Rooms) (bounds : ℕ → ℕ) (given : List (List (List ℕ))) (last : List (List ℕ))
    (slots first : ℕ) (before : Histories) (made : List (List Meaning)) (next : List Meaning) (told : List EpochReport)
    (entry : EpochReport) → length given ≡ length made
    → AreDriven rooms bounds given slots first before made told
    → IsDriven rooms (bounds_all bounds made) last slots (first_behind first made) (behind_all before made told) next entry
    → AreDriven rooms bounds (given ++ last ∷ []) slots first before (made ++ next ∷ []) (told ++ entry ∷ [])
driven-push rooms bounds [] last slots first before [] next [] entry same are is = (is, tt)
driven-push rooms bounds (one ∷ given) last slots first before [] next told entry same are is =
    absurd (omega (arith, same))
driven-push rooms bounds [] last slots first before [] next (now ∷ told) entry same are is = absurd are
driven-push rooms bounds [] last slots first before (now ∷ made) next told entry same are is =
    absurd (omega (arith, same))
driven-push rooms bounds (one ∷ given) last slots first before (now ∷ made) next [] entry same are is = absurd are
driven-push rooms bounds (one ∷ given) last slots first before (now ∷ made) next (own ∷ told) entry same are is = (
  are.0,
  driven-push rooms (bounds_behind bounds now) given last slots (first + length now) (behind before (told_in now own))
      made next told entry (omega (arith, same)) are.1 is,
)

pub bounds_all-push : (bounds : ℕ → ℕ) (made : List (List Meaning)) (next : List Meaning)
    → bounds_all bounds (made ++ next ∷ []) ≡ bounds_behind (bounds_all bounds made) next
bounds_all-push bounds [] next = refl
bounds_all-push bounds (now ∷ made) next = bounds_all-push (bounds_behind bounds now) made next

length-meant_epochs : (slices : ℕ) (before : List Line) (closed : List (List Line))
    → length (meant_epochs slices before closed) ≡ length closed
length-meant_epochs slices before [] = refl
length-meant_epochs slices before (epoch ∷ closed) = ap suc (length-meant_epochs slices (before ++ epoch) closed)

length-turns_by_epoch : (turns : Turns) (slices : ℕ) (closed : List (List Line))
    → length (turns_by_epoch turns slices closed) ≡ length closed
length-turns_by_epoch turns slices [] = refl
length-turns_by_epoch turns slices (epoch ∷ closed) =
    ap suc (length-turns_by_epoch (turns_past turns (length epoch)) slices closed)

pub same_many : (turns : Turns) (slices : ℕ) (closed : List (List Line))
    → length (turns_by_epoch turns slices closed) ≡ length (meant_epochs slices [] closed)
same_many turns slices closed = length-turns_by_epoch turns slices closed ∙ sym (length-meant_epochs slices [] closed)

pub turns_by_epoch-push : (turns : Turns) (slices : ℕ) (closed : List (List Line)) (epoch : List Line)
    → turns_by_epoch turns slices (closed ++ epoch ∷ []) ≡ turns_by_epoch turns slices closed
    ++ turns_for (turns_left turns closed) slices (length epoch) ∷ []
turns_by_epoch-push turns slices [] epoch = refl
turns_by_epoch-push turns slices (first ∷ closed) epoch =
    ap (λ more. turns_for turns slices (length first) ∷ more)
    (turns_by_epoch-push (turns_past turns (length first)) slices closed epoch)

pub turns_left-push : (turns : Turns) (closed : List (List Line)) (epoch : List Line)
    → turns_left turns (closed ++ epoch ∷ []) ≡ turns_past (turns_left turns closed) (length epoch)
turns_left-push turns [] epoch = refl
turns_left-push turns (first ∷ closed) epoch = turns_left-push (turns_past turns (length first)) closed epoch

-- each line has its turns
drawn_many : (limit per state n : ℕ) → length (drawn_told limit per state n) ≡ n
drawn_many limit per state zero = refl
drawn_many limit per state (suc n) = ap suc (drawn_many limit per (state_behind state per) n)

replicated : {X : Type 0} (n : ℕ) (x : X) → length (replicate n x) ≡ n
replicated zero x = refl
replicated (suc n) x = ap suc (replicated n x)

pub length-turns_for : (turns : Turns) (slices n : ℕ) → length (turns_for turns slices n) ≡ n
length-turns_for (listed workers) slices n = replicated n workers
length-turns_for (drawn state per) slices n = drawn_many (2 * slices) per state n

-- no turns told for the last epoch are none
pub driven_untold : (rooms : Rooms) (bounds : ℕ → ℕ) (given : List (List (List ℕ))) (slots first : ℕ)
    (before : Histories) (made : List (List Meaning)) (told : List EpochReport)
    → AreDriven rooms bounds (given ++ [] ∷ []) slots first before made told
    → AreDriven rooms bounds given slots first before made told
driven_untold rooms bounds given slots first before [] [] are = tt
driven_untold rooms bounds given slots first before [] (entry ∷ told) are = absurd are
driven_untold rooms bounds given slots first before (now ∷ made) [] are = absurd are
driven_untold rooms bounds [] slots first before (now ∷ made) (entry ∷ told) are = are
driven_untold rooms bounds (one ∷ given) slots first before (now ∷ made) (entry ∷ told) are = (
  are.0,
  driven_untold rooms (bounds_behind bounds now) given slots (first + length now) (behind before (told_in now entry))
      made told are.1,
)

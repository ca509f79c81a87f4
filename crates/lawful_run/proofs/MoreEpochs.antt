-- One more epoch behind others.
use Rattle.std.proofs.Common.{◌≡◌, ℕ, suc, ◌+◌, List, [], ◌∷◌, ◌++◌, length, refl, sym, ap, ◌∙◌, arith, length-append, add-zero}
use Rattle.trace_lines.specs.Line.{Line}
use Rattle.demux.specs.Trace.{Meaning}
use Rattle.lawful_run.specs.Cut.{lines_in}
use Rattle.lawful_run.specs.Merging.{Histories, behind}
use Rattle.lawful_run.specs.Report.{EpochReport}
use Rattle.lawful_run.specs.Run.{AreEpochRuns, IsEpochRun, behind_all, told_in}
use Rattle.lawful_run.specs.Setup.{Setup}
use Rattle.lawful_run.specs.Trace.{meant_epochs, meant_from}
use Rattle.lawful_run.proofs.CutLines.{length-meant_from}

-- the number of the next line behind epochs
abbrev pub first_behind : ℕ → List (List Meaning) → ℕ
first_behind first [] = first
first_behind first (made ∷ epochs) = first_behind (first + length made) epochs

pub first_behind-meant : (slices first : ℕ) (before : List Line) (closed : List (List Line))
    → first_behind first (meant_epochs slices before closed) ≡ first + length (lines_in closed)
first_behind-meant slices first before [] = sym (add-zero first)
first_behind-meant slices first before (epoch ∷ closed) =
    first_behind-meant slices (first + length (meant_from slices before epoch)) (before ++ epoch) closed
    ∙ omega (arith, length-meant_from slices before epoch, length-append epoch (lines_in closed))

-- the events behind one more
pub behind_all-push : (before : Histories) (made : List (List Meaning)) (next : List Meaning) (told : List EpochReport)
    (entry : EpochReport) → length told ≡ length made
    → behind_all before (made ++ next ∷ []) (told ++ entry ∷ [])
    ≡ behind (behind_all before made told) (told_in next entry)
behind_all-push before [] next [] entry same = refl
behind_all-push before [] next (own ∷ told) entry same = absurd (omega (arith, same))
behind_all-push before (now ∷ made) next [] entry same = absurd (omega (arith, same))
behind_all-push before (now ∷ made) next (own ∷ told) entry same =
    behind_all-push (behind before (told_in now own)) made next told entry (omega (arith, same))

-- there are as many reports as lawful epochs
pub lawful_length : (setup : Setup) (slots first : ℕ) (before : Histories) (made : List (List Meaning))
    (told : List EpochReport) → AreEpochRuns setup slots first before made told → length told ≡ length made
lawful_length setup slots first before [] [] are = refl
lawful_length setup slots first before [] (now ∷ told) are = absurd are
lawful_length setup slots first before (now ∷ made) [] are = absurd are
lawful_length setup slots first before (now ∷ made) (entry ∷ told) are =
    ap suc (lawful_length setup slots (first + length now) (behind before (told_in now entry)) made told are.1)

-- one more is lawful
pub lawful-push : (setup : Setup) (slots first : ℕ) (before : Histories) (made : List (List Meaning))
    (next : List Meaning) (told : List EpochReport) (entry : EpochReport)
    → AreEpochRuns setup slots first before made told
    → IsEpochRun setup slots (first_behind first made) (behind_all before made told) next entry
    → AreEpochRuns setup slots first before (made ++ next ∷ []) (told ++ entry ∷ [])
lawful-push setup slots first before [] next [] entry are is = (is, tt)
lawful-push setup slots first before [] next (own ∷ told) entry are is = absurd are
lawful-push setup slots first before (now ∷ made) next [] entry are is = absurd are
lawful-push setup slots first before (now ∷ made) next (own ∷ told) entry are is = (
  are.0,
  lawful-push setup slots (first + length now) (behind before (told_in now own)) made next told entry are.1 is,
)

-- Counts of a driven epoch rise.
use Rattle.std.proofs.Common.{◌≡◌, ℕ, suc, ◌+◌, ◌<◌, ◌≤◌, List, [], ◌∷◌, map, length, sym, subst, arith}
use Rattle.std.specs.List.{filter_map}
use Rattle.lawful_run.specs.Bounds.{count_before, Rises}
use Rattle.lawful_run.specs.Telling.{commands_told}
use Rattle.epoch_schedule.specs.Slots.{Met}
use Rattle.epoch_schedule.specs.Fits.{count_at}
use Rattle.epoch_schedule.proofs.Lines.{each_packet_is_handled}
use Rattle.demux.specs.Trace.{Meaning}
use Rattle.lawful_run.specs.Merging.{Histories}
use Rattle.lawful_run.specs.Report.{EpochReport}
use Rattle.epoch_schedule.specs.World.{Rooms}
use Rattle.epoch_drive.specs.Driven.{IsDriven, driven, mets_driven}

pub counts_from : (first least : ℕ) (met : List Met)
    → ((k : ℕ) → k < length met → least ≤ count_at met k)
    → ((i k : ℕ) → i ≤ k → k < length met → count_at met i ≤ count_at met k)
    → Rises (first + least) (map (λ (m : Met). first + m.commands) met)
counts_from first least [] above rise = tt
counts_from first least (m ∷ met) above rise =
    let here : least ≤ m.commands = above 0 (omega arith) in (
      omega (arith, here),
      counts_from first m.commands met
          (λ k within. rise 0 (suc k) (omega arith) (omega (arith, within)))
          (λ i k below within. rise (suc i) (suc k) (omega (arith, below)) (omega (arith, within))),
    )

pub rises_from : (least first : ℕ) (counts : List ℕ) → first ≡ least → Rises first counts → Rises least counts
rises_from least first counts is rises = subst (λ k. Rises k counts) is rises

pub counts_rise : (rooms : Rooms) (bounds : ℕ → ℕ) (turns : List (List ℕ)) (slots first : ℕ) (before : Histories)
    (made : List Meaning) (told : EpochReport)
    → IsDriven rooms bounds turns slots first before made told
    → (slot : ℕ) → Rises (count_before before slot) (filter_map (commands_told slot) told.lines)
counts_rise rooms bounds turns slots first before made told is slot =
    let handles = (each_packet_is_handled rooms bounds (driven made turns) slot).handles in
    let met = mets_driven rooms bounds turns made slot in
    subst (Rises (count_before before slot)) (sym (is.counts slot))
    (rises_from (count_before before slot) (count_before before slot + 0)
    (map (λ (m : Met). count_before before slot + m.commands) met) (omega arith)
    (counts_from (count_before before slot) 0 met (λ k within. omega arith) handles.rise))

-- What is answered in sequence is lawful under every setup.
use Rattle.std.proofs.Common.{◌≡◌, ℕ, ◌+◌, ◌≤◌, Bool, true, false, List, [], ◌∷◌, ◌++◌, cond, sym, subst, arith, length-append}
use Rattle.std.proofs.lemmas.List.Elements.{filter_map-append}
use Rattle.report_lines.specs.declared.entry.LineEntry.{LineEntry}
use Rattle.report_lines.specs.declared.entry.LineEntry.TheVariants as line
use Rattle.lawful_run.specs.Accepted.{command_count}
use Rattle.lawful_run.specs.InSequence.{LineInSequence, EntryInSequence}
use Rattle.lawful_run.specs.Bounds.{MeetsBounds, MeetsAs, MayMeet, count_in_sequence}
use Rattle.lawful_run.specs.Setup.{Setup, solo, sliced}
use Rattle.lawful_run.specs.LinesTold.{LineTold, EachFrom}
use Rattle.lawful_run.specs.Moves.{is_moved, before_last_move, before_next_move}
use Rattle.lawful_run.specs.Merging.{Histories}
use Rattle.lawful_run.specs.Parking.{ParkedBehindMoves, ParkedAs, MayPark}
use Rattle.lawful_run.specs.Refusals.{RefusedWhereFull, RefusedAs}

-- what holds of each line, and gives something else, gives that of each line
pub each_gives : (P Q : List LineTold → LineTold → List LineTold → Type 0)
    → ((prefix : List LineTold) (now : LineTold) (later : List LineTold) → P prefix now later → Q prefix now later)
    → (prefix lines : List LineTold) → EachFrom P prefix lines → EachFrom Q prefix lines
each_gives P Q gives prefix [] each = tt
each_gives P Q gives prefix (now ∷ later) each =
    (gives prefix now later each.0, each_gives P Q gives (prefix ++ now ∷ []) later each.1)

-- the commands before a last move are some of all, and those behind are more
commands-prefix : (slot : ℕ) (now : LineTold) (lines : List LineTold)
    → command_count slot lines ≤ command_count slot (now ∷ lines)
commands-prefix slot now lines =
    let parts : command_count slot ((now ∷ []) ++ lines) ≡ command_count slot (now ∷ []) + command_count slot lines =
    simp (filter_map-append, length-append) in
    omega (arith, parts)

before_last_move_fewer : (test : Bool) (slot : ℕ) (now : LineTold) (lines moved : List LineTold)
    → command_count slot moved ≤ command_count slot lines
    → command_count slot (cond test (now ∷ moved) []) ≤ command_count slot (now ∷ lines)
before_last_move_fewer true slot now lines moved fewer =
    let parts : command_count slot ((now ∷ []) ++ lines) ≡ command_count slot (now ∷ []) + command_count slot lines =
    simp (filter_map-append, length-append) in
    let others : command_count slot ((now ∷ []) ++ moved) ≡ command_count slot (now ∷ []) + command_count slot moved =
    simp (filter_map-append, length-append) in
    omega (arith, fewer, parts, others)
before_last_move_fewer false slot now lines moved fewer = omega arith

pub before_last_move-count : (slot : ℕ) (lines : List LineTold)
    → command_count slot (before_last_move slot lines) ≤ command_count slot lines
before_last_move-count slot [] = omega arith
before_last_move-count slot (now ∷ later) =
    before_last_move_fewer (is_moved slot later) slot now later (before_last_move slot later)
    (before_last_move-count slot later)

-- what meets just the commands before it is within the bounds of any setup
pub meets_in_sequence : (setup : Setup) (start : Histories) (slot : ℕ) (prefix later : List LineTold) (count : ℕ)
    → count ≡ count_in_sequence start slot prefix
    → MayMeet setup start slot prefix later count
meets_in_sequence solo start slot prefix later count is = is
meets_in_sequence (sliced slices room lane) start slot prefix later count is =
    let some_before = before_last_move-count slot prefix in
    let some_more : command_count slot (prefix ++ before_next_move slot later) ≡ command_count slot prefix
    + command_count slot (before_next_move slot later) =
    simp (filter_map-append, length-append) in
    (omega (arith, is, some_before), omega (arith, is, some_more))

pub entry_within : (setup : Setup) (start : Histories) (prefix : List LineTold) (entry : LineEntry) (later : List LineTold)
    → EntryInSequence start prefix entry → MeetsAs setup start prefix entry later
entry_within setup start prefix (line.N noted) later once = tt
entry_within setup start prefix (line.C answered) later once = tt
entry_within setup start prefix (line.P judged) later once =
    meets_in_sequence setup start judged.slot prefix later judged.commands once.commands
entry_within setup start prefix (line.F refused) later once = absurd once

-- nothing is refused, and nothing is parked
pub entry_not_refused : (setup : Setup) (start : Histories) (prefix : List LineTold) (now : LineTold) (entry : LineEntry)
    → EntryInSequence start prefix entry → RefusedAs setup prefix now entry
entry_not_refused setup start prefix now (line.N noted) once = tt
entry_not_refused setup start prefix now (line.C answered) once = tt
entry_not_refused setup start prefix now (line.P judged) once = tt
entry_not_refused setup start prefix now (line.F refused) once = absurd once

pub entry_not_parked : (start : Histories) (prefix : List LineTold) (entry : LineEntry)
    → EntryInSequence start prefix entry → ParkedAs prefix entry
entry_not_parked start prefix (line.N noted) once = tt
entry_not_parked start prefix (line.C answered) once = tt
entry_not_parked start prefix (line.P judged) once =
    subst (λ parked. MayPark parked judged.slot prefix) (sym once.parked) tt
entry_not_parked start prefix (line.F refused) once = absurd once

module _ (setup : Setup) (start : Histories) (lines : List LineTold) (once : EachFrom (LineInSequence start) [] lines) where
  pub within : EachFrom (MeetsBounds setup start) [] lines
  within =
      each_gives (LineInSequence start) (MeetsBounds setup start)
      (λ prefix now later here. entry_within setup start prefix now.entry later here) [] lines once

  pub not_refused : EachFrom (RefusedWhereFull setup) [] lines
  not_refused =
      each_gives (LineInSequence start) (RefusedWhereFull setup)
      (λ prefix now later here. entry_not_refused setup start prefix now now.entry here) [] lines once

  pub not_parked : EachFrom ParkedBehindMoves [] lines
  not_parked = each_gives (LineInSequence start) ParkedBehindMoves
      (λ prefix now later here. entry_not_parked start prefix now.entry here) [] lines once

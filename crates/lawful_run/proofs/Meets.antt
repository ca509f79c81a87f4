-- No line is refused, and each packet meets just the commands before it; where it is handled is left open.
use Rattle.std.proofs.Common.{◌≡◌, List, [], ◌∷◌, ◌++◌}
use Rattle.report_lines.specs.declared.entry.LineEntry.{LineEntry}
use Rattle.report_lines.specs.declared.entry.LineEntry.TheVariants as line
use Rattle.lawful_run.specs.InSequence.{LineInSequence, EntryInSequence}
use Rattle.lawful_run.specs.Bounds.{MeetsBounds, MeetsAs, count_in_sequence}
use Rattle.lawful_run.specs.Setup.{solo}
use Rattle.lawful_run.specs.LinesTold.{LineTold, EachFrom}
use Rattle.lawful_run.specs.Merging.{Histories}
use Rattle.lawful_run.specs.Refusals.{RefusedWhereFull, RefusedAs}

abbrev pub MeetsOnce : Histories → List LineTold → LineEntry → Type 0
MeetsOnce start prefix (line.N noted) = Unit {0}
MeetsOnce start prefix (line.C answered) = Unit {0}
MeetsOnce start prefix (line.P judged) = judged.commands ≡ count_in_sequence start judged.slot prefix
MeetsOnce start prefix (line.F refused) = ⊥

abbrev pub LineMeets : Histories → List LineTold → LineTold → List LineTold → Type 0
LineMeets start prefix now later = MeetsOnce start prefix now.entry

once_meets : (start : Histories) (prefix : List LineTold) (entry : LineEntry) → EntryInSequence start prefix entry
    → MeetsOnce start prefix entry
once_meets start prefix (line.N noted) once = tt
once_meets start prefix (line.C answered) once = tt
once_meets start prefix (line.P judged) once = once.commands
once_meets start prefix (line.F refused) once = absurd once

-- what is answered in sequence meets so
pub in_sequence_meets : (start : Histories) (prefix lines : List LineTold) → EachFrom (LineInSequence start) prefix lines
    → EachFrom (LineMeets start) prefix lines
in_sequence_meets start prefix [] each = tt
in_sequence_meets start prefix (now ∷ later) each =
    (once_meets start prefix now.entry each.0, in_sequence_meets start (prefix ++ now ∷ []) later each.1)

solo_entry_meets : (start : Histories) (prefix : List LineTold) (now : LineTold) (entry : LineEntry)
    (later : List LineTold)
    → MeetsAs solo start prefix entry later → RefusedAs solo prefix now entry → MeetsOnce start prefix entry
solo_entry_meets start prefix now (line.N noted) later within refused = tt
solo_entry_meets start prefix now (line.C answered) later within refused = tt
solo_entry_meets start prefix now (line.P judged) later within refused = within
solo_entry_meets start prefix now (line.F refusal) later within refused = absurd refused

-- and on one thread all does
pub solo_meets : (start : Histories) (prefix lines : List LineTold) → EachFrom (MeetsBounds solo start) prefix lines
    → EachFrom (RefusedWhereFull solo) prefix lines → EachFrom (LineMeets start) prefix lines
solo_meets start prefix [] within refused = tt
solo_meets start prefix (now ∷ later) within refused = (
  solo_entry_meets start prefix now now.entry later within.0 refused.0,
  solo_meets start (prefix ++ now ∷ []) later within.1 refused.1,
)

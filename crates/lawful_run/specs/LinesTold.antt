-- The lines of an epoch with their entries.
use Rattle.std.specs.Prelude.{List, [], ◌∷◌, ◌++◌}
use Rattle.demux.specs.Trace.{Meaning}
use Rattle.report_lines.specs.declared.entry.LineEntry.{LineEntry}

-- what a line means, and its entry
pub record LineTold : Type 0 where
  pub meaning : Meaning
  pub entry : LineEntry

abbrev pub lines_told : List Meaning → List LineEntry → List LineTold
lines_told [] entries = []
lines_told (meaning ∷ made) [] = []
lines_told (meaning ∷ made) (entry ∷ entries) = record { meaning = meaning; entry = entry } ∷ lines_told made entries

-- something holds of each line with the lines of its epoch before it and behind it
abbrev pub EachFrom : (List LineTold → LineTold → List LineTold → Type 0) → List LineTold → List LineTold → Type 0
EachFrom P before [] = Unit {0}
EachFrom P before (now ∷ later) = P before now later × EachFrom P (before ++ now ∷ []) later

abbrev pub EachLine : (List LineTold → LineTold → List LineTold → Type 0) → List LineTold → Type 0
EachLine P lines = EachFrom P [] lines

-- Nothing that others do changes what is told of some slots.
use Rattle.std.specs.Prelude.{◌≡◌, ℕ, Bool, false, List, []}
use Rattle.trace_lines.specs.Input.{Input}
use Rattle.trace_lines.specs.Line.{Line}
use Rattle.demux.specs.Resolved.{book_after, decided}
use Rattle.lawful_run.specs.Setup.{Setup, slices_of}
use Rattle.lawful_run.specs.Trace.{answered_report}
use Rattle.report_laws.specs.Lines.{AreAlike, AreOthers, EndAlike, is_for, stand_in}
use Rattle.report_laws.specs.Told.{TellTheSame, report_of}

-- over all epochs, wherever they end and wherever the inputs stop
abbrev pub NeighboursChangeNothing : Type 0
NeighboursChangeNothing = (own : ℕ → Bool) (setup : Setup) (input other : Input)
    → AreAlike own (slices_of setup) [] input.lines other.lines
    → TellTheSame own (answered_report setup input) (answered_report setup other)

-- and epoch by epoch, where these end alike
abbrev pub NorInAnyEpoch : Type 0
NorInAnyEpoch = (own : ℕ → Bool) (setup : Setup) (input other : Input)
    → AreAlike own (slices_of setup) [] input.lines other.lines → EndAlike input other
    → report_of own (answered_report setup input) ≡ report_of own (answered_report setup other)

-- A line that admits no one, and is no command or packet of these slots, may have its stand-in in its place.
abbrev pub MayBeReplaced : Type 0
MayBeReplaced = (own : ℕ → Bool) (slices : ℕ) (book : List (List ℕ)) (line : Line)
    → book_after book line ≡ book → is_for own book (decided slices book line) ≡ false
    → AreOthers own slices book line (stand_in line)

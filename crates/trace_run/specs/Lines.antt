-- How far the lines of an input were read.
use Rattle.std.specs.Prelude.{◌≡◌, ℕ, ◌+◌, List, [], ◌++◌, length}
use Rattle.trace_lines.specs.Input.{Input, Stop, bad, long, big, ended, after_lines, input_within}
use Rattle.trace_lines.specs.Line.{Line}
use Rattle.trace_run.specs.declared.ending.Ending.{Ending}
use Rattle.trace_run.specs.declared.ending.Ending.TheVariants.{Ended, ReadFault, BadLine, LineLong, TooLong}
use Rattle.trace_run.specs.Beginnings.{Beginning, input_from, whole_input}
use Rattle.trace_run.specs.Report.{IsWholeLines, TakenFrom}

-- whole lines were read before the octets ahead: they say these lines, and then what stands behind them says the rest
pub record HasRead (begin : Beginning) (octets ahead : List ℕ) (number least room : ℕ) (done : List Line) :
    Type 0 where
  pub gone : List ℕ
  pub parts : octets ≡ gone ++ ahead
  pub lines : IsWholeLines gone
  pub taken : length gone + room ≡ begin.room
  pub says : (behind : List ℕ) → input_from begin (gone ++ behind)
      ≡ after_lines done (input_within room number least behind)

-- why the lines stop at an ending, the next line having this number
abbrev pub stop_of : Ending → ℕ → Stop
stop_of Ended number = ended
stop_of ReadFault number = ended
stop_of (BadLine why) number = bad number why
stop_of LineLong number = long number
stop_of TooLong number = big

-- octets begin with these lines
abbrev pub BeginsFrom : Beginning → List ℕ → List Line → Type 0
BeginsFrom begin octets done = (behind : Input) × (input_from begin octets ≡ after_lines done behind)

-- and stop behind them
abbrev pub StopsFrom : Beginning → List ℕ → List Line → Stop → Type 0
StopsFrom begin octets done stop = input_from begin octets ≡ record { lines = done; stop = stop }

-- the whole lines that were taken are these
pub record FailsFrom (begin : Beginning) (octets left : List ℕ) (done : List Line) : Type 0 where
  pub taken : TakenFrom begin octets left
  pub stops : StopsFrom begin taken.whole done ended
  pub begins : BeginsFrom begin octets done

-- where the lines ended so: the octets that a source had, and those that it has left
abbrev pub ReachedFrom : Beginning → Ending → List ℕ → List ℕ → List Line → Type 0
ReachedFrom begin Ended octets left done = StopsFrom begin octets done ended × (left ≡ [])
ReachedFrom begin ReadFault octets left done = FailsFrom begin octets left done
ReachedFrom begin (BadLine why) octets left done = StopsFrom begin octets done (bad (length done + begin.number) why)
ReachedFrom begin LineLong octets left done = StopsFrom begin octets done (long (length done + begin.number))
ReachedFrom begin TooLong octets left done = StopsFrom begin octets done big

-- the same of an input that is a trace alone
abbrev pub Begins : List ℕ → List Line → Type 0
Begins octets done = BeginsFrom whole_input octets done

abbrev pub Stops : List ℕ → List Line → Stop → Type 0
Stops octets done stop = StopsFrom whole_input octets done stop

abbrev pub Reached : Ending → List ℕ → List ℕ → List Line → Type 0
Reached ending octets left done = ReachedFrom whole_input ending octets left done

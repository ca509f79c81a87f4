-- What a report is held against.
use Rattle.std.specs.Prelude.{◌≡◌, ◌≤◌, IsTrue, if◌then◌else◌, Option, Some, None, List}
use Rattle.trace_lines.specs.Input.{Input, Stop, bad, ended}
use Rattle.trace_lines.specs.Line.{Line}
use Rattle.lawful_run.specs.Setup.{Setup, solo, sliced}
use Rattle.audit_core.specs.declared.setup.BadAt.{BadAt}
use Rattle.audit_core.specs.declared.setup.Setup.{Setup as Given}

-- the setup that these numbers say
abbrev pub setup_of : Given → Setup
setup_of setup = if setup.solo then solo else sliced setup.slices setup.room setup.lane

-- its ranges; on one thread a move may name any of the 64 slices that there can be
pub record IsSetup (setup : Given) : Type 0 where
  pub least : 1 ≤ setup.slices
  pub most : setup.slices ≤ 64
  pub on_one_thread : IsTrue setup.solo → setup.slices ≡ 64

-- where a trace stops
abbrev pub stop_of : Option BadAt → Stop
stop_of None = ended
stop_of (Some at) = bad at.number at.why

-- what it says
abbrev pub input_with : List Line → Option BadAt → Input
input_with lines bad_line = record { lines = lines; stop = stop_of bad_line }

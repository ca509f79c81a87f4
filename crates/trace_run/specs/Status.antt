-- The status of a run, its number, and the line on standard error.
use Rattle.std.specs.Prelude.{ℕ, List, [], codes}
use Rattle.trace_run.specs.declared.status.Status.{Status}
use Rattle.trace_run.specs.declared.status.Status.TheVariants as status
use Rattle.trace_run.specs.declared.ending.Ending.{Ending}
use Rattle.trace_run.specs.declared.ending.Ending.TheVariants as ending
use Rattle.pc_outside.specs.declared.writing.Unwritten.{Unwritten}
use Rattle.pc_outside.specs.declared.writing.Unwritten.TheVariants as unwritten

abbrev pub code_of : Status → ℕ
code_of status.Ok = 0
code_of status.Usage = 2
code_of status.ReadFault = 3
code_of status.WriteFault = 4
code_of status.NoMemory = 5
code_of status.BadLine = 6
code_of status.LineLong = 7
code_of status.TooLong = 8
code_of status.Refuted = 9
code_of status.BadCapture = 10
code_of status.BadState = 11
code_of status.BadReport = 12

abbrev pub fault_text_of : Status → List ℕ
fault_text_of status.Ok = []
fault_text_of status.Usage = codes "pepc: usage"
fault_text_of status.ReadFault = codes "pepc: read fault"
fault_text_of status.WriteFault = codes "pepc: write fault"
fault_text_of status.NoMemory = codes "pepc: no memory"
fault_text_of status.BadLine = codes "pepc: bad line"
fault_text_of status.LineLong = codes "pepc: line too long"
fault_text_of status.TooLong = codes "pepc: input too long"
fault_text_of status.Refuted = codes "pepc: report refuted"
fault_text_of status.BadCapture = codes "pepc: bad capture"
fault_text_of status.BadState = codes "pepc: bad state"
fault_text_of status.BadReport = codes "pepc: bad report"

-- the status of an ending, and of a report that is cut
abbrev pub status_at : Ending → Status
status_at ending.Ended = status.Ok
status_at ending.ReadFault = status.ReadFault
status_at (ending.BadLine why) = status.BadLine
status_at ending.LineLong = status.LineLong
status_at ending.TooLong = status.TooLong

abbrev pub status_without : Unwritten → Status
status_without unwritten.WriteFault = status.WriteFault
status_without unwritten.NoMemory = status.NoMemory

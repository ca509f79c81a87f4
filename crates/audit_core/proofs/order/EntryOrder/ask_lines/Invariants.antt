use Rattle.std.proofs.Common.{◌++◌, List, map, take}
use Rattle.demux.specs.Trace.{Meaning}
use Rattle.report_lines.specs.declared.entry.Entry.{Entry}
use Rattle.report_lines.specs.declared.entry.Entry.TheVariants as entry
use Rattle.lawful_run.specs.LinesTold.{LineTold}
use Rattle.audit_core.specs.Dues.{Asks}
use Rattle.audit_core.specs.Meant.{lines_of}
use Rattle.audit_core.proofs.order.EntryOrder.ask_lines.Given as goal

abbrev pub invariant-loop-told : goal.invariant-loop-told
invariant-loop-told l = (made : List (List Meaning)) (entries asked : List Entry)
    → Asks made entries asked l.initial.self → Asks made entries
    (asked ++ map entry.Line (map (λ (told : LineTold). told.entry) (lines_of (take l.told-index l.lines)))) l.self

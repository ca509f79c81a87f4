use Rattle.std.proofs.Common.{◌≡◌, ◌++◌, map, take}
use Rattle.report_lines.specs.declared.entry.Entry.TheVariants as entry
use Rattle.lawful_run.specs.LinesTold.{LineTold}
use Rattle.audit_core.specs.Dues.{entry_due}
use Rattle.audit_core.specs.Meant.{lines_of}
use Rattle.audit_core.proofs.piece_order.push_lines.Given as goal

abbrev pub invariant-loop-told : goal.invariant-loop-told
invariant-loop-told l = map entry_due l.all.items ≡ map entry_due l.initial.all.items
    ++ map entry.Line (map (λ (told : LineTold). told.entry) (lines_of (take l.told-index l.lines)))

use Rattle.std.proofs.Common.{◌+◌, sym, subst, take}
use Rattle.std.specs.Global.{Vec}
use Rattle.audit_core.specs.Entries.{line_entries}
use Rattle.audit_core.specs.Matched.{AreFound, entries_stood}
use Rattle.audit_core.specs.declared.matching.FoundEntry.{FoundEntry}
use Rattle.audit_core.proofs.FoundLemmas.{line_more, no_line, other_more}
use Rattle.audit_core.proofs.matching.found_of.Goals as goal
use Rattle.audit_core.proofs.matching.found_of.Goals.{in-Line, in_default}

pub loop-stood-preserved : goal.loop-stood-preserved
loop-stood-preserved c =
    let i = c.loop-stood.stood-index in
    let all = c.args.entries.now in
    let its = line_entries (entries_stood (take (i + 1) all)) in
    elim c.match-stood.branch [
      | in-Line w ↦
          subst (λ (v : Vec FoundEntry). AreFound c.args.first its v.items c.args.count) (sym w.all-is)
          (line_more c.args.first c.args.count all i c.stood-item.result w.in-Line.entry w.note_found.new.all.items
          c.loop-stood-test.true c.stood-item.is w.in-Line.is
          (w.note_found.ensures (line_entries (entries_stood (take i all))) c.args.count c.loop-stood.invariant))
      | in_default w ↦
          subst (λ (v : Vec FoundEntry). AreFound c.args.first its v.items c.args.count) (sym w.all-is)
          (other_more c.args.first c.args.count all i c.stood-item.result c.loop-stood.all.items
          c.loop-stood-test.true c.stood-item.is (no_line c.stood-item.result.entry w.in_default.not-Line)
          c.loop-stood.invariant)
    ]

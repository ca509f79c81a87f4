use Rattle.std.proofs.Common.{◌≡◌, List}
use Rattle.std.specs.Io.KnownBytes.{prepend_known}
use Rattle.audit_core.specs.Evidence.{ProgressOf}
use Rattle.pc_outside.specs.Texts.{Text}
use Rattle.audit_core.proofs.auditing.hear_lines.Given as goal

abbrev pub invariant-loop-heard : goal.invariant-loop-heard
invariant-loop-heard g l = record {
  progress : (done : List Text) × ProgressOf (g.S.Source.left l.fn.source)
      (prepend_known l.buf.buffered (g.S.Source.left l.source)) l.buf.room l.heard done;
  setup : l.heard.setup ≡ l.fn.heard.setup;
  no_fault : g.S.Source.faults l.source ≡ g.S.Source.faults l.fn.source;
}

abbrev pub decreases-loop-heard : goal.decreases-loop-heard
decreases-loop-heard g l = l.buf.room

use Rattle.std.proofs.Common.{◌≡◌, ◌≤◌}
use Rattle.std.specs.Io.KnownBytes.{prepend_known}
use Rattle.audit_core.specs.Following.{Reads}
use Rattle.audit_core.specs.Setups.{setup_of}
use Rattle.audit_core.proofs.along.go_along.Given as goal

abbrev pub invariant-loop-pieces : goal.invariant-loop-pieces
invariant-loop-pieces g l = record {
  reads : Reads (setup_of l.fn.pieces.setup) l.pieces (g.S.Source.left l.fn.source)
      (prepend_known l.buf.buffered (g.S.Source.left l.source)) l.buf.room (g.K.Sink.written l.fn.sink)
      (g.K.Sink.written l.sink);
  no_fault : g.S.Source.faults l.source ≡ g.S.Source.faults l.fn.source;
  sink_later : g.K.Sink.faults l.fn.sink ≤ g.K.Sink.faults l.sink;
}

abbrev pub decreases-loop-pieces : goal.decreases-loop-pieces
decreases-loop-pieces g l = l.buf.room

use Rattle.std.proofs.Common.{◌≤◌, List}
use Rattle.std.specs.Io.KnownBytes.{prepend_known}
use Rattle.trace_lines.specs.Line.{Line}
use Rattle.trace_run.specs.Beginnings.{behind}
use Rattle.trace_run.specs.Takers.{TakenSoFar}
use Rattle.trace_run.proofs.taking.run_lines_behind.Given as goal

abbrev pub invariant-loop-len : goal.invariant-loop-len
invariant-loop-len g l = record {
  taken : (done : List Line) × TakenSoFar (behind (g.L.LineReader.holds l.fn.reader).room l.fn.lines l.fn.least)
      (g.T.LineTaker.represents l.fn.taker l.taker)
      (prepend_known (g.L.LineReader.holds l.fn.reader).buffered (g.S.Source.left l.fn.source))
      (prepend_known (g.L.LineReader.holds l.reader).buffered (g.S.Source.left l.source)) (g.K.Sink.written l.fn.sink)
      (g.K.Sink.written l.sink) l.lines l.least (g.L.LineReader.holds l.reader).room done;
  ready : g.L.LineReader.is_ready l.reader;
  source_later : g.S.Source.faults l.fn.source ≤ g.S.Source.faults l.source;
  sink_later : g.K.Sink.faults l.fn.sink ≤ g.K.Sink.faults l.sink;
}

abbrev pub decreases-loop-len : goal.decreases-loop-len
decreases-loop-len g l = (g.L.LineReader.holds l.reader).room

use Rattle.std.proofs.Common.{◌≤◌, List}
use Rattle.std.specs.Io.KnownBytes.{prepend_known}
use Rattle.pcap_form.specs.Record.{Record}
use Rattle.pcap_form.specs.Progress.{Progress}
use Rattle.pcap_form.proofs.importing.import_records.Given as goal

abbrev pub invariant-loop-one : goal.invariant-loop-one
invariant-loop-one g l = record {
  progress : (done : List Record) × Progress (g.S.Source.left l.fn.source)
      (prepend_known l.block.held (g.S.Source.left l.source)) (g.K.Sink.written l.fn.sink) (g.K.Sink.written l.sink)
      l.head l.first l.least l.block.room l.out done;
  source_later : g.S.Source.faults l.fn.source ≤ g.S.Source.faults l.source;
  sink_later : g.K.Sink.faults l.fn.sink ≤ g.K.Sink.faults l.sink;
}

abbrev pub decreases-loop-one : goal.decreases-loop-one
decreases-loop-one g l = l.block.room

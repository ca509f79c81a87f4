use Rattle.std.proofs.Common.{◌≤◌, length}
use Rattle.trace_maker.specs.Generated.{made}
use Rattle.trace_maker.proofs.WritingLemmas.{IsMade}
use Rattle.trace_maker.proofs.making.make.Given as goal

abbrev pub invariant-loop-octets : goal.invariant-loop-octets
invariant-loop-octets g l = record {
  made : IsMade (g.K.Sink.written l.fn.sink) (g.K.Sink.written l.sink) l.text l.maker
      (made l.seed l.subscribers l.lines);
  later : g.K.Sink.faults l.fn.sink ≤ g.K.Sink.faults l.sink;
}

abbrev pub decreases-loop-octets : goal.decreases-loop-octets
decreases-loop-octets g l = length l.maker

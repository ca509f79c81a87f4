use Rattle.std.proofs.Common.{length, ◌≤◌}
use Rattle.pc_outside.proofs.KnownOctets.{IsWrittenUpTo}
use Rattle.pc_outside.proofs.writing.write_whole.Given as goal

abbrev pub decreases-loop-rest : goal.decreases-loop-rest
decreases-loop-rest g l = length l.rest

abbrev pub invariant-loop-rest : goal.invariant-loop-rest
invariant-loop-rest g l = record {
  written : IsWrittenUpTo (g.K.Sink.written l.fn.sink) (g.K.Sink.written l.sink) l.fn.bytes l.rest;
  later : g.K.Sink.faults l.fn.sink ≤ g.K.Sink.faults l.sink;
}

use Rattle.std.proofs.Common.{◌≡◌, ◌-◌, length}
use Rattle.pc_outside.specs.Held.{IsUnfinished}
use Rattle.pc_outside.proofs.ReadSteps.{IsReading}
use Rattle.pc_outside.proofs.reading.read_more.Given as goal

abbrev pub decreases-loop-buf : goal.decreases-loop-buf
decreases-loop-buf g l = l.buf.room - length l.buf.buffered

abbrev pub invariant-loop-buf : goal.invariant-loop-buf
invariant-loop-buf g l = record {
  reading : IsReading l.fn.buf l.buf (g.S.Source.left l.fn.source) (g.S.Source.left l.source) (length l.buf.buffered);
  unfinished : IsUnfinished l.buf;
  no_fault : g.S.Source.faults l.source ≡ g.S.Source.faults l.fn.source;
}

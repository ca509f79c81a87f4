use Rattle.std.proofs.Common.{arith}
use Rattle.std.proofs.lemmas.List.{take_rest}
use Rattle.pc_outside.proofs.KnownOctets.{written-more}
use Rattle.pc_outside.proofs.writing.write_whole.Goals as goal

pub loop-rest-preserved : goal.loop-rest-preserved
loop-rest-preserved g c = record {
  written = rw (take_rest c.loop-rest.rest.now c.in-Ok.count)
      (written-more _ _ _ _ _ c.in-Ok.count c.loop-rest.invariant.written c.in-Ok.ensures.octets);
  later = omega arith;
}

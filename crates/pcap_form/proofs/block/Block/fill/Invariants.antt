use Rattle.std.proofs.Common.{◌≤◌, ◌-◌, length}
use Rattle.pcap_form.specs.Ahead.{Gains}
use Rattle.pcap_form.proofs.block.Block.fill.Given as goal

abbrev pub invariant-loop-self : goal.invariant-loop-self
invariant-loop-self g l = record {
  gains : Gains l.fn.self l.self (g.S.Source.left l.fn.source) (g.S.Source.left l.source);
  later : g.S.Source.faults l.fn.source ≤ g.S.Source.faults l.source;
}

abbrev pub decreases-loop-self : goal.decreases-loop-self
decreases-loop-self g l = l.self.room - length l.self.held

use Rattle.std.proofs.Common.{◌≡◌}
use Rattle.control_half.specs.Turns.{size}
use Rattle.counter_half.specs.Half.{inner_name, IsReady}
use Rattle.counter_half.proofs.inner.DataInner.learn_batch.Given as goal

abbrev pub invariant-loop : goal.invariant-loop
invariant-loop l = record {
  name : inner_name l.self ≡ inner_name l.fn.self;
  handled : l.self.state.handled.items ≡ l.fn.self.state.handled.items;
  notes : l.self.state.notes.items ≡ l.fn.self.state.notes.items;
  done : l.self.state.done ≡ l.fn.self.state.done;
  versions : l.self.versions ≡ l.fn.self.versions;
  asks : l.self.asks ≡ l.fn.self.asks;
  learns : l.self.learns ≡ l.fn.self.learns;
  ready : IsReady l.self.state.done l.self.batch;
}

abbrev pub decreases-loop : goal.decreases-loop
decreases-loop l = size l.self.batch

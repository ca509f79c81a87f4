use Rattle.std.proofs.Common.{◌≡◌, ◌+◌}
use Rattle.lane_core.specs.Ends.{empty_answers}
use Rattle.counter_half.specs.Half.{inner_name, batches_learnt}
use Rattle.counter_half.proofs.inner.DataInner.learn_batches.Given as goal

abbrev pub invariant-loop-learnt : goal.invariant-loop-learnt
invariant-loop-learnt g l = record {
  name : inner_name l.self ≡ inner_name l.fn.self;
  handled : l.self.state.handled.items ≡ l.fn.self.state.handled.items;
  notes : l.self.state.notes.items ≡ l.fn.self.state.notes.items;
  done : l.self.state.done ≡ l.fn.self.state.done;
  asks : l.self.asks ≡ l.fn.self.asks;
  learns : l.self.learns ≡ l.fn.self.learns;
  batches : batches_learnt l.self ≡ batches_learnt l.fn.self + l.learnt;
  met : l.learnt ≡ 0 → l.self.state.met ≡ l.fn.self.state.met;
  empties : empty_answers l.self.versions ≡ empty_answers l.fn.self.versions;
}

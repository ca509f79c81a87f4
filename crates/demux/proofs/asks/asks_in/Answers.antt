use Rattle.std.proofs.Common.{sym, subst}
use Rattle.bearer_state.specs.Ask.{AreAsks}
use Rattle.demux.specs.Requests.{each_ask}
use Rattle.demux.proofs.AskLemmas.{are_asks, asks_step, each_step}
use Rattle.demux.proofs.asks.asks_in.Goals as goal

pub loop-ie-init : goal.loop-ie-init
unfolding each_ask
loop-ie-init c = record { asks_are = c.new-asks.ensures.items; each = tt }

pub loop-ie-preserved : goal.loop-ie-preserved
loop-ie-preserved c = record {
  asks_are = asks_step c.as_slice-ies.result.now c.loop-ie.ie-index c.ie-item.result c.loop-ie.asks.items
      c.put.new.asks.items c.ask_at.result
      c.loop-ie-test.true c.ie-item.is c.loop-ie.invariant.asks_are c.ask_at.ensures.value c.in_ok-put.ensures;
  each = each_step c.as_slice-ies.result.now c.loop-ie.ie-index c.ie-item.result c.ask_at.result
      c.loop-ie-test.true c.ie-item.is c.loop-ie.invariant.each c.ask_at.ensures.value c.ask_at.ensures.valid;
}

pub unreachable-requires : goal.unreachable-requires
unreachable-requires c =
    c.in-None.ensures.none (subst AreAsks (sym c.loop-ie.invariant.asks_are) (are_asks _ c.loop-ie.invariant.each))

use Rattle.std.proofs.Common.{◌≡◌, take}
use Rattle.std.specs.List.{AllByRecursion}
use Rattle.bearer_state.specs.Ask.{IsAsk}
use Rattle.demux.specs.Requests.{each_ask, first_asks}
use Rattle.demux.proofs.asks.asks_in.Given as goal

abbrev pub invariant-loop-ie : goal.invariant-loop-ie
invariant-loop-ie l = record {
  asks_are : l.asks.items ≡ first_asks (each_ask (take l.ie-index l.ies));
  each : AllByRecursion IsAsk (each_ask (take l.ie-index l.ies));
}

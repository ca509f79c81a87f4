use Rattle.std.proofs.Common.{ℕ, ◌<◌, [], get_or}
use Rattle.epoch_schedule.specs.Rosters.{Stays, FirstDone}
use Rattle.epoch_schedule.proofs.roster.first_done.Given as goal

abbrev pub invariant-loop-index : goal.invariant-loop-index
invariant-loop-index l = record {
  first : FirstDone (record { slots = l.slots; controls = []; datas = [] }) l.halves l.first;
  stays : (k : ℕ) → k < l.index-index
      → Stays (record { slots = l.slots; controls = []; datas = [] }) l.halves l.first (get_or l.called k 0);
}

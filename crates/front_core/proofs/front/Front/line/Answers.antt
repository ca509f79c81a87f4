use Rattle.std.proofs.Common.{◌≡◌, ℕ, ◌+◌, List, OnOk, subst}
use Rattle.worker_core.specs.Workers.{Lanes}
use Rattle.front_core.specs.Counting.{TookTries}
use Rattle.front_core.specs.Words.{control_lanes, data_lanes}
use Rattle.front_core.specs.declared.took.Took.{Took}
use Rattle.front_core.proofs.LineDone.{if_ok, pumped_before}
use Rattle.front_core.proofs.Pumps.{pump_keeps}
use Rattle.front_core.proofs.front.Front.line.Goals as goal

pub line_at_once-requires-clause-whole : goal.line_at_once-requires-clause-whole
line_at_once-requires-clause-whole g c =
    let old = c.args.self.now in
    pump_keeps old.opened.value old.slices old.lane old.lines old.latest old.book old.subscribers.items old.halves
    c.pump.new.self old.entries.items c.pump.ensures.pumps.settles c.requires.whole

pub returns-clause-lanes : goal.returns-clause-lanes
returns-clause-lanes g c =
    let old = c.args.self.now in
    let new = c.line_at_once.new.self in
    let sides = c.pump.ensures.pumps.settles.sides in
    subst (λ (l : List Lanes). OnOk c.line_at_once.result ((control_lanes new ≡ control_lanes old) × (data_lanes new ≡ l)))
    sides.data_lanes
    (subst (λ (l : List Lanes). OnOk c.line_at_once.result ((control_lanes new ≡ l)
    × (data_lanes new ≡ data_lanes (record old { halves = c.pump.new.self })))) sides.control_lanes
    c.line_at_once.ensures.lanes)

pub returns-clause-takes : goal.returns-clause-takes
returns-clause-takes g c =
    if_ok c.line_at_once.result
    (λ took takes. pumped_before c.args.line.now (c.args.patience + 1) took c.args.self.now c.line_at_once.new.self
    c.pump.new.self c.pump.ensures.pumps takes) c.line_at_once.ensures.takes

pub returns-clause-tried : goal.returns-clause-tried
returns-clause-tried g c =
    if_ok c.line_at_once.result
    (λ (took : Took) tried. subst (λ (k : ℕ). TookTries (c.args.patience + 1) took k c.line_at_once.new.self.halves.fulls)
    c.pump.ensures.fulls tried) c.line_at_once.ensures.tried

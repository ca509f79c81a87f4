use Rattle.std.proofs.Common.{rules, ℕ, ◌≤◌, List, length}
use Rattle.epoch_schedule.specs.Rounds.{place_held}
use Rattle.epoch_schedule.proofs.Busied.{absent_by}
use Rattle.epoch_schedule.proofs.Busying.{left_there, lacks_slot, none_held}
use Rattle.epoch_schedule.proofs.busy.leave_on.Goals as goal

pub returns-then-not-has : goal.returns-then-not-has
returns-then-not-has c =
    let held = c.args.roster.now.held in
    let list : List ℕ = c.args.list.now in
    let none : length held ≤ place_held c.args.slot held = search rules in
    lacks_slot held list c.args.slot c.requires (none_held held list c.args.slot c.requires none)

pub returns-then-not-stands_at : goal.returns-then-not-stands_at
returns-then-not-stands_at c =
    let held = c.args.roster.now.held in
    let list : List ℕ = c.args.list.now in
    lacks_slot held list c.args.slot c.requires
    (absent_by (length held) held list c.place_among-place.result c.args.slot c.requires c.place_among-place.ensures.before
    c.place_among-place.ensures.behind c.if-not-stands_at.ensures.other)

pub returns : goal.returns
returns c =
    let list : List ℕ = c.args.list.now in
    left_there c.args.roster.now.held list _ c.place_among-place.result c.args.slot c.if-not-stands_at.ensures.within
    c.if-not-stands_at.ensures.own c.remove.ensures c.requires

use Rattle.std.proofs.Common.{◌≡◌, ℕ, Some, List, length, map, subst, ap, ◌∙◌}
use Rattle.epoch_schedule.specs.World.{DataNow, cursor_behind}
use Rattle.epoch_schedule.specs.ControlTurns.{without}
use Rattle.epoch_schedule.specs.DataTurns.{place_of, left}
use Rattle.epoch_schedule.specs.WorldNumbers.{data_order}
use Rattle.epoch_schedule.specs.Rosters.{RosterNow}
use Rattle.epoch_schedule.specs.Rounds.{slots_held, place_held}
use Rattle.epoch_schedule.proofs.Order.{slots_left, cursor_slots}
use Rattle.epoch_schedule.proofs.workers.DataNumbers.let_go.Goals as goal

pub returns : goal.returns
returns c =
    let own = c.self.inside in
    let held = own.roster.held in
    let slots = slots_held held in
    let place = place_held c.args.slot held in
    let made : List ℕ → ℕ → DataNow =
    λ held cursor. record {
      orders = map data_order own.orders.items;
      held = held;
      home = own.home.items;
      cursor = cursor;
      waiting = Some c.args.slot;
      kept = own.kept;
    } in
    subst (λ (now : DataNow). made (slots_held c.take.new.self.held) c.take.new.self.cursor ≡ left now c.args.slot)
    c.self.view_is
    (ap (λ (roster : RosterNow). made (slots_held roster.held) roster.cursor) c.take.ensures
    ∙ ap (λ xs. made xs (cursor_behind place own.roster.cursor (length (without place held))))
    (slots_left held c.args.slot)
    ∙ ap (made (without (place_of c.args.slot slots) slots)) (cursor_slots held c.args.slot own.roster.cursor))

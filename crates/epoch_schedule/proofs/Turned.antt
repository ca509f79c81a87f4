-- Turns of workers.
use Rattle.std.proofs.Common.{◌≡◌, ℕ, ◌<◌, Option, Some, None, List, ◌∷◌, length, get_or, set, drop, sym, ap, subst, ◌∙◌}
use Rattle.epoch_schedule.specs.Numbers.{put_at}
use Rattle.epoch_schedule.specs.World.{World, Rooms, ControlNow, ControlOrder, DataNow, DataOrder, item, fresh_control, fresh_data, control_at, on_control, data_at}
use Rattle.epoch_schedule.specs.ControlTurns.{behind_order, control_turn, control_turn_by}
use Rattle.epoch_schedule.specs.DataTurns.{next_order, obeyed}
use Rattle.epoch_schedule.specs.Lanes.{Takes}
use Rattle.epoch_schedule.proofs.Grown.{value-within, set-put, changed_twice}

-- a taken order is done
pub order_told : (rooms : Rooms) (slice : ℕ) (world : World) (order : ControlOrder)
    → (control_at world slice).orders ≡ order ∷ drop 1 (control_at world slice).orders
    → on_control
    (on_control world slice (λ (worker : ControlNow). record worker { orders = drop 1 worker.orders })) slice
    (λ (worker : ControlNow). behind_order worker order)
    ≡ control_turn rooms slice world
order_told rooms slice world order is =
    let taken : ControlNow = record (control_at world slice) { orders = drop 1 (control_at world slice).orders } in
    let worlds : List ControlNow → World = λ xs. record world { controls = xs } in
    ap worlds (changed_twice fresh_control world.controls slice taken (λ (worker : ControlNow). behind_order worker order))
    ∙ sym (ap (control_turn_by rooms slice world) is)

-- the next order of a data worker
order_next : (slice : ℕ) (world : World) (worker : DataNow) (order : DataOrder) (kept : Option ℕ)
    (orders : List DataOrder) → Takes kept orders (data_at world slice) worker order
    → obeyed slice (record world { datas = put_at fresh_data world.datas slice worker }) order
    ≡ next_order slice world kept orders
order_next slice world worker order (Some slot) orders takes =
    ap (obeyed slice (record world { datas = put_at fresh_data world.datas slice worker })) takes.0
    ∙ ap (λ (w : DataNow). obeyed slice (record world { datas = put_at fresh_data world.datas slice w }) (item slot))
    takes.1
order_next slice world worker order None orders takes =
    ap (λ (w : DataNow). obeyed slice (record world { datas = put_at fresh_data world.datas slice w }) order) takes.1
    ∙ sym (ap (next_order slice world None) takes.0)

pub order_taken : (slice : ℕ) (world : World) (old new : DataNow) (order : DataOrder) → slice < length world.datas
    → old ≡ get_or world.datas slice old → Takes old.kept old.orders old new order
    → obeyed slice (record world { datas = set world.datas slice new }) order
    ≡ next_order slice world (data_at world slice).kept (data_at world slice).orders
order_taken slice world old new order within is takes =
    let own : old ≡ data_at world slice = is ∙ value-within fresh_data old world.datas slice within in
    ap (λ (xs : List DataNow). obeyed slice (record world { datas = xs }) order)
    (set-put fresh_data world.datas slice new within)
    ∙ order_next slice world new order (data_at world slice).kept (data_at world slice).orders
    (subst (λ (w : DataNow). Takes w.kept w.orders w new order) own takes)

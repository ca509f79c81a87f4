-- Whatever the front and the workers do, what each of their steps keeps stays.
use Rattle.std.proofs.Common.{◌≡◌, ℕ, ◌-◌, min, [], ◌∷◌, ◌++◌, length, fold, cond, refl, sym, ap, ◌∙◌, arith}
use Rattle.epoch_schedule.specs.Slots.{Standing, absent, front, placed, recalled, leaving, is_placed, is_absent, SlotNow, fresh_slot, destination}
use Rattle.epoch_schedule.specs.World.{World, Rooms, ControlOrder, come, go, DataOrder, arrive, leave, order_room, has_room, slot_at, on_slot, control_at, on_control, data_at, on_data}
use Rattle.epoch_schedule.specs.Front.{back, control_back, control_home, data_back, data_home, control_ordered, control_offer_at, control_offer, data_ordered, data_offer_at, data_offer, drain_at, drain, controls_home, controls_offered, datas_home, datas_offered, pumped, control_called, control_recalled}
use Rattle.epoch_schedule.specs.Schedule.{turned}
use Rattle.epoch_schedule.proofs.Keeping.{value-put, eqb_same, cond_keeps, fold_keeps, for_each_keeps}
use Rattle.epoch_schedule.proofs.Steps.{order_slot, Follows, follows_arrival, follows_leave, Steps}
use Rattle.epoch_schedule.proofs.TurnsKept.{turned_keeps as turn_keeps}

pub slot_at-own : (world : World) (s : ℕ) (change : SlotNow → SlotNow)
    → slot_at (on_slot world s change) s ≡ change (slot_at world s)
slot_at-own world s change =
    value-put fresh_slot world.slots s s (change (slot_at world s))
    ∙ ap (λ test. cond test (change (slot_at world s)) (slot_at world s)) (eqb_same s)

pub absent-back : (standing : Standing) → is_absent (back standing) ≡ is_absent standing
absent-back absent = refl
absent-back front = refl
absent-back (placed slice) = refl
absent-back (recalled slice until) = refl
absent-back leaving = refl

pub absent-called : (standing : Standing) (until : ℕ) → is_absent (control_called standing until) ≡ is_absent standing
absent-called absent until = refl
absent-called front until = refl
absent-called (placed slice) until = refl
absent-called (recalled slice earlier) until = refl
absent-called leaving until = refl

module _ (W : World → Type 0) (steps : Steps W) where
  -- the front
  control_back_keeps : (world : World) (s : ℕ) → W world → W (control_back world s)
  control_back_keeps world s all =
      steps.stands world s (back (slot_at world s).control) (absent-back (slot_at world s).control) all

  control_home_keeps : (world : World) (slice : ℕ) → W world → W (control_home world slice)
  control_home_keeps world slice all =
      steps.controls (fold control_back world (control_at world slice).home) slice
      (λ worker. record worker { home = [] })
      (fold_keeps W control_back control_back_keeps world (control_at world slice).home all)

  data_home_keeps : (world : World) (slice : ℕ) → W world → W (data_home world slice)
  data_home_keeps world slice all =
      steps.datas (fold data_back world (data_at world slice).home) slice (λ worker. record worker { home = [] })
      (λ s. omega arith) (fold_keeps W data_back steps.backs world (data_at world slice).home all)

  control_ordered_keeps : (world : World) (slice s : ℕ) (order : ControlOrder) (standing : Standing)
      → is_absent standing ≡ is_absent (slot_at world s).control → W world
      → W (control_ordered world slice s order standing)
  control_ordered_keeps world slice s order standing there all =
      let given = on_control world slice (λ worker. record worker { orders = worker.orders ++ order ∷ [] }) in
      cond_keeps W (has_room order_room (control_at world slice).orders)
      (on_slot given s (λ slot. record slot { control = standing })) world
      (steps.stands given s standing there
      (steps.controls world slice (λ worker. record worker { orders = worker.orders ++ order ∷ [] }) all)) all

  control_offer_at_keeps : (bounds : ℕ → ℕ) (world : World) (s : ℕ) (standing : Standing)
      → (slot_at world s).control ≡ standing → W world → W (control_offer_at bounds world s standing)
  control_offer_at_keeps bounds world s absent is all = all
  control_offer_at_keeps bounds world s front is all =
      let change : SlotNow → SlotNow = λ slot. record slot { arrived = slot.hop } in
      control_ordered_keeps (on_slot world s change) (destination bounds s (slot_at world s)) s (come s)
      (placed (destination bounds s (slot_at world s)))
      (sym (ap (λ (slot : SlotNow). is_absent slot.control) (slot_at-own world s change) ∙ ap is_absent is))
      (steps.arrives world s all)
  control_offer_at_keeps bounds world s (placed slice) is all = all
  control_offer_at_keeps bounds world s (recalled slice until) is all =
      control_ordered_keeps world slice s (go s until) leaving (sym (ap is_absent is)) all
  control_offer_at_keeps bounds world s leaving is all = all

  pub control_offer_keeps : (bounds : ℕ → ℕ) (world : World) (s : ℕ) → W world → W (control_offer bounds world s)
  control_offer_keeps bounds world s all = control_offer_at_keeps bounds world s (slot_at world s).control refl all

  data_ordered_keeps : (rooms : Rooms) (world : World) (slice s : ℕ) (order : DataOrder) (standing : Standing)
      → order_slot order ≡ s → Follows (slot_at world s).data_half standing → W world
      → W (data_ordered rooms world slice s order standing)
  data_ordered_keeps rooms world slice s order standing own follows all =
      cond_keeps W (has_room rooms.lane (data_at world slice).orders)
      (on_slot (on_data world slice (λ worker. record worker { orders = worker.orders ++ order ∷ [] })) s
      (λ slot. record slot { data_half = standing })) world
      (steps.gives world slice s order standing own follows all) all

  data_offer_at_keeps : (rooms : Rooms) (bounds : ℕ → ℕ) (world : World) (s : ℕ) (standing : Standing)
      → (slot_at world s).data_half ≡ standing → W world → W (data_offer_at rooms bounds world s standing)
  data_offer_at_keeps rooms bounds world s absent is all = all
  data_offer_at_keeps rooms bounds world s front is all =
      let slice = destination bounds s (slot_at world s) in
      data_ordered_keeps rooms world slice s (arrive s) (placed slice) refl
      (follows_arrival slice (slot_at world s).data_half is) all
  data_offer_at_keeps rooms bounds world s (placed slice) is all = all
  data_offer_at_keeps rooms bounds world s (recalled slice until) is all =
      data_ordered_keeps rooms world slice s (leave s) leaving refl
      (follows_leave slice until (slot_at world s).data_half is) all
  data_offer_at_keeps rooms bounds world s leaving is all = all

  pub data_offer_keeps : (rooms : Rooms) (bounds : ℕ → ℕ) (world : World) (s : ℕ) → W world
      → W (data_offer rooms bounds world s)
  data_offer_keeps rooms bounds world s all =
      data_offer_at_keeps rooms bounds world s (slot_at world s).data_half refl all

  drain_at_keeps : (rooms : Rooms) (world : World) (s : ℕ) (standing : Standing) → W world
      → W (drain_at rooms world s standing)
  drain_at_keeps rooms world s absent all = all
  drain_at_keeps rooms world s front all = all
  drain_at_keeps rooms world s (placed slice) all =
      steps.drains rooms world slice s
      (min (slot_at world s).queued (rooms.lane - length (data_at world slice).orders)) (omega arith) all
  drain_at_keeps rooms world s (recalled slice until) all = all
  drain_at_keeps rooms world s leaving all = all

  drain_keeps : (rooms : Rooms) (world : World) (s : ℕ) → W world → W (drain rooms world s)
  drain_keeps rooms world s all = drain_at_keeps rooms world s (slot_at world s).data_half all

  pub pumped_keeps : (rooms : Rooms) (bounds : ℕ → ℕ) (world : World) → W world → W (pumped rooms bounds world)
  pumped_keeps rooms bounds world all =
      let home = for_each_keeps W control_home control_home_keeps world 0 (length world.controls) all in
      let first = controls_home world in
      let offered = for_each_keeps W (control_offer bounds) (control_offer_keeps bounds) first 0
      (length first.slots) home in
      let second = controls_offered bounds first in
      let back = for_each_keeps W data_home data_home_keeps second 0 (length second.datas) offered in
      let third = datas_home second in
      let arrived = for_each_keeps W (data_offer rooms bounds) (data_offer_keeps rooms bounds) third 0
      (length third.slots) back in
      let fourth = datas_offered rooms bounds third in
      for_each_keeps W (drain rooms) (drain_keeps rooms) fourth 0 (length fourth.slots) arrived

  pub control_recalled_keeps : (bounds : ℕ → ℕ) (world : World) (s : ℕ) → W world
      → W (control_recalled bounds world s)
  control_recalled_keeps bounds world s all =
      let change : SlotNow → SlotNow =
      λ slot. record slot { control = control_called slot.control (length slot.commands) } in
      cond_keeps W (is_placed (slot_at world s).control) (control_offer bounds (on_slot world s change) s) world
      (control_offer_keeps bounds (on_slot world s change) s
      (steps.stands world s (change (slot_at world s)).control
      (absent-called (slot_at world s).control (length (slot_at world s).commands)) all)) all

  -- turns of workers
  pub turned_keeps : (rooms : Rooms) (world : World) (worker : ℕ) → W world → W (turned rooms world worker)
  turned_keeps = turn_keeps W (record {
    controls = steps.controls;
    datas = steps.datas;
    works = steps.works;
    learns = steps.learns;
    handles = steps.handles;
  })

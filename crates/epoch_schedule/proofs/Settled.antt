-- What a pass leaves as it was: a slot that wants nothing, or room in a full lane.
use Rattle.std.proofs.Common.{◌≡◌, ℕ, ◌+◌, ◌-◌, ◌<◌, ◌≤◌, ◌==◌, Bool, true, false, min, List, [], ◌∷◌, ◌++◌, length, cond, refl, sym, ap, subst, ◌∙◌, inl, inr, arith}
use Rattle.std.proofs.lemmas.Bool.{cases_lt, lt-ltb, le-ltb, eqb-true}
use Rattle.std.proofs.lemmas.List.{append-nil}
use Rattle.epoch_schedule.specs.Numbers.{put_at}
use Rattle.epoch_schedule.specs.Slots.{Standing, absent, front, placed, recalled, leaving, SlotNow, fresh_slot, destination}
use Rattle.epoch_schedule.specs.World.{World, Rooms, ControlOrder, come, go, DataNow, DataOrder, arrive, leave, fresh_data, order_room, has_room, slot_at, on_slot, control_at, on_control, data_at, on_data}
use Rattle.epoch_schedule.specs.Front.{control_ordered, control_offer_at, data_ordered, data_offer_at, drained, drain_at}
use Rattle.epoch_schedule.specs.Listed.{IsWithin, AreWithin}
use Rattle.epoch_schedule.specs.Waiting.{step_by, calls_of, half_wants, control_wants, queue_wants, wanted, IsPassed}
use Rattle.epoch_schedule.specs.declared.waiting.Pass.{Pass}
use Rattle.epoch_schedule.specs.declared.waiting.Pass.TheVariants as pass
use Rattle.epoch_schedule.specs.declared.waiting.Want.TheVariants as want
use Rattle.epoch_schedule.proofs.Touched.{put_same}

cond_no : {X : Type 0} (test : Bool) (x y : X) → test ≡ false → cond test x y ≡ y
cond_no test x y is = ap (λ t. cond t x y) is

module _ (bounds : ℕ → ℕ) (world : World) (s : ℕ) where
  -- it stays as it is
  control_full : (w : World) (slice : ℕ) (order : ControlOrder) (standing : Standing)
      → order_room ≤ length (control_at w slice).orders → control_ordered w slice s order standing ≡ w
  control_full w slice order standing full =
      cond_no (has_room order_room (control_at w slice).orders)
      (on_slot (on_control w slice (λ worker. record worker { orders = worker.orders ++ order ∷ [] })) s
      (λ slot. record slot { control = standing })) w (le-ltb (length (control_at w slice).orders) order_room full)

  front_same : (rooms : Rooms) (slice : ℕ) (test : Bool)
      → ((slot_at world s).arrived == (slot_at world s).hop) ≡ test → s < length world.slots
      → IsPassed pass.Controls rooms world (cond test (want.Room slice) want.Visit)
      → control_ordered (on_slot world s (λ slot. record slot { arrived = slot.hop })) slice s (come s) (placed slice)
      ≡ world
  front_same rooms slice true is within full =
      let told = eqb-true (slot_at world s).arrived (slot_at world s).hop is in
      let same : on_slot world s (λ slot. record slot { arrived = slot.hop }) ≡ world =
      ap (λ n. record world { slots = put_at fresh_slot world.slots s (record (slot_at world s) { arrived = n }) })
      (sym told)
      ∙ ap (λ (xs : List SlotNow). record world { slots = xs }) (put_same fresh_slot world.slots s within) in
      ap (λ w. control_ordered w slice s (come s) (placed slice)) same
      ∙ control_full world slice (come s) (placed slice) full
  front_same rooms slice false is within none = absurd none

  control_same : (rooms : Rooms) (standing : Standing) → s < length world.slots
      → IsPassed pass.Controls rooms world (control_wants ((slot_at world s).arrived == (slot_at world s).hop)
      (destination bounds s (slot_at world s)) standing)
      → control_offer_at bounds world s standing ≡ world
  control_same rooms absent within passed = refl
  control_same rooms front within passed =
      front_same rooms (destination bounds s (slot_at world s)) ((slot_at world s).arrived == (slot_at world s).hop) refl
      within passed
  control_same rooms (placed slice) within passed = refl
  control_same rooms (recalled slice until) within passed = control_full world slice (go s until) leaving passed
  control_same rooms leaving within passed = refl

  data_full : (rooms : Rooms) (slice : ℕ) (order : DataOrder) (standing : Standing)
      → rooms.lane ≤ length (data_at world slice).orders → data_ordered rooms world slice s order standing ≡ world
  data_full rooms slice order standing full =
      cond_no (has_room rooms.lane (data_at world slice).orders)
      (on_slot (on_data world slice (λ worker. record worker { orders = worker.orders ++ order ∷ [] })) s
      (λ slot. record slot { data_half = standing })) world
      (le-ltb (length (data_at world slice).orders) rooms.lane full)

  data_same : (rooms : Rooms) (standing : Standing)
      → IsPassed pass.Datas rooms world (half_wants (destination bounds s (slot_at world s)) standing)
      → data_offer_at rooms bounds world s standing ≡ world
  data_same rooms absent passed = refl
  data_same rooms front passed =
      let slice = destination bounds s (slot_at world s) in
      data_full rooms slice (arrive s) (placed slice) passed
  data_same rooms (placed slice) passed = refl
  data_same rooms (recalled slice until) passed = data_full rooms slice (leave s) leaving passed
  data_same rooms leaving passed = refl

  none_drained : (rooms : Rooms) (slice : ℕ) → slice < length world.datas → s < length world.slots
      → drained rooms world slice s 0 ≡ world
  none_drained rooms slice within below =
      let whole : record (data_at world slice) { orders = (data_at world slice).orders ++ [] } ≡ data_at world slice =
      ap (λ (orders : List DataOrder). record (data_at world slice) { orders = orders })
      (append-nil (data_at world slice).orders) in
      let less : (slot_at world s).queued - 0 ≡ (slot_at world s).queued = omega arith in
      ap (λ (worker : DataNow). record world {
        slots = put_at fresh_slot world.slots s (record (slot_at world s) { queued = (slot_at world s).queued - 0 });
        datas = put_at fresh_data world.datas slice worker;
      }) whole
      ∙ ap (λ (q : ℕ). record world {
        slots = put_at fresh_slot world.slots s (record (slot_at world s) { queued = q });
        datas = put_at fresh_data world.datas slice (data_at world slice);
      }) less
      ∙ ap (λ (xs : List SlotNow). record world {
        slots = xs;
        datas = put_at fresh_data world.datas slice (data_at world slice);
      }) (put_same fresh_slot world.slots s below)
      ∙ ap (λ (xs : List DataNow). record world { datas = xs }) (put_same fresh_data world.datas slice within)

  drain_same : (rooms : Rooms) (standing : Standing) → s < length world.slots
      → IsWithin (length world.datas) standing
      → IsPassed pass.Queues rooms world (queue_wants (slot_at world s).queued standing)
      → drain_at rooms world s standing ≡ world
  drain_same rooms absent below within passed = refl
  drain_same rooms front below within passed = refl
  drain_same rooms (placed slice) below within passed =
      let queued = (slot_at world s).queued in
      let none : min queued (rooms.lane - length (data_at world slice).orders) ≡ 0 =
      elim (cases_lt 0 queued) [
        | inl some ↦
            let full : rooms.lane ≤ length (data_at world slice).orders =
            subst (λ test. IsPassed pass.Queues rooms world (cond test (want.Room slice) want.Nothing))
            (lt-ltb 0 queued some) passed in
            omega (arith, full)
        | inr few ↦ omega (arith, few)
      ] in
      ap (drained rooms world slice s) none ∙ none_drained rooms slice within below
  drain_same rooms (recalled slice until) below within passed = refl
  drain_same rooms leaving below within passed = refl

  pub passed_same : (of : Pass) (rooms : Rooms) → AreWithin world → s < length world.slots
      → IsPassed of rooms world (wanted of bounds s (calls_of (slot_at world s)))
      → step_by of rooms bounds world s ≡ world
  passed_same pass.Controls rooms within below passed =
      control_same rooms (slot_at world s).control below passed
  passed_same pass.Datas rooms within below passed = data_same rooms (slot_at world s).data_half passed
  passed_same pass.Queues rooms within below passed =
      drain_same rooms (slot_at world s).data_half below (within s) passed

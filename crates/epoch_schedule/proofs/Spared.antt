-- What changes nothing, and is left out.
use Rattle.std.proofs.Common.{◌≡◌, ℕ, ◌<◌, false, List, [], ◌∷◌, length, cond, fold, refl, sym, ap, ◌∙◌, arith}
use Rattle.epoch_schedule.specs.Numbers.{put_at}
use Rattle.epoch_schedule.specs.Slots.{SlotNow, fresh_slot, is_absent}
use Rattle.epoch_schedule.specs.Halves.{learn_one, batches_learnt, learn}
use Rattle.epoch_schedule.specs.World.{World, Rooms, ControlNow, DataNow, fresh_control, fresh_data, slot_at, on_slot, control_at, on_control, data_at, on_data}
use Rattle.epoch_schedule.specs.Front.{packet, control_back, control_home, controls_home, data_back, data_home, datas_home, data_offer, made, parks, park_packet, send_packet, is_front, arrived_first, offer_packet, line_done}
use Rattle.epoch_schedule.proofs.Loops.{each_none, times_stuck}
use Rattle.epoch_schedule.proofs.Touched.{put_same}

-- no half was sent home
none_in : (xs : List ℕ) → length xs ≡ 0 → xs ≡ []
none_in [] few = refl
none_in (x ∷ xs) few = absurd (omega (arith, few))

pub control_home_none : (world : World) (slice : ℕ) → slice < length world.controls
    → length (control_at world slice).home ≡ 0 → control_home world slice ≡ world
control_home_none world slice within few =
    let none = none_in (control_at world slice).home few in
    ap (λ (home : List ℕ). on_control (fold control_back world home) slice
    (λ (worker : ControlNow). record worker { home = [] })) none
    ∙ ap (λ (home : List ℕ). record world {
      controls = put_at fresh_control world.controls slice (record (control_at world slice) { home = home });
    }) (sym none)
    ∙ ap (λ (xs : List ControlNow). record world { controls = xs })
    (put_same fresh_control world.controls slice within)

pub data_home_none : (world : World) (slice : ℕ) → slice < length world.datas
    → length (data_at world slice).home ≡ 0 → data_home world slice ≡ world
data_home_none world slice within few =
    let none = none_in (data_at world slice).home few in
    ap (λ (home : List ℕ). on_data (fold data_back world home) slice
    (λ (worker : DataNow). record worker { home = [] })) none
    ∙ ap (λ (home : List ℕ). record world {
      datas = put_at fresh_data world.datas slice (record (data_at world slice) { home = home });
    }) (sym none)
    ∙ ap (λ (xs : List DataNow). record world { datas = xs }) (put_same fresh_data world.datas slice within)

pub controls_home_none : (world : World)
    → ((slice : ℕ) → slice < length world.controls → length (control_at world slice).home ≡ 0)
    → world ≡ controls_home world
controls_home_none world none =
    sym (each_none control_home world 0 (length world.controls)
    (λ slice below. let within : slice < length world.controls = omega (arith, below) in
    control_home_none world slice within (none slice within)))

pub datas_home_none : (world : World)
    → ((slice : ℕ) → slice < length world.datas → length (data_at world slice).home ≡ 0)
    → world ≡ datas_home world
datas_home_none world none =
    sym (each_none data_home world 0 (length world.datas)
    (λ slice below. let within : slice < length world.datas = omega (arith, below) in
    data_home_none world slice within (none slice within)))

-- nothing is to be learnt
pub none_learnt : (slot : SlotNow) → learn_one slot ≡ slot → learn slot ≡ slot
unfolding learn
none_learnt slot stuck = times_stuck learn_one batches_learnt slot stuck

pub learns_none : (world : World) (s : ℕ) → s < length world.slots → learn (slot_at world s) ≡ slot_at world s
    → on_slot world s learn ≡ world
learns_none world s within is =
    ap (λ (slot : SlotNow). record world { slots = put_at fresh_slot world.slots s slot }) is
    ∙ ap (λ (xs : List SlotNow). record world { slots = xs }) (put_same fresh_slot world.slots s within)

-- a packet of a slot whose halves are there
pub sent_at_once : (rooms : Rooms) (bounds : ℕ → ℕ) (world : World) (s : ℕ)
    → is_absent (slot_at world s).control ≡ false → parks (slot_at world s) ≡ false
    → is_front (slot_at world s).data_half ≡ false
    → line_done rooms bounds world (packet s) ≡ send_packet rooms world s
sent_at_once rooms bounds world s has_control has_none has_data =
    ap (λ test. offer_packet rooms bounds (cond test (made rooms bounds world s) world) s) has_control
    ∙ ap (λ test. cond test (park_packet rooms world s) (send_packet rooms (arrived_first rooms bounds world s) s)) has_none
    ∙ ap (λ test. send_packet rooms (cond test (data_offer rooms bounds world s) world) s) has_data

-- Control halves are turned round their list.
use Rattle.std.proofs.Common.{◌≡◌, ℕ, suc, ◌-◌, ◌<◌, Bool, true, false, cond, sym, ap, ◌∙◌, arith}
use Rattle.epoch_schedule.specs.World.{World, Rooms}
use Rattle.epoch_schedule.specs.ControlTurns.{slot_held, half_turned, has_worked, next_place, cursor_at, work_round}

module _ (rooms : Rooms) (slice left place : ℕ) (world after all : World) (slot next : ℕ) (worked : Bool)
    (some : 0 < left) (slot_is : slot ≡ slot_held world slice place)
    (after_is : after ≡ half_turned rooms world slot) (worked_is : worked ≡ has_worked rooms world slot)
    (next_is : next ≡ next_place after slice place)
    (ahead : work_round rooms slice place left world ≡ all) where
  abbrev own : ℕ
  own = slot_held world slice place

  turned_is : after ≡ half_turned rooms world own
  turned_is = after_is ∙ ap (half_turned rooms world) slot_is

  place_is : next ≡ next_place world slice place
  place_is = next_is ∙ ap (λ w. next_place w slice place) turned_is

  test_is : worked ≡ has_worked rooms world own
  test_is = worked_is ∙ ap (has_worked rooms world) slot_is

  step : cond (has_worked rooms world own)
      (cursor_at (half_turned rooms world own) slice (next_place world slice place))
      (work_round rooms slice (next_place world slice place) (left - 1) (half_turned rooms world own)) ≡ all
  step =
      let one : left ≡ suc (left - 1) = omega (arith, some) in
      sym (ap (λ m. work_round rooms slice place m world) one) ∙ ahead

  pub round_on : worked ≡ false → work_round rooms slice next (left - 1) after ≡ all
  round_on idle =
      ap (work_round rooms slice next (left - 1)) turned_is
      ∙ ap (λ n. work_round rooms slice n (left - 1) (half_turned rooms world own)) place_is
      ∙ sym (ap (λ test. cond test (cursor_at (half_turned rooms world own) slice (next_place world slice place))
      (work_round rooms slice (next_place world slice place) (left - 1) (half_turned rooms world own)))
      (sym test_is ∙ idle)) ∙ step

  pub round_done : worked ≡ true → cursor_at after slice next ≡ all
  round_done works =
      ap (λ w. cursor_at w slice next) turned_is
      ∙ ap (cursor_at (half_turned rooms world own) slice) place_is
      ∙ sym (ap (λ test. cond test (cursor_at (half_turned rooms world own) slice (next_place world slice place))
      (work_round rooms slice (next_place world slice place) (left - 1) (half_turned rooms world own)))
      (sym test_is ∙ works)) ∙ step

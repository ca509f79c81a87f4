-- The halves of a slot that is admitted are offered from the front.
use Rattle.std.proofs.Common.{◌≡◌, ℕ, sym, ap, ◌∙◌}
use Rattle.std.specs.Prelude.{Result, Ok, Err, OnOk}
use Rattle.epoch_schedule.specs.Slots.{SlotNow, front}
use Rattle.epoch_schedule.specs.World.{World, Rooms, slot_at}
use Rattle.epoch_schedule.specs.Front.{control_made, control_offer, control_offer_at, data_made, data_offer_at, made}
use Rattle.epoch_schedule.proofs.Worlds.{slot_at-own}

made_so : (rooms : Rooms) (bounds : ℕ → ℕ) (world one two three four : World) (s : ℕ)
    → one ≡ control_made world s → two ≡ control_offer_at bounds one s front → three ≡ data_made two s
    → four ≡ data_offer_at rooms bounds three s front → four ≡ made rooms bounds world s
made_so rooms bounds world one two three four s first second third last =
    let offered : two ≡ control_offer bounds (control_made world s) s =
    second ∙ ap (λ w. control_offer_at bounds w s front) first
    ∙ ap (control_offer_at bounds (control_made world s) s) (sym at_front) in
    let is_made : three ≡ data_made (control_offer bounds (control_made world s) s) s =
    third ∙ ap (λ w. data_made w s) offered in
    last ∙ ap (λ w. data_offer_at rooms bounds w s front) is_made
    ∙ ap (data_offer_at rooms bounds (data_made (control_offer bounds (control_made world s) s) s) s)
    (sym (data_front (control_offer bounds (control_made world s) s)))
  where
    at_front : (slot_at (control_made world s) s).control ≡ front
    at_front = ap (λ (slot : SlotNow). slot.control) (slot_at-own world s (λ slot. record slot { control = front }))

    data_front : (w : World) → (slot_at (data_made w s) s).data_half ≡ front
    data_front w = ap (λ (slot : SlotNow). slot.data_half) (slot_at-own w s (λ slot. record slot { data_half = front }))

pub makes_halves : {T E : Type 0} (result : Result T E) (rooms : Rooms) (bounds : ℕ → ℕ)
    (world one two three four : World) (s : ℕ)
    → one ≡ control_made world s → two ≡ control_offer_at bounds one s front → three ≡ data_made two s
    → OnOk result (four ≡ data_offer_at rooms bounds three s front) → OnOk result (four ≡ made rooms bounds world s)
makes_halves (Ok v) rooms bounds world one two three four s first second third last =
    made_so rooms bounds world one two three four s first second third last
makes_halves (Err e) rooms bounds world one two three four s first second third last = tt

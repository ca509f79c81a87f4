-- As many commands as a lane carries leave the counts of a session room to rise.
use Rattle.std.proofs.Common.{ℕ, ◌+◌, ◌≤◌, ◌^◌, length, arith, List, [], ◌∷◌}
use Rattle.bearer_state.specs.Session.{SessionState}
use Rattle.control_steps.specs.Rise.{CountsRise}
use Rattle.control_half.specs.declared.items.CommandItem.{CommandItem}
use Rattle.control_half.specs.Applied.{HasRoomFor}
use Rattle.control_half.specs.Controlled.{session_behind, stepped}

rise_by : CountsRise → (start : SessionState) (items : List CommandItem)
    → ((session_behind start items).rates ≤ start.rates + length items)
    × ((session_behind start items).lives ≤ start.lives + length items)
rise_by rise start [] = (omega arith, omega arith)
rise_by rise start (item ∷ items) =
    let one = rise start item.command in
    let rest = rise_by rise (stepped start item) items in
    (omega (arith, one.rates, rest.0), omega (arith, one.lives, rest.1))

pub room_for : CountsRise → (start : SessionState) (first : ℕ) → start.rates ≤ 2 ^ 60 → start.lives ≤ 2 ^ 60
    → first ≤ 2 ^ 60 → HasRoomFor start first
room_for rise start first rates lives number = record {
  sessions = λ items few.
      let risen = rise_by rise start items in
      record { rates = omega (arith, few, rates, risen.0); lives = omega (arith, few, lives, risen.1) };
  number = number;
}

-- The name of a control half.
use Rattle.std.specs.Prelude.{ℕ}
use Rattle.lane_core.specs.Ends.{Lane}
use Rattle.bearer_state.specs.Session.{SessionState}

-- the session and the count of commands when the subscriber was split, the lane on which commands come, and that of
-- the versions
pub record Named : Type 0 where
  pub session : SessionState
  pub number : ℕ
  pub commands : Lane
  pub versions : Lane

abbrev pub slot_of : Named → ℕ
slot_of name = name.session.slot

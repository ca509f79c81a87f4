-- The requests whose answer is a known message type.
use Rattle.std.specs.Prelude.{◌≡◌, ℕ, ◌<◌, true}
use Rattle.gtpv2_msg.specs.Kinds.{is_kind, answer_of}

pub record IsAnswered (request : ℕ) : Type 0 where
  pub fits : request < 255
  pub answer : is_kind (answer_of request) ≡ true

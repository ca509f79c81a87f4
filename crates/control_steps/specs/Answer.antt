-- An answer to a request with all its memory, and what it was asked for.
use Rattle.std.specs.Prelude.{◌≡◌, ℕ}
use Rattle.gtpv2_msg.specs.Message.{Message}
use Rattle.gtpv2_msg.specs.Spelling.{spelling}
use Rattle.bearer_state.specs.Session.{IsKept}
use Rattle.control_steps.specs.declared.answer.Answer.{Answer}

-- the octets of a message go out, and are kept for repeats of the request
pub record Answers (answer : Answer) (kind seq : ℕ) (message : Message) : Type 0 where
  pub octets : answer.octets ≡ spelling message
  pub kept : answer.kept ≡ record { kind = kind; seq = seq; reply = spelling message }
  pub valid : IsKept answer.kept

-- The answer to a request is a message.
use Rattle.std.proofs.Common.{ℕ, ◌+◌, ◌≤◌, ◌<◌, ◌^◌, [], ◌∷◌, length, Option, Some, None, arith}
use Rattle.std.specs.Option.{is_some}
use Rattle.gtpv2_ie.specs.Spelling.{spellings}
use Rattle.gtpv2_msg.specs.Header.{header_len}
use Rattle.gtpv2_msg.specs.Refusal.{cause_element}
use Rattle.gtpv2_msg.proofs.RequiredLemmas.{request_small, answer_known}
use Rattle.gtpv2_msg.proofs.refusing.refuse.Goals as goal

answer_len : (teid : Option ℕ) (cause : ℕ) (of : ℕ × ℕ)
    → header_len (is_some teid) + length (spellings (cause_element cause of ∷ [])) < 4 + 2 ^ 16
answer_len None cause of = omega arith
answer_len (Some teid) cause of = omega arith

pub overflow_add-message : goal.overflow_add-message
overflow_add-message c = let small : c.args.request ≤ 176 = request_small _ c.requires.request in omega arith

pub invariant_of-message : goal.invariant_of-message
invariant_of-message c = record {
  kind = answer_known _ c.requires.request;
  teid = c.no_teid.ensures.range;
  seq = c.requires.seq;
  len = rw c.in_ok-ies.ensures (answer_len c.no_teid.result c.args.cause c.args.of);
}

-- The answer to a request is a message of a known type.
use Rattle.std.proofs.Common.{◌≡◌, ℕ, ◌+◌, ◌-◌, ◌≤◌, ◌||◌, Bool, true, false, refl, ap, ◌∙◌, arith}
use Rattle.std.proofs.lemmas.Bool.Decides.{nat_tests}
use Rattle.gtpv2_msg.specs.Kinds.{is_request, is_kind}
use Rattle.gtpv2_msg.specs.Validity.{IsMessage}
use Rattle.bearer_state.specs.Bearer.{IsSeq}
use Rattle.control_steps.specs.Kinds.{IsAnswered}
use Rattle.demux.specs.Mme.{echo_response}

pub request_small : (kind : ℕ) → is_request kind ≡ true → kind ≤ 176
unfolding is_request
request_small kind is = grind (arith, nat_tests)

or_true : (first : Bool) → (first || true) ≡ true
or_true true = refl
or_true false = refl

answer_known : (kind : ℕ) → is_request kind ≡ true → is_kind (kind + 1) ≡ true
unfolding is_kind
answer_known kind is =
    let back : kind + 1 - 1 ≡ kind = omega arith in
    ap (λ k. is_request (kind + 1) || is_request k) back ∙ ap (λ b. is_request (kind + 1) || b) is
    ∙ or_true (is_request (kind + 1))

pub is_answered : (kind : ℕ) → is_request kind ≡ true → IsAnswered kind
is_answered kind is =
    record { fits = (let small = request_small kind is in omega (arith, small)); answer = answer_known kind is }

pub creation_is_answered : IsAnswered 32
unfolding is_kind is_request
creation_is_answered = record { fits = omega arith; answer = refl }

pub echo_response_fits : (seq : ℕ) → IsSeq seq → IsMessage (echo_response seq)
unfolding is_kind is_request
echo_response_fits seq fits = record { kind = refl; teid = tt; seq = fits; len = omega arith }

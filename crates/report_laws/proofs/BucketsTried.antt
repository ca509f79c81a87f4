-- What counters come to where they try octets by their buckets alone.
use Rattle.std.proofs.Common.{◌≡◌, ℕ, ◌≤◌, Bool, ◌∷◌, ◌++◌, [], MatchBool, refl, sym, ap, ◌∙◌, subst, arith}
use Rattle.std.specs.List.{Contains}
use Rattle.rate_policer.specs.declared.cost.Cost.{Cost}
use Rattle.rate_policer.specs.Conforming.{cost_of}
use Rattle.rate_policer.specs.Buckets.{BucketState, StandsFor, asked, lets_through}
use Rattle.bearer_state.specs.declared.version.ActiveBearer.{ActiveBearer}
use Rattle.packet_steps.specs.Past.{Past, moment_of}
use Rattle.packet_steps.specs.Verdicts.{at_moment}
use Rattle.packet_steps.specs.Meters.{MetersState, MetersStand, bucket_for}
use Rattle.packet_steps.specs.Plans.{Tries}
use Rattle.packet_steps.specs.Running.{cost_in, left_for}
use Rattle.packet_steps.proofs.HistoryLemmas.{Asked, tried_so}
use Rattle.packet_steps.proofs.ReleaseLemmas.{tries_now}
use Rattle.packet_steps.proofs.RunningLemmas.{at_now}
use Rattle.report_laws.proofs.BucketsAsked.{asked_stands, asked_tells}

-- a bucket asks for a cost of now, where it wasn't asked later
asked_so : (old : BucketState) (octets at : ℕ)
    → Asked old (asked old (cost_in old octets at)) at octets (lets_through old (cost_in old octets at))
asked_so old octets at = record {
  tested = λ passed stands late.
      ap (lets_through old) (sym (at_now old octets at late))
      ∙ asked_tells old passed (cost_of octets at) stands late;
  charged = λ passed stands late.
      subst (λ (cost : Cost). MatchBool (lets_through old cost)
      (StandsFor (asked old cost) (passed ++ cost_of octets at ∷ [])) (StandsFor (asked old cost) passed))
      (at_now old octets at late) (asked_stands old passed (cost_of octets at) stands late);
  rate = refl;
  asked = λ late. sym (ap (λ (cost : Cost). cost.at) (at_now old octets at late));
}

-- octets of an active bearer are tried at a moment that isn't earlier than the last
pub left_tries : (meters : MetersState) (past : Past) (bearer : ActiveBearer) (up : Bool) (octets at : ℕ)
    → MetersStand meters past → Contains past.version.bearers bearer → moment_of past ≤ at
    → Tries (at_moment past at) bearer up octets (left_for meters bearer up octets at)
left_tries meters past bearer up octets at stands there late =
    let old = bucket_for meters bearer up in
    tried_so meters past bearer up at octets old (asked old (cost_in old octets at))
    (lets_through old (cost_in old octets at)) refl stands there late (asked_so old octets at)

-- or at that of the last one
pub left_tries_now : (meters : MetersState) (past : Past) (bearer : ActiveBearer) (up : Bool) (octets at : ℕ)
    → MetersStand meters past → Contains past.version.bearers bearer → moment_of past ≡ at
    → Tries past bearer up octets (left_for meters bearer up octets at)
left_tries_now meters past bearer up octets at stands there now =
    tries_now past bearer up at octets (left_for meters bearer up octets at) now
    (left_tries meters past bearer up octets at stands there (omega (arith, now)))

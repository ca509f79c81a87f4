-- What is planned of octets that pass.
use Rattle.std.proofs.Common.{◌≡◌, ℕ, ◌==◌, Bool, true, false, cond, List, length, Option, Some, refl, sym, ◌∙◌, ap, subst}
use Rattle.std.specs.List.{Contains}
use Rattle.pc_base.specs.Addresses.{addr_of}
use Rattle.pc_base.specs.declared.packet.Packet.{Packet}
use Rattle.pc_base.specs.declared.packet.Verdict.{Verdict}
use Rattle.pc_base.specs.declared.packet.Verdict.TheVariants as verdict
use Rattle.rate_policer.specs.Buckets.{BucketState}
use Rattle.ipv4_packet.specs.Fields.{source_of}
use Rattle.bearer_state.specs.declared.version.ActiveBearer.{ActiveBearer}
use Rattle.packet_steps.specs.declared.plan.Plan.TheVariants as plan
use Rattle.packet_steps.specs.Past.{Past, row_for, with_row}
use Rattle.packet_steps.specs.Policing.{passes}
use Rattle.packet_steps.specs.Verdicts.{tried, judged_up}
use Rattle.packet_steps.specs.Plans.{Tries, Plans}

-- up, from the subscriber's own address
pub planned_through_up : (past : Past) (packet : Packet) (octets : List ℕ) (bearer : ActiveBearer)
    (tried_ : Bool × BucketState) (len : ℕ) (found : Option ActiveBearer) → found ≡ Some bearer
    → (source_of octets == addr_of past.version.slot) ≡ true → len ≡ length octets → packet.octets ≡ octets
    → Contains past.version.bearers bearer → Tries past bearer true len tried_ → tried_.0 ≡ true
    → Plans past packet (judged_up past octets found) (plan.Up bearer tried_.1 len)
planned_through_up past packet octets bearer tried_ len found is own lens same there tries let_through =
    let passed = verdict.Up bearer.life octets in
    let next = with_row past (row_for past bearer true (length octets)) in
    let outcome : judged_up past octets found ≡ (next, passed) =
    ap (judged_up past octets) is
    ∙ ap (λ t. cond t (tried past bearer true (length octets) passed) (past, verdict.Spoof)) own
    ∙ ap (λ t. cond t (next, passed) (past, verdict.Policed bearer.life))
    (ap (passes past bearer true) (sym lens) ∙ tries.answer ∙ let_through) in
    subst (λ (o : Past × Verdict). Plans past packet o (plan.Up bearer tried_.1 len)) (sym outcome) (record {
      verdict_is = ap (λ (o : List ℕ). verdict.Up bearer.life o) same;
      does = record {
        next_is = ap (λ n. with_row past (row_for past bearer true n)) (sym lens);
        there = there;
        behind = tries.behind let_through;
      };
    })

-- and of those that don't
pub planned_refused_up : (past : Past) (packet : Packet) (octets : List ℕ) (bearer : ActiveBearer)
    (tried_ : Bool × BucketState) (len : ℕ) (found : Option ActiveBearer) → found ≡ Some bearer
    → (source_of octets == addr_of past.version.slot) ≡ true → len ≡ length octets
    → Contains past.version.bearers bearer → Tries past bearer true len tried_ → tried_.0 ≡ false
    → Plans past packet (judged_up past octets found) (plan.Policed bearer true tried_.1)
planned_refused_up past packet octets bearer tried_ len found is own lens there tries kept_back =
    let passed = verdict.Up bearer.life octets in
    let next = with_row past (row_for past bearer true (length octets)) in
    let outcome : judged_up past octets found ≡ (past, verdict.Policed bearer.life) =
    ap (judged_up past octets) is
    ∙ ap (λ t. cond t (tried past bearer true (length octets) passed) (past, verdict.Spoof)) own
    ∙ ap (λ t. cond t (next, passed) (past, verdict.Policed bearer.life))
    (ap (passes past bearer true) (sym lens) ∙ tries.answer ∙ kept_back) in
    subst (λ (o : Past × Verdict). Plans past packet o (plan.Policed bearer true tried_.1)) (sym outcome)
    (record { verdict_is = refl; does = record { next_is = refl; there = there; still = tries.still kept_back } })

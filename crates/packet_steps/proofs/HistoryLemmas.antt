-- What a bucket represents behind octets that pass.
use Rattle.std.proofs.Common.{◌≡◌, ℕ, ◌≤◌, ◌==◌, ◌&&◌, Bool, true, false, not, cond, List, [], ◌∷◌, ◌++◌, filter, MatchBool, sym, ◌∙◌, ap, subst, refl, eq-eqb, le_trans, arith}
use Rattle.std.specs.List.{Contains}
use Rattle.std.proofs.lemmas.List.{map_push, append-nil}
use Rattle.rate_policer.specs.declared.cost.Cost.{Cost}
use Rattle.rate_policer.specs.Conforming.{cost_of, conforms}
use Rattle.rate_policer.specs.Buckets.{BucketState, rate_of, last_of}
use Rattle.rate_policer.specs.Buckets as buckets
use Rattle.bearer_state.specs.declared.version.ActiveBearer.{ActiveBearer}
use Rattle.bearer_state.specs.Qos.{is_guaranteed}
use Rattle.packet_steps.specs.Rows.{ForwardedRow}
use Rattle.packet_steps.specs.Past.{Past, moment_of, row_for}
use Rattle.packet_steps.specs.Policing.{mbr, ambr, same_way, is_of_life, is_of_rates, is_policed_with, rate_for, history_for, costs, passes}
use Rattle.packet_steps.specs.Verdicts.{at_moment}
use Rattle.packet_steps.specs.Meters.{MetersState, bucket_of, own_meter, bucket_for, Polices, MetersStand}
use Rattle.packet_steps.specs.Plans.{Tries}

-- a filter and one element more
pub filter_push : {X : Type 0} (p : X → Bool) (xs : List X) (x : X)
    → filter p (xs ++ x ∷ []) ≡ filter p xs ++ cond (p x) (x ∷ []) []
filter_push p [] x = refl
filter_push p (y ∷ ys) x =
    let rest = filter_push p ys x in
    elim (p y) as (λ b. cond b (y ∷ filter p (ys ++ x ∷ [])) (filter p (ys ++ x ∷ []))
    ≡ cond b (y ∷ filter p ys) (filter p ys) ++ cond (p x) (x ∷ []) []) [
      | true ↦ ap (λ zs. y ∷ zs) rest
      | false ↦ rest
    ]

pub filter_with : {X : Type 0} (p : X → Bool) (xs : List X) (x : X) → p x ≡ true
    → filter p (xs ++ x ∷ []) ≡ filter p xs ++ x ∷ []
filter_with p xs x is = filter_push p xs x ∙ ap (λ b. filter p xs ++ cond b (x ∷ []) []) is

pub filter_without : {X : Type 0} (p : X → Bool) (xs : List X) (x : X) → p x ≡ false
    → filter p (xs ++ x ∷ []) ≡ filter p xs
filter_without p xs x is = filter_push p xs x ∙ ap (λ b. filter p xs ++ cond b (x ∷ []) []) is
    ∙ append-nil (filter p xs)

pub one_way : (up : Bool) → same_way up up ≡ true
one_way true = refl
one_way false = refl

-- a bearer's own row is in its history
own_by : (guaranteed up : Bool) (life rates : ℕ)
    → cond guaranteed (life == life && same_way up up) (not guaranteed && (rates == rates && same_way up up)) ≡ true
own_by true up life rates = ap (λ b. b && same_way up up) (eq-eqb life life refl) ∙ one_way up
own_by false up life rates = ap (λ b. b && same_way up up) (eq-eqb rates rates refl) ∙ one_way up

pub is_own : (past : Past) (bearer : ActiveBearer) (up : Bool) (octets : ℕ)
    → is_policed_with past.version bearer up (row_for past bearer up octets) ≡ true
is_own past bearer up octets = own_by (is_guaranteed bearer.qos.qci) up bearer.life past.version.rates

pub history_push : (past : Past) (bearer : ActiveBearer) (up : Bool) (octets : ℕ)
    → history_for past.version bearer up (past.forwarded ++ row_for past bearer up octets ∷ [])
    ≡ history_for past.version bearer up past.forwarded ++ row_for past bearer up octets ∷ []
history_push past bearer up octets =
    filter_with (is_policed_with past.version bearer up) past.forwarded (row_for past bearer up octets)
    (is_own past bearer up octets)

-- the bucket of an active bearer polices it
polices_by : (meters : MetersState) (past : Past) (bearer : ActiveBearer) (up : Bool) → MetersStand meters past
    → Contains past.version.bearers bearer
    → (guaranteed : Bool) → is_guaranteed bearer.qos.qci ≡ guaranteed
    → Polices (cond guaranteed (bucket_of up (own_meter meters bearer.index)) (bucket_of up meters.shared))
    (cond guaranteed (mbr up bearer.qos) (ambr up past.version))
    (filter (λ row. cond guaranteed (is_of_life bearer.life up row)
    (is_of_rates past.version.rates up row)) past.forwarded) (moment_of past)
polices_by meters past bearer up stands there true is = stands.own bearer up there is
polices_by meters past bearer up stands there false is = stands.shared up

pub polices : (meters : MetersState) (past : Past) (bearer : ActiveBearer) (up : Bool) → MetersStand meters past
    → Contains past.version.bearers bearer
    → Polices (bucket_for meters bearer up) (rate_for past.version bearer up)
    (history_for past.version bearer up past.forwarded) (moment_of past)
polices meters past bearer up stands there = polices_by meters past bearer up stands there
    (is_guaranteed bearer.qos.qci) refl

-- what a bucket was asked for, and how it answered
pub record Asked (old new : BucketState) (at octets : ℕ) (answer : Bool) : Type 0 where
  pub tested : (passed : List Cost) → buckets.StandsFor old passed → last_of old ≤ at
      → answer ≡ conforms (rate_of old) passed (cost_of octets at)
  pub charged : (passed : List Cost) → buckets.StandsFor old passed → last_of old ≤ at
      → MatchBool answer (buckets.StandsFor new (passed ++ cost_of octets at ∷ [])) (buckets.StandsFor new passed)
  pub rate : rate_of new ≡ rate_of old
  pub asked : last_of old ≤ at → last_of new ≡ at

tested_by : (past : Past) (bearer : ActiveBearer) (up : Bool) (at octets : ℕ) (old new : BucketState) (answer : Bool)
    → Polices old (rate_for past.version bearer up) (history_for past.version bearer up past.forwarded) (moment_of past)
    → moment_of past ≤ at → Asked old new at octets answer → answer ≡ passes (at_moment past at) bearer up octets
tested_by past bearer up at octets old new answer known late asked =
    asked.tested (costs (history_for past.version bearer up past.forwarded)) known.stands (le_trans known.asked late)
    ∙ ap (λ rate. conforms rate (costs (history_for past.version bearer up past.forwarded))
    (cost_of octets at)) known.rate_is

pub tries_so : (past : Past) (bearer : ActiveBearer) (up : Bool) (at octets : ℕ) (old new : BucketState)
    (answer : Bool)
    → Polices old (rate_for past.version bearer up) (history_for past.version bearer up past.forwarded) (moment_of past)
    → moment_of past ≤ at → Asked old new at octets answer
    → Tries (at_moment past at) bearer up octets (answer, new)
tries_so past bearer up at octets old new answer known late asked =
    let passed = costs (history_for past.version bearer up past.forwarded) in
    let charged = asked.charged passed known.stands (le_trans known.asked late) in
    let now : last_of new ≤ at = subst (λ moment. moment ≤ at) (sym (asked.asked (le_trans known.asked late))) (omega arith) in
    record {
      answer = sym (tested_by past bearer up at octets old new answer known late asked);
      behind = λ let_through. record {
        rate_is = asked.rate ∙ known.rate_is;
        stands = subst (buckets.StandsFor new)
            (sym (ap costs (history_push (at_moment past at) bearer up octets)
            ∙ map_push (λ (row : ForwardedRow). cost_of row.octets row.at)
            (history_for past.version bearer up past.forwarded) (row_for (at_moment past at) bearer up octets)))
            (subst (λ b. MatchBool b (buckets.StandsFor new (passed ++ cost_of octets at ∷ []))
            (buckets.StandsFor new passed)) let_through charged);
        asked = now;
      };
      still = λ kept_back. record {
        rate_is = asked.rate ∙ known.rate_is;
        stands = subst (λ b. MatchBool b (buckets.StandsFor new (passed ++ cost_of octets at ∷ []))
            (buckets.StandsFor new passed)) kept_back charged;
        asked = now;
      };
    }

-- the same of the bucket in its place
pub tried_so : (meters : MetersState) (past : Past) (bearer : ActiveBearer) (up : Bool) (at octets : ℕ)
    (old new : BucketState) (answer : Bool) → old ≡ bucket_for meters bearer up
    → MetersStand meters past → Contains past.version.bearers bearer → moment_of past ≤ at
    → Asked old new at octets answer
    → Tries (at_moment past at) bearer up octets (answer, new)
tried_so meters past bearer up at octets old new answer is stands there late asked =
    tries_so past bearer up at octets old new answer
    (subst (λ b. Polices b (rate_for past.version bearer up) (history_for past.version bearer up past.forwarded)
    (moment_of past)) (sym is)
    (polices meters past bearer up stands there)) late asked

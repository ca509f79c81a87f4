-- The meters behind octets that pass represent one row more.
use Rattle.std.proofs.Common.{◌≡◌, ◌≢◌, ℕ, ◌<◌, ◌≤◌, ◌==◌, ◌&&◌, Bool, true, false, not, cond, List, [], ◌∷◌, ◌++◌, length, filter, set, ◌⊎◌, inl, inr, refl, sym, ◌∙◌, ap, subst, le_trans}
use Rattle.std.specs.List.{Contains}
use Rattle.std.proofs.lemmas.Bool.{cases_eq, ne_eqb, false≢true}
use Rattle.std.proofs.lemmas.List.{get_or-set_same, get_or-set_other}
use Rattle.std.proofs.Math.ListN.{length-set}
use Rattle.rate_policer.specs.Buckets.{BucketState}
use Rattle.bearer_state.specs.declared.version.ActiveBearer.{ActiveBearer}
use Rattle.bearer_state.specs.Qos.{is_guaranteed}
use Rattle.bearer_state.specs.Version.{IsVersion}
use Rattle.packet_steps.specs.declared.meters.Meter.{Meter}
use Rattle.packet_steps.specs.Rows.{ForwardedRow}
use Rattle.packet_steps.specs.Past.{Past, moment_of, row_for, with_row}
use Rattle.packet_steps.specs.Policing.{mbr, ambr, same_way, is_of_life, is_of_rates}
use Rattle.packet_steps.specs.Verdicts.{at_moment}
use Rattle.packet_steps.specs.Meters.{MetersState, bucket_of, with_bucket, new_meter, own_meter, put_bucket, Polices, MetersStand}
use Rattle.packet_steps.specs.Plans.{PolicesBehind, PolicesStill}
use Rattle.packet_steps.proofs.HistoryLemmas.{filter_without}
use Rattle.packet_steps.proofs.BearerLemmas.{same_by_index, same_by_life, index_in_range}

-- a bucket polices the same rows at a later moment
pub polices_later : (b : BucketState) (rate : ℕ) (rows : List ForwardedRow) (moment later : ℕ) → moment ≤ later
    → Polices b rate rows moment → Polices b rate rows later
polices_later b rate rows moment later late known = record { rate_is = known.rate_is; stands = known.stands; asked = le_trans known.asked late }

pub meters_later : (meters : MetersState) (past : Past) (at : ℕ) → MetersStand meters past → moment_of past ≤ at
    → MetersStand meters (at_moment past at)
meters_later meters past at stands late = record {
  sized = stands.sized;
  shared = λ up. polices_later _ _ _ (moment_of past) at late (stands.shared up);
  own = λ bearer up there guaranteed. polices_later _ _ _ (moment_of past) at late
      (stands.own bearer up there guaranteed);
}

-- the two ways
pub same_bucket : (up : Bool) (b : BucketState) (meter : Meter) → bucket_of up (with_bucket up b meter) ≡ b
same_bucket true b meter = refl
same_bucket false b meter = refl

pub other_bucket : (up other : Bool) (b : BucketState) (meter : Meter) → same_way up other ≡ false
    → bucket_of other (with_bucket up b meter) ≡ bucket_of other meter
other_bucket true true b meter differs = absurd (cc)
other_bucket true false b meter differs = refl
other_bucket false true b meter differs = refl
other_bucket false false b meter differs = absurd (cc)

ways : (up other : Bool) → (up ≡ other) ⊎ (same_way up other ≡ false)
ways true true = inl refl
ways true false = inr refl
ways false true = inr refl
ways false false = inl refl

and_no : (a b : Bool) → b ≡ false → (a && b) ≡ false
and_no true b untrue = untrue
and_no false b untrue = refl

-- a row that isn't of these leaves what they are
polices_without : (b : BucketState) (rate : ℕ) (p : ForwardedRow → Bool) (rows : List ForwardedRow)
    (row : ForwardedRow) (moment : ℕ) → p row ≡ false
    → Polices b rate (filter p rows) moment → Polices b rate (filter p (rows ++ row ∷ [])) moment
polices_without b rate p rows row moment apart known =
    subst (λ (kept : List ForwardedRow). Polices b rate kept moment) (sym (filter_without p rows row apart)) known

abbrev set_own : MetersState → ActiveBearer → Bool → BucketState → List Meter
set_own meters bearer up b = set meters.own bearer.index (with_bucket up b (own_meter meters bearer.index))

-- the row of a bearer with a guaranteed rate, and of another one
guaranteed_put : (meters : MetersState) (past : Past) (bearer : ActiveBearer) (up : Bool) (octets : ℕ) (b : BucketState)
    → MetersStand meters past → IsVersion past.version → Contains past.version.bearers bearer
    → is_guaranteed bearer.qos.qci ≡ true
    → Polices b (mbr up bearer.qos)
    (filter (is_of_life bearer.life up) (past.forwarded ++ row_for past bearer up octets ∷ [])) (moment_of past)
    → MetersStand (record meters { own = set_own meters bearer up b }) (with_row past (row_for past bearer up octets))
guaranteed_put meters past bearer up octets b stands ranges there guaranteed behind = record {
  sized = length-set meters.own bearer.index (with_bucket up b (own_meter meters bearer.index)) ∙ stands.sized;
  shared = λ way. polices_without _ _ (is_of_rates past.version.rates way) past.forwarded row (moment_of past)
      (ap (λ g. not g && (row.rates == past.version.rates && same_way up way)) guaranteed) (stands.shared way);
  own = λ other way there_other guaranteed_other.
      elim (cases_eq other.index bearer.index) [
        | inl same ↦
            let equal : bearer ≡ other = sym (same_by_index past.version other bearer ranges there_other there same) in
            subst (λ (x : ActiveBearer). Polices (bucket_of way (own_meter put x.index)) (mbr way x.qos)
            (filter (is_of_life x.life way) (past.forwarded ++ row ∷ [])) (moment_of past)) equal
            (subst (λ (m : Meter). Polices (bucket_of way m) (mbr way bearer.qos)
            (filter (is_of_life bearer.life way) (past.forwarded ++ row ∷ [])) (moment_of past))
            (sym (get_or-set_same meters.own bearer.index (with_bucket up b (own_meter meters bearer.index))
            (new_meter 0 0) within))
            (elim (ways up way) [
              | inl one ↦ subst (λ w. Polices (bucket_of w (with_bucket up b (own_meter meters bearer.index))) (mbr w bearer.qos) (filter (is_of_life bearer.life w) (past.forwarded ++ row ∷ [])) (moment_of past)) one
                  (subst (λ (c : BucketState). Polices c (mbr up bearer.qos)
                  (filter (is_of_life bearer.life up) (past.forwarded ++ row ∷ [])) (moment_of past))
                  (sym (same_bucket up b (own_meter meters bearer.index))) behind)
              | inr two ↦ subst (λ (c : BucketState). Polices c (mbr way bearer.qos) (filter (is_of_life bearer.life way) (past.forwarded ++ row ∷ [])) (moment_of past))
                  (sym (other_bucket up way b (own_meter meters bearer.index) two))
                  (polices_without _ _ (is_of_life bearer.life way) past.forwarded row (moment_of past)
                  (and_no (row.life == bearer.life) (same_way up way) two)
                  (stands.own bearer way there guaranteed))
            ]))
        | inr apart ↦
            let differs : bearer.life ≢ other.life = λ same. apart
            (ap (λ (x : ActiveBearer). x.index)
            (sym (same_by_life past.version bearer other ranges there there_other same))) in
            subst (λ (m : Meter). Polices (bucket_of way m) (mbr way other.qos)
            (filter (is_of_life other.life way) (past.forwarded ++ row ∷ [])) (moment_of past))
            (sym (get_or-set_other meters.own bearer.index other.index
            (with_bucket up b (own_meter meters bearer.index)) (new_meter 0 0) apart))
            (polices_without _ _ (is_of_life other.life way) past.forwarded row (moment_of past)
            (ap (λ t. t && same_way up way) (ne_eqb bearer.life other.life differs))
            (stands.own other way there_other guaranteed_other))
      ];
}
  where
    row : ForwardedRow
    row = row_for past bearer up octets

    put : MetersState
    put = record meters { own = set_own meters bearer up b }

    within : bearer.index < length meters.own
    within = subst (λ n. bearer.index < n) (sym stands.sized) (index_in_range past.version bearer ranges there)

shared_put : (meters : MetersState) (past : Past) (bearer : ActiveBearer) (up : Bool) (octets : ℕ) (b : BucketState)
    → MetersStand meters past → IsVersion past.version → Contains past.version.bearers bearer
    → is_guaranteed bearer.qos.qci ≡ false
    → Polices b (ambr up past.version)
    (filter (is_of_rates past.version.rates up) (past.forwarded ++ row_for past bearer up octets ∷ [])) (moment_of past)
    → MetersStand (record meters { shared = with_bucket up b meters.shared })
    (with_row past (row_for past bearer up octets))
shared_put meters past bearer up octets b stands ranges there shares behind = record {
  sized = stands.sized;
  shared = λ way.
      elim (ways up way) [
        | inl one ↦ subst (λ w. Polices (bucket_of w (with_bucket up b meters.shared)) (ambr w past.version) (filter (is_of_rates past.version.rates w) (past.forwarded ++ row ∷ [])) (moment_of past)) one
            (subst (λ (c : BucketState). Polices c (ambr up past.version)
            (filter (is_of_rates past.version.rates up) (past.forwarded ++ row ∷ [])) (moment_of past))
            (sym (same_bucket up b meters.shared)) behind)
        | inr two ↦ subst (λ (c : BucketState). Polices c (ambr way past.version) (filter (is_of_rates past.version.rates way) (past.forwarded ++ row ∷ [])) (moment_of past))
            (sym (other_bucket up way b meters.shared two))
            (polices_without _ _ (is_of_rates past.version.rates way) past.forwarded row (moment_of past)
            (and_no (not (is_guaranteed bearer.qos.qci)) (row.rates == past.version.rates && same_way up way)
            (and_no (row.rates == past.version.rates) (same_way up way) two))
            (stands.shared way))
      ];
  own = λ other way there_other guaranteed_other.
      let differs : bearer.life ≢ other.life = λ same.
      false≢true (sym shares ∙ ap (λ (x : ActiveBearer). is_guaranteed x.qos.qci)
      (same_by_life past.version bearer other ranges there there_other same) ∙ guaranteed_other) in
      polices_without _ _ (is_of_life other.life way) past.forwarded row (moment_of past)
      (ap (λ t. t && same_way up way) (ne_eqb bearer.life other.life differs))
      (stands.own other way there_other guaranteed_other);
}
  where
    row : ForwardedRow
    row = row_for past bearer up octets

put_by : (meters : MetersState) (past : Past) (bearer : ActiveBearer) (up : Bool) (octets : ℕ) (b : BucketState)
    (guaranteed : Bool)
    → is_guaranteed bearer.qos.qci ≡ guaranteed → MetersStand meters past → IsVersion past.version
    → Contains past.version.bearers bearer
    → Polices b (cond guaranteed (mbr up bearer.qos) (ambr up past.version))
    (filter (λ row. cond guaranteed (is_of_life bearer.life up row) (is_of_rates past.version.rates up row))
    (past.forwarded ++ row_for past bearer up octets ∷ [])) (moment_of past)
    → MetersStand (cond guaranteed (record meters { own = set_own meters bearer up b })
    (record meters { shared = with_bucket up b meters.shared }))
    (with_row past (row_for past bearer up octets))
put_by meters past bearer up octets b true is stands ranges there behind = guaranteed_put meters past bearer up octets b stands ranges there is behind
put_by meters past bearer up octets b false is stands ranges there behind = shared_put meters past bearer up octets b stands ranges there is behind

-- the meters with a bucket put in its place
pub put_stands : (meters : MetersState) (past : Past) (bearer : ActiveBearer) (up : Bool) (octets : ℕ) (b : BucketState)
    → MetersStand meters past → IsVersion past.version → Contains past.version.bearers bearer
    → PolicesBehind past bearer up octets b
    → MetersStand (put_bucket meters bearer up b) (with_row past (row_for past bearer up octets))
put_stands meters past bearer up octets b stands ranges there behind =
    put_by meters past bearer up octets b (is_guaranteed bearer.qos.qci) refl stands ranges there behind

-- ---- octets that don't pass

guaranteed_still : (meters : MetersState) (past : Past) (bearer : ActiveBearer) (up : Bool) (b : BucketState)
    → MetersStand meters past → IsVersion past.version → Contains past.version.bearers bearer
    → is_guaranteed bearer.qos.qci ≡ true
    → Polices b (mbr up bearer.qos) (filter (is_of_life bearer.life up) past.forwarded) (moment_of past)
    → MetersStand (record meters { own = set_own meters bearer up b }) past
guaranteed_still meters past bearer up b stands ranges there guaranteed still = record {
  sized = length-set meters.own bearer.index (with_bucket up b (own_meter meters bearer.index)) ∙ stands.sized;
  shared = stands.shared;
  own = λ other way there_other guaranteed_other.
      elim (cases_eq other.index bearer.index) [
        | inl same ↦
            let equal : bearer ≡ other = sym (same_by_index past.version other bearer ranges there_other there same) in
            subst (λ (x : ActiveBearer). Polices (bucket_of way (own_meter put x.index)) (mbr way x.qos)
            (filter (is_of_life x.life way) past.forwarded) (moment_of past)) equal
            (subst (λ (m : Meter). Polices (bucket_of way m) (mbr way bearer.qos)
            (filter (is_of_life bearer.life way) past.forwarded) (moment_of past))
            (sym (get_or-set_same meters.own bearer.index (with_bucket up b (own_meter meters bearer.index))
            (new_meter 0 0) within))
            (elim (ways up way) [
              | inl one ↦ subst (λ w. Polices (bucket_of w (with_bucket up b (own_meter meters bearer.index))) (mbr w bearer.qos) (filter (is_of_life bearer.life w) past.forwarded) (moment_of past)) one
                  (subst (λ (c : BucketState). Polices c (mbr up bearer.qos)
                  (filter (is_of_life bearer.life up) past.forwarded) (moment_of past))
                  (sym (same_bucket up b (own_meter meters bearer.index))) still)
              | inr two ↦ subst (λ (c : BucketState). Polices c (mbr way bearer.qos) (filter (is_of_life bearer.life way) past.forwarded) (moment_of past))
                  (sym (other_bucket up way b (own_meter meters bearer.index) two))
                  (stands.own bearer way there guaranteed)
            ]))
        | inr apart ↦
            subst (λ (m : Meter). Polices (bucket_of way m) (mbr way other.qos)
            (filter (is_of_life other.life way) past.forwarded) (moment_of past))
            (sym (get_or-set_other meters.own bearer.index other.index
            (with_bucket up b (own_meter meters bearer.index)) (new_meter 0 0) apart))
            (stands.own other way there_other guaranteed_other)
      ];
}
  where
    put : MetersState
    put = record meters { own = set_own meters bearer up b }

    within : bearer.index < length meters.own
    within = subst (λ n. bearer.index < n) (sym stands.sized) (index_in_range past.version bearer ranges there)

shared_still : (meters : MetersState) (past : Past) (up : Bool) (b : BucketState) → MetersStand meters past
    → Polices b (ambr up past.version) (filter (is_of_rates past.version.rates up) past.forwarded) (moment_of past)
    → MetersStand (record meters { shared = with_bucket up b meters.shared }) past
shared_still meters past up b stands still = record {
  sized = stands.sized;
  shared = λ way.
      elim (ways up way) [
        | inl one ↦ subst (λ w. Polices (bucket_of w (with_bucket up b meters.shared)) (ambr w past.version) (filter (is_of_rates past.version.rates w) past.forwarded) (moment_of past)) one
            (subst (λ (c : BucketState). Polices c (ambr up past.version)
            (filter (is_of_rates past.version.rates up) past.forwarded) (moment_of past))
            (sym (same_bucket up b meters.shared)) still)
        | inr two ↦ subst (λ (c : BucketState). Polices c (ambr way past.version) (filter (is_of_rates past.version.rates way) past.forwarded) (moment_of past))
            (sym (other_bucket up way b meters.shared two)) (stands.shared way)
      ];
  own = stands.own;
}

still_by : (meters : MetersState) (past : Past) (bearer : ActiveBearer) (up : Bool) (b : BucketState) (guaranteed : Bool)
    → is_guaranteed bearer.qos.qci ≡ guaranteed → MetersStand meters past → IsVersion past.version
    → Contains past.version.bearers bearer
    → Polices b (cond guaranteed (mbr up bearer.qos) (ambr up past.version))
    (filter (λ row. cond guaranteed (is_of_life bearer.life up row) (is_of_rates past.version.rates up row))
    past.forwarded) (moment_of past)
    → MetersStand (cond guaranteed (record meters { own = set_own meters bearer up b })
    (record meters { shared = with_bucket up b meters.shared })) past
still_by meters past bearer up b true is stands ranges there still =
    guaranteed_still meters past bearer up b stands ranges there is still
still_by meters past bearer up b false is stands ranges there still = shared_still meters past up b stands still

-- the meters with a bucket put back that let nothing through
pub put_still : (meters : MetersState) (past : Past) (bearer : ActiveBearer) (up : Bool) (b : BucketState)
    → MetersStand meters past → IsVersion past.version → Contains past.version.bearers bearer
    → PolicesStill past bearer up b
    → MetersStand (put_bucket meters bearer up b) past
put_still meters past bearer up b stands ranges there still =
    still_by meters past bearer up b (is_guaranteed bearer.qos.qci) refl stands ranges there still

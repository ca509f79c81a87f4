-- MetersState that are alike answer alike, and stay so.
use Rattle.std.proofs.Common.{◌≡◌, ◌⊎◌, ℕ, ◌<◌, ◌&&◌, not, nat_lt, Bool, true, false, cond, List, [], ◌∷◌, length, fold, set, get_or, inl, inr, refl, sym, ap, ◌∙◌, subst, arith}
use Rattle.std.specs.List.{Contains}
use Rattle.std.proofs.lemmas.Bool.{cases_eq, cases_Bool, not_from_false}
use Rattle.std.proofs.lemmas.List.{get_or-set_same, get_or-set_other}
use Rattle.std.proofs.Math.ListN.{length-set}
use Rattle.rate_policer.specs.Buckets.{BucketState}
use Rattle.bearer_state.specs.declared.version.ActiveBearer.{ActiveBearer}
use Rattle.bearer_state.specs.Qos.{is_guaranteed}
use Rattle.bearer_state.specs.Version.{VersionState, IsVersion}
use Rattle.packet_steps.specs.declared.meters.Meter.{Meter}
use Rattle.packet_steps.specs.Change.{has_life}
use Rattle.packet_steps.specs.Meters.{MetersState, bucket_of, with_bucket, new_meter, own_meter, bucket_for, put_bucket, begins_guaranteed, with_begun, learnt_meters}
use Rattle.packet_steps.specs.Running.{left_of, left_for}
use Rattle.packet_steps.proofs.BearerLemmas.{index_in_range}
use Rattle.packet_steps.proofs.LearntMeters.{life_has_bearer}
use Rattle.gate_model.proofs.Members.{In, in_contains, contains_in}
use Rattle.subscriber.specs.Alike.{AreMetersAlike, KeepPlaces}

-- the bucket of a bearer is the same
bucket_by : (g : Bool) (bearers : List ActiveBearer) (m n : MetersState) (b : ActiveBearer) (up : Bool)
    → is_guaranteed b.qos.qci ≡ g → AreMetersAlike bearers m n → Contains bearers b
    → bucket_for m b up ≡ bucket_for n b up
bucket_by true bearers m n b up is alike there =
    ap (λ g. cond g (bucket_of up (own_meter m b.index)) (bucket_of up m.shared)) is
    ∙ ap (bucket_of up) (alike.own b there is)
    ∙ ap (λ g. cond g (bucket_of up (own_meter n b.index)) (bucket_of up n.shared)) (sym is)
bucket_by false bearers m n b up is alike there =
    ap (λ g. cond g (bucket_of up (own_meter m b.index)) (bucket_of up m.shared)) is
    ∙ ap (bucket_of up) alike.shared
    ∙ ap (λ g. cond g (bucket_of up (own_meter n b.index)) (bucket_of up n.shared)) (sym is)

pub left_alike : (bearers : List ActiveBearer) (m n : MetersState) (b : ActiveBearer) (up : Bool) (octets at : ℕ)
    → AreMetersAlike bearers m n → Contains bearers b → left_for m b up octets at ≡ left_for n b up octets at
left_alike bearers m n b up octets at alike there =
    ap (λ (c : BucketState). left_of c octets at)
    (bucket_by (is_guaranteed b.qos.qci) bearers m n b up refl alike there)

-- a bucket in its place
abbrev set_own : MetersState → ActiveBearer → Bool → BucketState → List Meter
set_own m b up x = set m.own b.index (with_bucket up x (own_meter m b.index))

abbrev put_by : Bool → MetersState → ActiveBearer → Bool → BucketState → MetersState
put_by g m b up x = cond g (record m { own = set_own m b up x }) (record m { shared = with_bucket up x m.shared })

put_at : (g : Bool) (bearers : List ActiveBearer) (m n : MetersState) (b : ActiveBearer) (up : Bool) (x : BucketState)
    → is_guaranteed b.qos.qci ≡ g → b.index < 11 → AreMetersAlike bearers m n → Contains bearers b
    → AreMetersAlike bearers (put_by g m b up x) (put_by g n b up x)
put_at true bearers m n b up x is low alike there = record {
  sized = length-set m.own b.index (with_bucket up x (own_meter m b.index)) ∙ alike.sized;
  others_sized = length-set n.own b.index (with_bucket up x (own_meter n b.index)) ∙ alike.others_sized;
  shared = alike.shared;
  own = λ c c_there guaranteed.
      let in_m : b.index < length m.own = omega (arith, low, alike.sized) in
      let in_n : b.index < length n.own = omega (arith, low, alike.others_sized) in
      elim (cases_eq c.index b.index) [
        | inl same ↦ subst (λ i. get_or (set_own m b up x) i (new_meter 0 0) ≡ get_or (set_own n b up x) i (new_meter 0 0))
            (sym same)
            (get_or-set_same m.own b.index (with_bucket up x (own_meter m b.index)) (new_meter 0 0) in_m
            ∙ ap (with_bucket up x) (alike.own b there is)
            ∙ sym (get_or-set_same n.own b.index (with_bucket up x (own_meter n b.index)) (new_meter 0 0) in_n))
        | inr apart ↦
            get_or-set_other m.own b.index c.index (with_bucket up x (own_meter m b.index)) (new_meter 0 0) apart
            ∙ alike.own c c_there guaranteed
            ∙ sym (get_or-set_other n.own b.index c.index (with_bucket up x (own_meter n b.index)) (new_meter 0 0) apart)
      ];
}
put_at false bearers m n b up x is low alike there = record {
  sized = alike.sized;
  others_sized = alike.others_sized;
  shared = ap (with_bucket up x) alike.shared;
  own = alike.own;
}

pub put_alike : (version : VersionState) (m n : MetersState) (b : ActiveBearer) (up : Bool) (x : BucketState)
    → IsVersion version → AreMetersAlike version.bearers m n → Contains version.bearers b
    → AreMetersAlike version.bearers (put_bucket m b up x) (put_bucket n b up x)
put_alike version m n b up x ranges alike there =
    put_at (is_guaranteed b.qos.qci) version.bearers m n b up x refl (index_in_range version b ranges there) alike there

-- meters of bearers that begin
abbrev begun_by : Bool → MetersState → ActiveBearer → MetersState
begun_by g m d = cond g (record m { own = set m.own d.index (new_meter d.qos.mbr_up d.qos.mbr_down) }) m

begun_sized : (g : Bool) (m : MetersState) (d : ActiveBearer) → length (begun_by g m d).own ≡ length m.own
begun_sized true m d = length-set m.own d.index (new_meter d.qos.mbr_up d.qos.mbr_down)
begun_sized false m d = refl

begun_shared : (g : Bool) (m : MetersState) (d : ActiveBearer) → (begun_by g m d).shared ≡ m.shared
begun_shared true m d = refl
begun_shared false m d = refl

-- the meter of an index stays the same, and is where a bearer of the index begins
begun_same : (g : Bool) (m n : MetersState) (d : ActiveBearer) (index : ℕ) → length m.own ≡ 11 → length n.own ≡ 11
    → d.index < 11 → own_meter m index ≡ own_meter n index
    → own_meter (begun_by g m d) index ≡ own_meter (begun_by g n d) index
begun_same true m n d index m_sized n_sized low same =
    let new = new_meter d.qos.mbr_up d.qos.mbr_down in
    let in_m : d.index < length m.own = omega (arith, low, m_sized) in
    let in_n : d.index < length n.own = omega (arith, low, n_sized) in
    elim (cases_eq index d.index) [
      | inl is ↦ subst (λ i. get_or (set m.own d.index new) i (new_meter 0 0) ≡ get_or (set n.own d.index new) i (new_meter 0 0))
          (sym is)
          (get_or-set_same m.own d.index new (new_meter 0 0) in_m ∙ sym (get_or-set_same n.own d.index new (new_meter 0 0) in_n))
      | inr apart ↦ get_or-set_other m.own d.index index new (new_meter 0 0) apart ∙ same
          ∙ sym (get_or-set_other n.own d.index index new (new_meter 0 0) apart)
    ]
begun_same false m n d index m_sized n_sized low same = same

begun_here : (g : Bool) (m n : MetersState) (d : ActiveBearer) → length m.own ≡ 11 → length n.own ≡ 11
    → d.index < 11 → g ≡ true → own_meter (begun_by g m d) d.index ≡ own_meter (begun_by g n d) d.index
begun_here true m n d m_sized n_sized low is =
    let new = new_meter d.qos.mbr_up d.qos.mbr_down in
    let in_m : d.index < length m.own = omega (arith, low, m_sized) in
    let in_n : d.index < length n.own = omega (arith, low, n_sized) in
    get_or-set_same m.own d.index new (new_meter 0 0) in_m ∙ sym (get_or-set_same n.own d.index new (new_meter 0 0) in_n)
begun_here false m n d m_sized n_sized low is = absurd (cc)

record Begins (before : VersionState) (bearers : List ActiveBearer) (index : ℕ) : Type 0 where
  bearer : ActiveBearer
  there : In bearer bearers
  begins : begins_guaranteed before bearer ≡ true
  at : bearer.index ≡ index

abbrev Settled : VersionState → List ActiveBearer → MetersState → MetersState → ℕ → Type 0
Settled before bearers m n index = (own_meter m index ≡ own_meter n index) ⊎ Begins before bearers index

settle : (before : VersionState) (d : ActiveBearer) (ds : List ActiveBearer) (m n : MetersState) (index : ℕ)
    → length m.own ≡ 11 → length n.own ≡ 11 → d.index < 11 → Settled before (d ∷ ds) m n index
    → Settled before ds (with_begun before m d) (with_begun before n d) index
settle before d ds m n index m_sized n_sized low (inl same) =
    inl (begun_same (begins_guaranteed before d) m n d index m_sized n_sized low same)
settle before d ds m n index m_sized n_sized low (inr begins) = elim begins.there [
  | inl here ↦
      let is : begins_guaranteed before d ≡ true = subst (λ (x : ActiveBearer). begins_guaranteed before x ≡ true)
      (sym here) begins.begins in
      inl (subst (λ i. own_meter (with_begun before m d) i ≡ own_meter (with_begun before n d) i)
      (ap (λ (x : ActiveBearer). x.index) here ∙ begins.at)
      (begun_here (begins_guaranteed before d) m n d m_sized n_sized low is))
  | inr later ↦
      inr (record { bearer = begins.bearer; there = later; begins = begins.begins; at = begins.at })
]

fold_settled : (before : VersionState) (bearers : List ActiveBearer) (m n : MetersState) (index : ℕ)
    → length m.own ≡ 11 → length n.own ≡ 11 → ((d : ActiveBearer) → In d bearers → d.index < 11)
    → Settled before bearers m n index
    → own_meter (fold (with_begun before) m bearers) index ≡ own_meter (fold (with_begun before) n bearers) index
fold_settled before [] m n index m_sized n_sized low (inl same) = same
fold_settled before [] m n index m_sized n_sized low (inr begins) = absurd begins.there
fold_settled before (d ∷ ds) m n index m_sized n_sized low settled =
    fold_settled before ds (with_begun before m d) (with_begun before n d) index
    (begun_sized (begins_guaranteed before d) m d ∙ m_sized) (begun_sized (begins_guaranteed before d) n d ∙ n_sized)
    (λ x there. low x (inr there)) (settle before d ds m n index m_sized n_sized (low d (inl refl)) settled)

fold_sized : (before : VersionState) (bearers : List ActiveBearer) (m : MetersState)
    → length (fold (with_begun before) m bearers).own ≡ length m.own
fold_sized before [] m = refl
fold_sized before (d ∷ ds) m =
    fold_sized before ds (with_begun before m d) ∙ begun_sized (begins_guaranteed before d) m d

fold_shared : (before : VersionState) (bearers : List ActiveBearer) (m : MetersState)
    → (fold (with_begun before) m bearers).shared ≡ m.shared
fold_shared before [] m = refl
fold_shared before (d ∷ ds) m =
    fold_shared before ds (with_begun before m d) ∙ begun_shared (begins_guaranteed before d) m d

-- the meters that a new version begins with
abbrev rated : Bool → ℕ → ℕ → MetersState → MetersState
rated set up down m = cond set (record m { shared = new_meter up down }) m

rated_own : (set : Bool) (up down : ℕ) (m : MetersState) → (rated set up down m).own ≡ m.own
rated_own true up down m = refl
rated_own false up down m = refl

rated_shared : (set : Bool) (up down : ℕ) (m n : MetersState) → m.shared ≡ n.shared
    → (rated set up down m).shared ≡ (rated set up down n).shared
rated_shared true up down m n same = refl
rated_shared false up down m n same = same

begins_if : (before : VersionState) (c : ActiveBearer) → is_guaranteed c.qos.qci ≡ true
    → has_life before.bearers c.life ≡ false → begins_guaranteed before c ≡ true
begins_if before c guaranteed none =
    ap (λ g. g && not (has_life before.bearers c.life)) guaranteed
    ∙ not_from_false (has_life before.bearers c.life) none

pub learnt_alike : (before after : VersionState) (m n : MetersState) → AreMetersAlike before.bearers m n
    → KeepPlaces before after → IsVersion after
    → AreMetersAlike after.bearers (learnt_meters before after m) (learnt_meters before after n)
learnt_alike before after m n alike keep ranges =
    let set = nat_lt before.rates after.rates in
    let m_first = rated set after.up after.down m in
    let n_first = rated set after.up after.down n in
    let m_sized : length m_first.own ≡ 11 = ap length (rated_own set after.up after.down m) ∙ alike.sized in
    let n_sized : length n_first.own ≡ 11 = ap length (rated_own set after.up after.down n) ∙ alike.others_sized in
    record {
      sized = fold_sized before after.bearers m_first ∙ m_sized;
      others_sized = fold_sized before after.bearers n_first ∙ n_sized;
      shared = fold_shared before after.bearers m_first ∙ rated_shared set after.up after.down m n alike.shared
          ∙ sym (fold_shared before after.bearers n_first);
      own = λ c there guaranteed.
          let settled : Settled before after.bearers m_first n_first c.index =
          elim (cases_Bool (has_life before.bearers c.life)) [
            | inl has ↦
                let found = life_has_bearer before.bearers c.life has in
                let same = keep found.bearer c found.there there found.same in
                let was : is_guaranteed found.bearer.qos.qci ≡ true =
                ap (λ (q : _). is_guaranteed q.qci) same.1 ∙ guaranteed in
                inl (ap (λ (own : List Meter). get_or own c.index (new_meter 0 0)) (rated_own set after.up after.down m)
                ∙ subst (λ i. own_meter m i ≡ own_meter n i) same.0 (alike.own found.bearer found.there was)
                ∙ ap (λ (own : List Meter). get_or own c.index (new_meter 0 0)) (sym (rated_own set after.up after.down n)))
            | inr none ↦ inr (record {
              bearer = c;
              there = in_contains c after.bearers there;
              begins = begins_if before c guaranteed none;
              at = refl;
            })
          ] in
          fold_settled before after.bearers m_first n_first c.index m_sized n_sized
          (λ d d_there. index_in_range after d ranges (contained d after.bearers d_there)) settled;
    }
  where
    contained : (d : ActiveBearer) (bs : List ActiveBearer) → In d bs → Contains bs d
    contained d bs there = contains_in d bs there

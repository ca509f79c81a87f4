-- The buckets of meters that stand for a past fit its version.
use Rattle.std.proofs.Common.{◌≡◌, ℕ, ◌≤◌, ◌==◌, ◌&&◌, nat_le, Bool, true, false, cond, List, [], ◌∷◌, ◌++◌, drop, inl, inr, refl, ap, ◌∙◌, arith, eq-eqb}
use Rattle.std.specs.List.{flat_map, list_all}
use Rattle.std.proofs.lemmas.Bool.Decides.{nat_tests}
use Rattle.rate_policer.specs.Buckets.{BucketState, last_of}
use Rattle.bearer_state.specs.declared.version.ActiveBearer.{ActiveBearer}
use Rattle.bearer_state.specs.Qos.{is_guaranteed}
use Rattle.packet_steps.specs.Past.{Past, moment_of}
use Rattle.packet_steps.specs.Meters.{MetersState, own_meter, MetersStand}
use Rattle.packet_steps.specs.Parts.{own_buckets, buckets_in, first_fit, own_fit, buckets_fit}
use Rattle.gate_model.proofs.Members.{In, contains_in}

pub both_are : (a b : Bool) → a ≡ true → b ≡ true → (a && b) ≡ true
both_are a b first second = ap (λ t. t && b) first ∙ second

pub le_test : (a b : ℕ) → a ≤ b → nat_le a b ≡ true
le_test a b least = grind (arith, nat_tests)

-- the own meters of bearers with a guaranteed rate have their rates, and were asked by a moment
record IsOwn (m : MetersState) (most : ℕ) (bearer : ActiveBearer) : Type 0 where
  up : (own_meter m bearer.index).up.rate ≡ bearer.qos.mbr_up
  down : (own_meter m bearer.index).down.rate ≡ bearer.qos.mbr_down
  up_asked : (own_meter m bearer.index).up.last ≤ most
  down_asked : (own_meter m bearer.index).down.last ≤ most

abbrev AreOwn : MetersState → ℕ → List ActiveBearer → Type 0
AreOwn m most bearers = (b : ActiveBearer) → In b bearers → is_guaranteed b.qos.qci ≡ true → IsOwn m most b

abbrev taken_by : Bool → MetersState → ActiveBearer → List BucketState
taken_by g m b = cond g ((own_meter m b.index).up ∷ (own_meter m b.index).down ∷ []) []

abbrev fit_by : Bool → MetersState → ActiveBearer → List ActiveBearer → Bool
fit_by g m b bearers =
    let buckets = taken_by g m b ++ flat_map (own_buckets m) bearers in
    cond g (first_fit b.qos.mbr_up b.qos.mbr_down buckets && own_fit bearers (drop 2 buckets)) (own_fit bearers buckets)

one_fits : (g : Bool) (m : MetersState) (most : ℕ) (b : ActiveBearer) (bearers : List ActiveBearer)
    → is_guaranteed b.qos.qci ≡ g → (g ≡ true → IsOwn m most b)
    → own_fit bearers (flat_map (own_buckets m) bearers) ≡ true
    → own_fit (b ∷ bearers) (flat_map (own_buckets m) (b ∷ bearers)) ≡ true
one_fits true m most b bearers is own rest =
    let known = own refl in
    let up = (own_meter m b.index).up in
    let down = (own_meter m b.index).down in
    ap (λ g. fit_by g m b bearers) is
    ∙ both_are (up.rate == b.qos.mbr_up && (down.rate == b.qos.mbr_down))
    (own_fit bearers (flat_map (own_buckets m) bearers))
    (both_are (up.rate == b.qos.mbr_up) (down.rate == b.qos.mbr_down) (eq-eqb up.rate b.qos.mbr_up known.up)
    (eq-eqb down.rate b.qos.mbr_down known.down)) rest
one_fits false m most b bearers is own rest = ap (λ g. fit_by g m b bearers) is ∙ rest

own_fits : (m : MetersState) (most : ℕ) (bearers : List ActiveBearer) → AreOwn m most bearers
    → own_fit bearers (flat_map (own_buckets m) bearers) ≡ true
own_fits m most [] own = refl
own_fits m most (b ∷ bearers) own =
    one_fits (is_guaranteed b.qos.qci) m most b bearers refl (λ guaranteed. own b (inl refl) guaranteed)
    (own_fits m most bearers (λ c there. own c (inr there)))

abbrev asked_by : ℕ → BucketState → Bool
asked_by most b = nat_le (last_of b) most

one_asked : (g : Bool) (m : MetersState) (most : ℕ) (b : ActiveBearer) (rest : List BucketState)
    → (g ≡ true → IsOwn m most b) → list_all (asked_by most) rest ≡ true
    → list_all (asked_by most) (taken_by g m b ++ rest) ≡ true
one_asked true m most b rest own behind =
    let known = own refl in
    let up = (own_meter m b.index).up in
    let down = (own_meter m b.index).down in
    both_are (asked_by most up) (asked_by most down && list_all (asked_by most) rest) (le_test up.last most known.up_asked)
    (both_are (asked_by most down) (list_all (asked_by most) rest) (le_test down.last most known.down_asked) behind)
one_asked false m most b rest own behind = behind

own_asked : (m : MetersState) (most : ℕ) (bearers : List ActiveBearer) → AreOwn m most bearers
    → list_all (asked_by most) (flat_map (own_buckets m) bearers) ≡ true
own_asked m most [] own = refl
own_asked m most (b ∷ bearers) own =
    one_asked (is_guaranteed b.qos.qci) m most b (flat_map (own_buckets m) bearers)
    (λ guaranteed. own b (inl refl) guaranteed) (own_asked m most bearers (λ c there. own c (inr there)))

pub record BucketsFit (m : MetersState) (past : Past) : Type 0 where
  pub rates : buckets_fit past.version (buckets_in past.version.bearers m) ≡ true
  pub asked : list_all (asked_by (moment_of past)) (buckets_in past.version.bearers m) ≡ true

pub buckets_stand : (m : MetersState) (past : Past) → MetersStand m past → BucketsFit m past
buckets_stand m past stands =
    let version = past.version in
    let most = moment_of past in
    let up = stands.shared true in
    let down = stands.shared false in
    let own : AreOwn m most version.bearers = λ b there guaranteed.
    let ups = stands.own b true (contains_in b version.bearers there) guaranteed in
    let downs = stands.own b false (contains_in b version.bearers there) guaranteed in
    record { up = ups.rate_is; down = downs.rate_is; up_asked = ups.asked; down_asked = downs.asked } in
    let rest = flat_map (own_buckets m) version.bearers in
    record {
      rates = both_are (m.shared.up.rate == version.up && (m.shared.down.rate == version.down))
          (own_fit version.bearers rest)
          (both_are (m.shared.up.rate == version.up) (m.shared.down.rate == version.down)
          (eq-eqb m.shared.up.rate version.up up.rate_is) (eq-eqb m.shared.down.rate version.down down.rate_is))
          (own_fits m most version.bearers own);
      asked = both_are (asked_by most m.shared.up) (asked_by most m.shared.down && list_all (asked_by most) rest)
          (le_test m.shared.up.last most up.asked)
          (both_are (asked_by most m.shared.down) (list_all (asked_by most) rest)
          (le_test m.shared.down.last most down.asked) (own_asked m most version.bearers own));
    }

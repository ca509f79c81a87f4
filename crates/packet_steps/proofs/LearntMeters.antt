-- The meters at a new version represent the past at it.
use Rattle.std.proofs.Common.{◌≡◌, ◌≢◌, ℕ, ◌<◌, ◌≤◌, ◌==◌, ◌&&◌, ◌||◌, nat_lt, Bool, true, false, not, cond, List, [], ◌∷◌, length, filter, set, get_or, All, inl, inr, refl, sym, ◌∙◌, ap, subst, arith}
use Rattle.std.specs.List.{Contains, fold}
use Rattle.std.proofs.lemmas.Bool.{ne_eqb, eqb-true}
use Rattle.std.proofs.lemmas.Bool.Decides.{nat_tests}
use Rattle.std.proofs.lemmas.List.{get_or-set_same, get_or-set_other}
use Rattle.std.proofs.lemmas.List.Elements.{All-head, All-tail}
use Rattle.std.proofs.Math.ListN.{length-set}
use Rattle.bearer_state.specs.Bearer.{EachPair}
use Rattle.bearer_state.specs.declared.version.ActiveBearer.{ActiveBearer}
use Rattle.bearer_state.specs.declared.qos.Qos.{Qos}
use Rattle.bearer_state.specs.Qos.{is_guaranteed}
use Rattle.bearer_state.specs.Version.{VersionState, IsVersion, IsActiveBefore}
use Rattle.packet_steps.specs.declared.meters.Meter.{Meter}
use Rattle.packet_steps.specs.Rows.{ForwardedRow}
use Rattle.packet_steps.specs.Past.{Past, moment_of}
use Rattle.packet_steps.specs.Policing.{mbr, ambr, same_way, is_of_life, is_of_rates}
use Rattle.packet_steps.specs.Change.{has_life, marked}
use Rattle.packet_steps.specs.Meters.{MetersState, bucket_of, new_meter, own_meter, begins_guaranteed, with_begun, learnt_meters, Polices, MetersStand}
use Rattle.packet_steps.specs.Standing.{Follows}
use Rattle.packet_steps.proofs.BearerLemmas.{none_in_nil, of_cons, first_in, later_in, each_of, index_in_range}
use Rattle.packet_steps.proofs.NewLemmas.{full_polices}

-- one bearer leaves the shared meter, the number of meters, and the meters of other indices
begun_shared : (before : VersionState) (meters : MetersState) (bearer : ActiveBearer)
    → (with_begun before meters bearer).shared ≡ meters.shared
begun_shared before meters bearer =
    elim (begins_guaranteed before bearer) as
    (λ b. (cond b (record meters {
      own = set meters.own bearer.index
          (new_meter bearer.qos.mbr_up bearer.qos.mbr_down);
    }) meters).shared ≡ meters.shared) [
      | true ↦ refl
      | false ↦ refl
    ]

begun_sized : (before : VersionState) (meters : MetersState) (bearer : ActiveBearer)
    → length (with_begun before meters bearer).own ≡ length meters.own
begun_sized before meters bearer =
    elim (begins_guaranteed before bearer) as
    (λ b. length (cond b (record meters {
      own = set meters.own bearer.index
          (new_meter bearer.qos.mbr_up bearer.qos.mbr_down);
    }) meters).own ≡ length meters.own) [
      | true ↦ length-set meters.own bearer.index (new_meter bearer.qos.mbr_up bearer.qos.mbr_down)
      | false ↦ refl
    ]

begun_other : (before : VersionState) (meters : MetersState) (bearer : ActiveBearer) (index : ℕ) → index ≢ bearer.index
    → own_meter (with_begun before meters bearer) index ≡ own_meter meters index
begun_other before meters bearer index apart =
    elim (begins_guaranteed before bearer) as
    (λ b. own_meter (cond b (record meters {
      own = set meters.own bearer.index
          (new_meter bearer.qos.mbr_up bearer.qos.mbr_down);
    }) meters) index ≡ own_meter meters index) [
      | true ↦ get_or-set_other meters.own bearer.index index (new_meter bearer.qos.mbr_up bearer.qos.mbr_down) (new_meter 0 0) apart
      | false ↦ refl
    ]

-- so do all of them
all_shared : (before : VersionState) (meters : MetersState) (bearers : List ActiveBearer)
    → (fold (with_begun before) meters bearers).shared ≡ meters.shared
all_shared before meters [] = refl
all_shared before meters (b ∷ bearers) = all_shared before (with_begun before meters b) bearers
    ∙ begun_shared before meters b

all_sized : (before : VersionState) (meters : MetersState) (bearers : List ActiveBearer)
    → length (fold (with_begun before) meters bearers).own ≡ length meters.own
all_sized before meters [] = refl
all_sized before meters (b ∷ bearers) = all_sized before (with_begun before meters b) bearers
    ∙ begun_sized before meters b

all_other : (before : VersionState) (meters : MetersState) (bearers : List ActiveBearer) (index : ℕ)
    → ((c : ActiveBearer) → Contains bearers c → index ≢ c.index)
    → own_meter (fold (with_begun before) meters bearers) index ≡ own_meter meters index
all_other before meters [] index apart = refl
all_other before meters (b ∷ bearers) index apart =
    all_other before (with_begun before meters b) bearers index (λ c there. apart c (later_in b bearers c there))
    ∙ begun_other before meters b index (apart b (first_in b bearers))

-- the meter of a bearer is new where it begins, and else the one before
abbrev own_then : VersionState → MetersState → ActiveBearer → Meter
own_then before meters c = cond (begins_guaranteed before c) (new_meter c.qos.mbr_up c.qos.mbr_down)
    (own_meter meters c.index)

begun_own : (before : VersionState) (meters : MetersState) (c : ActiveBearer) → c.index < length meters.own
    → own_meter (with_begun before meters c) c.index ≡ own_then before meters c
begun_own before meters c within =
    elim (begins_guaranteed before c) as
    (λ b. own_meter (cond b (record meters {
      own = set meters.own c.index
          (new_meter c.qos.mbr_up c.qos.mbr_down);
    }) meters) c.index
    ≡ cond b (new_meter c.qos.mbr_up c.qos.mbr_down) (own_meter meters c.index)) [
      | true ↦ get_or-set_same meters.own c.index (new_meter c.qos.mbr_up c.qos.mbr_down) (new_meter 0 0) within
      | false ↦ refl
    ]

all_own : (before : VersionState) (meters : MetersState) (bearers : List ActiveBearer) (c : ActiveBearer)
    → EachPair IsActiveBefore bearers → Contains bearers c
    → c.index < length meters.own
    → own_meter (fold (with_begun before) meters bearers) c.index ≡ own_then before meters c
all_own before meters [] c pairs there within = absurd (none_in_nil c there)
all_own before meters (b ∷ bearers) c pairs there within =
    elim (of_cons b bearers c there) [
      | inl here ↦ subst (λ (x : ActiveBearer). own_meter (fold (with_begun before) (with_begun before meters b) bearers) x.index ≡ own_then before meters x) here
          (all_other before (with_begun before meters b) bearers b.index
          (λ d behind same. let known = each_of (IsActiveBefore b) bearers d pairs.0 behind in omega
          (arith, known.indices_rise, same))
          ∙ begun_own before meters b (subst (λ (x : ActiveBearer). x.index < length meters.own) (sym here) within))
      | inr behind ↦
          let known = each_of (IsActiveBefore b) bearers c pairs.0 behind in
          let apart : c.index ≢ b.index = λ same. omega (arith, known.indices_rise, same) in
          all_own before (with_begun before meters b) bearers c pairs.1 behind
          (subst (λ n. c.index < n) (sym (begun_sized before meters b)) within)
          ∙ ap (cond (begins_guaranteed before c) (new_meter c.qos.mbr_up c.qos.mbr_down))
          (begun_other before meters b c.index apart)
    ]

-- a life that is active has a bearer
pub record HasBearer (bearers : List ActiveBearer) (life : ℕ) : Type 0 where
  pub bearer : ActiveBearer
  pub there : Contains bearers bearer
  pub same : bearer.life ≡ life

one_more : (b : ActiveBearer) (bearers : List ActiveBearer) (life : ℕ) (t : Bool) → (b.life == life) ≡ t
    → (t || has_life bearers life) ≡ true
    → (has_life bearers life ≡ true → HasBearer bearers life) → HasBearer (b ∷ bearers) life
one_more b bearers life true is either rest = record { bearer = b; there = first_in b bearers; same = eqb-true b.life life is }
one_more b bearers life false is either rest =
    let found = rest either in
    record { bearer = found.bearer; there = later_in b bearers found.bearer found.there; same = found.same }

pub life_has_bearer : (bearers : List ActiveBearer) (life : ℕ) → has_life bearers life ≡ true → HasBearer bearers life
life_has_bearer [] life has = absurd (cc)
life_has_bearer (b ∷ bearers) life has = one_more b bearers life (b.life == life) refl has
    (life_has_bearer bearers life)

-- no rows are of a life that is new, nor of rates that are new
none_of_life : (life : ℕ) (up : Bool) (rows : List ForwardedRow) → All (λ (row : ForwardedRow). row.life ≢ life) rows
    → filter (is_of_life life up) rows ≡ []
none_of_life life up [] all = refl
none_of_life life up (row ∷ rows) all =
    let apart : is_of_life life up row
    ≡ false = ap (λ t. t && same_way row.up up)
    (ne_eqb row.life life (All-head (λ (r : ForwardedRow). r.life ≢ life) row rows all)) in
    ap (λ b. cond b (row ∷ filter (is_of_life life up) rows) (filter (is_of_life life up) rows)) apart
    ∙ none_of_life life up rows (All-tail (λ (r : ForwardedRow). r.life ≢ life) row rows all)

none_of_rates : (old rates : ℕ) (up : Bool) (rows : List ForwardedRow) → old < rates
    → All (λ (row : ForwardedRow). row.rates ≤ old) rows → filter (is_of_rates rates up) rows ≡ []
none_of_rates old rates up [] risen all = refl
none_of_rates old rates up (row ∷ rows) risen all =
    let low : row.rates ≤ old = All-head (λ (r : ForwardedRow). r.rates ≤ old) row rows all in
    let apart : is_of_rates rates up row ≡ false =
    ap (λ t. not (is_guaranteed row.qci) && (t && same_way row.up up))
    (ne_eqb row.rates rates (λ same. omega (arith, low, risen, same)))
    ∙ and_false (not (is_guaranteed row.qci)) in
    ap (λ b. cond b (row ∷ filter (is_of_rates rates up) rows) (filter (is_of_rates rates up) rows)) apart
    ∙ none_of_rates old rates up rows risen (All-tail (λ (r : ForwardedRow). r.rates ≤ old) row rows all)
  where
    and_false : (a : Bool) → (a && false) ≡ false
    and_false true = refl
    and_false false = refl

not_true : (b : Bool) → not b ≡ false → b ≡ true
not_true true is = refl
not_true false is = absurd (cc)

ambr_same : (up : Bool) (before after : VersionState) → before.up ≡ after.up → before.down ≡ after.down
    → ambr up before ≡ ambr up after
ambr_same true before after ups downs = ups
ambr_same false before after ups downs = downs

new_by_way : (up : Bool) (rate_up rate_down moment : ℕ) (version : VersionState) → rate_up ≡ version.up
    → rate_down ≡ version.down
    → Polices (bucket_of up (new_meter rate_up rate_down)) (ambr up version) [] moment
new_by_way true rate_up rate_down moment version ups downs = subst
    (λ rate. Polices (bucket_of true (new_meter rate_up rate_down)) rate [] moment) ups
    (full_polices rate_up rate_down moment true)
new_by_way false rate_up rate_down moment version ups downs = subst
    (λ rate. Polices (bucket_of false (new_meter rate_up rate_down)) rate [] moment) downs
    (full_polices rate_up rate_down moment false)

new_own : (up : Bool) (bearer : ActiveBearer) (moment : ℕ)
    → Polices (bucket_of up (new_meter bearer.qos.mbr_up bearer.qos.mbr_down)) (mbr up bearer.qos) [] moment
new_own true bearer moment = full_polices bearer.qos.mbr_up bearer.qos.mbr_down moment true
new_own false bearer moment = full_polices bearer.qos.mbr_up bearer.qos.mbr_down moment false

shared_by : (meters : MetersState) (past : Past) (after : VersionState) (up risen : Bool) → MetersStand meters past
    → Follows past after
    → All (λ (row : ForwardedRow). row.rates ≤ past.version.rates) past.forwarded
    → nat_lt past.version.rates after.rates ≡ risen
    → Polices (bucket_of up (cond risen (record meters { shared = new_meter after.up after.down }) meters).shared)
    (ambr up after)
    (filter (is_of_rates after.rates up) past.forwarded) (moment_of past)
shared_by meters past after up true stands follows rates is =
    subst (λ (rows : List ForwardedRow). Polices (bucket_of up (new_meter after.up after.down)) (ambr up after) rows
    (moment_of past))
    (sym (none_of_rates past.version.rates after.rates up past.forwarded (ltb_true is) rates))
    (new_by_way up after.up after.down (moment_of past) after refl refl)
  where
    ltb_true : nat_lt past.version.rates after.rates ≡ true → past.version.rates < after.rates
    ltb_true holds = grind (arith, nat_tests)
shared_by meters past after up false stands follows rates is =
    let same : past.version.rates ≡ after.rates = still is in
    let kept = follows.rates_stay same in
    subst (λ rate. Polices (bucket_of up meters.shared) rate (filter (is_of_rates after.rates up) past.forwarded)
    (moment_of past))
    (ambr_same up past.version after kept.0 kept.1)
    (subst (λ count. Polices (bucket_of up meters.shared) (ambr up past.version)
    (filter (is_of_rates count up) past.forwarded) (moment_of past)) same (stands.shared up))
  where
    still : nat_lt past.version.rates after.rates ≡ false → past.version.rates ≡ after.rates
    still fails = let least = follows.rates_rise in grind (arith, nat_tests)

own_by : (meters : MetersState) (past : Past) (after : VersionState) (c : ActiveBearer) (up begins : Bool)
    → MetersStand meters past → Follows past after
    → Contains after.bearers c → is_guaranteed c.qos.qci ≡ true → begins_guaranteed past.version c ≡ begins
    → Polices (bucket_of up (cond begins (new_meter c.qos.mbr_up c.qos.mbr_down) (own_meter meters c.index)))
    (mbr up c.qos) (filter (is_of_life c.life up) past.forwarded) (moment_of past)
own_by meters past after c up true stands follows there guaranteed is =
    let fresh : has_life past.version.bearers c.life
    ≡ false = lacks (has_life past.version.bearers c.life)
    (ap (λ g. g && not (has_life past.version.bearers c.life)) (sym guaranteed) ∙ is) in
    subst (λ (rows : List ForwardedRow). Polices (bucket_of up (new_meter c.qos.mbr_up c.qos.mbr_down))
    (mbr up c.qos) rows (moment_of past))
    (sym (none_of_life c.life up past.forwarded (follows.fresh c there fresh))) (new_own up c (moment_of past))
  where
    lacks : (b : Bool) → not b ≡ true → b ≡ false
    lacks true is = absurd (cc)
    lacks false is = refl
own_by meters past after c up false stands follows there guaranteed is =
    let has : has_life past.version.bearers c.life
    ≡ true = not_true (has_life past.version.bearers c.life)
    (ap (λ g. g && not (has_life past.version.bearers c.life)) (sym guaranteed) ∙ is) in
    let found = life_has_bearer past.version.bearers c.life has in
    let b = found.bearer in
    let same = follows.same_bearer b c found.there there found.same in
    let was_guaranteed : is_guaranteed b.qos.qci ≡ true = ap (λ (q : Qos). is_guaranteed q.qci) same.1 ∙ guaranteed in
    subst (λ life. Polices (bucket_of up (own_meter meters c.index)) (mbr up c.qos)
    (filter (is_of_life life up) past.forwarded) (moment_of past)) found.same
    (subst (λ (q : Qos). Polices (bucket_of up (own_meter meters c.index)) (mbr up q)
    (filter (is_of_life b.life up) past.forwarded) (moment_of past)) same.1
    (subst (λ index. Polices (bucket_of up (own_meter meters index)) (mbr up b.qos)
    (filter (is_of_life b.life up) past.forwarded) (moment_of past)) same.0
    (stands.own b up found.there was_guaranteed)))

-- the meters at a new version
pub learnt_stand : (meters : MetersState) (past : Past) (after : VersionState) → MetersStand meters past
    → Follows past after → IsVersion after
    → All (λ (row : ForwardedRow). row.rates ≤ past.version.rates) past.forwarded
    → MetersStand (learnt_meters past.version after meters) (marked past after)
learnt_stand meters past after stands follows ranges rates =
    let start = cond (nat_lt past.version.rates after.rates)
    (record meters { shared = new_meter after.up after.down }) meters in
    let start_own : start.own ≡ meters.own = own_of (nat_lt past.version.rates after.rates) in
    record {
      sized = all_sized past.version start after.bearers ∙ ap length start_own ∙ stands.sized;
      shared = λ up. subst (λ (m : Meter). Polices (bucket_of up m) (ambr up after)
          (filter (is_of_rates after.rates up) past.forwarded) (moment_of past))
          (sym (all_shared past.version start after.bearers))
          (shared_by meters past after up (nat_lt past.version.rates after.rates) stands follows rates refl);
      own = λ c up there guaranteed.
          let within : c.index < length start.own = subst (λ n. c.index < n)
          (sym (ap length start_own ∙ stands.sized)) (index_in_range after c ranges there) in
          subst (λ (m : Meter). Polices (bucket_of up m) (mbr up c.qos) (filter (is_of_life c.life up) past.forwarded)
          (moment_of past))
          (sym (all_own past.version start after.bearers c ranges.apart there within
          ∙ ap (λ (own : List Meter). cond (begins_guaranteed past.version c) (new_meter c.qos.mbr_up c.qos.mbr_down)
          (get_or own c.index (new_meter 0 0))) start_own))
          (own_by meters past after c up (begins_guaranteed past.version c) stands follows there guaranteed refl);
    }
  where
    own_of : (risen : Bool) → (cond risen (record meters { shared = new_meter after.up after.down }) meters).own
        ≡ meters.own
    own_of true = refl
    own_of false = refl

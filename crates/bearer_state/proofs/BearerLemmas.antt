-- Bearers stay bearers of a session through each change.
use Rattle.std.proofs.Common.{◌≡◌, ◌≢◌, ℕ, ◌<◌, Bool, true, false, if◌then◌else◌, nat_lt, ◌==◌, List, [], ◌∷◌, map, refl, sym, arith}
use Rattle.std.specs.List.{AllByRecursion}
use Rattle.std.proofs.lemmas.Bool.Decides.{nat_tests}
use Rattle.pc_base.specs.declared.packet.Peer.{Peer}
use Rattle.tft_codec.specs.declared.filter.Filter.{Filter}
use Rattle.bearer_state.specs.declared.ask.Ask.{Ask}
use Rattle.bearer_state.specs.declared.bearer.Phase.{Phase}
use Rattle.bearer_state.specs.declared.bearer.Phase.TheVariants.{Asked, Active}
use Rattle.bearer_state.specs.declared.bearer.Bearer.{Bearer}
use Rattle.bearer_state.specs.Bearer.{IsEbi, IsBearer, IsBefore, EbisDiffer, EachPair, AreBearers, index_of, is_active, is_active_as}
use Rattle.bearer_state.specs.Lookup.{has_index, has_active}
use Rattle.bearer_state.specs.Changes.{with_first, without_first, placed, unbound, rebound_bearer, filtered, granted_bearer}

-- what holds of each holds of each that is left
pub each_if : {X : Type 0} (P : X → Type 0) (passes : Bool) (xs ys : List X) → AllByRecursion P xs
    → AllByRecursion P ys → AllByRecursion P (if passes then xs else ys)
each_if P true xs ys each other = each
each_if P false xs ys each other = other

pub each_without : {X : Type 0} (P : X → Type 0) (test : X → Bool) (xs : List X) → AllByRecursion P xs
    → AllByRecursion P (without_first test xs)
each_without P test [] each = tt
each_without P test (x ∷ xs) each =
    each_if P (test x) xs (x ∷ without_first test xs) each.1 (each.0, each_without P test xs each.1)

pairs_if : {X : Type 0} (R : X → X → Type 0) (passes : Bool) (xs ys : List X) → EachPair R xs → EachPair R ys
    → EachPair R (if passes then xs else ys)
pairs_if R true xs ys each other = each
pairs_if R false xs ys each other = other

pairs_without : {X : Type 0} (R : X → X → Type 0) (test : X → Bool) (xs : List X) → EachPair R xs
    → EachPair R (without_first test xs)
pairs_without R test [] each = tt
pairs_without R test (x ∷ xs) each =
    pairs_if R (test x) xs (x ∷ without_first test xs) each.1 (
      each_without (R x) test xs each.0,
      pairs_without R test xs each.1,
    )

pub bearers_without : (test : Bearer → Bool) (bearers : List Bearer) → AreBearers bearers
    → AreBearers (without_first test bearers)
bearers_without test bearers are = record {
  each = each_without IsBearer test bearers are.each;
  apart = pairs_without IsBefore test bearers are.apart;
}

-- or of each that is changed
pub each_with : {X : Type 0} (P : X → Type 0) (test : X → Bool) (f : X → X) → ((x : X) → P x → P (f x))
    → (xs : List X) → AllByRecursion P xs
    → AllByRecursion P (with_first test f xs)
each_with P test f kept [] each = tt
each_with P test f kept (x ∷ xs) each =
    each_if P (test x) (f x ∷ xs) (x ∷ with_first test f xs) (kept x each.0, each.1) (
      each.0,
      each_with P test f kept xs each.1,
    )

pub each_implied : {X : Type 0} (P Q : X → Type 0) → ((x : X) → P x → Q x) → (xs : List X) → AllByRecursion P xs
    → AllByRecursion Q xs
each_implied P Q implied [] each = tt
each_implied P Q implied (x ∷ xs) each = (implied x each.0, each_implied P Q implied xs each.1)

each_both : {X : Type 0} (P Q : X → Type 0) (xs : List X) → AllByRecursion P xs → AllByRecursion Q xs
    → AllByRecursion (λ x. P x × Q x) xs
each_both P Q [] each other = tt
each_both P Q (x ∷ xs) each other = ((each.0, other.0), each_both P Q xs each.1 other.1)

-- pairs stay apart where one of two is changed, of elements of which a further fact is known
pairs_with : {X : Type 0} (R : X → X → Type 0) (Q : X → Type 0) (test : X → Bool) (f : X → X)
    → ((x z : X) → R x z → Q z → R (f x) z)
    → ((x z : X) → Q x → R x z → R x (f z)) → (xs : List X) → AllByRecursion Q xs → EachPair R xs
    → EachPair R (with_first test f xs)
pairs_with R Q test f first second [] known each = tt
pairs_with {X} R Q test f first second (x ∷ xs) known each =
    let ahead : (z : X) → R x z × Q z → R (f x) z = λ z both. first x z both.0 both.1 in
    let apart : AllByRecursion (λ z. R x z × Q z) xs = each_both (R x) Q xs each.0 known.1 in
    pairs_if R (test x) (f x ∷ xs) (x ∷ with_first test f xs)
    (each_implied (λ z. R x z × Q z) (R (f x)) ahead xs apart, each.1) (
      each_with (R x) test f (λ z behind. second x z known.0 behind) xs each.0,
      pairs_with R Q test f first second xs known.1 each.1,
    )

-- likewise where all are changed
pub each_mapped : {X : Type 0} (P : X → Type 0) (f : X → X) → ((x : X) → P x → P (f x)) → (xs : List X)
    → AllByRecursion P xs → AllByRecursion P (map f xs)
each_mapped P f kept [] each = tt
each_mapped P f kept (x ∷ xs) each = (kept x each.0, each_mapped P f kept xs each.1)

each_mapped_to : {X : Type 0} (P Q : X → Type 0) (f : X → X) → ((x : X) → P x → Q (f x)) → (xs : List X)
    → AllByRecursion P xs → AllByRecursion Q (map f xs)
each_mapped_to P Q f kept [] each = tt
each_mapped_to P Q f kept (x ∷ xs) each = (kept x each.0, each_mapped_to P Q f kept xs each.1)

pairs_mapped : {X : Type 0} (R : X → X → Type 0) (f : X → X) → ((x z : X) → R x z → R (f x) (f z)) → (xs : List X)
    → EachPair R xs → EachPair R (map f xs)
pairs_mapped R f kept [] each = tt
pairs_mapped R f kept (x ∷ xs) each =
    (each_mapped_to (R x) (R (f x)) f (kept x) xs each.0, pairs_mapped R f kept xs each.1)

-- a change that keeps the index, the life, the phase and the quality of service
record KeepsRanges (change : Bearer → Bearer) : Type 0 where
  index : (b : Bearer) → index_of (change b) ≡ index_of b
  life : (b : Bearer) → (change b).life ≡ b.life
  phase : (b : Bearer) → (change b).phase ≡ b.phase
  qos : (b : Bearer) → (change b).qos ≡ b.qos

kept_bearer : (change : Bearer → Bearer) → KeepsRanges change → (b : Bearer) → IsBearer b → IsBearer (change b)
kept_bearer change keeps b is = record {
  index = rw (keeps.index b) is.index;
  phase = rw (keeps.phase b) is.phase;
  qos = rw (keeps.qos b) is.qos;
}

kept_first : (change : Bearer → Bearer) → KeepsRanges change → (b c : Bearer) → IsBefore b c → IsBefore (change b) c
kept_first change keeps b c before = record {
  indices_rise = rw (keeps.index b) before.indices_rise;
  lives_differ = rw (keeps.life b) before.lives_differ;
  ebis_differ = rw (keeps.phase b) before.ebis_differ;
}

kept_second : (change : Bearer → Bearer) → KeepsRanges change → (b c : Bearer) → IsBefore b c → IsBefore b (change c)
kept_second change keeps b c before = record {
  indices_rise = rw (keeps.index c) before.indices_rise;
  lives_differ = rw (keeps.life c) before.lives_differ;
  ebis_differ = rw (keeps.phase c) before.ebis_differ;
}

bearers_mapped : (change : Bearer → Bearer) → KeepsRanges change → (bearers : List Bearer) → AreBearers bearers
    → AreBearers (map change bearers)
bearers_mapped change keeps bearers are = record {
  each = each_mapped IsBearer change (kept_bearer change keeps) bearers are.each;
  apart = pairs_mapped IsBefore change (λ b c before.
      kept_first change keeps b (change c) (kept_second change keeps b c before)) bearers are.apart;
}

pub bearers_unbound : (bearers : List Bearer) → AreBearers bearers → AreBearers (map unbound bearers)
bearers_unbound bearers are =
    bearers_mapped unbound (record { index = λ b. refl; life = λ b. refl; phase = λ b. refl; qos = λ b. refl })
    bearers are

pub bearers_rebound : (asks : List Ask) (bearers : List Bearer) → AreBearers bearers
    → AreBearers (map (rebound_bearer asks) bearers)
bearers_rebound asks bearers are =
    bearers_mapped (rebound_bearer asks) (record {
      index = λ b. refl;
      life = λ b. refl;
      phase = λ b. refl;
      qos = λ b. refl;
    }) bearers are

each_known : {X : Type 0} (xs : List X) → AllByRecursion (λ (x : X). Unit {0}) xs
each_known [] = tt
each_known (x ∷ xs) = (tt, each_known xs)

pub bearers_filtered : (test : Bearer → Bool) (filters : List Filter) (bearers : List Bearer) → AreBearers bearers
    → AreBearers (with_first test (filtered filters) bearers)
bearers_filtered test filters bearers are =
    let keeps : KeepsRanges (filtered filters) = record {
      index = λ b. refl;
      life = λ b. refl;
      phase = λ b. refl;
      qos = λ b. refl;
    } in
    record {
      each = each_with IsBearer test (filtered filters) (kept_bearer (filtered filters) keeps) bearers are.each;
      apart = pairs_with IsBefore (λ (b : Bearer). Unit {0}) test (filtered filters)
          (λ b c before known. kept_first (filtered filters) keeps b c before)
          (λ b c known before. kept_second (filtered filters) keeps b c before) bearers (each_known bearers) are.apart;
    }

-- a granted bearer has an EBI that no active bearer has
abbrev IsFree : ℕ → Bearer → Type 0
IsFree ebi b = is_active_as ebi b.phase ≡ false

free_in_phase : (ebi : ℕ) (phase : Phase) → is_active_as ebi phase ≡ false → EbisDiffer (Active ebi) phase
free_in_phase ebi (Asked seq) free = tt
free_in_phase ebi (Active own) free = λ same. grind (arith, nat_tests)

free_behind : (ebi : ℕ) (phase : Phase) → is_active_as ebi phase ≡ false → EbisDiffer phase (Active ebi)
free_behind ebi (Asked seq) free = tt
free_behind ebi (Active own) free = λ same. grind (arith, nat_tests)

has_none : (ebi : ℕ) (bearers : List Bearer) → has_active bearers ebi ≡ false → AllByRecursion (IsFree ebi) bearers
has_none ebi [] none = tt
has_none ebi (b ∷ bs) none =
    let here : is_active ebi b ≡ false = grind (arith, none) in
    let behind : has_active bs ebi ≡ false = grind (arith, none) in
    (here, has_none ebi bs behind)

pub bearers_granted : (test : Bearer → Bool) (ebi : ℕ) (enb : Peer) (bearers : List Bearer) → IsEbi ebi
    → has_active bearers ebi ≡ false
    → AreBearers bearers → AreBearers (with_first test (granted_bearer ebi enb) bearers)
bearers_granted test ebi enb bearers fits free are =
    let change : Bearer → Bearer = granted_bearer ebi enb in
    let valid : (b : Bearer) → IsBearer b → IsBearer (change b) =
    λ b is. record { index = is.index; phase = fits; qos = is.qos } in
    let first : (b c : Bearer) → IsBefore b c → IsFree ebi c → IsBefore (change b) c = λ b c before known.
    record {
      indices_rise = before.indices_rise;
      lives_differ = before.lives_differ;
      ebis_differ = free_in_phase ebi c.phase known;
    } in
    let second : (b c : Bearer) → IsFree ebi b → IsBefore b c → IsBefore b (change c) = λ b c known before.
    record {
      indices_rise = before.indices_rise;
      lives_differ = before.lives_differ;
      ebis_differ = free_behind ebi b.phase known;
    } in
    record {
      each = each_with IsBearer test change valid bearers are.each;
      apart = pairs_with IsBefore (IsFree ebi) test change first second bearers (has_none ebi bearers free) are.apart;
    }

-- a bearer in its place
record IsNewAmong (new other : Bearer) : Type 0 where
  index : index_of new ≢ index_of other
  life : new.life ≢ other.life
  ebi : EbisDiffer new.phase other.phase
  other_ebi : EbisDiffer other.phase new.phase

pub each_placed : (P : Bearer → Type 0) (new : Bearer) (bearers : List Bearer) → P new → AllByRecursion P bearers
    → AllByRecursion P (placed new bearers)
each_placed P new [] holds each = (holds, tt)
each_placed P new (b ∷ bs) holds each =
    each_if P (nat_lt (index_of new) (index_of b)) (new ∷ b ∷ bs) (b ∷ placed new bs) (holds, each) (
      each.0,
      each_placed P new bs holds each.1,
    )

before_all : (new b : Bearer) (bs : List Bearer) → index_of new < index_of b → AllByRecursion (IsBefore b) bs
    → AllByRecursion (IsNewAmong new) bs
    → AllByRecursion (IsBefore new) bs
before_all new b [] below behind among = tt
before_all new b (c ∷ cs) below behind among = (
  record {
    indices_rise = omega (arith, behind.0.indices_rise);
    lives_differ = among.0.life;
    ebis_differ = among.0.ebi;
  },
  before_all new b cs below behind.1 among.1,
)

pairs_placed_at : (below : Bool) (new b : Bearer) (bs rest : List Bearer)
    → nat_lt (index_of new) (index_of b) ≡ below → IsNewAmong new b → AllByRecursion (IsNewAmong new) bs
    → EachPair IsBefore (b ∷ bs) → EachPair IsBefore rest → (IsBefore b new → AllByRecursion (IsBefore b) rest)
    → EachPair IsBefore (if below then new ∷ b ∷ bs else b ∷ rest)
pairs_placed_at true new b bs rest is among others each tail behind =
    let lower : index_of new < index_of b = grind (arith, nat_tests) in
    let first : IsBefore new b = record { indices_rise = lower; lives_differ = among.life; ebis_differ = among.ebi } in
    ((first, before_all new b bs lower each.0 others), each)
pairs_placed_at false new b bs rest is among others each tail behind =
    let differ : index_of new ≢ index_of b = among.index in
    let higher : index_of b < index_of new = grind (arith, nat_tests) in
    let differ_life : b.life ≢ new.life = λ same. among.life (sym same) in
    (behind (record { indices_rise = higher; lives_differ = differ_life; ebis_differ = among.other_ebi }), tail)

pairs_placed : (new : Bearer) (bearers : List Bearer) → AllByRecursion (IsNewAmong new) bearers
    → EachPair IsBefore bearers → EachPair IsBefore (placed new bearers)
pairs_placed new [] among each = (tt, tt)
pairs_placed new (b ∷ bs) among each =
    pairs_placed_at (nat_lt (index_of new) (index_of b)) new b bs (placed new bs) refl among.0 among.1 each
    (pairs_placed new bs among.1 each.1)
    (λ before. each_placed (IsBefore b) new bs before each.0)

asked_apart : (phase other : Phase) → ((ebi : ℕ) → is_active_as ebi phase ≡ false) → EbisDiffer phase other
asked_apart (Asked seq) other asked = tt
asked_apart (Active ebi) (Asked seq) asked = tt
asked_apart (Active ebi) (Active own) asked = λ same. grind (arith, nat_tests, asked ebi)

apart_asked : (phase other : Phase) → ((ebi : ℕ) → is_active_as ebi phase ≡ false) → EbisDiffer other phase
apart_asked phase (Asked seq) asked = tt
apart_asked (Asked seq) (Active own) asked = tt
apart_asked (Active ebi) (Active own) asked = λ same. grind (arith, nat_tests, asked ebi)

new_among : (new : Bearer) (bearers : List Bearer) → ((ebi : ℕ) → is_active ebi new ≡ false)
    → has_index bearers (index_of new) ≡ false
    → AllByRecursion (λ (other : Bearer). other.life < new.life) bearers → AllByRecursion (IsNewAmong new) bearers
new_among new [] asked free below = tt
new_among new (b ∷ bs) asked free below =
    let here : (index_of b == index_of new) ≡ false = grind (arith, free) in
    let behind : has_index bs (index_of new) ≡ false = grind (arith, free) in
    let differ : index_of new ≢ index_of b = λ same. grind (arith, nat_tests) in
    let life : new.life ≢ b.life = λ same. omega (arith, below.0) in (
      record {
        index = differ;
        life = life;
        ebi = asked_apart new.phase b.phase asked;
        other_ebi = apart_asked new.phase b.phase asked;
      },
      new_among new bs asked behind below.1,
    )

pub bearers_placed : (new : Bearer) (bearers : List Bearer) → IsBearer new → ((ebi : ℕ) → is_active ebi new ≡ false)
    → has_index bearers (index_of new) ≡ false → AllByRecursion (λ (other : Bearer). other.life < new.life) bearers
    → AreBearers bearers
    → AreBearers (placed new bearers)
bearers_placed new bearers is asked free below are = record {
  each = each_placed IsBearer new bearers is are.each;
  apart = pairs_placed new bearers (new_among new bearers asked free below) are.apart;
}

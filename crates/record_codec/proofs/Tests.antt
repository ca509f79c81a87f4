-- The ranges of what is read, as tests.
use Rattle.std.proofs.Common.{◌≡◌, ◌≢◌, ℕ, ◌/◌, ◌%◌, ◌<◌, ◌≤◌, ◌^◌, Bool, true, false, not, ◌&&◌, leb, ltb, List, [], ◌∷◌, length, refl, arith}
use Rattle.std.specs.Prelude.{nat_eq}
use Rattle.std.specs.Bool.{Decides}
use Rattle.std.specs.List.{AllByRecursion, IsDistinct, list_all}
use Rattle.std.proofs.lemmas.Bool.{leb-true, le-leb, eqb-true, not-true, not_from_false}
use Rattle.std.proofs.lemmas.Bool.Decides.{Decides-like, Decides-and, Decides-ltb, Decides-eqb, Decides-not}
use Rattle.bearer_state.specs.declared.bearer.Phase.{Phase}
use Rattle.bearer_state.specs.declared.bearer.Phase.TheVariants.{Asked, Active}
use Rattle.bearer_state.specs.declared.bearer.Bearer.{Bearer}
use Rattle.bearer_state.specs.declared.qos.Qos.{Qos}
use Rattle.bearer_state.specs.declared.kept.Kept.{Kept}
use Rattle.bearer_state.specs.Qos.{IsArp, IsQos}
use Rattle.bearer_state.specs.Bearer.{index_of, IsPhase, IsBearer, EbisDiffer, IsBefore, EachPair, AreBearers}
use Rattle.bearer_state.specs.Session.{IsKept, IsActivePhase, BeginsWithDefault, HasBearersOf}
use Rattle.record_codec.specs.Read.{is_arp, is_qos, is_phase, is_bearer, ebis_differ, is_before, each_pair, are_bearers, differ, is_kept, is_active_phase, begins_with_default, has_bearers_of, lives_below, is_rate}

Decides-leb : (a b : ℕ) → Decides (leb a b) (a ≤ b)
Decides-leb a b = (leb-true a b, le-leb a b)

-- each of a list · each of a list and each one behind it
pub all_decides : {X : Type 0} {P : X → Type 0} (test : X → Bool) → ((x : X) → Decides (test x) (P x)) → (xs : List X)
    → Decides (list_all test xs) (AllByRecursion P xs)
all_decides test each [] = (λ e. tt, λ p. refl)
all_decides test each (x ∷ xs) = Decides-and (test x) (list_all test xs) (each x) (all_decides test each xs)

pub pairs_decide : {X : Type 0} {R : X → X → Type 0} (test : X → X → Bool) → ((x y : X) → Decides (test x y) (R x y))
    → (xs : List X) → Decides (each_pair test xs) (EachPair R xs)
pairs_decide test each [] = (λ e. tt, λ p. refl)
pairs_decide test each (x ∷ xs) =
    Decides-and (list_all (test x) xs) (each_pair test xs) (all_decides (test x) (each x) xs) (pairs_decide test each
    xs)

arp_decides : (arp : ℕ) → Decides (is_arp arp) (IsArp arp)
arp_decides arp =
    Decides-like (is_arp arp) (λ p. record { bit_8 = p.0; bit_2 = p.1 }) (λ p. (p.bit_8, p.bit_2))
    (Decides-and (ltb arp 128) _ (Decides-ltb arp 128) (Decides-eqb (arp / 2 % 2) 0))

rate_decides : (rate : ℕ) → Decides (is_rate rate) (rate < 2 ^ 40)
rate_decides rate = Decides-ltb rate (2 ^ 40)

qos_decides : (qos : Qos) → Decides (is_qos qos) (IsQos qos)
qos_decides qos =
    Decides-like (is_qos qos)
    (λ p. record {
      arp = p.0;
      qci = p.1.0;
      mbr_up = p.1.1.0;
      mbr_down = p.1.1.1.0;
      gbr_up = p.1.1.1.1.0;
      gbr_down =
          p.1.1.1.1.1;
    })
    (λ p. (p.arp, (p.qci, (p.mbr_up, (p.mbr_down, (p.gbr_up, p.gbr_down))))))
    (Decides-and (is_arp qos.arp) _ (arp_decides qos.arp)
    (Decides-and (ltb qos.qci (2 ^ 8)) _ (Decides-ltb qos.qci (2 ^ 8))
    (Decides-and (is_rate qos.mbr_up) _ (rate_decides qos.mbr_up)
    (Decides-and (is_rate qos.mbr_down) _ (rate_decides qos.mbr_down)
    (Decides-and (is_rate qos.gbr_up) (is_rate qos.gbr_down) (rate_decides qos.gbr_up) (rate_decides qos.gbr_down))))))

phase_decides : (phase : Phase) → Decides (is_phase phase) (IsPhase phase)
phase_decides (Asked seq) = Decides-ltb seq (2 ^ 24)
phase_decides (Active ebi) =
    Decides-like (leb 5 ebi && leb ebi 15) (λ p. record { least = p.0; most = p.1 }) (λ p. (p.least, p.most))
    (Decides-and (leb 5 ebi) (leb ebi 15) (Decides-leb 5 ebi) (Decides-leb ebi 15))

bearer_decides : (bearer : Bearer) → Decides (is_bearer bearer) (IsBearer bearer)
bearer_decides bearer =
    Decides-like (is_bearer bearer) (λ p. record { index = p.0; phase = p.1.0; qos = p.1.1 })
    (λ p. (p.index, (p.phase, p.qos)))
    (Decides-and (leb (index_of bearer) 10) _ (Decides-leb (index_of bearer) 10)
    (Decides-and (is_phase bearer.phase) (is_qos bearer.qos) (phase_decides bearer.phase) (qos_decides bearer.qos)))

differ_decides : (m n : ℕ) → Decides (not (nat_eq m n)) (m ≢ n)
differ_decides m n = Decides-not (nat_eq m n) (Decides-eqb m n)

ebis_decide : (phase other : Phase) → Decides (ebis_differ phase other) (EbisDiffer phase other)
ebis_decide (Active ebi) (Active other) = differ_decides ebi other
ebis_decide (Active ebi) (Asked seq) = (λ e. tt, λ p. refl)
ebis_decide (Asked seq) other = (λ e. tt, λ p. refl)

before_decides : (bearer other : Bearer) → Decides (is_before bearer other) (IsBefore bearer other)
before_decides bearer other =
    Decides-like (is_before bearer other) (λ p. record {
      indices_rise = p.0;
      lives_differ = p.1.0;
      ebis_differ =
          p.1.1;
    })
    (λ p. (p.indices_rise, (p.lives_differ, p.ebis_differ)))
    (Decides-and (ltb (index_of bearer) (index_of other)) _ (Decides-ltb (index_of bearer) (index_of other))
    (Decides-and (not (nat_eq bearer.life other.life)) (ebis_differ bearer.phase other.phase)
    (differ_decides bearer.life other.life) (ebis_decide bearer.phase other.phase)))

pub bearers_decide : (bearers : List Bearer) → Decides (are_bearers bearers) (AreBearers bearers)
bearers_decide bearers =
    Decides-like (are_bearers bearers) (λ p. record { each = p.0; apart = p.1 }) (λ p. (p.each, p.apart))
    (Decides-and (list_all is_bearer bearers) (each_pair is_before bearers) (all_decides is_bearer bearer_decides
    bearers)
    (pairs_decide is_before before_decides bearers))

-- no two identifiers are the same
unequal_decides : (x y : ℕ) → Decides (not (nat_eq x y)) (nat_eq x y ≡ false)
unequal_decides x y = (not-true (nat_eq x y), not_from_false (nat_eq x y))

pub distinct_decides : (xs : List ℕ) → Decides (differ xs) (IsDistinct nat_eq xs)
unfolding IsDistinct
distinct_decides [] = (λ e. tt, λ p. refl)
distinct_decides (x ∷ xs) =
    Decides-and (list_all (λ y. not (nat_eq x y)) xs) (differ xs)
    (all_decides (λ y. not (nat_eq x y)) (unequal_decides x) xs) (distinct_decides xs)

pub kept_decides : (kept : Kept) → Decides (is_kept kept) (IsKept kept)
kept_decides kept =
    Decides-like (is_kept kept) (λ p. record { seq = p.0; reply = p.1 }) (λ p. (p.seq, p.reply))
    (Decides-and (ltb kept.seq (2 ^ 24)) (ltb 0 (length kept.reply)) (Decides-ltb kept.seq (2 ^ 24))
    (Decides-ltb 0 (length kept.reply)))

-- the bearers of a live session, and of another
active_decides : (phase : Phase) → Decides (is_active_phase phase) (IsActivePhase phase)
active_decides (Asked seq) = (λ e. cc, λ p. absurd p)
active_decides (Active ebi) = (λ e. tt, λ p. refl)

default_decides : (bearers : List Bearer) → Decides (begins_with_default bearers) (BeginsWithDefault bearers)
default_decides [] = (λ e. cc, λ p. absurd p)
default_decides (bearer ∷ bearers) =
    Decides-and (nat_eq (index_of bearer) 0) (is_active_phase bearer.phase) (Decides-eqb (index_of bearer) 0)
    (active_decides bearer.phase)

none_decides : (bearers : List Bearer) → Decides (nat_eq (length bearers) 0) (bearers ≡ [])
none_decides [] = (λ e. refl, λ p. refl)
none_decides (bearer ∷ bearers) = (λ e. absurd (omega (arith, eqb-true _ _ e)), λ p. absurd cc)

pub bearers_of_decides : (live : Bool) (bearers : List Bearer)
    → Decides (has_bearers_of live bearers) (HasBearersOf live bearers)
bearers_of_decides true bearers = default_decides bearers
bearers_of_decides false bearers = none_decides bearers

pub lives_decide : (lives : ℕ) (bearers : List Bearer)
    → Decides (lives_below lives bearers) (AllByRecursion (λ bearer. bearer.life < lives) bearers)
lives_decide lives bearers =
    all_decides (λ bearer. ltb bearer.life lives) (λ bearer. Decides-ltb bearer.life lives) bearers

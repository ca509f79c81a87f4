-- What a command leaves of the active bearers: those that go on keep their place and their quality of service, and no
-- life begins twice.
use Rattle.std.proofs.Common.{◌≡◌, ◌≢◌, ℕ, ◌<◌, false, List, [], ◌∷◌, Some, refl, sym, ap, ◌∙◌, subst, inl, inr, ◌⊎◌, arith}
use Rattle.std.specs.List.{cons_option}
use Rattle.std.proofs.lemmas.Bool.{false≢true}
use Rattle.bearer_state.specs.declared.bearer.Phase.{Phase}
use Rattle.bearer_state.specs.declared.bearer.Phase.TheVariants.{Asked, Active}
use Rattle.bearer_state.specs.declared.bearer.Bearer.{Bearer}
use Rattle.bearer_state.specs.declared.version.ActiveBearer.{ActiveBearer}
use Rattle.bearer_state.specs.Session.{SessionState, IsActivePhase}
use Rattle.bearer_state.specs.Version.{active_of, active_in, actives}
use Rattle.packet_steps.specs.Change.{has_life}
use Rattle.gate_model.proofs.Members.{In, in_map, of_filter_map, in_filter_map, IsOther, AreDistinct, one_of}
use Rattle.gate_model.proofs.BookSteps.{life_in, active_lives, has_of}
use Rattle.gate_model.proofs.SessionSteps.{life_of, lives_in, Advances, AreLived, GoesTo}

-- what an active bearer is one of
pub record Shows (bearer : Bearer) (active : ActiveBearer) : Type 0 where
  pub phase : bearer.phase ≡ Active active.ebi
  pub shown : active_of bearer active.ebi ≡ active

shows : (bearer : Bearer) (phase : Phase) (active : ActiveBearer) → bearer.phase ≡ phase
    → active_in bearer phase ≡ Some active → Shows bearer active
shows bearer (Asked seq) active is found = absurd (cc)
shows bearer (Active ebi) active is found =
    let same : active_of bearer ebi ≡ active = cc in
    let ebis : ebi ≡ active.ebi = ap (λ (a : ActiveBearer). a.ebi) same in
    record { phase = is ∙ ap (λ e. Active e) ebis; shown = ap (active_of bearer) (sym ebis) ∙ same }

pub shown_by : (active : ActiveBearer) (bearers : List Bearer) → In active (actives bearers) → (b : Bearer)
    × In b bearers × Shows b active
shown_by active bearers there =
    let found = of_filter_map (λ (b : Bearer). active_in b b.phase) active bearers there in
    (found.0, found.1, shows found.0 found.0.phase active refl found.2)

pub show : (b : Bearer) (ebi : ℕ) (bearers : List Bearer) → In b bearers → b.phase ≡ Active ebi
    → In (active_of b ebi) (actives bearers)
show b ebi bearers there is =
    in_filter_map (λ (c : Bearer). active_in c c.phase) b (active_of b ebi) bearers there (ap (active_in b) is)

-- lives of active bearers differ
other_option : (n : ℕ) (b : Bearer) (phase : Phase) (rest : List ActiveBearer) → n ≢ b.life
    → IsOther n (active_lives rest)
    → IsOther n (active_lives (cons_option (active_in b phase) rest))
other_option n b (Asked seq) rest differs other = other
other_option n b (Active ebi) rest differs other = (differs, other)

other_actives : (n : ℕ) (bearers : List Bearer) → IsOther n (lives_in bearers)
    → IsOther n (active_lives (actives bearers))
other_actives n [] other = tt
other_actives n (b ∷ bs) other = other_option n b b.phase (actives bs) other.0 (other_actives n bs other.1)

distinct_option : (b : Bearer) (phase : Phase) (rest : List ActiveBearer) → IsOther b.life (active_lives rest)
    → AreDistinct (active_lives rest)
    → AreDistinct (active_lives (cons_option (active_in b phase) rest))
distinct_option b (Asked seq) rest other apart = apart
distinct_option b (Active ebi) rest other apart = (other, apart)

pub actives_apart : (bearers : List Bearer) → AreDistinct (lives_in bearers)
    → AreDistinct (active_lives (actives bearers))
actives_apart [] apart = tt
actives_apart (b ∷ bs) apart =
    distinct_option b b.phase (actives bs) (other_actives b.life bs apart.0) (actives_apart bs apart.1)

-- a life that was active, and is over or still is
pub record IsOld (session : SessionState) (life : ℕ) : Type 0 where
  pub below : life < session.lives
  pub active : (b : Bearer) → In b session.bearers → b.life ≡ life → IsActivePhase b.phase

active_since : (phase : Phase) (ebi : ℕ) → phase ≡ Active ebi → IsActivePhase phase
active_since (Asked seq) ebi is = absurd (cc)
active_since (Active own) ebi is = tt

pub life_shown : (b : Bearer) (active : ActiveBearer) → Shows b active → b.life ≡ active.life
life_shown b active shown = ap life_in shown.shown

pub actives_old : (session : SessionState) → AreLived session.lives session.bearers → (active : ActiveBearer)
    → In active (actives session.bearers) → IsOld session active.life
actives_old session lived active there =
    let found = shown_by active session.bearers there in
    let same_life = life_shown found.0 active found.2 in
    record {
      below = omega (arith, lived.below found.0 found.1);
      active = λ b b_there is.
          let same : b ≡ found.0 = one_of life_of b found.0 session.bearers lived.apart b_there found.1 (is
          ∙ sym same_life) in
          active_since b.phase active.ebi (ap (λ (c : Bearer). c.phase) same ∙ found.2.phase);
    }

still_active : (before after : Phase) → Advances before after → IsActivePhase before → IsActivePhase after
still_active (Asked seq) after advances active = absurd active
still_active (Active ebi) after advances active = active_since after ebi advances

-- old lives stay old
pub stays_old : (before after : SessionState) → GoesTo before after → (life : ℕ) → IsOld before life → IsOld after life
stays_old before after goes life old = record {
  below = omega (arith, goes.lives, old.below);
  active = λ b there is. elim (goes.from b there) [
    | inl was ↦ still_active was.0.phase b.phase was.2.phase (old.active was.0 was.1 (sym was.2.life ∙ is))
    | inr new ↦ absurd (omega (arith, new, old.below))
  ];
}

-- a bearer that is active before and after
pub record IsSame (before after : ActiveBearer) : Type 0 where
  pub index : before.index ≡ after.index
  pub qos : before.qos ≡ after.qos

pub same_bearer : (before after : SessionState) → AreLived before.lives before.bearers → GoesTo before after
    → (b c : ActiveBearer)
    → In b (actives before.bearers) → In c (actives after.bearers) → b.life ≡ c.life → IsSame b c
same_bearer before after lived goes b c b_there c_there same_life =
    let was = shown_by b before.bearers b_there in
    let is = shown_by c after.bearers c_there in
    elim (goes.from is.0 is.1) [
      | inl old ↦
          let lives : old.0.life ≡ was.0.life = sym old.2.life ∙ life_shown is.0 c is.2 ∙ sym same_life
          ∙ sym (life_shown was.0 b was.2) in
          let same : old.0 ≡ was.0 = one_of life_of old.0 was.0 before.bearers lived.apart old.1 was.1 lives in
          record {
            index = sym (ap (λ (a : ActiveBearer). a.index) was.2.shown)
                ∙ sym (ap (λ (o : Bearer). o.choice.index) same) ∙ sym old.2.index
                ∙ ap (λ (a : ActiveBearer). a.index) is.2.shown;
            qos = sym (ap (λ (a : ActiveBearer). a.qos) was.2.shown) ∙ sym (ap (λ (o : Bearer). o.qos) same)
                ∙ sym old.2.qos
                ∙ ap (λ (a : ActiveBearer). a.qos) is.2.shown;
          }
      | inr new ↦ absurd (omega (
        arith,
        new,
        lived.below was.0 was.1,
        life_shown was.0 b was.2,
        life_shown is.0 c is.2,
        same_life,
      ))
    ]

-- a life that begins is not old
asked_or_active : (phase : Phase) → ((ebi : ℕ) × (phase ≡ Active ebi)) ⊎ (IsActivePhase phase → ⊥)
asked_or_active (Asked seq) = inr (λ active. active)
asked_or_active (Active ebi) = inl (ebi, refl)

pub begins_fresh : (before after : SessionState) → GoesTo before after → (c : ActiveBearer)
    → In c (actives after.bearers)
    → has_life (actives before.bearers) c.life ≡ false → IsOld before c.life → ⊥
begins_fresh before after goes c c_there has_not old =
    let is = shown_by c after.bearers c_there in
    elim (goes.from is.0 is.1) [
      | inl was ↦
          let lives : was.0.life ≡ c.life = sym was.2.life ∙ life_shown is.0 c is.2 in
          elim (asked_or_active was.0.phase) [
            | inl active ↦
                let there = in_map life_in (active_of was.0 active.0) (actives before.bearers)
                (show was.0 active.0 before.bearers was.1 active.1) in
                let has = has_of (actives before.bearers) c.life
                (subst (λ n. In n (active_lives (actives before.bearers))) lives there) in
                false≢true (sym has_not ∙ has)
            | inr asked ↦ asked (old.active was.0 was.1 lives)
          ]
      | inr new ↦ absurd (omega (arith, new, old.below, life_shown is.0 c is.2))
    ]

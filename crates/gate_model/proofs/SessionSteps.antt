-- What each row of the control table leaves of a session's bearers: old ones that go on, and new ones of new lives.
use Rattle.std.proofs.Common.{◌≡◌, ◌≢◌, ℕ, ◌+◌, ◌<◌, ◌≤◌, Bool, true, false, if◌then◌else◌, nat_lt, List, [], ◌∷◌, map, Option, Some, None, refl, sym, ap, ◌∙◌, subst, inl, inr, ◌⊎◌, arith}
use Rattle.std.proofs.lemmas.Bool.{false≢true}
use Rattle.pc_base.specs.declared.packet.Peer.{Peer}
use Rattle.tft_codec.specs.declared.filter.Filter.{Filter}
use Rattle.bearer_state.specs.declared.bearer.Phase.{Phase}
use Rattle.bearer_state.specs.declared.bearer.Phase.TheVariants.{Asked, Active}
use Rattle.bearer_state.specs.declared.bearer.Bearer.{Bearer}
use Rattle.bearer_state.specs.declared.qos.Qos.{Qos}
use Rattle.bearer_state.specs.Bearer.{index_of, is_active, is_asked, is_asked_as}
use Rattle.bearer_state.specs.Changes as changes
use Rattle.bearer_state.specs.Changes.{with_first, without_first, placed}
use Rattle.bearer_state.specs.Lookup.{least_free, is_dedicated}
use Rattle.bearer_state.specs.Session.{SessionState, new_session}
use Rattle.control_steps.specs.declared.command.CommandKind.{CommandKind}
use Rattle.control_steps.specs.declared.command.CommandKind.TheVariants.{Attach, Create, Modify, AddBearer, Filters, Drop, Ambr, CreateAns}
use Rattle.control_steps.specs.Row.{Row, created, attached, modified, released, deleted, asked, refiltered, dropped, rerated, granted, denied, filters_given, filters_made, row_of}
use Rattle.control_steps.specs.Table.{ordered_ebi, ordered_qos, qos_asked, with_bearer, with_filters, with_enb, effect, controlled}
use Rattle.gate_model.proofs.Members.{In, of_map, in_map, IsOther, AreDistinct, other_at, other_if}

abbrev pub life_of : Bearer → ℕ
life_of bearer = bearer.life

abbrev pub lives_in : List Bearer → List ℕ
lives_in bearers = map life_of bearers

-- a bearer that goes on keeps its life, its quality of service and its index, and its EBI once it is active
abbrev pub Advances : Phase → Phase → Type 0
Advances (Asked seq) after = Unit {0}
Advances (Active ebi) after = after ≡ Active ebi

pub record Continues (before after : Bearer) : Type 0 where
  pub life : after.life ≡ before.life
  pub qos : after.qos ≡ before.qos
  pub index : index_of after ≡ index_of before
  pub phase : Advances before.phase after.phase

-- a bearer goes on, or has a life that no bearer had
abbrev pub Comes : ℕ → List Bearer → Bearer → Type 0
Comes lives before bearer = ((old : Bearer) × In old before × Continues old bearer) ⊎ (lives ≤ bearer.life)

-- the lives of bearers differ, and are below a number
pub record AreLived (lives : ℕ) (bearers : List Bearer) : Type 0 where
  pub apart : AreDistinct (lives_in bearers)
  pub below : (bearer : Bearer) → In bearer bearers → bearer.life < lives

record Become (lives next : ℕ) (before after : List Bearer) : Type 0 where
  from : (bearer : Bearer) → In bearer after → Comes lives before bearer
  lived : AreLived next after

-- what a command leaves of a session
pub record GoesTo (before after : SessionState) : Type 0 where
  pub slot : after.slot ≡ before.slot
  pub rates : before.rates ≤ after.rates
  pub up : after.rates ≡ before.rates → after.up ≡ before.up
  pub down : after.rates ≡ before.rates → after.down ≡ before.down
  pub rates_most : after.rates ≤ before.rates + 1
  pub lives : before.lives ≤ after.lives
  pub lives_most : after.lives ≤ before.lives + 1
  pub from : (bearer : Bearer) → In bearer after.bearers → Comes before.lives before.bearers bearer
  pub lived : AreLived after.lives after.bearers

same_phase : (phase : Phase) → Advances phase phase
same_phase (Asked seq) = tt
same_phase (Active ebi) = refl

goes_on : (bearer : Bearer) → Continues bearer bearer
goes_on bearer = record { life = refl; qos = refl; index = refl; phase = same_phase bearer.phase }

stay : (lives : ℕ) (bearers : List Bearer) → AreLived lives bearers → Become lives lives bearers bearers
stay lives bearers lived = record { from = λ bearer there. inl (bearer, there, goes_on bearer); lived = lived }

-- all bearers change, and go on
lives_mapped : (change : Bearer → Bearer) → ((b : Bearer) → Continues b (change b)) → (bearers : List Bearer)
    → lives_in (map change bearers) ≡ lives_in bearers
lives_mapped change on [] = refl
lives_mapped change on (b ∷ bs) = let here = (on b).life in let behind = lives_mapped change on bs in cc

all_change : (lives : ℕ) (change : Bearer → Bearer) → ((b : Bearer) → Continues b (change b))
    → (bearers : List Bearer) → AreLived lives bearers
    → Become lives lives bearers (map change bearers)
all_change lives change on bearers lived = record {
  from = λ b there. let old = of_map change b bearers there in inl (
    old.0,
    old.1,
    subst (Continues old.0) old.2 (on old.0),
  );
  lived = record {
    apart = rw (lives_mapped change on bearers) lived.apart;
    below = λ b there. let old = of_map change b bearers there in
        let kept : b.life ≡ old.0.life = ap life_of (sym old.2) ∙ (on old.0).life in
        omega (arith, lived.below old.0 old.1);
  };
}

-- the first one that passes changes
of_first : {X : Type 0} (passes : Bool) (test : X → Bool) (change : X → X) (y x : X) (xs rest : List X)
    → test x ≡ passes
    → (In y rest → In y xs ⊎ ((z : X) × In z xs × (test z ≡ true) × (change z ≡ y)))
    → In y (if passes then change x ∷ xs else x ∷ rest) → In y (x ∷ xs)
    ⊎ ((z : X) × In z (x ∷ xs) × (test z ≡ true) × (change z ≡ y))
of_first true test change y x xs rest is behind (inl here) = inr (x, inl refl, is, here)
of_first true test change y x xs rest is behind (inr there) = inl (inr there)
of_first false test change y x xs rest is behind (inl here) = inl (inl here)
of_first false test change y x xs rest is behind (inr there) =
    elim (behind there) [ inl old ↦ inl (inr old) | inr new ↦ inr (new.0, inr new.1, new.2, new.3) ]

of_with_first : {X : Type 0} (test : X → Bool) (change : X → X) (y : X) (xs : List X) → In y (with_first test change xs)
    → In y xs ⊎ ((z : X) × In z xs × (test z ≡ true) × (change z ≡ y))
of_with_first test change y [] there = absurd there
of_with_first test change y (x ∷ xs) there =
    of_first (test x) test change y x xs (with_first test change xs) refl
    (λ behind. of_with_first test change y xs behind) there

lives_first : (passes : Bool) (change : Bearer → Bearer) (b : Bearer) (bs rest : List Bearer)
    → (change b).life ≡ b.life → lives_in rest ≡ lives_in bs
    → lives_in (if passes then change b ∷ bs else b ∷ rest) ≡ lives_in (b ∷ bs)
lives_first true change b bs rest here behind = cc
lives_first false change b bs rest here behind = cc

lives_with_first : (test : Bearer → Bool) (change : Bearer → Bearer) → ((b : Bearer) → (change b).life ≡ b.life)
    → (bearers : List Bearer)
    → lives_in (with_first test change bearers) ≡ lives_in bearers
lives_with_first test change same [] = refl
lives_with_first test change same (b ∷ bs) =
    lives_first (test b) change b bs (with_first test change bs) (same b) (lives_with_first test change same bs)

first_changes : (lives : ℕ) (test : Bearer → Bool) (change : Bearer → Bearer)
    → ((b : Bearer) → (change b).life ≡ b.life)
    → ((b : Bearer) → test b ≡ true → Continues b (change b)) → (bearers : List Bearer) → AreLived lives bearers
    → Become lives lives bearers (with_first test change bearers)
first_changes lives test change same on bearers lived = record {
  from = λ b there. elim (of_with_first test change b bearers there) [
    | inl old ↦ inl (b, old, goes_on b)
    | inr new ↦ inl (new.0, new.1, subst (Continues new.0) new.3 (on new.0 new.2))
  ];
  lived = record {
    apart = rw (lives_with_first test change same bearers) lived.apart;
    below = λ b there. elim (of_with_first test change b bearers there) [
      | inl old ↦ lived.below b old
      | inr new ↦ let kept : b.life ≡ new.0.life = ap life_of (sym new.3)
          ∙ same new.0 in omega (arith, lived.below new.0 new.1)
    ];
  };
}

-- the first one that passes goes
of_left : {X : Type 0} (passes : Bool) (y x : X) (xs rest : List X) → (In y rest → In y xs)
    → In y (if passes then xs else x ∷ rest) → In y (x ∷ xs)
of_left true y x xs rest behind there = inr there
of_left false y x xs rest behind (inl here) = inl here
of_left false y x xs rest behind (inr there) = inr (behind there)

of_without_first : {X : Type 0} (test : X → Bool) (y : X) (xs : List X) → In y (without_first test xs) → In y xs
of_without_first test y [] there = absurd there
of_without_first test y (x ∷ xs) there =
    of_left (test x) y x xs (without_first test xs) (λ behind. of_without_first test y xs behind) there

other_without : (n : ℕ) (test : Bearer → Bool) (bearers : List Bearer) → IsOther n (lives_in bearers)
    → IsOther n (lives_in (without_first test bearers))
other_without n test bearers other = other_if n (lives_in (without_first test bearers)) (λ m there.
    let found = of_map life_of m (without_first test bearers) there in
    other_at n m (lives_in bearers) other
    (subst (λ k. In k (lives_in bearers)) found.2 (in_map life_of found.0 bearers
    (of_without_first test found.0 bearers found.1))))

distinct_left : (passes : Bool) (b : Bearer) (bs rest : List Bearer) → AreDistinct (lives_in bs)
    → IsOther b.life (lives_in rest) → AreDistinct (lives_in rest)
    → AreDistinct (lives_in (if passes then bs else b ∷ rest))
distinct_left true b bs rest apart other behind = apart
distinct_left false b bs rest apart other behind = (other, behind)

distinct_without : (test : Bearer → Bool) (bearers : List Bearer) → AreDistinct (lives_in bearers)
    → AreDistinct (lives_in (without_first test bearers))
distinct_without test [] apart = tt
distinct_without test (b ∷ bs) apart =
    distinct_left (test b) b bs (without_first test bs) apart.1 (other_without b.life test bs apart.0)
    (distinct_without test bs apart.1)

first_goes : (lives : ℕ) (test : Bearer → Bool) (bearers : List Bearer) → AreLived lives bearers
    → Become lives lives bearers (without_first test bearers)
first_goes lives test bearers lived = record {
  from = λ b there. inl (b, of_without_first test b bearers there, goes_on b);
  lived = record {
    apart = distinct_without test bearers lived.apart;
    below = λ b there. lived.below b (of_without_first test b bearers there);
  };
}

-- one bearer more, in its place
of_place : (below : Bool) (y new b : Bearer) (bs rest : List Bearer) → (In y rest → (new ≡ y) ⊎ In y bs)
    → In y (if below then new ∷ b ∷ bs else b ∷ rest) → (new ≡ y) ⊎ In y (b ∷ bs)
of_place true y new b bs rest behind (inl here) = inl here
of_place true y new b bs rest behind (inr there) = inr there
of_place false y new b bs rest behind (inl here) = inr (inl here)
of_place false y new b bs rest behind (inr there) = elim (behind there) [ inl is ↦ inl is | inr old ↦ inr (inr old) ]

of_placed : (y new : Bearer) (bearers : List Bearer) → In y (placed new bearers) → (new ≡ y) ⊎ In y bearers
of_placed y new [] (inl here) = inl here
of_placed y new [] (inr there) = absurd there
of_placed y new (b ∷ bs) there =
    of_place (nat_lt (index_of new) (index_of b)) y new b bs (placed new bs) (λ behind. of_placed y new bs behind) there

other_placed : (n : ℕ) (new : Bearer) (bearers : List Bearer) → n ≢ new.life → IsOther n (lives_in bearers)
    → IsOther n (lives_in (placed new bearers))
other_placed n new bearers differs other = other_if n (lives_in (placed new bearers)) (λ m there.
    let found = of_map life_of m (placed new bearers) there in
    elim (of_placed found.0 new bearers found.1) [
      | inl is ↦ λ same. differs (same ∙ sym found.2 ∙ ap life_of (sym is))
      | inr old ↦ other_at n m (lives_in bearers) other
          (subst (λ k. In k (lives_in bearers)) found.2 (in_map life_of found.0 bearers old))
    ])

distinct_place : (below : Bool) (new b : Bearer) (bs rest : List Bearer) → IsOther new.life (lives_in (b ∷ bs))
    → AreDistinct (lives_in (b ∷ bs))
    → IsOther b.life (lives_in rest) → AreDistinct (lives_in rest)
    → AreDistinct (lives_in (if below then new ∷ b ∷ bs else b ∷ rest))
distinct_place true new b bs rest other apart other_rest behind = (other, apart)
distinct_place false new b bs rest other apart other_rest behind = (other_rest, behind)

distinct_placed : (new : Bearer) (bearers : List Bearer) → IsOther new.life (lives_in bearers)
    → AreDistinct (lives_in bearers) → AreDistinct (lives_in (placed new bearers))
distinct_placed new [] other apart = (tt, tt)
distinct_placed new (b ∷ bs) other apart =
    distinct_place (nat_lt (index_of new) (index_of b)) new b bs (placed new bs) other apart
    (other_placed b.life new bs (λ same. other.0 (sym same)) apart.0) (distinct_placed new bs other.1 apart.1)

one_more : (new : Bearer) (lives : ℕ) (bearers : List Bearer) → new.life ≡ lives → AreLived lives bearers
    → Become lives (lives + 1) bearers (placed new bearers)
one_more new lives bearers is lived =
    let other : IsOther new.life (lives_in bearers) = other_if new.life (lives_in bearers) (λ m there same.
    let found = of_map life_of m bearers there in
    let lower : found.0.life < lives = lived.below found.0 found.1 in
    let equal : found.0.life ≡ m = found.2 in
    omega arith) in
    record {
      from = λ b there. elim (of_placed b new bearers there) [
        | inl here ↦ let new_life : new.life ≡ b.life = ap life_of here in let above : lives ≤ b.life =
            omega arith in inr above
        | inr old ↦ inl (b, old, goes_on b)
      ];
      lived = record {
        apart = distinct_placed new bearers other lived.apart;
        below = λ b there. elim (of_placed b new bearers there) [
          | inl here ↦ let new_life : new.life ≡ b.life = ap life_of here in omega arith
          | inr old ↦ omega (arith, lived.below b old)
        ];
      };
    }

-- only the default bearer, of the next life
default_alone : (new : Bearer) (lives : ℕ) (bearers : List Bearer) → new.life ≡ lives
    → Become lives (lives + 1) bearers (new ∷ [])
default_alone new lives bearers is = record {
  from = λ b there. elim there [
    | inl here ↦ let new_life : new.life ≡ b.life = ap life_of here in let above : lives ≤ b.life =
        omega arith in inr above
    | inr more ↦ absurd more
  ];
  lived = record {
    apart = (tt, tt);
    below = λ b there. elim there [
      | inl here ↦ let new_life : new.life ≡ b.life = ap life_of here in omega arith
      | inr more ↦ absurd more
    ];
  };
}

none_left : (lives : ℕ) (bearers : List Bearer) → Become lives lives bearers []
none_left lives bearers =
    record { from = λ b there. absurd there; lived = record { apart = tt; below = λ b there. absurd there } }

-- a count stays, or rises by one
record RisesByOne (before after : ℕ) : Type 0 where
  least : before ≤ after
  most : after ≤ before + 1

-- a session whose rates stay
keeps_rates : (before after : SessionState) → after.slot ≡ before.slot → after.rates ≡ before.rates
    → after.up ≡ before.up → after.down ≡ before.down
    → RisesByOne before.lives after.lives → Become before.lives after.lives before.bearers after.bearers
    → GoesTo before after
keeps_rates before after slot rates up down lives become = record {
  slot = slot;
  rates = omega arith;
  rates_most = omega arith;
  up = λ same. up;
  down = λ same. down;
  lives = lives.least;
  lives_most = lives.most;
  from = become.from;
  lived = become.lived;
}

-- a session whose rates are set
sets_rates : (before after : SessionState) → after.slot ≡ before.slot → after.rates ≡ before.rates + 1
    → RisesByOne before.lives after.lives → Become before.lives after.lives before.bearers after.bearers
    → GoesTo before after
sets_rates before after slot rates lives become = record {
  slot = slot;
  rates = omega arith;
  rates_most = omega arith;
  up = λ same. absurd (omega arith);
  down = λ same. absurd (omega arith);
  lives = lives.least;
  lives_most = lives.most;
  from = become.from;
  lived = become.lived;
}

nothing_changes : (session : SessionState) → AreLived session.lives session.bearers → GoesTo session session
nothing_changes session lived = keeps_rates session session refl refl refl refl
    (record { least = omega arith; most = omega arith }) (stay session.lives session.bearers lived)

asked_advances : (seq : ℕ) (phase after : Phase) → is_asked_as seq phase ≡ true → Advances phase after
asked_advances seq (Asked own) after is = tt
asked_advances seq (Active ebi) after is = absurd (false≢true is)

bearer_goes : (session : SessionState) (seq : ℕ) (qos : Qos) (index : Option ℕ) (filters : Option (List Filter))
    → AreLived session.lives session.bearers
    → GoesTo session (with_bearer session seq qos index filters)
bearer_goes session seq qos None filters lived = nothing_changes session lived
bearer_goes session seq qos (Some index) None lived = nothing_changes session lived
bearer_goes session seq qos (Some index) (Some filters) lived =
    keeps_rates session (changes.with_asked session index seq qos filters) refl refl refl refl
    (record { least = omega arith; most = omega arith })
    (one_more (changes.asked_bearer session.lives index seq qos filters) session.lives session.bearers refl lived)

filters_go : (session : SessionState) (ebi : ℕ) (filters : Option (List Filter))
    → AreLived session.lives session.bearers
    → GoesTo session (with_filters session ebi filters)
filters_go session ebi None lived = nothing_changes session lived
filters_go session ebi (Some filters) lived =
    keeps_rates session (changes.refiltered session ebi filters) refl refl refl refl
    (record { least = omega arith; most = omega arith })
    (first_changes session.lives (is_active ebi) (changes.filtered filters) (λ b. refl)
    (λ b is. record { life = refl; qos = refl; index = refl; phase = same_phase b.phase }) session.bearers lived)

enb_goes : (session : SessionState) (seq ebi : ℕ) (enb : Option Peer) → AreLived session.lives session.bearers
    → GoesTo session (with_enb session seq ebi enb)
enb_goes session seq ebi None lived = nothing_changes session lived
enb_goes session seq ebi (Some enb) lived =
    keeps_rates session (changes.granted session seq ebi enb) refl refl refl refl
    (record { least = omega arith; most = omega arith })
    (first_changes session.lives (is_asked seq) (changes.granted_bearer ebi enb) (λ b. refl)
    (λ b is. record { life = refl; qos = refl; index = refl; phase = asked_advances seq b.phase (Active ebi) is })
    session.bearers lived)

pub effect_goes : (row : Row) (session : SessionState) (command : CommandKind)
    → AreLived session.lives session.bearers → GoesTo session (effect row session command)
effect_goes created session (Create seq mme pdn ebi qos enb up down) lived =
    sets_rates session (changes.attached session (Some mme) up down ebi qos enb) refl refl
    (record { least = omega arith; most = omega arith })
    (default_alone (changes.default_bearer session.lives ebi qos enb) session.lives session.bearers refl)
effect_goes attached session (Attach enb up down) lived =
    sets_rates session (changes.attached session None up down ordered_ebi ordered_qos (Some enb)) refl refl
    (record { least = omega arith; most = omega arith })
    (default_alone (changes.default_bearer session.lives ordered_ebi ordered_qos (Some enb)) session.lives
    session.bearers refl)
effect_goes modified session (Modify seq mme asks) lived =
    keeps_rates session (effect modified session (Modify seq mme asks)) refl refl refl refl
    (record { least = omega arith; most = omega arith })
    (all_change session.lives (changes.rebound_bearer asks)
    (λ b. record { life = refl; qos = refl; index = refl; phase = same_phase b.phase }) session.bearers lived)
effect_goes released session command lived =
    keeps_rates session (changes.released session) refl refl refl refl
    (record { least = omega arith; most = omega arith })
    (all_change session.lives changes.unbound (λ b. record {
      life = refl;
      qos = refl;
      index = refl;
      phase = same_phase b.phase;
    }) session.bearers lived)
effect_goes deleted session command lived =
    keeps_rates session (changes.detached session) refl refl refl refl
    (record { least = omega arith; most = omega arith }) (none_left session.lives session.bearers)
effect_goes asked session (AddBearer seq qci mbr_up mbr_down gbr_up gbr_down tft) lived =
    bearer_goes session seq (qos_asked session.bearers qci mbr_up mbr_down gbr_up gbr_down)
    (least_free session.bearers) (filters_given tft) lived
effect_goes refiltered session (Filters seq ebi tft) lived =
    filters_go session ebi (filters_made session.bearers ebi tft) lived
effect_goes dropped session (Drop seq ebi) lived =
    keeps_rates session (changes.dropped session ebi) refl refl refl refl
    (record { least = omega arith; most = omega arith })
    (first_goes session.lives (is_dedicated ebi) session.bearers lived)
effect_goes rerated session (Ambr seq up down) lived =
    sets_rates session (changes.rerated session up down) refl refl
    (record { least = omega arith; most = omega arith }) (stay session.lives session.bearers lived)
effect_goes granted session (CreateAns seq cause ebi row_cause enb) lived = enb_goes session seq ebi enb lived
effect_goes denied session (CreateAns seq cause ebi row_cause enb) lived =
    keeps_rates session (changes.denied session seq) refl refl refl refl
    (record { least = omega arith; most = omega arith })
    (first_goes session.lives (is_asked seq) session.bearers lived)
effect_goes row session command lived = nothing_changes session lived

-- but for the answer that is kept
pub session_goes : (session : SessionState) (command : CommandKind) → AreLived session.lives session.bearers
    → GoesTo session (controlled session command).0
session_goes session command lived =
    let goes = effect_goes (row_of session command) session command lived in
    record {
      slot = goes.slot;
      rates = goes.rates;
      rates_most = goes.rates_most;
      up = goes.up;
      down = goes.down;
      lives = goes.lives;
      lives_most = goes.lives_most;
      from = goes.from;
      lived = goes.lived;
    }

pub new_lived : (slot : ℕ) → AreLived (new_session slot).lives (new_session slot).bearers
new_lived slot = record { apart = tt; below = λ b there. absurd there }

-- What a change brings may happen to the book: lives that are over or cut are open, and those that begin are not.
use Rattle.std.proofs.Common.{◌≡◌, ℕ, ◌-◌, ◌^◌, ◌≤◌, ◌↔◌, ◌==◌, ◌&&◌, ◌||◌, Bool, true, false, not, cond, List, [], ◌∷◌, ◌++◌, length, map, filter, IsTrue, ◌⊎◌, inl, inr, refl, sym, ◌∙◌, ap, subst, eq-eqb, append_assoc, length-append, arith}
use Rattle.std.specs.List.{Contains, AllByRecursion}
use Rattle.std.proofs.lemmas.Bool.{cases_eq, ne_eqb, eqb-true, false≢true, and_parts, and_from}
use Rattle.std.proofs.lemmas.List.{append-nil, get_or_default}
use Rattle.std.proofs.lemmas.List.Elements.{Contains-push, Contains-append_left, Contains-push_cases}
use Rattle.charging_book.specs.declared.records.Why.TheVariants.{Qos, Gone}
use Rattle.charging_book.specs.Happenings.{Happening, started, closed, lives_of, MayHappen, AllMay}
use Rattle.charging_book.specs.Postings.{IsInRange, MayAllFollow}
use Rattle.charging_book.proofs.Steps.{lives-push}
use Rattle.bearer_state.specs.Bearer.{EachPair}
use Rattle.bearer_state.specs.declared.version.ActiveBearer.{ActiveBearer}
use Rattle.bearer_state.specs.Version.{VersionState, IsVersion, IsActiveBearer, IsActiveBefore}
use Rattle.packet_steps.specs.Change.{has_life, shared_with, lacking_in, shares_ambr, ended, cut, begun, marks_between}
use Rattle.packet_steps.proofs.BearerLemmas.{none_in_nil, of_cons, first_in, later_in, each_of}
use Rattle.packet_steps.proofs.StandingLemmas.{has_it}

-- the open lives behind what happened are those of a test
abbrev pub AreOpen : List Happening → (ℕ → Bool) → Type 0
AreOpen happened open_ = (life : ℕ) → Contains (lives_of happened) life ↔ IsTrue (open_ life)

-- these may happen behind what happened, and leave these lives open
pub record Going (before more : List Happening) (open_ : ℕ → Bool) : Type 0 where
  pub lawful : AllMay before more
  pub in_range : AllByRecursion IsInRange more
  pub opens : AreOpen (before ++ more) open_

pub same_open : (before more : List Happening) (p q : ℕ → Bool) → ((life : ℕ) → p life ≡ q life) → Going before more p
    → Going before more q
same_open before more p q same going = record {
  lawful = going.lawful;
  in_range = going.in_range;
  opens = λ life. let known = going.opens life in
      (λ there. sym (same life) ∙ known.0 there, λ holds. known.1 (same life ∙ holds));
}

pub all_may-append : (before xs ys : List Happening) → AllMay before xs → AllMay (before ++ xs) ys
    → AllMay before (xs ++ ys)
all_may-append before [] ys first second = rw append-nil at second
all_may-append before (x ∷ xs) ys first second = (
  first.0,
  all_may-append (before ++ x ∷ []) xs ys first.1
      (subst (λ (prefix : List Happening). AllMay prefix ys) (sym (append_assoc before (x ∷ []) xs)) second),
)

each-append : {X : Type 0} (P : X → Type 0) (xs ys : List X) → AllByRecursion P xs → AllByRecursion P ys
    → AllByRecursion P (xs ++ ys)
each-append P [] ys first second = second
each-append P (x ∷ xs) ys first second = (first.0, each-append P xs ys first.1 second)

pub goes_on : (before xs ys : List Happening) (p q : ℕ → Bool) → Going before xs p → Going (before ++ xs) ys q
    → Going before (xs ++ ys) q
goes_on before xs ys p q first second = record {
  lawful = all_may-append before xs ys first.lawful second.lawful;
  in_range = each-append IsInRange xs ys first.in_range second.in_range;
  opens = subst (λ (happened : List Happening). AreOpen happened q) (append_assoc before xs ys) second.opens;
}

nothing : (before : List Happening) (p : ℕ → Bool) → AreOpen before p → Going before [] p
nothing before p opens = record {
  lawful = tt;
  in_range = tt;
  opens = subst (λ (happened : List Happening). AreOpen happened p) (sym (append-nil before)) opens;
}

one_then : (before : List Happening) (now : Happening) (later : List Happening) (p : ℕ → Bool) → MayHappen before now
    → IsInRange now
    → Going (before ++ now ∷ []) later p → Going before (now ∷ later) p
one_then before now later p may range going = record {
  lawful = (may, going.lawful);
  in_range = (range, going.in_range);
  opens = subst (λ (happened : List Happening). AreOpen happened p) (append_assoc before (now ∷ []) later) going.opens;
}

-- elements of a filter
kept_step : {X : Type 0} (q : X → Bool) (x : X) (xs : List X) (y : X) (b : Bool) → q x ≡ b
    → Contains (cond b (x ∷ filter q xs) (filter q xs)) y
    → (Contains (filter q xs) y → Contains xs y × (q y ≡ true)) → Contains (x ∷ xs) y × (q y ≡ true)
kept_step q x xs y true is there rest =
    elim (of_cons x (filter q xs) y there) [
      | inl here ↦ (subst (Contains (x ∷ xs)) here (first_in x xs), ap q (sym here) ∙ is)
      | inr behind ↦ let known = rest behind in (later_in x xs y known.0, known.1)
    ]
kept_step q x xs y false is there rest = let known = rest there in (later_in x xs y known.0, known.1)

pub kept : {X : Type 0} (q : X → Bool) (xs : List X) (y : X) → Contains (filter q xs) y → Contains xs y × (q y ≡ true)
kept q [] y there = absurd (none_in_nil y there)
kept q (x ∷ xs) y there = kept_step q x xs y (q x) refl there (kept q xs y)

keeps_step : {X : Type 0} (q : X → Bool) (x : X) (xs : List X) (y : X) (b : Bool) → q x ≡ b
    → (x ≡ y) ⊎ Contains (filter q xs) y → q y ≡ true
    → Contains (cond b (x ∷ filter q xs) (filter q xs)) y
keeps_step q x xs y true is (inl here) passes = subst (Contains (x ∷ filter q xs)) here (first_in x (filter q xs))
keeps_step q x xs y true is (inr behind) passes = later_in x (filter q xs) y behind
keeps_step q x xs y false is (inl here) passes = absurd (false≢true (sym is ∙ ap q here ∙ passes))
keeps_step q x xs y false is (inr behind) passes = behind

pub keeps : {X : Type 0} (q : X → Bool) (xs : List X) (y : X) → Contains xs y → q y ≡ true → Contains (filter q xs) y
keeps q [] y there passes = absurd (none_in_nil y there)
keeps q (x ∷ xs) y there passes =
    keeps_step q x xs y (q x) refl
    (elim (of_cons x xs y there) [ inl here ↦ inl here | inr behind ↦ inr (keeps q xs y behind passes) ]) passes

each-filter : {X : Type 0} (P : X → Type 0) (q : X → Bool) (xs : List X) → AllByRecursion P xs
    → AllByRecursion P (filter q xs)
each-filter P q [] each = tt
each-filter P q (x ∷ xs) each =
    elim (q x) as (λ b. AllByRecursion P (cond b (x ∷ filter q xs) (filter q xs))) [
      | true ↦ (each.0, each-filter P q xs each.1)
      | false ↦ each-filter P q xs each.1
    ]

pairs-filter : {X : Type 0} (R : X → X → Type 0) (q : X → Bool) (xs : List X) → EachPair R xs → EachPair R (filter q xs)
pairs-filter R q [] pairs = tt
pairs-filter R q (x ∷ xs) pairs =
    elim (q x) as (λ b. EachPair R (cond b (x ∷ filter q xs) (filter q xs))) [
      | true ↦ (each-filter (R x) q xs pairs.0, pairs-filter R q xs pairs.1)
      | false ↦ pairs-filter R q xs pairs.1
    ]

-- a life among the bearers that a test of lives keeps
has_filter_at : (q : ℕ → Bool) (b : ActiveBearer) (bs : List ActiveBearer) (life : ℕ) (passes same : Bool)
    → q b.life ≡ passes → (b.life == life) ≡ same
    → has_life (filter (λ (x : ActiveBearer). q x.life) bs) life ≡ (has_life bs life && q life)
    → has_life (cond passes (b ∷ filter (λ (x : ActiveBearer). q x.life) bs)
    (filter (λ (x : ActiveBearer). q x.life) bs)) life ≡ ((same || has_life bs life) && q life)
has_filter_at q b bs life true true passes same rest =
    let known : q life ≡ true = ap q (sym (eqb-true b.life life same)) ∙ passes in
    ap (λ t. t || has_life (filter (λ (x : ActiveBearer). q x.life) bs) life) same ∙ sym known
has_filter_at q b bs life true false passes same rest = ap
    (λ t. t || has_life (filter (λ (x : ActiveBearer). q x.life) bs) life) same ∙ rest
has_filter_at q b bs life false true passes same rest =
    let known : q life ≡ false = ap q (sym (eqb-true b.life life same)) ∙ passes in
    rest ∙ ap (λ t. has_life bs life && t) known ∙ and_false (has_life bs life) ∙ sym known
  where
    and_false : (a : Bool) → (a && false) ≡ false
    and_false true = refl
    and_false false = refl
has_filter_at q b bs life false false passes same rest = rest

pub has_filter : (q : ℕ → Bool) (bs : List ActiveBearer) (life : ℕ)
    → has_life (filter (λ (x : ActiveBearer). q x.life) bs) life ≡ (has_life bs life && q life)
has_filter q [] life = refl
has_filter q (b ∷ bs) life = has_filter_at q b bs life (q b.life) (b.life == life) refl refl (has_filter q bs life)

-- a life that ends
without_open : (before : List Happening) (life : ℕ) (p : ℕ → Bool) → AreOpen before p
    → AreOpen (before ++ closed life Gone ∷ []) (λ other. p other && not (life == other))
without_open before life p opens other =
    let q : ℕ → Bool = λ x. not (x == life) in
    let is : lives_of (before ++ closed life Gone ∷ [])
    ≡ filter q (lives_of before) = lives-push before (closed life Gone) in (
      λ there.
          let known = kept q (lives_of before) other (subst (λ (xs : List ℕ). Contains xs other) is there) in
          and_from (p other) (not (life == other)) ((opens other).0 known.0) (ap not (either_way life other) ∙ known.1),
      λ holds.
          let parts = and_parts (p other) (not (life == other)) holds in
          subst (λ (xs : List ℕ). Contains xs other) (sym is)
          (keeps q (lives_of before) other ((opens other).1 parts.0) (ap not (sym (either_way life other)) ∙ parts.1)),
    )
  where
    either_way : (a b : ℕ) → (a == b) ≡ (b == a)
    either_way a b = elim (cases_eq a b) [
      | inl same ↦ eq-eqb a b same ∙ sym (eq-eqb b a (sym same))
      | inr apart ↦ ne_eqb a b apart ∙ sym (ne_eqb b a (λ same. apart (sym same)))
    ]

apart_by : (a b c : Bool) → (a && not b && not c) ≡ (a && not (b || c))
apart_by true true true = refl
apart_by true true false = refl
apart_by true false true = refl
apart_by true false false = refl
apart_by false true true = refl
apart_by false true false = refl
apart_by false false true = refl
apart_by false false false = refl

and_true : (a : Bool) → a ≡ (a && true)
and_true true = refl
and_true false = refl

pub ended_going : (bs : List ActiveBearer) (before : List Happening) (p : ℕ → Bool) → EachPair IsActiveBefore bs
    → AreOpen before p
    → ((b : ActiveBearer) → Contains bs b → p b.life ≡ true)
    → Going before (map (λ (b : ActiveBearer). closed b.life Gone) bs) (λ life. p life && not (has_life bs life))
ended_going [] before p pairs opens each = same_open before [] p (λ life. p life && true) (λ life. and_true (p life))
    (nothing before p opens)
ended_going (b ∷ bs) before p pairs opens each =
    let next : ℕ → Bool = λ life. p life && not (b.life == life) in
    one_then before (closed b.life Gone) (map (λ (c : ActiveBearer). closed c.life Gone) bs)
    (λ life. p life && not (has_life (b ∷ bs) life))
    ((opens b.life).1 (each b (first_in b bs))) tt
    (same_open (before ++ closed b.life Gone ∷ []) (map (λ (c : ActiveBearer). closed c.life Gone) bs)
    (λ life. next life && not (has_life bs life)) (λ life. p life && not (has_life (b ∷ bs) life))
    (λ life. apart_by (p life) (b.life == life) (has_life bs life))
    (ended_going bs (before ++ closed b.life Gone ∷ []) next pairs.1 (without_open before b.life p opens)
    (λ c there. and_from (p c.life) (not (b.life == c.life)) (each c (later_in b bs c there))
    (ap not (ne_eqb b.life c.life (each_of (IsActiveBefore b) bs c pairs.0 there).lives_differ)))))

-- a piece that is cut leaves its life open
pub cut_going : (bs : List ActiveBearer) (before : List Happening) (p : ℕ → Bool) → AreOpen before p
    → ((b : ActiveBearer) → Contains bs b → p b.life ≡ true)
    → Going before (map (λ (b : ActiveBearer). closed b.life Qos) bs) p
cut_going [] before p opens each = nothing before p opens
cut_going (b ∷ bs) before p opens each =
    one_then before (closed b.life Qos) (map (λ (c : ActiveBearer). closed c.life Qos) bs) p
    ((opens b.life).1 (each b (first_in b bs))) tt
    (cut_going bs (before ++ closed b.life Qos ∷ []) p
    (λ life. subst (λ (lives : List ℕ). Contains lives life ↔ IsTrue (p life))
    (sym (lives-push before (closed b.life Qos))) (opens life))
    (λ c there. each c (later_in b bs c there)))

-- a life that begins
with_open : (before : List Happening) (life ebi qci : ℕ) (p : ℕ → Bool) → AreOpen before p
    → AreOpen (before ++ started life ebi qci ∷ []) (λ other. p other || (life == other))
with_open before life ebi qci p opens other =
    let is : lives_of (before ++ started life ebi qci ∷ []) ≡ lives_of before
    ++ life ∷ [] = lives-push before (started life ebi qci) in (
      λ there. elim (Contains-push_cases (lives_of before) life other
          (subst (λ (xs : List ℕ). Contains xs other) is there)) [
            | inl old ↦ ap (λ t. t || (life == other)) ((opens other).0 old)
            | inr new ↦ ap (λ t. p other || t) (eq-eqb life other new) ∙ or_true (p other)
          ],
      λ holds. subst (λ (xs : List ℕ). Contains xs other) (sym is)
          (elim (either (p other) (life == other) holds) [
            | inl old ↦ Contains-append_left (lives_of before) (life ∷ []) other ((opens other).1 old)
            | inr new ↦ subst (Contains (lives_of before ++ life ∷ [])) (eqb-true life other new) (Contains-push (lives_of before) life)
          ]),
    )
  where
    or_true : (a : Bool) → (a || true) ≡ true
    or_true true = refl
    or_true false = refl

    either : (a b : Bool) → (a || b) ≡ true → (a ≡ true) ⊎ (b ≡ true)
    either true b holds = inl refl
    either false b holds = inr holds

or_assoc : (a b c : Bool) → ((a || b) || c) ≡ (a || (b || c))
or_assoc true b c = refl
or_assoc false b c = refl

or_none : (a : Bool) → a ≡ (a || false)
or_none true = refl
or_none false = refl

pub begun_going : (bs : List ActiveBearer) (before : List Happening) (p : ℕ → Bool) → EachPair IsActiveBefore bs
    → AllByRecursion IsActiveBearer bs → AreOpen before p
    → ((b : ActiveBearer) → Contains bs b → p b.life ≡ false)
    → Going before (map (λ (b : ActiveBearer). started b.life b.ebi b.qos.qci) bs) (λ life. p life || has_life bs life)
begun_going [] before p pairs ranges opens each = same_open before [] p (λ life. p life || false)
    (λ life. or_none (p life)) (nothing before p opens)
begun_going (b ∷ bs) before p pairs ranges opens each =
    let next : ℕ → Bool = λ life. p life || (b.life == life) in
    let now = started b.life b.ebi b.qos.qci in
    one_then before now (map (λ (c : ActiveBearer). started c.life c.ebi c.qos.qci) bs)
    (λ life. p life || has_life (b ∷ bs) life)
    (λ k d within same. false≢true
    (sym (each b (first_in b bs))
    ∙ (opens b.life).0 (k, within, get_or_default (lives_of before) k b.life d within ∙ same)))
    (let known = ranges.0.life in omega (arith, known))
    (same_open (before ++ now ∷ []) (map (λ (c : ActiveBearer). started c.life c.ebi c.qos.qci) bs)
    (λ life. next life || has_life bs life) (λ life. p life || has_life (b ∷ bs) life)
    (λ life. or_assoc (p life) (b.life == life) (has_life bs life))
    (begun_going bs (before ++ now ∷ []) next pairs.1 ranges.1 (with_open before b.life b.ebi b.qos.qci p opens)
    (λ c there. ap (λ t. t || (b.life == c.life)) (each c (later_in b bs c there))
    ∙ ne_eqb b.life c.life (each_of (IsActiveBefore b) bs c pairs.0 there).lives_differ)))

-- all marks of a change
all_told : (a b : Bool) → ((a && not (a && not b)) || (b && not a)) ≡ b
all_told true true = refl
all_told true false = refl
all_told false true = refl
all_told false false = refl

cut_by : (was_set : Bool) (bs : List ActiveBearer) (before : List Happening) (p : ℕ → Bool) → AreOpen before p
    → ((b : ActiveBearer) → Contains bs b → p b.life ≡ true)
    → Going before (cond was_set (map (λ (b : ActiveBearer). closed b.life Qos) bs) []) p
cut_by true bs before p opens each = cut_going bs before p opens each
cut_by false bs before p opens each = nothing before p opens

still_open : (a b : Bool) → a ≡ true → b ≡ true → (a && not (a && not b)) ≡ true
still_open true true first second = refl
still_open true false first second = absurd (cc)
still_open false b first second = absurd (cc)

not_yet : (a b : Bool) → b ≡ true → not a ≡ true → (a && not (a && not b)) ≡ false
not_yet true b second lacking = absurd (cc)
not_yet false b second lacking = refl

pub marks_going : (was_set : Bool) (before after : VersionState) (happened : List Happening) → IsVersion before
    → IsVersion after → AreOpen happened (has_life before.bearers)
    → Going happened (marks_between was_set before.bearers after.bearers) (has_life after.bearers)
marks_going was_set before after happened before_ranges after_ranges opens =
    let old = before.bearers in
    let new = after.bearers in
    let gone = lacking_in new old in
    let stay = filter shares_ambr (shared_with new old) in
    let fresh = lacking_in old new in
    let open_1 : ℕ → Bool = λ life. has_life old life && not (has_life gone life) in
    let open_is : (life : ℕ) → open_1 life ≡ (has_life old life && not (has_life old life && not (has_life new life))) =
    λ life. ap (λ t. has_life old life && not t) (has_filter (λ x. not (has_life new x)) old life) in
    let first : Going happened (ended old new) open_1 =
    ended_going gone happened (has_life old)
    (pairs-filter IsActiveBefore (λ (x : ActiveBearer). not (has_life new x.life)) old before_ranges.apart) opens
    (λ b there. has_it old b (kept (λ (x : ActiveBearer). not (has_life new x.life)) old b there).0) in
    let second : Going (happened ++ ended old new) (cut was_set old new) open_1 =
    cut_by was_set stay (happened ++ ended old new) open_1 first.opens
    (λ b there.
    let in_shared = kept shares_ambr (shared_with new old) b there in
    let in_old = kept (λ (x : ActiveBearer). has_life new x.life) old b in_shared.0 in
    open_is b.life ∙ still_open (has_life old b.life) (has_life new b.life) (has_it old b in_old.0) in_old.1) in
    let both : Going happened (ended old new ++ cut was_set old new) open_1 = goes_on happened (ended old new)
    (cut was_set old new) open_1 open_1 first second in
    let third : Going (happened ++ (ended old new ++ cut was_set old new)) (begun old new)
    (λ life. open_1 life || has_life fresh life) =
    begun_going fresh (happened ++ (ended old new ++ cut was_set old new)) open_1
    (pairs-filter IsActiveBefore (λ (x : ActiveBearer). not (has_life old x.life)) new after_ranges.apart)
    (each-filter IsActiveBearer (λ (x : ActiveBearer). not (has_life old x.life)) new after_ranges.each) both.opens
    (λ c there.
    let in_new = kept (λ (x : ActiveBearer). not (has_life old x.life)) new c there in
    open_is c.life ∙ not_yet (has_life old c.life) (has_life new c.life) (has_it new c in_new.0) in_new.1) in
    same_open happened (marks_between was_set old new) (λ life. open_1 life || has_life fresh life) (has_life new)
    (λ life. ap (λ t. t || has_life fresh life) (open_is life)
    ∙ ap (λ t. (has_life old life && not (has_life old life && not (has_life new life))) || t)
    (has_filter (λ x. not (has_life old x)) new life)
    ∙ all_told (has_life old life) (has_life new life))
    (goes_on happened (ended old new ++ cut was_set old new) (begun old new) open_1
    (λ life. open_1 life || has_life fresh life) both third)

-- what may happen may follow, where it is few
pub all_follow : (before more : List Happening) → AllMay before more → AllByRecursion IsInRange more
    → length (before ++ more) ≤ 2 ^ 61 - 20 → MayAllFollow before more
all_follow before [] lawful range few = tt
all_follow before (now ∷ later) lawful range few =
    let long : length before ≤ 2 ^ 61 - 20 = omega (arith, few, length-append before (now ∷ later)) in
    let rest : length ((before ++ now ∷ []) ++ later)
    ≤ 2 ^ 61 - 20 = subst (λ (all : List Happening). length all ≤ 2 ^ 61 - 20)
    (sym (append_assoc before (now ∷ []) later)) few in (
      record { may = lawful.0; in_range = range.0; few = long },
      all_follow
          (before ++ now ∷ []) later lawful.1 range.1 rest,
    )

-- The active bearers of a version are told apart by index and by life.
use Rattle.std.proofs.Common.{◌≡◌, ◌≢◌, ℕ, ◌<◌, ◌==◌, Bool, true, false, List, [], ◌∷◌, Option, Some, None, ◌⊎◌, inl, inr, refl, sym, ◌∙◌, ap, subst, cond, arith, eq-eqb}
use Rattle.std.proofs.Common.{Bor, IfSome}
use Rattle.std.specs.Option.{option_copied}
use Rattle.std.specs.List.{Contains, AllByRecursion, find}
use Rattle.std.proofs.lemmas.Bool.{eqb-true, false≢true}
use Rattle.std.proofs.lemmas.List.Elements.{Contains-append_left, Contains-append_right, Contains-append_cases, Contains-push_cases}
use Rattle.bearer_state.specs.Bearer.{EachPair, IsEbi}
use Rattle.bearer_state.specs.declared.version.ActiveBearer.{ActiveBearer}
use Rattle.bearer_state.specs.Version.{VersionState, IsVersion, IsActiveBearer, IsActiveBefore, bearer_at}
use Rattle.packet_steps.specs.Change.{bearer_of}

pub none_in_nil : {X : Type 0} (x : X) → ¬ Contains [] x
none_in_nil x there = omega (arith, there.1)

pub one_of : {X : Type 0} (x y : X) → Contains (x ∷ []) y → x ≡ y
one_of x y there = elim (Contains-push_cases [] x y there) [
  | inl nowhere ↦ absurd
      (none_in_nil y nowhere)
  | inr same ↦ same
]

-- an element is the first one, or one of the others
pub of_cons : {X : Type 0} (x : X) (xs : List X) (y : X) → Contains (x ∷ xs) y → (x ≡ y) ⊎ Contains xs y
of_cons x xs y there = elim
    (Contains-append_cases (x ∷ []) xs y there) [ inl here ↦ inl (one_of x y here) | inr behind ↦ inr behind ]

pub first_in : {X : Type 0} (x : X) (xs : List X) → Contains (x ∷ xs) x
first_in x xs = Contains-append_left (x ∷ []) xs x (0, omega arith, refl)

pub later_in : {X : Type 0} (x : X) (xs : List X) (y : X) → Contains xs y → Contains (x ∷ xs) y
later_in x xs y there = Contains-append_right (x ∷ []) xs y there

-- what holds of each holds of an element
pub each_of : {X : Type 0} (P : X → Type 0) (xs : List X) (y : X) → AllByRecursion P xs → Contains xs y → P y
each_of P [] y each there = absurd (none_in_nil y there)
each_of P (x ∷ xs) y each there =
    elim (of_cons x xs y there) [ inl same ↦ subst P same each.0 | inr behind ↦ each_of P xs y each.1 behind ]

-- two bearers of one index, or of one life, are one
same_of : (key : ActiveBearer → ℕ) → ((b c : ActiveBearer) → IsActiveBefore b c → key b ≢ key c)
    → (bearers : List ActiveBearer) (b c : ActiveBearer)
    → EachPair IsActiveBefore bearers → Contains bearers b → Contains bearers c → key b ≡ key c → b ≡ c
same_of key apart [] b c pairs there_b there_c same = absurd (none_in_nil b there_b)
same_of key apart (x ∷ xs) b c pairs there_b there_c same =
    elim (of_cons x xs b there_b) [
      | inl first_b ↦ elim (of_cons x xs c there_c) [
        | inl first_c ↦ sym first_b ∙ first_c
        | inr behind_c ↦ absurd (apart x c (each_of (IsActiveBefore x) xs c pairs.0 behind_c) (ap key first_b ∙ same))
      ]
      | inr behind_b ↦ elim (of_cons x xs c there_c) [
        | inl first_c ↦ absurd (apart x b (each_of (IsActiveBefore x) xs b pairs.0 behind_b) (ap key first_c ∙ sym same))
        | inr behind_c ↦ same_of key apart xs b c pairs.1 behind_b behind_c same
      ]
    ]

pub same_by_index : (version : VersionState) (b c : ActiveBearer) → IsVersion version → Contains version.bearers b
    → Contains version.bearers c
    → b.index ≡ c.index → b ≡ c
same_by_index version b c ranges there_b there_c same =
    same_of (λ (x : ActiveBearer). x.index)
    (λ x y before equal. omega
    (arith, before.indices_rise, equal)) version.bearers b c ranges.apart there_b there_c same

pub same_by_life : (version : VersionState) (b c : ActiveBearer) → IsVersion version → Contains version.bearers b
    → Contains version.bearers c
    → b.life ≡ c.life → b ≡ c
same_by_life version b c ranges there_b there_c same =
    same_of (λ (x : ActiveBearer). x.life)
    (λ x y before. before.lives_differ) version.bearers b c ranges.apart there_b there_c same

pub index_in_range : (version : VersionState) (b : ActiveBearer) → IsVersion version → Contains version.bearers b
    → b.index < 11
index_in_range version b ranges there = let known = each_of IsActiveBearer version.bearers b ranges.each there in omega (arith, known.index)

pub ebi_in_range : (version : VersionState) (b : ActiveBearer) → IsVersion version → Contains version.bearers b
    → IsEbi b.ebi
ebi_in_range version b ranges there = (each_of IsActiveBearer version.bearers b ranges.each there).ebi

-- what is found is an element that passes
find_step : {X : Type 0} (p : X → Bool) (x : X) (xs : List X) (y : X) (b : Bool) → p x ≡ b
    → cond b (Some x) (find p xs) ≡ Some y
    → (find p xs ≡ Some y → Contains xs y × (p y ≡ true)) → Contains (x ∷ xs) y × (p y ≡ true)
find_step p x xs y true is found rest =
    let same : x ≡ y = cc in
    (subst (Contains (x ∷ xs)) same (first_in x xs), ap p (sym same) ∙ is)
find_step p x xs y false is found rest = let known = rest found in (later_in x xs y known.0, known.1)

pub find_found : {X : Type 0} (p : X → Bool) (xs : List X) (y : X) → find p xs ≡ Some y → Contains xs y × (p y ≡ true)
find_found p [] y found = absurd (cc)
find_found p (x ∷ xs) y found = find_step p x xs y (p x) refl found (find_found p xs y)

-- so is the bearer of an index, behind a reference
pub found_there : (bearers : List ActiveBearer) (index : ℕ) (found : Option (Bor ActiveBearer))
    → option_copied found ≡ bearer_at bearers index
    → IfSome found (λ b. Contains bearers b.now)
found_there bearers index None is = tt
found_there bearers index (Some b) is = (find_found (λ (x : ActiveBearer). x.index == index) bearers b.now (sym is)).0

pub found_in_range : (version : VersionState) (found : Option (Bor ActiveBearer)) → IsVersion version
    → IfSome found (λ b. Contains version.bearers b.now)
    → IfSome found (λ b. b.now.index < 11)
found_in_range version None ranges there = tt
found_in_range version (Some b) ranges there = index_in_range version b.now ranges there

pub found_ebi : (version : VersionState) (found : Option (Bor ActiveBearer)) → IsVersion version
    → IfSome found (λ b. Contains version.bearers b.now)
    → IfSome found (λ b. IsEbi b.now.ebi)
found_ebi version None ranges there = tt
found_ebi version (Some b) ranges there = ebi_in_range version b.now ranges there

-- the bearer of a life
pub of_life_there : (bearers : List ActiveBearer) (life : ℕ) (found : Option (Bor ActiveBearer))
    → option_copied found ≡ bearer_of bearers life
    → IfSome found (λ b. Contains bearers b.now)
of_life_there bearers life None is = tt
of_life_there bearers life (Some b) is = (find_found (λ (x : ActiveBearer). x.life == life) bearers b.now (sym is)).0

pub of_life_same : (bearers : List ActiveBearer) (life : ℕ) (found : Option (Bor ActiveBearer))
    → option_copied found ≡ bearer_of bearers life
    → IfSome found (λ b. b.now.life ≡ life)
of_life_same bearers life None is = tt
of_life_same bearers life (Some b) is = eqb-true b.now.life life
    (find_found (λ (x : ActiveBearer). x.life == life) bearers b.now (sym is)).1

-- the one element that passes is what is found
only_step : {X : Type 0} (p : X → Bool) (x : X) (xs : List X) (y : X) (b : Bool) → p x ≡ b → Contains (x ∷ xs) y
    → p y ≡ true
    → ((z : X) → Contains (x ∷ xs) z → p z ≡ true → z ≡ y) → (Contains xs y → find p xs ≡ Some y)
    → cond b (Some x) (find p xs) ≡ Some y
only_step p x xs y true is there passed only rest = ap Some (only x (first_in x xs) is)
only_step p x xs y false is there passed only rest =
    elim (of_cons x xs y there) [
      | inl same ↦ absurd (false≢true (sym is ∙ ap p same ∙ passed))
      | inr behind ↦ rest behind
    ]

only_found : {X : Type 0} (p : X → Bool) (xs : List X) (y : X) → Contains xs y → p y ≡ true
    → ((z : X) → Contains xs z → p z ≡ true → z ≡ y) → find p xs ≡ Some y
only_found p [] y there passed only = absurd (none_in_nil y there)
only_found p (x ∷ xs) y there passed only =
    only_step p x xs y (p x) refl there passed only
    (λ behind. only_found p xs y behind passed (λ z there_z. only z (later_in x xs z there_z)))

-- so a bearer is the one of its index
pub index_found : (version : VersionState) (b : ActiveBearer) (index : ℕ) → IsVersion version
    → Contains version.bearers b
    → b.index ≡ index → Some b ≡ bearer_at version.bearers index
index_found version b index ranges there is =
    sym (only_found (λ (x : ActiveBearer). x.index == index) version.bearers b there (eq-eqb b.index index is)
    (λ z there_z passed. same_by_index version z b ranges there_z there (eqb-true z.index index passed ∙ sym is)))

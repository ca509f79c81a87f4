-- Where halves were noted, and the first of them that is due.
use Rattle.std.proofs.Common.{◌≡◌, ◌≢◌, ℕ, zero, suc, ◌+◌, ◌<◌, ◌≤◌, inl, inr, Bool, true, false}
use Rattle.std.proofs.Common.{List, [], ◌∷◌, ◌++◌, length, map, get_or, Option, Some, None, refl, sym, ap, ◌∙◌, subst, arith}
use Rattle.std.specs.Prelude.{◌||◌, nat_le, nat_lt, nat_eq, if◌then◌else◌}
use Rattle.std.specs.List.{insert, list_any, position, position_or_len, remove}
use Rattle.std.proofs.lemmas.Bool.{or_parts, or_from, or_left, or_right, and_left, and_right, and_from, cond-true, cond-false}
use Rattle.std.proofs.lemmas.Bool.{cases_eq, eq-eqb, ne_eqb, le-leb, lt-leb, lt-ltb, le-ltb, ltb-true, ltb-false}
use Rattle.std.proofs.lemmas.List.{get_or_read, get_or-map, length-map}
use Rattle.std.proofs.lemmas.List.Edits.{get_or-remove_above, get_or-remove_below, length-remove}
use Rattle.std.proofs.lemmas.List.Quantifiers.{position-Some}
use Rattle.std.proofs.lemmas.List.Sums.{position_or_len_is}
use Rattle.std.proofs.lemmas.Option.{none-some}
use Rattle.worker_core.specs.declared.seen.Seen.{Seen}
use Rattle.worker_core.specs.declared.worker.Leaving.{Leaving}
use Rattle.worker_core.specs.Leaves.{is_due, is_met}
use Rattle.worker_core.specs.Seeing.{AllSeen, SeenBehind, earlier, noted_at}
use Rattle.worker_core.proofs.Leavings.{any_push}
use Rattle.worker_core.proofs.Seeks.{none_positioned}

-- ---- the first that passes a test

module _ {X : Type 0} where
  -- none passes, or the one at an index does, and none before it
  abbrev pub IsFirst : (X → Bool) → List X → Option ℕ → Type 0
  IsFirst p xs None = (k : ℕ) (none : X) → k < length xs → p (get_or xs k none) ≡ false
  IsFirst p xs (Some at) = (at < length xs) × ((none : X) → p (get_or xs at none) ≡ true)
      × ((k : ℕ) (none : X) → k < at → p (get_or xs k none) ≡ false)

  pub first_is : (p : X → Bool) (xs : List X) (o : Option ℕ) → IsFirst p xs o → o ≡ position p xs
  first_is p [] None first = refl
  first_is p (x ∷ xs) None first =
      let at : ℕ = position_or_len p (x ∷ xs) in
      let past : at ≡ length (x ∷ xs) =
      position_or_len_is p (x ∷ xs) (length (x ∷ xs)) x (omega arith) (λ k within. first k x within)
      (λ within. absurd (omega arith)) in
      sym (cond-false (nat_lt at (length (x ∷ xs))) (Some at) None (le-ltb at (length (x ∷ xs)) (omega arith)))
  first_is p [] (Some at) first = absurd (omega (arith, first.0))
  first_is p (x ∷ xs) (Some at) first =
      let there : position_or_len p (x ∷ xs) ≡ at =
      position_or_len_is p (x ∷ xs) at x (omega (arith, first.0)) (λ k before. first.2 k x before)
      (λ within. first.1 x) in
      sym (cond-true (nat_lt (position_or_len p (x ∷ xs)) (length (x ∷ xs))) (Some (position_or_len p (x ∷ xs))) None
      (lt-ltb (position_or_len p (x ∷ xs)) (length (x ∷ xs)) (omega (arith, first.0, there)))
      ∙ ap Some there)

  fails : (p : X → Bool) (xs : List X) → list_any p xs ≡ false → (k : ℕ) (none : X) → k < length xs
      → p (get_or xs k none) ≡ false
  fails p [] e k none within = absurd (omega arith)
  fails p (x ∷ xs) e zero none within = (or_parts (p x) (list_any p xs) e).0
  fails p (x ∷ xs) e (suc k) none within = fails p xs (or_parts (p x) (list_any p xs) e).1 k none (omega arith)

  is_first : (p : X → Bool) (xs : List X) (o : Option ℕ) → position p xs ≡ o → IsFirst p xs o
  is_first p xs None e = fails p xs (none_positioned p xs e)
  is_first p [] (Some at) e = absurd (none-some at e)
  is_first p (x ∷ xs) (Some at) e = (
    (position-Some p (x ∷ xs) at x e).0,
    λ none. (position-Some p (x ∷ xs) at none e).1,
    λ k none before. (position-Some p (x ∷ xs) at none e).2 k before,
  )

  first_of_both : (p q : X → Bool) (xs : List X) (one other : Option ℕ) → IsFirst p xs one → IsFirst q xs other
      → IsFirst (λ x. p x || q x) xs (earlier one other)
  first_of_both p q xs None None a b = λ k none within.
      or_from (p (get_or xs k none)) (q (get_or xs k none)) (a k none within) (b k none within)
  first_of_both p q xs None (Some at) a b = (
    b.0,
    λ none. or_right (p (get_or xs at none)) (q (get_or xs at none)) (b.1 none),
    λ k none before. or_from (p (get_or xs k none)) (q (get_or xs k none)) (a k none (omega (arith, before, b.0)))
        (b.2 k none before),
  )
  first_of_both p q xs (Some at) None a b = (
    a.0,
    λ none. or_left (p (get_or xs at none)) (q (get_or xs at none)) (a.1 none),
    λ k none before. or_from (p (get_or xs k none)) (q (get_or xs k none)) (a.2 k none before)
        (b k none (omega (arith, before, a.0))),
  )
  first_of_both p q xs (Some one) (Some other) a b =
      elim (nat_lt other one) as (λ t. nat_lt other one ≡ t
      → IsFirst (λ x. p x || q x) xs (Some (if t then other else one))) [
        | true ↦ λ e. let less = ltb-true other one e in (
          b.0,
          λ none. or_right (p (get_or xs other none)) (q (get_or xs other none)) (b.1 none),
          λ k none before. or_from (p (get_or xs k none)) (q (get_or xs k none))
              (a.2 k none (omega (arith, before, less))) (b.2 k none before),
        )
        | false ↦ λ e. let least = ltb-false other one e in (
          a.0,
          λ none. or_left (p (get_or xs one none)) (q (get_or xs one none)) (a.1 none),
          λ k none before. or_from (p (get_or xs k none)) (q (get_or xs k none)) (a.2 k none before)
              (b.2 k none (omega (arith, before, least))),
        )
      ] refl

  -- the first that passes one test or another
  pub first_of_two : (p q : X → Bool) (xs : List X)
      → earlier (position p xs) (position q xs) ≡ position (λ x. p x || q x) xs
  first_of_two p q xs =
      first_is (λ x. p x || q x) xs (earlier (position p xs) (position q xs))
      (first_of_both p q xs (position p xs) (position q xs) (is_first p xs (position p xs) refl)
      (is_first q xs (position q xs) refl))

-- ---- whether a note tells a half to leave now

met_true : (slot done : ℕ) (note : Leaving) → slot ≡ note.slot → note.until ≤ done → is_met slot done note ≡ true
met_true slot done note same reached =
    and_from (nat_eq note.slot slot) (nat_le note.until done) (eq-eqb note.slot slot (sym same))
    (le-leb note.until done reached)

met_other : (slot done : ℕ) (note : Leaving) → slot ≢ note.slot → is_met slot done note ≡ false
met_other slot done note apart =
    and_left (nat_eq note.slot slot) (nat_le note.until done) (ne_eqb note.slot slot (λ e. apart (sym e)))

met_early : (slot done : ℕ) (note : Leaving) → done < note.until → is_met slot done note ≡ false
met_early slot done note early =
    and_right (nat_eq note.slot slot) (nat_le note.until done) (lt-leb note.until done early)

same_index : (k at : ℕ) → ◌≡◌ {A = Option ℕ} (Some k) (Some at) → k ≡ at
same_index k at e = ap out e where
  out : Option ℕ → ℕ
  out None = 0
  out (Some n) = n

module _ {H : Type 0} (slot_at done : H → ℕ) where
  -- nothing is noted
  pub none_due_yet : (held : List H) → None ≡ position (λ half. is_due [] (slot_at half) (done half)) held
  none_due_yet held = first_is (λ half. is_due [] (slot_at half) (done half)) held None (λ k none within. refl)

  -- one note more
  pub due_more : (leaving all : List Leaving) (note : Leaving) (held : List H) (first one : Option ℕ)
      → all ≡ leaving ++ note ∷ []
      → first ≡ position (λ half. is_due leaving (slot_at half) (done half)) held
      → one ≡ position (λ half. is_met (slot_at half) (done half) note) held
      → earlier first one ≡ position (λ half. is_due all (slot_at half) (done half)) held
  due_more leaving all note held first one all_is first_is_so one_is =
      let due : H → Bool = λ half. is_due leaving (slot_at half) (done half) in
      let met : H → Bool = λ half. is_met (slot_at half) (done half) note in
      (λ i. earlier (first_is_so i) (one_is i))
      ∙ first_of_two due met held
      ∙ ap (λ (p : H → Bool). position p held)
      (λ i half. sym (any_push (is_met (slot_at half) (done half)) leaving note) i)
      ∙ ap (λ notes. position (λ half. is_due notes (slot_at half) (done half)) held) (sym all_is)

module _ {H : Type 0} (slot_at : H → ℕ) (held : List H) (seen : Seen) (all : AllSeen slot_at held seen) where
  -- no two halves are of one slot
  once : (slot k at : ℕ) (none : H) → k < length held → at < length held → slot_at (get_or held k none) ≡ slot
      → slot_at (get_or held at none) ≡ slot → k ≡ at
  once slot k at none within inside is there =
      same_index k at (sym (all k none within) ∙ ap (noted_at seen) (is ∙ sym there) ∙ all at none inside)

  module _ (done : H → ℕ) (note : Leaving) where
    abbrev met : H → Bool
    met half = is_met (slot_at half) (done half) note

    -- the half of its slot is due
    pub due_there : (at : ℕ) (half : H) → at < length held
        → ((none : H) → slot_at (get_or held at none) ≡ note.slot) → half ≡ get_or held at half
        → note.until ≤ done half → Some at ≡ position (λ h. is_met (slot_at h) (done h) note) held
    due_there at half inside there is reached =
        first_is met held (Some at) (
          inside,
          λ none. met_true (slot_at (get_or held at none)) (done (get_or held at none)) note (there none)
              (subst (λ (h : H). note.until ≤ done h) (same none) reached),
          λ k none before. met_other (slot_at (get_or held k none)) (done (get_or held k none)) note
              (λ own. absurd (let e = once note.slot k at none (omega (arith, before, inside)) inside own (there none) in
              omega (arith, e, before))),
        ) where
          same : (none : H) → half ≡ get_or held at none
          same none = get_or_read held at half inside is none

    -- it has not done enough
    pub due_later : (at : ℕ) (half : H) → at < length held
        → ((none : H) → slot_at (get_or held at none) ≡ note.slot) → half ≡ get_or held at half
        → done half < note.until → None ≡ position (λ h. is_met (slot_at h) (done h) note) held
    due_later at half inside there is early =
        first_is met held None (λ k none within.
        elim (cases_eq (slot_at (get_or held k none)) note.slot) as (λ _. met (get_or held k none) ≡ false) [
          | inl own ↦
              let same : half ≡ get_or held k none =
              get_or_read held at half inside is none
              ∙ ap (λ n. get_or held n none) (sym (once note.slot k at none within inside own (there none))) in
              met_early (slot_at (get_or held k none)) (done (get_or held k none)) note
              (subst (λ (h : H). done h < note.until) same early)
          | inr apart ↦ met_other (slot_at (get_or held k none)) (done (get_or held k none)) note apart
        ])

    -- none of its slot is held
    pub due_nowhere : ((k : ℕ) (none : H) → noted_at seen note.slot ≡ Some k → k < length held
        → slot_at (get_or held k none) ≢ note.slot) → None ≡ position (λ h. is_met (slot_at h) (done h) note) held
    due_nowhere nowhere =
        first_is met held None (λ k none within.
        met_other (slot_at (get_or held k none)) (done (get_or held k none)) note
        (λ own. nowhere k none (ap (noted_at seen) (sym own) ∙ all k none within) within own))

  -- one half less
  pub seen_less : (at : ℕ) (left : List H) → left ≡ remove held at → at < length held → SeenBehind slot_at at left seen
  seen_less at left left_is inside k none within =
      let long = length-remove held at inside in
      let there : k < length (remove held at) = subst (λ (l : List H). k < length l) left_is within in
      ap (λ (l : List H). noted_at seen (slot_at (get_or l k none))) left_is
      ∙ (elim (nat_lt k at) as (λ t. nat_lt k at ≡ t
      → noted_at seen (slot_at (get_or (remove held at) k none)) ≡ Some (if t then k else k + 1)) [
        | true ↦ λ e.
            ap (λ (h : H). noted_at seen (slot_at h)) (get_or-remove_below held at none k (ltb-true k at e) inside)
            ∙ all k none (omega (arith, there, long))
        | false ↦ λ e.
            ap (λ (h : H). noted_at seen (slot_at h)) (get_or-remove_above held at none k (ltb-false k at e) inside)
            ∙ all (k + 1) none (omega (arith, there, long))
      ] refl)

  -- the same halves by name
  pub seen_still : {N : Type 0} (name : H → N) (slot_of : N → ℕ) (now : List H)
      → ((half : H) → slot_at half ≡ slot_of (name half)) → map name now ≡ map name held → AllSeen slot_at now seen
  seen_still {N} name slot_of now slots same k none within =
      let many : length now ≡ length held =
      sym (length-map now name) ∙ ap length same ∙ length-map held name in
      let inside : k < length held = omega (arith, within, many) in
      let alike : name (get_or now k none) ≡ name (get_or held k none) =
      sym (get_or-map name now k none (name none) within)
      ∙ ap (λ names. get_or names k (name none)) same
      ∙ get_or-map name held k none (name none) inside in
      ap (noted_at seen) (slots (get_or now k none) ∙ ap slot_of alike ∙ sym (slots (get_or held k none)))
      ∙ all k none inside

-- ---- a half that stands again where it stood

put_again : {X : Type 0} (xs : List X) (i : ℕ) (y : X) → i < length xs → y ≡ get_or xs i y
    → insert (remove xs i) i y ≡ xs
put_again [] i y within is = absurd (omega arith)
put_again {X} (x ∷ xs) zero y within is = ap (λ (z : X). z ∷ xs) is
put_again (x ∷ xs) (suc i) y within is = ap (λ l. x ∷ l) (put_again xs i y (omega arith) is)

pub stands_again : {X : Type 0} (old left new : List X) (at : ℕ) (taken back : X) → new ≡ insert left at back
    → left ≡ remove old at → back ≡ taken → taken ≡ get_or old at taken → at < length old → new ≡ old
stands_again old left new at taken back new_is left_is same there within =
    new_is ∙ (λ i. insert (left_is i) at (same i)) ∙ put_again old at taken within there

-- Sets of slots as lists.
use Rattle.std.proofs.Common.{◌≡◌, ℕ, zero, suc, ◌+◌, ◌-◌, ◌<◌, ◌≤◌, ◌==◌, ◌&&◌, ◌||◌, not, Bool, true, false, List, [], ◌∷◌, ◌++◌, length, get_or, set, take, cond, refl, sym, ap, subst, ◌∙◌, inl, inr, arith, true≢false}
use Rattle.std.specs.List.{list_any}
use Rattle.std.specs.Ordering.{nat_cmp, is_eq, is_gt}
use Rattle.std.specs.declared.cmp.Ordering.TheVariants.{Less, Equal, Greater}
use Rattle.std.specs.declared.ops.Bound.TheVariants.{Included, Unbounded}
use Rattle.std.specs.BTreeSet.{BTreeSet, IsKeyRangeOf}
use Rattle.std.specs.Cmp.{unsigned_tied}
use Rattle.std.proofs.lemmas.Bool.{cases_eq, cases_lt, lt-ltb, le-ltb, eq-eqb, ne_eqb}
use Rattle.epoch_schedule.specs.Waiting.{is_in}

pub or_more : (one other : Bool) → other ≡ true → (one || other) ≡ true
or_more true other is = refl
or_more false other is = is

pub or_none : (one other : Bool) → (one || other) ≡ false → (one ≡ false) × (other ≡ false)
or_none true other is = absurd (true≢false is)
or_none false other is = (refl, is)

eqb-sym : (a b : ℕ) → (a == b) ≡ (b == a)
eqb-sym a b = elim (cases_eq a b) [
  | inl same ↦ eq-eqb a b same ∙ sym (eq-eqb b a (sym same))
  | inr differ ↦ ne_eqb a b differ ∙ sym (ne_eqb b a (λ same. differ (sym same)))
]

pub in_keys : (keys : List ℕ) (s : ℕ) → list_any (λ k. is_eq (nat_cmp s k)) keys ≡ is_in keys s
in_keys [] s = refl
in_keys (own ∷ others) s =
    ap (λ test. test || list_any (λ k. is_eq (nat_cmp s k)) others) (unsigned_tied s own ∙ eqb-sym s own)
    ∙ ap (λ test. (own == s) || test) (in_keys others s)

put_in : (test other : Bool) → cond test true other ≡ (test || other)
put_in true other = refl
put_in false other = refl

left_out : (test other : Bool) → cond test false other ≡ (not test && other)
left_out true other = refl
left_out false other = refl

pub inserted_key : (old new : List ℕ) (s : ℕ)
    → ((t : ℕ) → list_any (λ k. is_eq (nat_cmp t k)) new
    ≡ cond (is_eq (nat_cmp s t)) true (list_any (λ k. is_eq (nat_cmp t k)) old))
    → (t : ℕ) → is_in new t ≡ ((s == t) || is_in old t)
inserted_key old new s updates t =
    sym (in_keys new t) ∙ updates t
    ∙ ap (λ test. cond test true (list_any (λ k. is_eq (nat_cmp t k)) old)) (unsigned_tied s t)
    ∙ ap (cond (s == t) true) (in_keys old t) ∙ put_in (s == t) (is_in old t)

pub removed_key : (old new : List ℕ) (s : ℕ)
    → ((t : ℕ) → list_any (λ k. is_eq (nat_cmp t k)) new
    ≡ cond (is_eq (nat_cmp s t)) false (list_any (λ k. is_eq (nat_cmp t k)) old))
    → (t : ℕ) → is_in new t ≡ (not (s == t) && is_in old t)
removed_key old new s updates t =
    sym (in_keys new t) ∙ updates t
    ∙ ap (λ test. cond test false (list_any (λ k. is_eq (nat_cmp t k)) old)) (unsigned_tied s t)
    ∙ ap (cond (s == t) false) (in_keys old t) ∙ left_out (s == t) (is_in old t)

-- the lowest key
pub lowest : (a b : ℕ) → is_gt (nat_cmp a b) ≡ false → a ≤ b
lowest a b not_above = elim (cases_lt b a) [
  | inl below ↦
      let greater : is_gt (nat_cmp a b) ≡ true =
      ap (λ test. is_gt (cond test Less (cond (a == b) Equal Greater))) (le-ltb a b (omega (arith, below)))
      ∙ ap (λ test. is_gt (cond test Equal Greater)) (ne_eqb a b (λ same. omega (arith, same, below))) in
      absurd (true≢false (sym greater ∙ not_above))
  | inr above ↦ above
]

not_above : (a b : ℕ) → a ≤ b → is_gt (nat_cmp a b) ≡ false
not_above a b less = elim (cases_lt a b) [
  | inl below ↦ ap (λ test. is_gt (cond test Less (cond (a == b) Equal Greater))) (lt-ltb a b below)
  | inr above ↦
      ap (λ test. is_gt (cond test Less (cond (a == b) Equal Greater))) (le-ltb a b above)
      ∙ ap (λ test. is_gt (cond test Equal Greater)) (eq-eqb a b (omega (arith, less, above)))
]

-- the first key from one on, by the part of the set from there on
pub record FirstFrom (keys : List ℕ) (from slot : ℕ) : Type 0 where
  pub above : from ≤ slot
  pub own : is_in keys slot ≡ true
  pub least : (s : ℕ) → from ≤ s → is_in keys s ≡ true → slot ≤ s

pub first_from : (set : BTreeSet ℕ) (part others : List ℕ) (from slot : ℕ)
    → IsKeyRangeOf nat_cmp (Included from) Unbounded set part → part ≡ slot ∷ others → FirstFrom set.keys from slot
first_from set part others from slot all is =
    let of : IsKeyRangeOf nat_cmp (Included from) Unbounded set (slot ∷ others) =
    subst (λ (xs : List ℕ). IsKeyRangeOf nat_cmp (Included from) Unbounded set xs) is all in
    record {
      above = lowest from slot of.1.0.0;
      own = sym (in_keys set.keys slot) ∙ of.1.1;
      least = λ s over stands.
          lowest slot s (of.2 s (not_above from s over, tt) (in_keys set.keys s ∙ stands));
    }

pub none_from : (set : BTreeSet ℕ) (part : List ℕ) (from : ℕ)
    → IsKeyRangeOf nat_cmp (Included from) Unbounded set part → part ≡ [] → (s : ℕ) → from ≤ s
    → is_in set.keys s ≡ true → ⊥
none_from set part from all is s over stands =
    true≢false (sym (in_keys set.keys s ∙ stands) ∙ all.5 is s (not_above from s over, tt))

-- lanes
pub get_push : (lanes : List (List ℕ)) (lane : ℕ) → get_or (lanes ++ [] ∷ []) lane [] ≡ get_or lanes lane []
get_push [] zero = refl
get_push [] (suc lane) = refl
get_push (xs ∷ lanes) zero = refl
get_push (xs ∷ lanes) (suc lane) = get_push lanes lane

pub get_set : (lanes : List (List ℕ)) (lane : ℕ) (new : List ℕ) → lane < length lanes
    → get_or (set lanes lane new) lane [] ≡ new
get_set [] lane new within = absurd (omega (arith, within))
get_set (xs ∷ lanes) zero new within = refl
get_set (xs ∷ lanes) (suc lane) new within = get_set lanes lane new (omega (arith, within))

pub get_set_other : (lanes : List (List ℕ)) (lane other : ℕ) (new : List ℕ) → (lane == other) ≡ false
    → get_or (set lanes lane new) other [] ≡ get_or lanes other []
get_set_other lanes lane other new differ =
    by lanes lane other (λ same. true≢false (sym (eq-eqb lane other same) ∙ differ))
  where
    by : (xs : List (List ℕ)) (n m : ℕ) → (n ≡ m → ⊥) → get_or (set xs n new) m [] ≡ get_or xs m []
    by [] n m differ = refl
    by (x ∷ xs) zero zero differ = absurd (differ refl)
    by (x ∷ xs) zero (suc m) differ = refl
    by (x ∷ xs) (suc n) zero differ = refl
    by (x ∷ xs) (suc n) (suc m) differ = by xs n m (λ same. differ (ap suc same))

pub past_none : (lanes : List (List ℕ)) (lane : ℕ) → length lanes ≤ lane → get_or lanes lane [] ≡ []
past_none [] lane past = refl
past_none (xs ∷ lanes) zero past = absurd (omega (arith, past))
past_none (xs ∷ lanes) (suc lane) past = past_none lanes lane (omega (arith, past))

pub lane_within : (lanes : List (List ℕ)) (lane s : ℕ) → is_in (get_or lanes lane []) s ≡ true → lane < length lanes
lane_within lanes lane s is = elim (cases_lt lane (length lanes)) [
  | inl below ↦ below
  | inr past ↦
      absurd (true≢false (sym is ∙ ap (λ (xs : List ℕ). is_in xs s) (past_none lanes lane past)))
]

-- one more slot waits for a lane
module _ (before lanes : List (List ℕ)) (lane slot : ℕ) (old new : List ℕ) (within : lane < length lanes)
    (same : (own : ℕ) → get_or lanes own [] ≡ get_or before own []) (is : old ≡ get_or lanes lane []) where
  pub waits_own : ((t : ℕ) → is_in new t ≡ ((slot == t) || is_in old t))
      → is_in (get_or (set lanes lane new) lane []) slot ≡ true
  waits_own slots =
      ap (λ (xs : List ℕ). is_in xs slot) (get_set lanes lane new within) ∙ slots slot
      ∙ ap (λ test. test || is_in old slot) (eq-eqb slot slot refl)

  pub waits_more : ((t : ℕ) → is_in new t ≡ ((slot == t) || is_in old t)) → (other s : ℕ)
      → is_in (get_or before other []) s ≡ true → is_in (get_or (set lanes lane new) other []) s ≡ true
  waits_more slots other s stands = elim (cases_eq lane other) [
    | inl here ↦
        ap (λ m. is_in (get_or (set lanes lane new) m []) s) (sym here)
        ∙ ap (λ (xs : List ℕ). is_in xs s) (get_set lanes lane new within) ∙ slots s
        ∙ or_more (slot == s) (is_in old s)
        (ap (λ (xs : List ℕ). is_in xs s) is ∙ ap (λ m. is_in (get_or lanes m []) s) here
        ∙ ap (λ (xs : List ℕ). is_in xs s) (same other) ∙ stands)
    | inr differ ↦
        ap (λ (xs : List ℕ). is_in xs s) (get_set_other lanes lane other new (ne_eqb lane other differ))
        ∙ ap (λ (xs : List ℕ). is_in xs s) (same other) ∙ stands
  ]

-- and one leaves it
pub leaves_lane : (lanes : List (List ℕ)) (lane slot : ℕ) (old new : List ℕ) → lane < length lanes
    → old ≡ get_or lanes lane [] → ((t : ℕ) → is_in new t ≡ (not (slot == t) && is_in old t)) → (other t : ℕ)
    → (slot == t) ≡ false → is_in (get_or lanes other []) t ≡ true
    → is_in (get_or (set lanes lane new) other []) t ≡ true
leaves_lane lanes lane slot old new within is slots other t differs stands = elim (cases_eq lane other) [
  | inl here ↦
      ap (λ m. is_in (get_or (set lanes lane new) m []) t) (sym here)
      ∙ ap (λ (xs : List ℕ). is_in xs t) (get_set lanes lane new within) ∙ slots t
      ∙ ap (λ test. not test && is_in old t) differs
      ∙ ap (λ (xs : List ℕ). is_in xs t) is ∙ ap (λ m. is_in (get_or lanes m []) t) here ∙ stands
  | inr differ ↦
      ap (λ (xs : List ℕ). is_in xs t) (get_set_other lanes lane other new (ne_eqb lane other differ)) ∙ stands
]

-- a list that has anything stands among the lists
pub some_within : (lists : List (List ℕ)) (i n : ℕ) → n < length (get_or lists i []) → i < length lists
some_within [] i n some = absurd (omega (arith, some))
some_within (xs ∷ lists) zero n some = omega arith
some_within (xs ∷ lists) (suc i) n some =
    let more = some_within lists i n some in
    omega (arith, more)

-- an empty last lane is left out
one_empty : (x : List ℕ) (other : ℕ) → x ≡ [] → [] ≡ get_or (x ∷ []) other []
one_empty x zero is = sym is
one_empty x (suc n) is = refl

trims : (old : List (List ℕ)) → get_or old (length old - 1) [] ≡ [] → (other : ℕ)
    → get_or (take (length old - 1) old) other [] ≡ get_or old other []
trims [] none other =
    let first : length {A = List ℕ} [] - 1 ≡ 0 = omega arith in
    ap (λ k. get_or (take k []) other []) first
trims (x ∷ []) none other =
    let first : length (x ∷ []) - 1 ≡ 0 = omega arith in
    ap (λ k. get_or (take k (x ∷ [])) other []) first
    ∙ one_empty x other (sym (ap (λ k. get_or (x ∷ []) k []) first) ∙ none)
trims (x ∷ y ∷ others) none other =
    let one : length (x ∷ y ∷ others) - 1 ≡ suc (length (y ∷ others) - 1) = omega arith in
    ap (λ k. get_or (take k (x ∷ y ∷ others)) other []) one
    ∙ by (trims (y ∷ others)) other (sym (ap (λ k. get_or (x ∷ y ∷ others) k []) one) ∙ none)
  where
    by : (get_or (y ∷ others) (length (y ∷ others) - 1) [] ≡ [] → (m : ℕ)
        → get_or (take (length (y ∷ others) - 1) (y ∷ others)) m [] ≡ get_or (y ∷ others) m []) → (n : ℕ)
        → get_or (y ∷ others) (length (y ∷ others) - 1) [] ≡ []
        → get_or (x ∷ take (length (y ∷ others) - 1) (y ∷ others)) n [] ≡ get_or (x ∷ y ∷ others) n []
    by rest zero empty = refl
    by rest (suc n) empty = rest empty n

pub trimmed : (old new : List (List ℕ)) (count : ℕ) → new ≡ take (count - 1) old → count ≡ length old
    → get_or old (length old - 1) [] ≡ [] → (other : ℕ) → get_or new other [] ≡ get_or old other []
trimmed old new count is whole none other =
    ap (λ (xs : List (List ℕ)). get_or xs other []) (is ∙ ap (λ n. take (n - 1) old) whole) ∙ trims old none other

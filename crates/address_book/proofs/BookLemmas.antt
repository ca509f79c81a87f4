-- A book with one more IMSI at its end, and its index.
use Rattle.std.proofs.Common.{◌≡◌, ℕ, ◌+◌, ◌≤◌, Bool, true, false, cond, List, [], ◌∷◌, ◌++◌, length, Option, Some, None, refl, sym, ◌∙◌, ap, add-zero, zero-add, length-append, nat_eq, ◌&&◌, ◌-◌, take, replicate, subst, arith}
use Rattle.std.specs.List.{position_from, AllByRecursion, IsDistinct}
use Rattle.std.specs.Str.{bytes_eq}
use Rattle.std.proofs.lemmas.Iterator.Adapters.{position_from-zero}
use Rattle.std.proofs.lemmas.Slice.Eq.{bytes_eq-Decides}
use Rattle.std.proofs.lemmas.Cmp.{nat_list_eq_equiv}
use Rattle.std.specs.HashMap.{get}
use Rattle.std.specs.Map.{lookup}
use Rattle.std.specs.Cmp.{both_ways}
use Rattle.std.proofs.Math.Seq.{take-append_seam}
use Rattle.std.proofs.lemmas.Bool.{eq-eqb, eqb-true}
use Rattle.address_book.specs.Book.{slot_in, IsBook}
use Rattle.address_book.specs.Index.{same_imsi, Slots, IsIndex}

-- the first, or the second where there is none
abbrev or_else : Option ℕ → Option ℕ → Option ℕ
or_else None second = second
or_else (Some n) second = Some n

push_from : (test : List ℕ → Bool) (i : ℕ) (book : List (List ℕ)) (imsi : List ℕ)
    → position_from test i (book ++ imsi ∷ [])
    ≡ or_else (position_from test i book) (cond (test imsi) (Some (i + length book)) None)
push_from test i [] imsi = rw add-zero refl
push_from test i (other ∷ book) imsi =
    let count : i + 1 + length book ≡ i + length (other ∷ book) = omega arith in
    elim (test other) as
    (λ b. cond b (Some i) (position_from test (i + 1) (book ++ imsi ∷ []))
    ≡ or_else (cond b (Some i) (position_from test (i + 1) book))
    (cond (test imsi) (Some (i + length (other ∷ book))) None)) [
      | true ↦ refl
      | false ↦ push_from test (i + 1) book imsi
          ∙ ap (λ n. or_else (position_from test (i + 1) book) (cond (test imsi) (Some n) None)) count
    ]

-- an IMSI at the end has the place behind the others
pub slot_in-push : (book : List (List ℕ)) (imsi other : List ℕ)
    → slot_in (book ++ imsi ∷ []) other
    ≡ or_else (slot_in book other) (cond (bytes_eq other imsi) (Some (length book)) None)
slot_in-push book imsi other =
    position_from-zero (bytes_eq other) (book ++ imsi ∷ []) ∙ push_from (bytes_eq other) 0 book imsi
    ∙ ap (λ n. or_else (position_from (bytes_eq other) 0 book) (cond (bytes_eq other imsi) (Some n) None))
    (zero-add (length book))
    ∙ ap (λ slot. or_else slot (cond (bytes_eq other imsi) (Some (length book)) None))
    (sym (position_from-zero (bytes_eq other) book))

bytes_eq-self : (imsi : List ℕ) → bytes_eq imsi imsi ≡ true
bytes_eq-self imsi = nat_list_eq_equiv.refl imsi

-- a new IMSI at the end has the next slot
pub slot_in-new : (book : List (List ℕ)) (imsi : List ℕ) → slot_in book imsi ≡ None
    → slot_in (book ++ imsi ∷ []) imsi ≡ Some (length book)
slot_in-new book imsi absent =
    slot_in-push book imsi imsi ∙ ap (λ slot. or_else slot (cond (bytes_eq imsi imsi) (Some (length book)) None)) absent
    ∙ ap (λ b. cond b (Some (length book)) None) (bytes_eq-self imsi)

absent_from : (imsi : List ℕ) (i : ℕ) (book : List (List ℕ)) → position_from (bytes_eq imsi) i book ≡ None
    → AllByRecursion (λ other. bytes_eq other imsi ≡ false) book
absent_from imsi i [] absent = tt
absent_from imsi i (other ∷ book) absent =
    let first : bytes_eq imsi other ≡ false = not_found (bytes_eq imsi other) absent in
    let rest : position_from (bytes_eq imsi) (i + 1) book ≡ None = rw first at absent in
    (nat_list_eq_equiv.symm other imsi ∙ first, absent_from imsi (i + 1) book rest)
  where
    not_found : (b : Bool) → cond b (Some i) (position_from (bytes_eq imsi) (i + 1) book) ≡ None → b ≡ false
    not_found true none = absurd (cc)
    not_found false none = refl

all-push : {X : Type 0} (P : X → Type 0) (xs : List X) (y : X) → AllByRecursion P xs → P y
    → AllByRecursion P (xs ++ y ∷ [])
all-push P [] y all last = (last, tt)
all-push P (x ∷ xs) y all last = (all.0, all-push P xs y all.1 last)

distinct-push : (book : List (List ℕ)) (imsi : List ℕ) → IsDistinct bytes_eq book
    → AllByRecursion (λ other. bytes_eq other imsi ≡ false) book
    → IsDistinct bytes_eq (book ++ imsi ∷ [])
unfolding IsDistinct
distinct-push [] imsi distinct new = (tt, tt)
distinct-push (other ∷ book) imsi distinct new =
    (all-push (λ y. bytes_eq other y ≡ false) book imsi distinct.0 new.0, distinct-push book imsi distinct.1 new.1)

-- a book with one more new IMSI is a book
pub is_book-push : (book : List (List ℕ)) (imsi : List ℕ) → IsBook book → slot_in book imsi ≡ None
    → length book ≤ 65532 → IsBook (book ++ imsi ∷ [])
is_book-push book imsi kept absent room = record {
  distinct =
      distinct-push book imsi kept.distinct
      (absent_from imsi 0 book (sym (position_from-zero (bytes_eq imsi) book) ∙ absent));
  short = rw length-append (omega arith);
}

abbrev padded : List ℕ → List ℕ
padded digits = digits ++ replicate (15 - length digits) 0

padded-same : (a b : List ℕ) → padded a ≡ padded b → length a ≡ length b → a ≡ b
padded-same a b same long =
    sym (take-append_seam a (replicate (15 - length a) 0)) ∙ ap (take (length a)) same
    ∙ ap (λ n. take n (padded b)) long
    ∙ take-append_seam b (replicate (15 - length b) 0)

both : (p q : Bool) → (p && q) ≡ true → (p ≡ true) × (q ≡ true)
both true true is = (refl, refl)
both true false is = absurd (cc)
both false q is = absurd (cc)

-- `==` of two IMSIs compares their digits
same_imsi-is : (a b : List ℕ) → same_imsi a b ≡ bytes_eq a b
same_imsi-is a b = both_ways (same_imsi a b) (bytes_eq a b) forth back
  where
    forth : same_imsi a b ≡ true → bytes_eq a b ≡ true
    forth is =
        let parts = both (bytes_eq (padded a) (padded b)) (nat_eq (length a) (length b)) is in
        (bytes_eq-Decides a b).1
        (padded-same a b ((bytes_eq-Decides (padded a) (padded b)).0 parts.0) (eqb-true (length a) (length b) parts.1))

    back : bytes_eq a b ≡ true → same_imsi a b ≡ true
    back is =
        let itself : same_imsi a a ≡ true = rw (bytes_eq-self (padded a), eq-eqb (length a) (length a) refl) refl in
        subst (λ other. same_imsi a other ≡ true) ((bytes_eq-Decides a b).0 is) itself

-- the empty book and the empty map
pub is_index-nil : (slots : Slots) → slots.entries ≡ [] → IsIndex slots []
unfolding IsDistinct
is_index-nil slots empty = record {
  is_book = record { distinct = tt; short = omega arith };
  indexed = λ imsi. ap (lookup (same_imsi imsi)) empty;
}

-- what the index finds once an IMSI is entered with the next slot
entered : (b : Bool) (slot : Option ℕ) (n : ℕ) → (b ≡ true → slot ≡ None)
    → cond b (Some n) slot ≡ or_else slot (cond b (Some n) None)
entered true slot n absent = rw (absent refl) refl
entered false None n absent = refl
entered false (Some k) n absent = refl

indexed-push : (slots next : Slots) (book : List (List ℕ)) (imsi : List ℕ)
    → ((other : List ℕ) → get same_imsi slots other ≡ slot_in book other)
    → slot_in book imsi ≡ None →
    ((other : List ℕ) → get same_imsi next other ≡ cond (same_imsi imsi other) (Some (length book))
    (get same_imsi slots other))
    → (other : List ℕ) → get same_imsi next other ≡ slot_in (book ++ imsi ∷ []) other
indexed-push slots next book imsi indexed absent updates other =
    let same : bytes_eq imsi other ≡ true → imsi ≡ other = (bytes_eq-Decides imsi other).0 in
    updates other ∙ ap (λ b. cond b (Some (length book)) (get same_imsi slots other)) (same_imsi-is imsi other)
    ∙ ap (λ slot. cond (bytes_eq imsi other) (Some (length book)) slot) (indexed other)
    ∙ entered (bytes_eq imsi other) (slot_in book other) (length book) (λ e. rw (← same e) absent)
    ∙ ap (λ b. or_else (slot_in book other) (cond b (Some (length book)) None)) (nat_list_eq_equiv.symm imsi other)
    ∙ sym (slot_in-push book imsi other)

pub is_index-push : (slots next : Slots) (book : List (List ℕ)) (imsi : List ℕ) (place : ℕ) → IsIndex slots book
    → slot_in book imsi ≡ None → place ≡ length book → length book ≤ 65532
    → ((other : List ℕ) → get same_imsi next other ≡ cond (same_imsi imsi other) (Some place)
    (get same_imsi slots other))
    → IsIndex next (book ++ imsi ∷ [])
is_index-push slots next book imsi place kept absent next_place room updates = record {
  is_book = is_book-push book imsi kept.is_book absent room;
  indexed = indexed-push slots next book imsi kept.indexed absent
      (λ other. updates other ∙ ap (λ n. cond (same_imsi imsi other) (Some n) (get same_imsi slots other)) next_place);
}

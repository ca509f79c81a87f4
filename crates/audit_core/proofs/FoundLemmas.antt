-- The first two entries of a line, found as entries are gone through.
use Rattle.std.proofs.Common.{◌≡◌, ◌≢◌, ℕ, ◌+◌, ◌<◌, ◌==◌, Some, None, List, [], ◌∷◌, ◌++◌, cond, drop, get_or, length, replicate, set, take, refl, sym, ap, subst, ◌∙◌, inl, inr, arith, append-nil}
use Rattle.std.specs.Borrow.{Bor}
use Rattle.std.proofs.lemmas.Bool.{cases_eq, eq-eqb, ne_eqb}
use Rattle.std.specs.List.{cons_option}
use Rattle.std.proofs.lemmas.List.{get_or-replicate, get_or-set_other, get_or-set_same, length-replicate, length-set}
use Rattle.std.proofs.lemmas.List.Elements.{filter-append, filter_map-append}
use Rattle.report_lines.specs.declared.entry.Entry.{Entry}
use Rattle.report_lines.specs.declared.entry.Entry.TheVariants as entry
use Rattle.report_lines.specs.declared.entry.LineEntry.{LineEntry}
use Rattle.audit_core.specs.Entries.{as_line, line_entries, line_of}
use Rattle.audit_core.specs.Matched.{AreFound, IsFound, entries_stood, lent_entry, of_number}
use Rattle.audit_core.specs.Places.{first_of}
use Rattle.audit_core.specs.declared.matching.FoundEntry.{FoundEntry}
use Rattle.audit_core.specs.declared.report.Stood.{Stood}
use Rattle.audit_core.proofs.RestLemmas.{mapped_more}

-- those of a number, with one more
pub of_own : (n : ℕ) (before : List LineEntry) (one : LineEntry) → line_of one ≡ n
    → of_number n (before ++ one ∷ []) ≡ of_number n before ++ one ∷ []
of_own n before one is =
    filter-append (λ (e : LineEntry). line_of e == n) before (one ∷ [])
    ∙ ap (λ test. of_number n before ++ cond test (one ∷ []) []) (eq-eqb (line_of one) n is)

pub of_other : (n : ℕ) (before : List LineEntry) (one : LineEntry) → line_of one ≢ n
    → of_number n (before ++ one ∷ []) ≡ of_number n before
of_other n before one other =
    filter-append (λ (e : LineEntry). line_of e == n) before (one ∷ [])
    ∙ ap (λ test. of_number n before ++ cond test (one ∷ []) []) (ne_eqb (line_of one) n other)
    ∙ append-nil (of_number n before)

-- the first of some, and the second, with one more
first_new : {X : Type 0} (xs : List X) (one : X) → first_of xs ≡ None → first_of (xs ++ one ∷ []) ≡ Some one
first_new [] one none = refl
first_new (x ∷ xs) one none = absurd (cc)

first_stays : {X : Type 0} (xs : List X) (one x : X) → first_of xs ≡ Some x → first_of (xs ++ one ∷ []) ≡ Some x
first_stays [] one x is = absurd (cc)
first_stays (y ∷ xs) one x is = is

second_none : {X : Type 0} (xs : List X) (one : X) → first_of xs ≡ None → first_of (drop 1 (xs ++ one ∷ [])) ≡ None
second_none [] one none = refl
second_none (x ∷ xs) one none = absurd (cc)

second_new : {X : Type 0} (xs : List X) (one x : X) → first_of xs ≡ Some x → first_of (drop 1 xs) ≡ None
    → first_of (drop 1 (xs ++ one ∷ [])) ≡ Some one
second_new [] one x is none = absurd (cc)
second_new (y ∷ xs) one x is none = first_new xs one none

second_stays : {X : Type 0} (xs : List X) (one x y : X) → first_of xs ≡ Some x → first_of (drop 1 xs) ≡ Some y
    → first_of (drop 1 (xs ++ one ∷ [])) ≡ Some y
second_stays [] one x y is second = absurd (cc)
second_stays (z ∷ xs) one x y is second = first_stays xs one y second

module _ (n : ℕ) (before : List LineEntry) (one : Bor LineEntry) (old : FoundEntry) (found : IsFound n before old) where
  -- an entry of another line
  pub found_other : line_of one.now ≢ n → IsFound n (before ++ one.now ∷ []) old
  found_other other =
      let same = of_other n before one.now other in
      record {
        first = found.first ∙ ap first_of (sym same);
        second = found.second ∙ ap (λ l. first_of (drop 1 l)) (sym same);
      }

  module _ (own : line_of one.now ≡ n) (new : FoundEntry) where
    -- the first one
    pub found_first : old.first ≡ None → new.first ≡ Some one → new.second ≡ None
        → IsFound n (before ++ one.now ∷ []) new
    found_first none first second =
        let none_yet : first_of (of_number n before) ≡ None = sym found.first ∙ ap lent_entry none in
        let more = sym (of_own n before one.now own) in
        record {
          first = ap lent_entry first ∙ sym (first_new (of_number n before) one.now none_yet) ∙ ap first_of more;
          second = ap lent_entry second ∙ sym (second_none (of_number n before) one.now none_yet)
              ∙ ap (λ l. first_of (drop 1 l)) more;
        }

    -- the second one
    pub found_second : (e : Bor LineEntry) → old.first ≡ Some e → old.second ≡ None → new.first ≡ Some e
        → new.second ≡ Some one → IsFound n (before ++ one.now ∷ []) new
    found_second e there none first second =
        let one_yet : first_of (of_number n before) ≡ Some e.now = sym found.first ∙ ap lent_entry there in
        let none_yet : first_of (drop 1 (of_number n before)) ≡ None = sym found.second ∙ ap lent_entry none in
        let more = sym (of_own n before one.now own) in
        record {
          first = ap lent_entry first ∙ sym (first_stays (of_number n before) one.now e.now one_yet)
              ∙ ap first_of more;
          second = ap lent_entry second ∙ sym (second_new (of_number n before) one.now e.now one_yet none_yet)
              ∙ ap (λ l. first_of (drop 1 l)) more;
        }

    -- and one more
    pub found_more : (e f : Bor LineEntry) → old.first ≡ Some e → old.second ≡ Some f → new.first ≡ Some e
        → new.second ≡ Some f → IsFound n (before ++ one.now ∷ []) new
    found_more e f there also first second =
        let one_yet : first_of (of_number n before) ≡ Some e.now = sym found.first ∙ ap lent_entry there in
        let two_yet : first_of (drop 1 (of_number n before)) ≡ Some f.now = sym found.second ∙ ap lent_entry also in
        let more = sym (of_own n before one.now own) in
        record {
          first = ap lent_entry first ∙ sym (first_stays (of_number n before) one.now e.now one_yet)
              ∙ ap first_of more;
          second = ap lent_entry second
              ∙ sym (second_stays (of_number n before) one.now e.now f.now one_yet two_yet)
              ∙ ap (λ l. first_of (drop 1 l)) more;
        }

-- of so many lines from one on: an entry of none of them, and one of the line at a place
module _ (first count : ℕ) (before : List LineEntry) (one : Bor LineEntry) (all : List FoundEntry)
    (found : AreFound first before all count) where
  pub all_others : ((i : ℕ) → i < count → line_of one.now ≢ first + i)
      → AreFound first (before ++ one.now ∷ []) all count
  all_others other = record {
    many = found.many;
    each = λ i none within. found_other (first + i) before one (get_or all i none) (found.each i none within)
        (other i within);
  }

  pub all_set : (place : ℕ) (new : FoundEntry) → place < count → line_of one.now ≡ first + place
      → IsFound (first + place) (before ++ one.now ∷ []) new
      → AreFound first (before ++ one.now ∷ []) (set all place new) count
  all_set place new within own here = record {
    many = length-set all place new ∙ found.many;
    each = λ i none below. elim (cases_eq i place) [
      | inl same ↦
          subst (λ k. IsFound (first + k) (before ++ one.now ∷ []) (get_or (set all place new) k none)) (sym same)
          (subst (IsFound (first + place) (before ++ one.now ∷ []))
          (sym (get_or-set_same all place new none (omega (arith, within, found.many)))) here)
      | inr other ↦
          subst (IsFound (first + i) (before ++ one.now ∷ []))
          (sym (get_or-set_other all place i new none other))
          (found_other (first + i) before one (get_or all i none) (found.each i none below)
          (λ is. other (omega (arith, is, own))))
    ];
  }

-- no entries yet
pub none_found : (first count : ℕ) (none : FoundEntry) (all : List FoundEntry) → all ≡ replicate count none → none.first ≡ None
    → none.second ≡ None → AreFound first [] all count
none_found first count none all are no_first no_second = record {
  many = ap length are ∙ length-replicate count none;
  each = λ i other within.
      subst (IsFound (first + i) [])
      (sym (ap (λ l. get_or l i other) are ∙ get_or-replicate count i none other within)) (record {
        first = ap lent_entry no_first;
        second = ap lent_entry no_second;
      });
}

-- the entries of lines among those that stand, with one more
pub stood_more : (all : List Stood) (i : ℕ) (one : Stood) → i < length all → one ≡ get_or all i one
    → line_entries (entries_stood (take (i + 1) all))
    ≡ line_entries (entries_stood (take i all)) ++ cons_option (as_line one.entry) []
stood_more all i one within is =
    ap line_entries (sym (mapped_more (λ (s : Stood). s.entry) [] all i one within is))
    ∙ filter_map-append as_line (entries_stood (take i all)) (one.entry ∷ [])

pub line_more : (first count : ℕ) (all : List Stood) (i : ℕ) (one : Stood) (its : LineEntry)
    (found : List FoundEntry) → i < length all → one ≡ get_or all i one → one.entry ≡ entry.Line its
    → AreFound first (line_entries (entries_stood (take i all)) ++ its ∷ []) found count
    → AreFound first (line_entries (entries_stood (take (i + 1) all))) found count
line_more first count all i one its found within at is are =
    subst (λ l. AreFound first l found count)
    (sym (stood_more all i one within at
    ∙ ap (λ e. line_entries (entries_stood (take i all)) ++ cons_option (as_line e) []) is)) are

pub other_more : (first count : ℕ) (all : List Stood) (i : ℕ) (one : Stood) (found : List FoundEntry) → i < length all
    → one ≡ get_or all i one → as_line one.entry ≡ None
    → AreFound first (line_entries (entries_stood (take i all))) found count
    → AreFound first (line_entries (entries_stood (take (i + 1) all))) found count
other_more first count all i one found within at none are =
    subst (λ l. AreFound first l found count)
    (sym (stood_more all i one within at
    ∙ ap (λ o. line_entries (entries_stood (take i all)) ++ cons_option o []) none
    ∙ append-nil (line_entries (entries_stood (take i all))))) are

pub no_line : (one : Entry) → ((e : LineEntry) → one ≡ entry.Line e → ⊥) → as_line one ≡ None
no_line (entry.Line e) other = absurd (other e refl)
no_line (entry.Effect e) other = refl
no_line (entry.Charge e) other = refl

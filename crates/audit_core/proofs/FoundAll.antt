-- What is found where all sentences were asked.
use Rattle.std.proofs.Common.{◌≡◌, ℕ, zero, suc, ◌+◌, ◌==◌, ◌<◌, ◌≤◌, ◌||◌, nat_lt, if◌then◌else◌, Bool, true, false, Option, Some, None, List, [], ◌∷◌, ◌++◌, cond, length, length-append, append-nil, refl, sym, ap, ◌∙◌, inl, inr, arith}
use Rattle.std.specs.List.{find}
use Rattle.std.proofs.lemmas.Bool.{cases_lt, eq-eqb, eqb-true, lt-ltb, ltb-true, ne_eqb}
use Rattle.report_lines.specs.declared.entry.LineEntry.{LineEntry}
use Rattle.audit_core.specs.AnswerPlaces.{IsUnanswered, is_outside}
use Rattle.audit_core.specs.AnswerPlaces as places
use Rattle.audit_core.specs.Entries.{all_lines, in_line_order, line_entries, line_of}
use Rattle.audit_core.specs.Judged.{BreakOf, Case, HasFound, HoldsWhole, Partly}
use Rattle.audit_core.specs.Matched.{in_range, of_number}
use Rattle.audit_core.specs.Ranks.{number_of, rank_of}
use Rattle.audit_core.specs.Sentences.{LinesAreAnswered, Sentence}
use Rattle.audit_core.specs.Why.{IsBreak}
use Rattle.audit_core.specs.declared.sentence.Refutation.{Refutation}
use Rattle.audit_core.specs.declared.sentence.Sentence.{Sentence as Asked}
use Rattle.audit_core.specs.declared.sentence.Sentence.TheVariants as of
use Rattle.audit_core.specs.declared.telling.Break.{Break}
use Rattle.audit_core.proofs.LineOrder.{as_many}
use Rattle.audit_core.proofs.OfferLemmas.{goes_before, holds_all, rank_most}

-- an entry among those in a range of numbers
module _ (e : LineEntry) (entries : List LineEntry) where
  of_other : (n : ℕ) → (line_of e ≡ n → ⊥) → of_number n (e ∷ entries) ≡ of_number n entries
  of_other n other =
      ap (λ own. cond own (e ∷ of_number n entries) (of_number n entries)) (ne_eqb (line_of e) n other)

  of_this : (n : ℕ) → line_of e ≡ n → of_number n (e ∷ entries) ≡ e ∷ of_number n entries
  of_this n is = ap (λ own. cond own (e ∷ of_number n entries) (of_number n entries)) (eq-eqb (line_of e) n is)

  range_other : (first n : ℕ) → ((k : ℕ) → first ≤ k → k < first + n → line_of e ≡ k → ⊥)
      → in_range first n (e ∷ entries) ≡ in_range first n entries
  range_other first zero other = refl
  range_other first (suc n) other =
      (λ i. of_other first (other first (omega arith) (omega arith)) i
      ++ range_other (first + 1) n (λ k low high. other k (omega (arith, low)) (omega (arith, high))) i)

  range_this : (first n : ℕ) → first ≤ line_of e → line_of e < first + n
      → length (in_range first n (e ∷ entries)) ≡ length (in_range first n entries) + 1
  range_this first zero low high = absurd (omega (arith, low, high))
  range_this first (suc n) low high = elim (cases_lt first (line_of e)) [
    | inl past ↦
        let prefix : of_number first (e ∷ entries) ≡ of_number first entries =
        of_other first (λ is. omega (arith, is, past)) in
        let rest = range_this (first + 1) n (omega (arith, past)) (omega (arith, high)) in
        omega (
          arith,
          ap length prefix,
          rest,
          length-append (of_number first (e ∷ entries)) (in_range (first + 1) n (e ∷ entries)),
          length-append (of_number first entries) (in_range (first + 1) n entries),
        )
    | inr most ↦
        let is : line_of e ≡ first = omega (arith, low, most) in
        let prefix : of_number first (e ∷ entries) ≡ e ∷ of_number first entries = of_this first is in
        let rest = range_other (first + 1) n (λ k above high_k same. omega (arith, same, is, above)) in
        omega (
          arith,
          ap length prefix,
          ap length rest,
          length-append (of_number first (e ∷ entries)) (in_range (first + 1) n (e ∷ entries)),
          length-append (of_number first entries) (in_range (first + 1) n entries),
        )
  ]

-- whether it answers a line that there is
pub inside : (count : ℕ) (e : LineEntry) → is_outside count e ≡ false → (1 ≤ line_of e) × (line_of e ≤ count)
inside count e is = by_none (line_of e == 0) refl is
  where
    by_none : (none : Bool) → (line_of e == 0) ≡ none → (none || nat_lt count (line_of e)) ≡ false
        → (1 ≤ line_of e) × (line_of e ≤ count)
    by_none true zero_ same = absurd (let no : true ≡ false = same in cc)
    by_none false some same = (
      elim (cases_lt (line_of e) 1) [
        | inl low ↦
            let no : true ≡ false = sym (eq-eqb (line_of e) 0 (omega (arith, low))) ∙ some in
            absurd (cc)
        | inr least ↦ least
      ],
      elim (cases_lt count (line_of e)) [
        | inl past ↦
            let no : true ≡ false = sym (lt-ltb count (line_of e) past) ∙ same in
            absurd (cc)
        | inr most ↦ most
      ],
    )

outside : (count : ℕ) (e : LineEntry) → is_outside count e ≡ true → (k : ℕ) → 1 ≤ k → k < 1 + count → line_of e ≡ k → ⊥
outside count e is k least most at = by_none (line_of e == 0) refl is
  where
    by_none : (none : Bool) → (line_of e == 0) ≡ none → (none || nat_lt count (line_of e)) ≡ true → ⊥
    by_none true zero_ same = omega (arith, eqb-true (line_of e) 0 zero_, at, least)
    by_none false some same =
        let past : count < line_of e = ltb-true count (line_of e) same in
        omega (arith, past, at, most)

-- those in order are no more than all, as many where each answers a line that there is, and fewer where one doesn't
in_order_most : (count : ℕ) (entries : List LineEntry) → length (in_line_order count entries) ≤ length entries
in_order_most count [] = none_at 1 count
  where
    none_at : (first n : ℕ) → length (in_range first n []) ≤ 0
    none_at first zero = omega arith
    none_at first (suc n) = none_at (first + 1) n
in_order_most count (e ∷ entries) = by (is_outside count e) refl (in_order_most count entries)
  where
    by : (test : Bool) → is_outside count e ≡ test → length (in_line_order count entries) ≤ length entries
        → length (in_line_order count (e ∷ entries)) ≤ suc (length entries)
    by true is rest = omega (arith, ap length (range_other e entries 1 count (outside count e is)), rest)
    by false is rest =
        let at = inside count e is in
        omega (arith, range_this e entries 1 count at.0 (omega (arith, at.1)), rest)

in_order_all : (count : ℕ) (entries : List LineEntry) → find (is_outside count) entries ≡ None
    → length entries ≡ length (in_line_order count entries)
in_order_all count [] none = none_at 1 count
  where
    none_at : (first n : ℕ) → 0 ≡ length (in_range first n [])
    none_at first zero = refl
    none_at first (suc n) = none_at (first + 1) n
in_order_all count (e ∷ entries) none = by (is_outside count e) refl none (λ few. in_order_all count entries few)
  where
    by : (test : Bool) → is_outside count e ≡ test
        → (if test then Some e else find (is_outside count) entries) ≡ None
        → (find (is_outside count) entries ≡ None → length entries ≡ length (in_line_order count entries))
        → suc (length entries) ≡ length (in_line_order count (e ∷ entries))
    by true is same rest = absurd (let no : Some e ≡ None = same in cc)
    by false is same rest =
        let at = inside count e is in
        omega (arith, range_this e entries 1 count at.0 (omega (arith, at.1)), rest same)

in_order_fewer : (count : ℕ) (entries : List LineEntry) (now : LineEntry) → find (is_outside count) entries ≡ Some now
    → length (in_line_order count entries) < length entries
in_order_fewer count [] now some = absurd (let no : None ≡ Some now = some in cc)
in_order_fewer count (e ∷ entries) now some =
    by (is_outside count e) refl some (λ few. in_order_fewer count entries now few)
  where
    by : (test : Bool) → is_outside count e ≡ test
        → (if test then Some e else find (is_outside count) entries) ≡ Some now
        → (find (is_outside count) entries ≡ Some now → length (in_line_order count entries) < length entries)
        → length (in_line_order count (e ∷ entries)) < suc (length entries)
    by true is same rest =
        omega (arith, ap length (range_other e entries 1 count (outside count e is)), in_order_most count entries)
    by false is same rest =
        let at = inside count e is in
        omega (arith, range_this e entries 1 count at.0 (omega (arith, at.1)), rest same)

module _ (own : Case) where
  abbrev lines : ℕ
  lines = length (all_lines own.made)

  answered : HoldsWhole own of.Answers → HoldsWhole own of.Outside → LinesAreAnswered own.made own.entries
  answered answers none = record {
    answers = answers;
    no_others = in_order_all lines (line_entries own.entries) none
        ∙ as_many 1 (all_lines own.made) (in_line_order lines (line_entries own.entries)) answers;
  }

  sentence_of : (k : ℕ) → ((s : Asked) → number_of s ≡ k → HoldsWhole own s)
      → Sentence own.setup own.slots own.made own.entries k
  sentence_of zero all = tt
  sentence_of (suc zero) all = answered (all of.Answers refl) (all of.Outside refl)
  sentence_of (suc (suc zero)) all = all of.Numbers refl
  sentence_of (suc (suc (suc zero))) all = all of.Counts refl
  sentence_of (suc (suc (suc (suc zero)))) all = all of.Gateway refl
  sentence_of (suc (suc (suc (suc (suc zero))))) all = record {
    effects = all of.Effects refl;
    rows = all of.Rows refl;
    opens = (all of.Opens refl).each;
    as_many = (all of.Opens refl).as_many;
  }
  sentence_of (suc (suc (suc (suc (suc (suc zero)))))) all = record {
    waits = all of.Waits refl;
    order = all of.Order refl;
  }
  sentence_of (suc (suc (suc (suc (suc (suc (suc k))))))) all = tt

  -- an entry of a line that there isn't is one too many
  outside_break : (found : Break) → HoldsWhole own of.Answers → BreakOf own of.Outside found
      → IsUnanswered own.made own.entries found
  outside_break found answers there =
      let order = in_line_order lines (line_entries own.entries) in
      record {
        answered = all_lines own.made;
        left = [];
        answers = order;
        rest = [];
        lines = sym (append-nil (all_lines own.made));
        in_order = sym (append-nil order);
        each = answers;
        stops = tt;
        too_many = λ none last same.
            omega (
              arith,
              same,
              as_many 1 (all_lines own.made) order answers,
              in_order_fewer lines (line_entries own.entries) there.0 there.1,
            );
        is = there.2 ∙ ap places.too_many (sym there.1);
      }

  found_as : (s : Asked) (found : Break) → BreakOf own s found
      → ((t : Asked) → rank_of t < rank_of s → HoldsWhole own t)
      → IsBreak own.setup own.slots own.made own.entries (number_of s) found
  found_as of.Entries found there before = there
  found_as of.Answers found there before = there
  found_as of.Outside found there before = outside_break found (before of.Answers (omega arith)) there
  found_as of.Numbers found there before = there
  found_as of.Counts found there before = there
  found_as of.Gateway found there before = there
  found_as of.Effects found there before = inl there
  found_as of.Rows found there before = inr (before of.Effects (omega arith), inl there)
  found_as of.Opens found there before =
      inr (before of.Effects (omega arith), inr (before of.Rows (omega arith), there))
  found_as of.Waits found there before = inl there
  found_as of.Order found there before = inr (before of.Waits (omega arith), there)

  pub found_all : (Old : Asked → Type 0) (broken : Option Refutation)
      → Partly own Old (HoldsWhole own) 11 broken → HasFound own broken
  found_all Old None partly = record {
    holds = λ k low. sentence_of k (λ s is.
        holds_all own Old (HoldsWhole own) None partly s (omega (arith, rank_most s)));
    broken = tt;
  }
  found_all Old (Some found) partly = record {
    holds = λ k low. sentence_of k (λ s is.
        holds_all own Old (HoldsWhole own) (Some found) partly s
        (goes_before s found.sentence (omega (arith, is, low))));
    broken = found_as found.sentence found.place partly.kept
        (λ t before. holds_all own Old (HoldsWhole own) (Some found) partly t before);
  }

-- A template that is read is spelled so, and one that is spelled is read again.
use Rattle.std.proofs.Common.{◌≡◌, ◌≢◌, ℕ, zero, suc, ◌/◌, ◌%◌, ◌≤◌, ◌<◌, Bool, true, false, cond, eqb, not, ◌||◌, List, [], ◌∷◌, length, Option, Some, None, refl, sym, ap, subst, ◌∙◌, ◌⊎◌, inl, inr, arith}
use Rattle.std.specs.List.{flat_map, AllByRecursion}
use Rattle.std.proofs.lemmas.Bool.{eqb-true, eqb-false, ne_eqb, or_cases}
use Rattle.std.proofs.lemmas.List.Concat.{flat_map-cons}
use Rattle.tft_codec.specs.declared.fault.TBad.{TBad}
use Rattle.tft_codec.specs.declared.fault.TBad.TheVariants as bad
use Rattle.tft_codec.specs.declared.filter.Filter.{Filter}
use Rattle.tft_codec.specs.declared.tft.Tft.{Tft}
use Rattle.tft_codec.specs.declared.tft.Tft.TheVariants.{Create, Delete, Add, Replace, Remove, Nothing}
use Rattle.tft_codec.specs.Types.{create_operation, delete_operation, add_operation, replace_operation, remove_operation, no_operation}
use Rattle.tft_codec.specs.Filter.{ids, IsFilter, AreFilters, ArePacketFilters}
use Rattle.tft_codec.specs.Tft.{IsTft}
use Rattle.tft_codec.specs.Spelling.{first_octet, filter_octet, filter_text, entries_text, spelling, SpellsFilters, SpellsIds, SpellsEntries, Spells}
use Rattle.tft_codec.specs.Reading.{filters_at, ids_at, tft_at}
use Rattle.tft_codec.specs.Refusal.{end_fault, filters_fault, ids_fault, first_octet_fault, first_fault, has_parameters, has_filters, has_ids, is_operation}
use Rattle.tft_codec.proofs.Lists.{none_differ}
use Rattle.wire_octets.specs.Numbers.{AreOctets}
use Rattle.tft_codec.proofs.Fields.{octets_rest}
use Rattle.tft_codec.proofs.ContentsLemmas.{distinct_from_fresh, fresh_from_distinct}
use Rattle.tft_codec.proofs.FilterLemmas.{passed, both_passed, no_more, filters_taken, filters_again}
use Rattle.tft_codec.proofs.IdLemmas.{ids_taken, ids_again}

-- ---- what was written is spelled so

filters_spelled : (fs : List Filter) → AllByRecursion IsFilter fs → SpellsFilters (flat_map filter_text fs) fs
filters_spelled [] each = refl
filters_spelled (f ∷ fs) each = (
  filter_octet f,
  flat_map filter_text fs,
  flat_map-cons filter_text f fs,
  omega (arith, each.0.id, each.0.direction),
  filters_spelled fs each.1,
)

ids_spelled : (xs : List ℕ) → AllByRecursion (λ x. x < 16) xs → SpellsIds xs xs
ids_spelled [] each = refl
ids_spelled (x ∷ xs) each = (x, xs, refl, omega (arith, each.0), ids_spelled xs each.1)

entries_spelled : (operation : ℕ) (fs : List Filter) → ArePacketFilters fs
    → SpellsEntries (entries_text operation fs) operation fs
entries_spelled operation fs kept = (flat_map filter_text fs, refl, filters_spelled fs kept.filters.each)

pub spelled_again : (t : Tft) → IsTft t → Spells (spelling t) t
spelled_again (Create fs) kept = (kept, entries_spelled create_operation fs kept)
spelled_again Delete kept = (tt, refl)
spelled_again (Add fs) kept = (kept, entries_spelled add_operation fs kept)
spelled_again (Replace fs) kept = (kept, entries_spelled replace_operation fs kept)
spelled_again (Remove xs) kept = (kept, (xs, refl, ids_spelled xs kept.each))
spelled_again Nothing kept = (tt, refl)

-- ---- the first octet

-- the operations, with the numbers of entries that they may have
abbrev pub IsOperation : ℕ → ℕ → Type 0
IsOperation operation number =
    ((0 < number) ×
    ((operation ≡ create_operation)
    ⊎ ((operation ≡ add_operation) ⊎ ((operation ≡ replace_operation) ⊎ (operation ≡ remove_operation)))))
    ⊎ ((number ≡ 0) × ((operation ≡ delete_operation) ⊎ (operation ≡ no_operation)))

some_entries : (number : ℕ) → 0 < number → eqb number 0 ≡ false
some_entries number lt = ne_eqb number 0 (λ none. omega arith)

pub operation_cases : (operation number : ℕ) → is_operation operation number ≡ true → IsOperation operation number
operation_cases operation zero e =
    elim (or_cases (eqb operation delete_operation) (eqb operation no_operation) e) [
      | inl this ↦ inr (refl, inl (eqb-true _ _ this))
      | inr this ↦ inr (refl, inr (eqb-true _ _ this))
    ]
operation_cases operation (suc number) e =
    let some = some_entries (suc number) (omega arith) in
    let known : (has_filters operation || has_ids operation) ≡ true = rw some at e in
    elim (or_cases (has_filters operation) (has_ids operation) known) [
      | inl filters ↦ elim
          (or_cases (eqb operation create_operation || eqb operation add_operation)
          (eqb operation replace_operation) filters) [
            | inl two ↦ elim (or_cases (eqb operation create_operation) (eqb operation add_operation) two) [
              | inl this ↦ inl (omega arith, inl (eqb-true _ _ this))
              | inr this ↦ inl (omega arith, inr (inl (eqb-true _ _ this)))
            ]
            | inr this ↦ inl (omega arith, inr (inr (inl (eqb-true _ _ this))))
          ]
      | inr this ↦ inl (omega arith, inr (inr (inr (eqb-true _ _ this))))
    ]

-- the first octet of an operation with its number of entries, and no parameter list
pub record Begins (first operation number : ℕ) : Type 0 where
  pub parameters : has_parameters first ≡ false
  pub operation_is : first / 32 ≡ operation
  pub number_is : first % 16 ≡ number

pub begins : (operation number : ℕ) → number < 16 → Begins (first_octet operation number) operation number
begins operation number lt =
    let even : first_octet operation number / 16 % 2 ≡ 0 = omega arith in
    record { parameters = ap (λ (n : ℕ). eqb n 1) even; operation_is = omega arith; number_is = omega arith }

-- what is wrong behind the first octet, and the value there
pub record Behind (octets : List ℕ) (fault : Option TBad) (value : Tft) : Type 0 where
  pub faults : first_fault octets ≡ fault
  pub value_is : tft_at octets ≡ value

pub behind_create : (first : ℕ) (rest : List ℕ) (number : ℕ) → 0 < number → Begins first create_operation number
    → Behind (first ∷ rest) (filters_fault number [] rest) (Create (filters_at number rest))
behind_create first rest number lt b =
    let some = some_entries number lt in
    record {
      faults = rw (b.parameters, b.operation_is, b.number_is, some) refl;
      value_is = rw (b.operation_is, b.number_is) refl;
    }

pub behind_add : (first : ℕ) (rest : List ℕ) (number : ℕ) → 0 < number → Begins first add_operation number
    → Behind (first ∷ rest) (filters_fault number [] rest) (Add (filters_at number rest))
behind_add first rest number lt b =
    let some = some_entries number lt in
    record {
      faults = rw (b.parameters, b.operation_is, b.number_is, some) refl;
      value_is = rw (b.operation_is, b.number_is) refl;
    }

pub behind_replace : (first : ℕ) (rest : List ℕ) (number : ℕ) → 0 < number → Begins first replace_operation number
    → Behind (first ∷ rest) (filters_fault number [] rest) (Replace (filters_at number rest))
behind_replace first rest number lt b =
    let some = some_entries number lt in
    record {
      faults = rw (b.parameters, b.operation_is, b.number_is, some) refl;
      value_is = rw (b.operation_is, b.number_is) refl;
    }

pub behind_remove : (first : ℕ) (rest : List ℕ) (number : ℕ) → 0 < number → Begins first remove_operation number
    → Behind (first ∷ rest) (ids_fault number [] rest) (Remove (ids_at rest))
behind_remove first rest number lt b =
    let some = some_entries number lt in
    record { faults = rw (b.parameters, b.operation_is, b.number_is, some) refl; value_is = rw (b.operation_is) refl }

pub behind_delete : (first : ℕ) (rest : List ℕ) → Begins first delete_operation 0
    → Behind (first ∷ rest) (end_fault rest) Delete
behind_delete first rest b =
    record { faults = rw (b.parameters, b.operation_is, b.number_is) refl; value_is = rw b.operation_is refl }

pub behind_nothing : (first : ℕ) (rest : List ℕ) → Begins first no_operation 0
    → Behind (first ∷ rest) (end_fault rest) Nothing
behind_nothing first rest b =
    record { faults = rw (b.parameters, b.operation_is, b.number_is) refl; value_is = rw b.operation_is refl }

-- ---- what is spelled is read again

pub record IsReadAs (octets : List ℕ) (t : Tft) : Type 0 where
  pub faultless : first_fault octets ≡ None
  pub value : tft_at octets ≡ t

packet_filters_again : (fs : List Filter) (rest : List ℕ) → ArePacketFilters fs → SpellsFilters rest fs
    → (filters_fault (length fs) [] rest ≡ None) × (filters_at (length fs) rest ≡ fs)
packet_filters_again fs rest kept spelled =
    filters_again fs [] rest spelled kept.filters.each (fresh_from_distinct [] (ids fs) kept.filters.differ)

read_as : (octets : List ℕ) (fault : Option TBad) (value : Tft) (t : Tft) → Behind octets fault value → fault ≡ None
    → value ≡ t → IsReadAs octets t
read_as octets fault value t behind nothing is =
    record { faultless = behind.faults ∙ nothing; value = behind.value_is ∙ is }

pub tft_again : (octets : List ℕ) (t : Tft) → Spells octets t → IsReadAs octets t
tft_again octets (Create fs) s =
    let again = packet_filters_again fs s.1.0 s.0 s.1.2 in
    subst (λ (all : List ℕ). IsReadAs all (Create fs)) (sym s.1.1)
    (read_as (first_octet create_operation (length fs) ∷ s.1.0) (filters_fault (length fs) [] s.1.0)
    (Create (filters_at (length fs) s.1.0)) (Create fs)
    (behind_create (first_octet create_operation (length fs)) s.1.0 (length fs) s.0.some
    (begins create_operation (length fs) (omega (arith, s.0.few)))) again.0 (ap Create again.1))
tft_again octets Delete s =
    subst (λ (all : List ℕ). IsReadAs all Delete) (sym s.1)
    (read_as (first_octet delete_operation 0 ∷ []) None Delete Delete
    (behind_delete (first_octet delete_operation 0) [] (begins delete_operation 0 (omega arith))) refl refl)
tft_again octets (Add fs) s =
    let again = packet_filters_again fs s.1.0 s.0 s.1.2 in
    subst (λ (all : List ℕ). IsReadAs all (Add fs)) (sym s.1.1)
    (read_as (first_octet add_operation (length fs) ∷ s.1.0) (filters_fault (length fs) [] s.1.0)
    (Add (filters_at (length fs) s.1.0)) (Add fs)
    (behind_add (first_octet add_operation (length fs)) s.1.0 (length fs) s.0.some
    (begins add_operation (length fs) (omega (arith, s.0.few)))) again.0 (ap Add again.1))
tft_again octets (Replace fs) s =
    let again = packet_filters_again fs s.1.0 s.0 s.1.2 in
    subst (λ (all : List ℕ). IsReadAs all (Replace fs)) (sym s.1.1)
    (read_as (first_octet replace_operation (length fs) ∷ s.1.0) (filters_fault (length fs) [] s.1.0)
    (Replace (filters_at (length fs) s.1.0)) (Replace fs)
    (behind_replace (first_octet replace_operation (length fs)) s.1.0 (length fs) s.0.some
    (begins replace_operation (length fs) (omega (arith, s.0.few)))) again.0 (ap Replace again.1))
tft_again octets (Remove xs) s =
    let again = ids_again xs [] s.1.0 s.1.2 (fresh_from_distinct [] xs s.0.differ) in
    subst (λ (all : List ℕ). IsReadAs all (Remove xs)) (sym s.1.1)
    (read_as (first_octet remove_operation (length xs) ∷ s.1.0) (ids_fault (length xs) [] s.1.0)
    (Remove (ids_at s.1.0)) (Remove xs)
    (behind_remove (first_octet remove_operation (length xs)) s.1.0 (length xs) s.0.some
    (begins remove_operation (length xs) (omega (arith, s.0.few)))) again.0 (ap Remove again.1))
tft_again octets Nothing s =
    subst (λ (all : List ℕ). IsReadAs all Nothing) (sym s.1)
    (read_as (first_octet no_operation 0 ∷ []) None Nothing Nothing
    (behind_nothing (first_octet no_operation 0) [] (begins no_operation 0 (omega arith))) refl refl)

-- ---- what is read is spelled so

not_false : (b : Bool) → not b ≡ false → b ≡ true
not_false true e = refl
not_false false e = absurd cc

first_is : (first operation number : ℕ) → first < 256 → Begins first operation number
    → first ≡ first_octet operation number
first_is first operation number small b =
    let even : first / 16 % 2 ≢ 1 = eqb-false (first / 16 % 2) 1 b.parameters in
    omega (arith, b.operation_is, b.number_is, even)

entries_taken : (first : ℕ) (rest : List ℕ) (operation number : ℕ) → AreOctets (first ∷ rest) → 0 < number
    → number ≤ 15 → Begins first operation number → filters_fault number [] rest ≡ None
    → ArePacketFilters (filters_at number rest) × SpellsEntries (first ∷ rest) operation (filters_at number rest)
entries_taken first rest operation number small some few b nothing =
    let taken = filters_taken number [] rest (octets_rest first rest small) nothing in
    let kept : AreFilters (filters_at number rest)
    = record {
      each = taken.each;
      differ = distinct_from_fresh [] (ids (filters_at number rest)) none_differ taken.fresh;
    } in
    let head : first ≡ first_octet operation (length (filters_at number rest))
    = first_is first operation number (small 0) b ∙ ap (first_octet operation) (sym taken.count) in (
      record { filters = kept; some = omega (arith, taken.count, some); few = omega (arith, taken.count, few) },
      (rest, ap (λ (o : ℕ). o ∷ rest) head, taken.spelled),
    )

ids_taken_whole : (first : ℕ) (rest : List ℕ) (number : ℕ) → first < 256 → 0 < number → number ≤ 15
    → Begins first remove_operation number → ids_fault number [] rest ≡ None
    → Spells (first ∷ rest) (Remove (ids_at rest))
ids_taken_whole first rest number small some few b nothing =
    let taken = ids_taken number [] rest nothing in
    let head : first ≡ first_octet remove_operation (length (ids_at rest))
    = first_is first remove_operation number small b ∙ ap (first_octet remove_operation) (sym taken.count) in (
      record {
        each = taken.each;
        differ = distinct_from_fresh [] (ids_at rest) none_differ taken.fresh;
        some = omega (arith, taken.count, some);
        few = omega (arith, taken.count, few);
      },
      (rest, ap (λ (o : ℕ). o ∷ rest) head, taken.spelled),
    )

alone : (first : ℕ) (rest : List ℕ) (operation : ℕ) → first < 256 → Begins first operation 0 → end_fault rest ≡ None
    → first ∷ rest ≡ first_octet operation 0 ∷ []
alone first rest operation small b nothing =
    ap (λ (o : ℕ). o ∷ rest) (first_is first operation 0 small b)
    ∙ ap (λ (t : List ℕ). first_octet operation 0 ∷ t) (no_more rest nothing)

-- the value of octets whose fault and value are known
spelled_value : (octets : List ℕ) (fault : Option TBad) (value : Tft) → Behind octets fault value
    → first_fault octets ≡ None → (fault ≡ None → Spells octets value) → Spells octets (tft_at octets)
spelled_value octets fault value behind nothing spelled =
    subst (Spells octets) (sym behind.value_is) (spelled (sym behind.faults ∙ nothing))

pub tft_taken : (octets : List ℕ) → AreOctets octets → first_fault octets ≡ None → Spells octets (tft_at octets)
tft_taken [] small e = absurd cc
tft_taken (first ∷ rest) small e =
    let number = first % 16 in
    let entries = cond (has_filters (first / 32)) (filters_fault number [] rest)
    (cond (has_ids (first / 32)) (ids_fault number [] rest) (end_fault rest)) in
    let both = both_passed (first_octet_fault (first ∷ rest)) entries e in
    let parameters = passed (has_parameters first) bad.Parameters
    (cond (not (is_operation (first / 32) number)) (Some bad.Operation) None) both.0 in
    let operation = passed (not (is_operation (first / 32) number)) bad.Operation None parameters.1 in
    let few : first % 16 ≤ 15 = omega arith in
    let begins_as : (k : ℕ) → first / 32 ≡ k → Begins first k (first % 16)
    = λ k this. record { parameters = parameters.0; operation_is = this; number_is = refl } in
    let begins_alone : (k : ℕ) → first / 32 ≡ k → first % 16 ≡ 0 → Begins first k 0
    = λ k this none. record { parameters = parameters.0; operation_is = this; number_is = none } in
    elim (operation_cases (first / 32) (first % 16) (not_false _ operation.0)) [
      | inl some ↦ elim some.1 [
        | inl this ↦ spelled_value (first ∷ rest) (filters_fault (first % 16) [] rest)
            (Create (filters_at (first % 16) rest))
            (behind_create first rest (first % 16) some.0 (begins_as create_operation this)) e
            (entries_taken first rest create_operation (first % 16) small some.0 few (begins_as create_operation this))
        | inr others ↦ elim others [
          | inl this ↦ spelled_value (first ∷ rest) (filters_fault (first % 16) [] rest)
              (Add (filters_at (first % 16) rest))
              (behind_add first rest (first % 16) some.0 (begins_as add_operation this)) e
              (entries_taken first rest add_operation (first % 16) small some.0 few (begins_as add_operation this))
          | inr last_two ↦ elim last_two [
            | inl this ↦ spelled_value (first ∷ rest) (filters_fault (first % 16) [] rest)
                (Replace (filters_at (first % 16) rest))
                (behind_replace first rest (first % 16) some.0 (begins_as replace_operation this)) e
                (entries_taken first rest replace_operation (first % 16) small some.0 few
                (begins_as replace_operation this))
            | inr this ↦ spelled_value (first ∷ rest) (ids_fault (first % 16) [] rest) (Remove (ids_at rest))
                (behind_remove first rest (first % 16) some.0 (begins_as remove_operation this)) e
                (ids_taken_whole first rest (first % 16) (small 0) some.0 few (begins_as remove_operation this))
          ]
        ]
      ]
      | inr none ↦ elim none.1 [
        | inl this ↦ spelled_value (first ∷ rest) (end_fault rest) Delete
            (behind_delete first rest (begins_alone delete_operation this none.0)) e
            (λ nothing.
            (tt, alone first rest delete_operation (small 0) (begins_alone delete_operation this none.0) nothing))
        | inr this ↦ spelled_value (first ∷ rest) (end_fault rest) Nothing
            (behind_nothing first rest (begins_alone no_operation this none.0)) e
            (λ nothing. (tt, alone first rest no_operation (small 0) (begins_alone no_operation this none.0) nothing))
      ]
    ]

-- The entries of a piece that are of lines of another.
use Rattle.std.proofs.Common.{◌≡◌, ℕ, ◌+◌, ◌<◌, ◌≤◌, Bool, true, false, if◌then◌else◌, is_some, Option, Some, None, List, [], ◌∷◌, ◌++◌, length, take, drop, find, get_or, map, filter_map, refl, sym, ap, ◌∙◌, subst, arith, append-nil}
use Rattle.std.specs.Borrow.{Bor}
use Rattle.std.specs.Option.{option_or}
use Rattle.std.proofs.lemmas.List.{take-append-drop, take_all}
use Rattle.std.proofs.lemmas.List.Folds.{find-append}
use Rattle.std.proofs.lemmas.List.Elements.{filter_map-append}
use Rattle.report_lines.specs.declared.entry.Entry.{Entry}
use Rattle.report_lines.specs.declared.entry.LineEntry.{LineEntry}
use Rattle.audit_core.specs.Entries.{as_line, line_entries}
use Rattle.audit_core.specs.Matched.{entries_stood}
use Rattle.audit_core.specs.Pieces.{lent_line}
use Rattle.audit_core.specs.declared.report.Stood.{Stood}
use Rattle.audit_core.proofs.RestLemmas.{mapped_more}

find_past : {X : Type 0} (p : X → Bool) (xs ys : List X) → find p xs ≡ None → find p (xs ++ ys) ≡ find p ys
find_past p xs ys none = find-append p xs ys ∙ ap (λ first. option_or first (find p ys)) none

find_before : {X : Type 0} (p : X → Bool) (x : X) (xs ys : List X) → find p xs ≡ Some x → find p (xs ++ ys) ≡ Some x
find_before p x xs ys is = find-append p xs ys ∙ ap (λ first. option_or first (find p ys)) is

lines_more : (all : List Stood) (i : ℕ) (one : Stood) → i < length all → one ≡ get_or all i one
    → line_entries (entries_stood (take (i + 1) all))
    ≡ line_entries (entries_stood (take i all)) ++ line_entries (one.entry ∷ [])
lines_more all i one within is =
    ap line_entries (sym (mapped_more (λ (s : Stood). s.entry) [] all i one within is))
    ∙ filter_map-append as_line (entries_stood (take i all)) (one.entry ∷ [])

lines_parts : (all : List Stood) (i : ℕ)
    → line_entries (entries_stood all)
    ≡ line_entries (entries_stood (take i all)) ++ line_entries (entries_stood (drop i all))
lines_parts all i =
    ap (λ (l : List Stood). line_entries (entries_stood l)) (sym (take-append-drop i all))
    ∙ ap line_entries (entries_both (take i all) (drop i all))
    ∙ filter_map-append as_line (entries_stood (take i all)) (entries_stood (drop i all))
  where
    entries_both : (xs ys : List Stood) → entries_stood (xs ++ ys) ≡ entries_stood xs ++ entries_stood ys
    entries_both [] ys = refl
    entries_both (x ∷ xs) ys = ap (λ (l : List Entry). x.entry ∷ l) (entries_both xs ys)

lent_none : (found : Option (Bor LineEntry)) → is_some found ≡ false → lent_line found ≡ None
lent_none None is = refl
lent_none (Some told) is = absurd (cc)

lent_some : (found : Option (Bor LineEntry)) (its : Option LineEntry) → is_some found ≡ true → lent_line found ≡ its
    → (told : LineEntry) × (its ≡ Some told)
lent_some None its is same = absurd (cc)
lent_some (Some told) its is same = (told.now, sym same)

module _ (p : LineEntry → Bool) (all : List Stood) (i : ℕ) (one : Stood) (found : Option (Bor LineEntry))
    (within : i < length all) (is : one ≡ get_or all i one)
    (told : lent_line found ≡ find p (line_entries (one.entry ∷ [])))
    (none : find p (line_entries (entries_stood (take i all))) ≡ None) where
  -- one more that isn't
  pub none_next : is_some found ≡ false → find p (line_entries (entries_stood (take (i + 1) all))) ≡ None
  none_next empty =
      ap (find p) (lines_more all i one within is)
      ∙ find_past p (line_entries (entries_stood (take i all))) (line_entries (one.entry ∷ [])) none
      ∙ sym told ∙ lent_none found empty

  -- or it is the first
  here : (its : LineEntry) → find p (line_entries (one.entry ∷ [])) ≡ Some its
      → find p (line_entries (entries_stood (take (i + 1) all))) ≡ Some its
  here its same =
      ap (find p) (lines_more all i one within is)
      ∙ find_past p (line_entries (entries_stood (take i all))) (line_entries (one.entry ∷ [])) none ∙ same

  there : (its : LineEntry) → find p (line_entries (one.entry ∷ [])) ≡ Some its
      → find p (line_entries (entries_stood all)) ≡ Some its
  there its same =
      ap (find p) (lines_parts all (i + 1))
      ∙ find_before p its (line_entries (entries_stood (take (i + 1) all)))
      (line_entries (entries_stood (drop (i + 1) all))) (here its same)

  first_by : (its : LineEntry) × (find p (line_entries (one.entry ∷ [])) ≡ Some its)
      → lent_line found ≡ find p (line_entries (entries_stood all))
  first_by (its, same) = told ∙ same ∙ sym (there its same)

  pub first_there : is_some found ≡ true → lent_line found ≡ find p (line_entries (entries_stood all))
  first_there some = first_by (lent_some found (find p (line_entries (one.entry ∷ []))) some told)

pub none_all : (p : LineEntry → Bool) (all : List Stood) (i : ℕ) → length all ≤ i
    → find p (line_entries (entries_stood (take i all))) ≡ None → None ≡ find p (line_entries (entries_stood all))
none_all p all i past none =
    sym (ap (λ (l : List Stood). find p (line_entries (entries_stood l))) (sym (take_all i all past)) ∙ none)

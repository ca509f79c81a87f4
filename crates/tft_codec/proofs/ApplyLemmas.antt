-- What a template leaves of the filters of a bearer are filters of a bearer.
use Rattle.std.proofs.Common.{◌≡◌, ℕ, Bool, true, false, cond, ◌||◌, nat_eq, not, List, [], ◌∷◌, ◌++◌, map, Option, Some, Ok, Err, refl, sym, ap, subst, ◌∙◌}
use Rattle.std.specs.Prelude.{unwrap_or}
use Rattle.std.specs.List.{filter, find, list_any, list_all, AllByRecursion, IsDistinct}
use Rattle.std.proofs.lemmas.Bool.{eqb-true}
use Rattle.std.proofs.lemmas.Cmp.{nat_eq_equiv}
use Rattle.std.proofs.lemmas.List.{map-append}
use Rattle.tft_codec.specs.declared.fault.TftNo.TheVariants as no
use Rattle.tft_codec.specs.declared.filter.Filter.{Filter}
use Rattle.tft_codec.specs.declared.tft.Tft.{Tft}
use Rattle.tft_codec.specs.declared.tft.Tft.TheVariants.{Remove}
use Rattle.tft_codec.specs.Component.{has}
use Rattle.tft_codec.specs.Filter.{ids, IsFilter, AreFilters}
use Rattle.tft_codec.specs.Apply.{has_id, has_any, replaced, without, left, applied}
use Rattle.tft_codec.proofs.Lists.{has_map, each_append}

neither : (a b : Bool) → (a || b) ≡ false → (a ≡ false) × (b ≡ false)
neither true b e = absurd cc
neither false b e = (refl, e)

-- what holds of both holds of the one that is chosen
of_both : {X : Type 0} (P : X → Type 0) (b : Bool) (x y : X) → P x → P y → P (cond b x y)
of_both P true x y p q = p
of_both P false x y p q = q

-- ---- added

apart_from : (x : ℕ) (xs ys : List ℕ) → AllByRecursion (λ y. has (x ∷ xs) y ≡ false) ys
    → AllByRecursion (λ y. nat_eq x y ≡ false) ys × AllByRecursion (λ y. has xs y ≡ false) ys
apart_from x xs [] new = (tt, tt)
apart_from x xs (y ∷ ys) new =
    let first = neither (nat_eq y x) (has xs y) new.0 in
    let others = apart_from x xs ys new.1 in
    ((nat_eq_equiv.symm x y ∙ first.0, others.0), (first.1, others.1))

distinct_append : (xs ys : List ℕ) → IsDistinct nat_eq xs → IsDistinct nat_eq ys
    → AllByRecursion (λ y. has xs y ≡ false) ys → IsDistinct nat_eq (xs ++ ys)
unfolding IsDistinct
distinct_append [] ys prefix back new = back
distinct_append (x ∷ xs) ys prefix back new =
    let apart = apart_from x xs ys new in
    (each_append (λ y. nat_eq x y ≡ false) xs ys prefix.0 apart.0, distinct_append xs ys prefix.1 back apart.1)

each_new : (fs new : List Filter) → has_any fs new ≡ false → AllByRecursion (λ y. has (ids fs) y ≡ false) (ids new)
each_new fs [] e = tt
each_new fs (g ∷ gs) e =
    let both = neither (has_id fs g.id) (has_any fs gs) e in
    (has_map (λ (f : Filter). f.id) fs g.id ∙ both.0, each_new fs gs both.1)

pub added : (fs new : List Filter) → AreFilters fs → AreFilters new → has_any fs new ≡ false → AreFilters (fs ++ new)
added fs new kept fits apart = record {
  each = each_append IsFilter fs new kept.each fits.each;
  differ = rw (map-append (λ (f : Filter). f.id) fs new)
      (distinct_append (ids fs) (ids new) kept.differ fits.differ (each_new fs new apart));
}

-- ---- replaced

-- a filter of the same identifier that fits
abbrev IsFor : Filter → Filter → Type 0
IsFor f g = IsFilter g × (g.id ≡ f.id)

chosen_for : (f g : Filter) (later : Option Filter) (b : Bool) → nat_eq f.id g.id ≡ b → IsFilter g
    → IsFor f (unwrap_or later f) → IsFor f (unwrap_or (cond b (Some g) later) f)
chosen_for f g later true same fits others = (fits, sym (eqb-true f.id g.id same))
chosen_for f g later false same fits others = others

replaced_for : (new : List Filter) (f : Filter) → AllByRecursion IsFilter new → IsFilter f → IsFor f (replaced new f)
replaced_for [] f each fits = (fits, refl)
replaced_for (g ∷ gs) f each fits =
    chosen_for f g (find (λ h. nat_eq f.id h.id) gs) (nat_eq f.id g.id) refl each.0 (replaced_for gs f each.1 fits)

each_replaced : (new fs : List Filter) → AllByRecursion IsFilter new → AllByRecursion IsFilter fs
    → AllByRecursion IsFilter (map (replaced new) fs) × (ids (map (replaced new) fs) ≡ ids fs)
each_replaced new [] fits each = (tt, refl)
each_replaced new (f ∷ fs) fits each =
    let first = replaced_for new f fits each.0 in
    let others = each_replaced new fs fits each.1 in (
      (first.0, others.0),
      ap (λ (x : ℕ). x ∷ ids (map (replaced new) fs)) first.1
          ∙ ap (λ (xs : List ℕ). f.id ∷ xs) others.1,
    )

pub all_replaced : (new fs : List Filter) → AreFilters new → AreFilters fs → AreFilters (map (replaced new) fs)
all_replaced new fs fits kept =
    let both = each_replaced new fs fits.each kept.each in
    record { each = both.0; differ = subst (IsDistinct nat_eq) (sym both.1) kept.differ }

-- ---- removed

each_left : (P : Filter → Type 0) (p : Filter → Bool) (fs : List Filter) → AllByRecursion P fs
    → AllByRecursion P (filter p fs)
each_left P p [] each = tt
each_left P p (f ∷ fs) each =
    let others = each_left P p fs each.1 in
    of_both (AllByRecursion P) (p f) (f ∷ filter p fs) (filter p fs) (each.0, others) others

each_id_left : (Q : ℕ → Type 0) (p : Filter → Bool) (fs : List Filter) → AllByRecursion Q (ids fs)
    → AllByRecursion Q (ids (filter p fs))
each_id_left Q p [] each = tt
each_id_left Q p (f ∷ fs) each =
    let others = each_id_left Q p fs each.1 in
    of_both (λ (gs : List Filter). AllByRecursion Q (ids gs)) (p f) (f ∷ filter p fs) (filter p fs)
    (each.0, others) others

distinct_left : (p : Filter → Bool) (fs : List Filter) → IsDistinct nat_eq (ids fs)
    → IsDistinct nat_eq (ids (filter p fs))
unfolding IsDistinct
distinct_left p [] differ = tt
distinct_left p (f ∷ fs) differ =
    let others = distinct_left p fs differ.1 in
    of_both (λ (gs : List Filter). IsDistinct nat_eq (ids gs)) (p f) (f ∷ filter p fs) (filter p fs)
    (each_id_left (λ y. nat_eq f.id y ≡ false) p fs differ.0, others) others

pub left_without : (fs : List Filter) (gone : List ℕ) → AreFilters fs → AreFilters (without fs gone)
left_without fs gone kept =
    record {
      each = each_left IsFilter (λ f. not (has gone f.id)) fs kept.each;
      differ = distinct_left (λ f. not (has gone f.id)) fs kept.differ;
    }

-- ---- whether any is left

none_left : (p : Filter → Bool) (fs : List Filter) → list_any p fs ≡ false → filter p fs ≡ []
none_left p [] none = refl
none_left p (f ∷ fs) none =
    let both = neither (p f) (list_any p fs) none in
    rw both.0 (none_left p fs both.1)

some_left_at : (p : Filter → Bool) (f : Filter) (fs : List Filter) (b : Bool) → p f ≡ b → (b || list_any p fs) ≡ true
    → (list_any p fs ≡ true → left (filter p fs) ≡ Ok (filter p fs)) → left (filter p (f ∷ fs)) ≡ Ok (filter p (f ∷ fs))
some_left_at p f fs true is some later = rw is refl
some_left_at p f fs false is some later = rw is (later some)

some_left : (p : Filter → Bool) (fs : List Filter) → list_any p fs ≡ true → left (filter p fs) ≡ Ok (filter p fs)
some_left p [] some = absurd cc
some_left p (f ∷ fs) some = some_left_at p f fs (p f) refl some (some_left p fs)

pub empty_without : (fs : List Filter) (gone : List ℕ) → list_any (λ f. not (has gone f.id)) fs ≡ false
    → left (without fs gone) ≡ Err no.Empty
empty_without fs gone none = ap left (none_left (λ f. not (has gone f.id)) fs none)

pub left_of : (fs : List Filter) (gone : List ℕ) → list_any (λ f. not (has gone f.id)) fs ≡ true
    → left (without fs gone) ≡ Ok (without fs gone)
left_of fs gone some = some_left (λ f. not (has gone f.id)) fs some

-- a template that removes filters, where the lists are lent
pub removed_empty : (fs : List Filter) (t : Tft) (gone here : List ℕ) (kept : List Filter)
    → t ≡ Remove gone → here ≡ gone → kept ≡ fs
    → list_all (has_id kept) here ≡ true → list_any (λ f. not (has here f.id)) kept ≡ false
    → applied fs t ≡ Err no.Empty
removed_empty fs t gone here kept is same lent all none =
    let there : list_all (has_id fs) gone ≡ true = rw (← same, ← lent) all in
    let empty : left (without fs gone) ≡ Err no.Empty = rw (← same, ← lent) (empty_without kept here none) in
    ap (applied fs) is ∙ rw there empty

pub removed_some : (fs : List Filter) (t : Tft) (gone here : List ℕ) (kept : List Filter)
    → t ≡ Remove gone → here ≡ gone → kept ≡ fs
    → list_all (has_id kept) here ≡ true → list_any (λ f. not (has here f.id)) kept ≡ true
    → applied fs t ≡ Ok (without kept here)
removed_some fs t gone here kept is same lent all some =
    let there : list_all (has_id fs) gone ≡ true = rw (← same, ← lent) all in
    let others : left (without fs gone) ≡ Ok (without kept here) = rw (← same, ← lent) (left_of kept here some) in
    ap (applied fs) is ∙ rw there others

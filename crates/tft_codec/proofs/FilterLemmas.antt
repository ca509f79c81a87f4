-- Filters that are read are spelled so, and filters that are spelled are read again.
use Rattle.std.proofs.Common.{◌≡◌, ℕ, zero, suc, ◌+◌, ◌/◌, ◌%◌, ◌≤◌, ◌<◌, Bool, true, false, cond, ltb, List, [], ◌∷◌, ◌++◌, length, take, drop, Option, Some, None, refl, sym, ap, subst, ◌∙◌, arith}
use Rattle.std.specs.Prelude.{is_none, slice_index, unwrap_or}
use Rattle.std.specs.List.{AllByRecursion}
use Rattle.std.proofs.lemmas.Bool.{ltb-false, le-ltb, lt-ltb}
use Rattle.std.proofs.lemmas.List.{take_at, drop_at, take-append-drop, length-append, length-take}
use Rattle.tft_codec.specs.declared.fault.TBad.{TBad}
use Rattle.tft_codec.specs.declared.fault.TBad.TheVariants as bad
use Rattle.tft_codec.specs.declared.component.Component.{Component}
use Rattle.tft_codec.specs.declared.filter.Filter.{Filter}
use Rattle.tft_codec.specs.Component.{contents, has}
use Rattle.tft_codec.specs.Filter.{ids, IsFilter}
use Rattle.tft_codec.specs.Spelling.{filter_octet, filter_body, SpellsFilters}
use Rattle.tft_codec.specs.Reading.{components_of, components_or_none, id_at, contents_at, after_filter, filter_at, filters_at}
use Rattle.tft_codec.specs.Refusal.{or_else, end_fault, contents_fault, filter_fault, filters_fault}
use Rattle.wire_octets.specs.Numbers.{AreOctets}
use Rattle.tft_codec.proofs.Fields.{octets_take, octets_drop}
use Rattle.tft_codec.proofs.ContentsLemmas.{AreFresh, components_taken, components_again}

-- a chain of tests that found no fault
pub passed : (b : Bool) (fault : TBad) (later : Option TBad) → cond b (Some fault) later ≡ None
    → (b ≡ false) × (later ≡ None)
passed true fault later e = absurd cc
passed false fault later e = (refl, e)

pub both_passed : (a b : Option TBad) → or_else a b ≡ None → (a ≡ None) × (b ≡ None)
both_passed None b e = (refl, e)
both_passed (Some fault) b e = absurd cc

pub no_more : (octets : List ℕ) → end_fault octets ≡ None → octets ≡ []
no_more [] e = refl
no_more (octet ∷ octets) e = absurd cc

some_components : (read : Option (List Component)) → cond (is_none read) (Some bad.Component) None ≡ None
    → read ≡ Some (unwrap_or read [])
some_components None e = absurd cc
some_components (Some cs) e = refl

-- ---- the tests of one filter, in their order

pub fault_repeated : (seen octets : List ℕ) → 3 ≤ length octets → has seen (id_at octets) ≡ true
    → filter_fault seen octets ≡ Some bad.RepeatedId
unfolding filter_fault
fault_repeated seen octets head old =
    let headed : ltb (length octets) 3 ≡ false = le-ltb _ _ head in
    rw (headed, old) refl

pub fault_cut : (seen octets : List ℕ) → 3 ≤ length octets → has seen (id_at octets) ≡ false
    → length octets < 3 + slice_index octets 2 → filter_fault seen octets ≡ Some bad.Short
unfolding filter_fault
fault_cut seen octets head new cut =
    let headed : ltb (length octets) 3 ≡ false = le-ltb _ _ head in
    let short : ltb (length octets) (3 + slice_index octets 2) ≡ true = lt-ltb _ _ cut in
    rw (headed, new, short) refl

pub fault_contents : (seen octets : List ℕ) → 3 ≤ length octets → has seen (id_at octets) ≡ false
    → 3 + slice_index octets 2 ≤ length octets → filter_fault seen octets ≡ contents_fault (contents_at octets)
unfolding filter_fault
fault_contents seen octets head new whole =
    let headed : ltb (length octets) 3 ≡ false = le-ltb _ _ head in
    let long : ltb (length octets) (3 + slice_index octets 2) ≡ false = le-ltb _ _ whole in
    rw (headed, new, long) refl

pub filter_is : (octets : List ℕ) (cs : List Component) → cs ≡ components_or_none (contents_at octets)
    → ◌≡◌ {A = Filter}
    (record {
      id = id_at octets;
      direction = slice_index octets 0 / 16 % 4;
      precedence
          = slice_index octets 1;
      components = cs;
    }) (filter_at octets)
unfolding filter_at
filter_is octets cs these =
    ap (λ (ds : List Component). record {
      id = id_at octets;
      direction = slice_index octets 0 / 16 % 4;
      precedence
          = slice_index octets 1;
      components = ds;
    }) these

-- the octets of a filter in which there is no fault
record IsTaken (seen octets : List ℕ) : Type 0 where
  parts : octets ≡ slice_index octets 0 ∷ filter_body (filter_at octets) ++ after_filter octets
  first : slice_index octets 0 % 64 ≡ filter_octet (filter_at octets)
  new : has seen (id_at octets) ≡ false
  fits : IsFilter (filter_at octets)
  rest_small : AreOctets (after_filter octets)

filter_taken : (seen octets : List ℕ) → AreOctets octets → filter_fault seen octets ≡ None → IsTaken seen octets
unfolding filter_fault filter_at
filter_taken seen [] small e = absurd cc
filter_taken seen (a ∷ []) small e = absurd cc
filter_taken seen (a ∷ b ∷ []) small e = absurd cc
filter_taken seen (a ∷ b ∷ n ∷ octets) small e =
    let all = a ∷ b ∷ n ∷ octets in
    let head = passed (ltb (length all) 3) bad.Short
    (cond (has seen (id_at all)) (Some bad.RepeatedId)
    (cond (ltb (length all) (3 + n)) (Some bad.Short) (contents_fault (contents_at all)))) e in
    let id = passed (has seen (id_at all)) bad.RepeatedId
    (cond (ltb (length all) (3 + n)) (Some bad.Short) (contents_fault (contents_at all))) head.1 in
    let long = passed (ltb (length all) (3 + n)) bad.Short (contents_fault (contents_at all)) id.1 in
    let enough : n ≤ length octets = omega (arith, ltb-false (length all) (3 + n) long.0) in
    let rest_small : AreOctets octets = λ i. small (suc (suc (suc i))) in
    let read = some_components (components_of (take n octets)) long.1 in
    let taken = components_taken (take n octets) (components_or_none (take n octets))
    (octets_take n octets rest_small) read in
    let len : length (contents (components_or_none (take n octets))) ≡ n
    = ap length (sym taken.0) ∙ omega (arith, length-take n octets) in
    let tail : octets ≡ contents (components_or_none (take n octets)) ++ drop n octets
    = sym (take-append-drop n octets) ∙ ap (λ (t : List ℕ). t ++ drop n octets) taken.0 in
    record {
      parts = ap (λ (t : List ℕ). a ∷ b ∷ n ∷ t) tail
          ∙ ap (λ (m : ℕ). a ∷ b ∷ m ∷ contents (components_or_none (take n octets)) ++ drop n octets) (sym len);
      first = omega arith;
      new = id.0;
      fits = record { id = omega arith; direction = omega arith; precedence = small 1; components = taken.1 };
      rest_small = octets_drop n octets rest_small;
    }

-- the octets of several filters in which there is no fault
pub record AreFiltersTaken (n : ℕ) (seen octets : List ℕ) : Type 0 where
  pub spelled : SpellsFilters octets (filters_at n octets)
  pub each : AllByRecursion IsFilter (filters_at n octets)
  pub fresh : AreFresh seen (ids (filters_at n octets))
  pub count : length (filters_at n octets) ≡ n

id_of : (octets : List ℕ) → (filter_at octets).id ≡ id_at octets
unfolding filter_at
id_of octets = refl

pub filters_taken : (n : ℕ) (seen octets : List ℕ) → AreOctets octets → filters_fault n seen octets ≡ None
    → AreFiltersTaken n seen octets
unfolding filters_fault filters_at
filters_taken zero seen octets small e = record { spelled = no_more octets e; each = tt; fresh = tt; count = refl }
filters_taken (suc n) seen octets small e =
    let both = both_passed (filter_fault seen octets)
    (filters_fault n (seen ++ id_at octets ∷ []) (after_filter octets)) e in
    let first = filter_taken seen octets small both.0 in
    let others = filters_taken n (seen ++ id_at octets ∷ []) (after_filter octets) first.rest_small both.1 in
    record {
      spelled = (slice_index octets 0, after_filter octets, first.parts, first.first, others.spelled);
      each = (first.fits, others.each);
      fresh = rw (id_of octets) (first.new, others.fresh);
      count = ap suc others.count;
    }

-- a filter that is spelled is read again
record IsAgain (seen octets : List ℕ) (f : Filter) (rest : List ℕ) : Type 0 where
  fault : filter_fault seen octets ≡ None
  filter : filter_at octets ≡ f
  after : after_filter octets ≡ rest
  id : id_at octets ≡ f.id

filter_again : (seen : List ℕ) (first : ℕ) (f : Filter) (rest : List ℕ) → first % 64 ≡ filter_octet f → IsFilter f
    → has seen f.id ≡ false → IsAgain seen (first ∷ filter_body f ++ rest) f rest
unfolding filter_fault filter_at
filter_again seen first f rest first_is fits new =
    let text = contents f.components in
    let all = first ∷ filter_body f ++ rest in
    let id_is : first % 16 ≡ f.id = omega (arith, fits.id, fits.direction) in
    let direction_is : first / 16 % 4 ≡ f.direction = omega (arith, fits.id, fits.direction) in
    let prefix : take (length text) (text ++ rest) ≡ text = take_at text rest (length text) refl in
    let after : drop (length text) (text ++ rest) ≡ rest = drop_at text rest (length text) refl in
    let read : components_of (take (length text) (text ++ rest)) ≡ Some f.components
    = ap components_of prefix ∙ components_again f.components fits.components in
    let head : ltb (length all) 3 ≡ false = le-ltb _ _ (omega arith) in
    let long : ltb (length all) (3 + length text) ≡ false = le-ltb _ _ (omega (arith, length-append text rest)) in
    record {
      fault = rw (head, id_is, new, long, read) refl;
      filter = rw (id_is, direction_is, read) refl;
      after = after;
      id = id_is;
    }

pub filters_again : (fs : List Filter) (seen octets : List ℕ) → SpellsFilters octets fs → AllByRecursion IsFilter fs
    → AreFresh seen (ids fs) → (filters_fault (length fs) seen octets ≡ None) × (filters_at (length fs) octets ≡ fs)
unfolding filters_fault filters_at
filters_again [] seen octets spelled each fresh = (ap end_fault spelled, refl)
filters_again (f ∷ fs) seen octets spelled each fresh =
    let again = subst (λ (all : List ℕ). IsAgain seen all f spelled.1) (sym spelled.2)
    (filter_again seen spelled.0 f spelled.1 spelled.3 each.0 fresh.0) in
    let others = filters_again fs (seen ++ f.id ∷ []) spelled.1 spelled.4 each.1 fresh.1 in (
      rw (again.fault, again.id, again.after) others.0,
      rw (again.filter, again.after) (ap (λ (gs : List Filter). f ∷ gs) others.1),
    )

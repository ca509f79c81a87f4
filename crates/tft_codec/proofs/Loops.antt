-- Reading one after another, as the loops do.
use Rattle.std.proofs.Common.{◌≡◌, ℕ, zero, suc, ◌+◌, ◌-◌, ◌≤◌, ◌<◌, true, false, eqb, List, [], ◌∷◌, ◌++◌, length, map, Option, Some, None, refl, sym, ap, ◌∙◌, append_assoc, arith}
use Rattle.std.proofs.lemmas.List.{append-nil, map_push, nil_from_length}
use Rattle.std.proofs.lemmas.Bool.{eqb-true}
use Rattle.tft_codec.specs.declared.component.Component.{Component}
use Rattle.tft_codec.specs.Component.{type_octet, has}
use Rattle.tft_codec.specs.Reading.{◌>>=◌, component_of, components_from}
use Rattle.std.specs.Prelude.{◌%◌}
use Rattle.tft_codec.specs.declared.fault.TBad.{TBad}
use Rattle.tft_codec.specs.declared.fault.TBad.TheVariants as bad
use Rattle.tft_codec.specs.declared.filter.Filter.{Filter}
use Rattle.tft_codec.specs.Filter.{ids}
use Rattle.tft_codec.specs.Reading.{id_at, after_filter, filter_at, filters_at, ids_at}
use Rattle.tft_codec.specs.Refusal.{Says, end_fault, filter_fault, filters_fault, ids_fault}
use Rattle.tft_codec.proofs.ComponentLemmas.{component_found}

-- what was read before, and what is still read
abbrev pub with_prefix : {X : Type 0} → List X → Option (List X) → Option (List X)
with_prefix prefix None = None
with_prefix prefix (Some xs) = Some (prefix ++ xs)

regroup : {X : Type 0} (prefix : List X) (x : X) (read : Option (List X))
    → with_prefix prefix (read >>= λ xs. Some (x ∷ xs)) ≡ with_prefix (prefix ++ x ∷ []) read
regroup prefix x (Some xs) = ap (λ ys. Some ys) (sym (append_assoc prefix (x ∷ []) xs))
regroup prefix x None = refl

-- the octets that are left give the rest of the components
abbrev pub StillReads : List Component → List ℕ → Option (List Component) → Type 0
StillReads prefix octets total =
    (bound : ℕ) × (length octets ≤ bound)
    × (with_prefix prefix (components_from bound (map type_octet prefix) octets) ≡ total)

reads_on : (prefix : List Component) (bound kind : ℕ) (octets : List ℕ) (c : Component) (rest : List ℕ)
    (total : Option (List Component)) → length octets < bound
    → with_prefix prefix (components_from bound (map type_octet prefix) (kind ∷ octets)) ≡ total
    → component_of kind octets ≡ Some (c, rest) → has (map type_octet prefix) kind ≡ false
    → StillReads (prefix ++ c ∷ []) rest total
unfolding components_from
reads_on prefix zero kind octets c rest total lt so_far found new = absurd (omega arith)
reads_on prefix (suc bound) kind octets c rest total lt so_far found new =
    let f = component_found kind octets c rest found in
    let seen : map type_octet (prefix ++ c ∷ []) ≡ map type_octet prefix ++ kind ∷ []
    = map_push type_octet prefix c ∙ ap (λ (k : ℕ). map type_octet prefix ++ k ∷ []) (sym f.kind_is) in
    let step : with_prefix prefix (components_from (suc bound) (map type_octet prefix) (kind ∷ octets))
    ≡ with_prefix (prefix ++ c ∷ []) (components_from bound (map type_octet prefix ++ kind ∷ []) rest) =
    rw (found, new) (regroup prefix c (components_from bound (map type_octet prefix ++ kind ∷ []) rest)) in
    (bound, omega (arith, f.shorter), rw seen (sym step ∙ so_far))

pub still_reads : (prefix : List Component) (kind : ℕ) (octets : List ℕ) (c : Component) (rest : List ℕ)
    (total : Option (List Component)) → StillReads prefix (kind ∷ octets) total
    → component_of kind octets ≡ Some (c, rest) → has (map type_octet prefix) kind ≡ false
    → StillReads (prefix ++ c ∷ []) rest total
still_reads prefix kind octets c rest total so_far found new =
    reads_on prefix so_far.0 kind octets c rest total (omega (arith, so_far.1)) so_far.2 found new

unknown_at : (prefix : List Component) (bound kind : ℕ) (octets : List ℕ) (total : Option (List Component))
    → with_prefix prefix (components_from bound (map type_octet prefix) (kind ∷ octets)) ≡ total
    → component_of kind octets ≡ None → total ≡ None
unfolding components_from
unknown_at prefix zero kind octets total so_far found = sym so_far
unknown_at prefix (suc bound) kind octets total so_far found =
    let nothing : with_prefix prefix (components_from (suc bound) (map type_octet prefix) (kind ∷ octets)) ≡ None
    = rw found refl in
    sym so_far ∙ nothing

pub unknown : (prefix : List Component) (kind : ℕ) (octets : List ℕ) (total : Option (List Component))
    → StillReads prefix (kind ∷ octets) total → component_of kind octets ≡ None → total ≡ None
unknown prefix kind octets total so_far found = unknown_at prefix so_far.0 kind octets total so_far.2 found

twice_at : (prefix : List Component) (bound kind : ℕ) (octets : List ℕ) (c : Component) (rest : List ℕ)
    (total : Option (List Component))
    → with_prefix prefix (components_from bound (map type_octet prefix) (kind ∷ octets)) ≡ total
    → component_of kind octets ≡ Some (c, rest) → has (map type_octet prefix) kind ≡ true → total ≡ None
unfolding components_from
twice_at prefix zero kind octets c rest total so_far found old = sym so_far
twice_at prefix (suc bound) kind octets c rest total so_far found old =
    let nothing : with_prefix prefix (components_from (suc bound) (map type_octet prefix) (kind ∷ octets)) ≡ None
    = rw (found, old) refl in
    sym so_far ∙ nothing

pub twice : (prefix : List Component) (kind : ℕ) (octets : List ℕ) (c : Component) (rest : List ℕ)
    (total : Option (List Component)) → StillReads prefix (kind ∷ octets) total
    → component_of kind octets ≡ Some (c, rest) → has (map type_octet prefix) kind ≡ true → total ≡ None
twice prefix kind octets c rest total so_far found old =
    twice_at prefix so_far.0 kind octets c rest total so_far.2 found old

at_end : (prefix : List Component) (bound : ℕ) (total : Option (List Component))
    → with_prefix prefix (components_from bound (map type_octet prefix) []) ≡ total → total ≡ Some prefix
unfolding components_from
at_end prefix zero total so_far = sym so_far ∙ ap (λ ys. Some ys) (append-nil prefix)
at_end prefix (suc bound) total so_far = sym so_far ∙ ap (λ ys. Some ys) (append-nil prefix)

pub all_read : (prefix : List Component) (total : Option (List Component)) → StillReads prefix [] total
    → total ≡ Some prefix
all_read prefix total so_far = at_end prefix so_far.0 total so_far.2

-- whether octets stand behind the last entry
pub nothing_left : (octets : List ℕ) → eqb (length octets) 0 ≡ true → octets ≡ []
nothing_left octets e = nil_from_length octets (eqb-true _ _ e)

pub something_left : (octets : List ℕ) → eqb (length octets) 0 ≡ false → end_fault octets ≡ Some bad.Trailing
something_left [] e = absurd cc
something_left (octet ∷ octets) e = refl

-- ---- filters

-- the octets that are left have the faults and the filters that the whole still had
pub record StillFilters (prefix : List Filter) (left : ℕ) (octets : List ℕ) (fault : Option TBad)
    (total : List Filter) : Type 0 where
  pub faults : filters_fault left (ids prefix) octets ≡ fault
  pub value : prefix ++ filters_at left octets ≡ total

pub filters_begin : (prefix : List Filter) (n : ℕ) (octets : List ℕ) → prefix ≡ []
    → StillFilters prefix (n - 0) octets (filters_fault n [] octets) (filters_at n octets)
filters_begin prefix n octets nothing =
    let all : n - 0 ≡ n = omega arith in rw (nothing, all) (record { faults = refl; value = refl })

filters_step : (prefix : List Filter) (left : ℕ) (octets : List ℕ) (fault : Option TBad) (total : List Filter)
    → StillFilters prefix (suc left) octets fault total → filter_fault (ids prefix) octets ≡ None
    → StillFilters (prefix ++ filter_at octets ∷ []) left (after_filter octets) fault total
unfolding filters_fault filters_at filter_at
filters_step prefix left octets fault total so_far fine =
    let seen : ids (prefix ++ filter_at octets ∷ []) ≡ ids prefix ++ id_at octets ∷ []
    = map_push (λ (f : Filter). f.id) prefix (filter_at octets) in
    let step : filters_fault (suc left) (ids prefix) octets
    ≡ filters_fault left (ids prefix ++ id_at octets ∷ []) (after_filter octets) = rw fine refl in
    record {
      faults = rw seen (sym step ∙ so_far.faults);
      value = append_assoc prefix (filter_at octets ∷ []) (filters_at left (after_filter octets)) ∙ so_far.value;
    }

pub filters_on : (prefix : List Filter) (n i : ℕ) (octets : List ℕ) (fault : Option TBad) (total : List Filter) → i < n
    → StillFilters prefix (n - i) octets fault total → filter_fault (ids prefix) octets ≡ None
    → StillFilters (prefix ++ filter_at octets ∷ []) (n - (i + 1)) (after_filter octets) fault total
filters_on prefix n i octets fault total lt so_far fine =
    let one_less : n - i ≡ suc (n - (i + 1)) = omega arith in
    filters_step prefix (n - (i + 1)) octets fault total (rw one_less at so_far) fine

filters_stop : (prefix : List Filter) (left : ℕ) (octets : List ℕ) (fault : Option TBad) (total : List Filter)
    (this : TBad) → StillFilters prefix (suc left) octets fault total → filter_fault (ids prefix) octets ≡ Some this
    → fault ≡ Some this
unfolding filters_fault
filters_stop prefix left octets fault total this so_far found =
    let step : filters_fault (suc left) (ids prefix) octets ≡ Some this = rw found refl in
    sym so_far.faults ∙ step

-- what an error says of one fault it says of another, where that is the same
pub says_on : (e : TBad) (a b : Option TBad) → ((this : TBad) → a ≡ Some this → b ≡ Some this) → Says e a → Says e b
says_on bad.NoMemory a b same said = tt
says_on bad.Short a b same said = same bad.Short said
says_on bad.Parameters a b same said = same bad.Parameters said
says_on bad.Operation a b same said = same bad.Operation said
says_on bad.Component a b same said = same bad.Component said
says_on bad.RepeatedId a b same said = same bad.RepeatedId said
says_on bad.Trailing a b same said = same bad.Trailing said

pub filters_fail : (prefix : List Filter) (n i : ℕ) (octets : List ℕ) (fault : Option TBad) (total : List Filter)
    (e : TBad) → i < n → StillFilters prefix (n - i) octets fault total → Says e (filter_fault (ids prefix) octets)
    → Says e fault
filters_fail prefix n i octets fault total e lt so_far said =
    let one_less : n - i ≡ suc (n - (i + 1)) = omega arith in
    says_on e (filter_fault (ids prefix) octets) fault
    (λ this found. filters_stop prefix (n - (i + 1)) octets fault total this (rw one_less at so_far) found) said

pub filters_end : (prefix : List Filter) (n i : ℕ) (octets : List ℕ) (fault : Option TBad) (total : List Filter)
    → n ≤ i → StillFilters prefix (n - i) octets fault total → (end_fault octets ≡ fault) × (prefix ≡ total)
unfolding filters_fault filters_at
filters_end prefix n i octets fault total le so_far =
    let none_left : n - i ≡ 0 = omega arith in
    let at_zero : StillFilters prefix 0 octets fault total = rw none_left at so_far in
    (at_zero.faults, sym (append-nil prefix) ∙ at_zero.value)

-- ---- identifiers

pub record StillIds (prefix : List ℕ) (left : ℕ) (octets : List ℕ) (fault : Option TBad) (total : List ℕ) : Type 0 where
  pub faults : ids_fault left prefix octets ≡ fault
  pub value : prefix ++ ids_at octets ≡ total

pub ids_begin : (prefix : List ℕ) (n : ℕ) (octets : List ℕ) → prefix ≡ []
    → StillIds prefix (n - 0) octets (ids_fault n [] octets) (ids_at octets)
ids_begin prefix n octets nothing =
    let all : n - 0 ≡ n = omega arith in rw (nothing, all) (record { faults = refl; value = refl })

ids_step : (prefix : List ℕ) (left octet : ℕ) (octets : List ℕ) (fault : Option TBad) (total : List ℕ)
    → StillIds prefix (suc left) (octet ∷ octets) fault total → has prefix (octet % 16) ≡ false
    → StillIds (prefix ++ octet % 16 ∷ []) left octets fault total
unfolding ids_fault
ids_step prefix left octet octets fault total so_far new =
    let step : ids_fault (suc left) prefix (octet ∷ octets) ≡ ids_fault left (prefix ++ octet % 16 ∷ []) octets
    = rw new refl in
    record {
      faults = sym step ∙ so_far.faults;
      value = append_assoc prefix (octet % 16 ∷ []) (ids_at octets) ∙ so_far.value;
    }

pub ids_on : (prefix : List ℕ) (n i octet : ℕ) (octets : List ℕ) (fault : Option TBad) (total : List ℕ) → i < n
    → StillIds prefix (n - i) (octet ∷ octets) fault total → has prefix (octet % 16) ≡ false
    → StillIds (prefix ++ octet % 16 ∷ []) (n - (i + 1)) octets fault total
ids_on prefix n i octet octets fault total lt so_far new =
    let one_less : n - i ≡ suc (n - (i + 1)) = omega arith in
    ids_step prefix (n - (i + 1)) octet octets fault total (rw one_less at so_far) new

twice_id : (prefix : List ℕ) (left octet : ℕ) (octets : List ℕ) (fault : Option TBad) (total : List ℕ)
    → StillIds prefix (suc left) (octet ∷ octets) fault total → has prefix (octet % 16) ≡ true
    → fault ≡ Some bad.RepeatedId
unfolding ids_fault
twice_id prefix left octet octets fault total so_far old =
    let step : ids_fault (suc left) prefix (octet ∷ octets) ≡ Some bad.RepeatedId = rw old refl in
    sym so_far.faults ∙ step

pub ids_twice : (prefix : List ℕ) (n i octet : ℕ) (octets : List ℕ) (fault : Option TBad) (total : List ℕ) → i < n
    → StillIds prefix (n - i) (octet ∷ octets) fault total → has prefix (octet % 16) ≡ true → fault ≡ Some bad.RepeatedId
ids_twice prefix n i octet octets fault total lt so_far old =
    let one_less : n - i ≡ suc (n - (i + 1)) = omega arith in
    twice_id prefix (n - (i + 1)) octet octets fault total (rw one_less at so_far) old

short_id : (prefix : List ℕ) (left : ℕ) (fault : Option TBad) (total : List ℕ)
    → StillIds prefix (suc left) [] fault total → fault ≡ Some bad.Short
unfolding ids_fault
short_id prefix left fault total so_far = sym so_far.faults

pub ids_short : (prefix : List ℕ) (n i : ℕ) (fault : Option TBad) (total : List ℕ) → i < n
    → StillIds prefix (n - i) [] fault total → fault ≡ Some bad.Short
ids_short prefix n i fault total lt so_far =
    let one_less : n - i ≡ suc (n - (i + 1)) = omega arith in
    short_id prefix (n - (i + 1)) fault total (rw one_less at so_far)

pub ids_end : (prefix : List ℕ) (n i : ℕ) (octets : List ℕ) (fault : Option TBad) (total : List ℕ) → n ≤ i
    → StillIds prefix (n - i) octets fault total → (end_fault octets ≡ fault) × (prefix ++ ids_at octets ≡ total)
unfolding ids_fault
ids_end prefix n i octets fault total le so_far =
    let none_left : n - i ≡ 0 = omega arith in
    let at_zero : StillIds prefix 0 octets fault total = rw none_left at so_far in
    (at_zero.faults, at_zero.value)

-- What a fault says: one of a header comes first, and one of an element is of instance 0.
use Rattle.std.proofs.Common.{inl, inr, sym, ◌≡◌, ℕ, ◌+◌, ◌-◌, ◌≤◌, Bool, true, false, eqb, ltb, cond, not, ◌||◌, List, [], ◌∷◌, length, Option, Some, None, Result, Ok, Err, refl, ap, subst, ◌∙◌, arith}
use Rattle.std.specs.Prelude.{IfSome}
use Rattle.std.specs.List.{find, list_any, AllByRecursion}
use Rattle.std.specs.Option.{is_some, option_or}
use Rattle.std.proofs.lemmas.Bool.{eqb-true, ltb-false}
use Rattle.std.specs.Global.{Vec}
use Rattle.gtpv2_ie.proofs.StandLemmas.{ies_of-memory}
use Rattle.gtpv2_ie.specs.declared.fault.IeBad.{IeBad}
use Rattle.gtpv2_ie.specs.declared.fault.IeBad.TheVariants.{NoMemory}
use Rattle.gtpv2_ie.specs.declared.kind.IeKind.{IeKind}
use Rattle.gtpv2_ie.specs.declared.kind.IeKind.TheVariants as kinds
use Rattle.gtpv2_ie.specs.declared.raw.RawIe.{RawIe}
use Rattle.gtpv2_ie.specs.Kind.{type_octet}
use Rattle.gtpv2_ie.specs.Stand.{ies_of}
use Rattle.gtpv2_msg.specs.declared.element.ReadIe.{ReadIe}
use Rattle.gtpv2_msg.specs.declared.fault.CBad.{CBad}
use Rattle.gtpv2_msg.specs.declared.fault.CBad.TheVariants as bads
use Rattle.gtpv2_msg.specs.declared.table.Part.{Part}
use Rattle.gtpv2_msg.specs.declared.table.Part.TheVariants as parts
use Rattle.gtpv2_msg.specs.Elements.{read_ies, contexts_in}
use Rattle.gtpv2_msg.specs.Header.{IsRight, version_of, has_piggyback, has_teid, kind_of, end_of, header_len, body_of}
use Rattle.gtpv2_msg.specs.Kinds.{requests, is_request, is_kind}
use Rattle.gtpv2_msg.specs.Refusal.{header_fault, has_wrong_length, elements_fault, body_fault, first_fault, IsRefusal, IsFraming}
use Rattle.gtpv2_msg.specs.Required.{RequiredIes, required}
use Rattle.gtpv2_msg.specs.RowFault.{is_first, element_fault, kind_fault, first_ebi, held_ebi, is_zero, zero_fault, part_fault, kinds_fault, parts_fault, context_fault, inside_fault, contexts_fault, row_fault}

-- a fault of a header
abbrev OfHeader : CBad → Type 0
OfHeader (bads.Missing kind instance) = ⊥
OfHeader (bads.Incorrect kind instance) = ⊥
OfHeader bad = Unit {0}

-- a fault of a required element, of instance 0
abbrev OfElement : CBad → Type 0
OfElement (bads.Missing kind instance) = instance ≡ 0
OfElement (bads.Incorrect kind instance) = instance ≡ 0
OfElement bad = ⊥

-- a fault of an element is of instance 0
abbrev OfFirst : CBad → Type 0
OfFirst (bads.Missing kind instance) = instance ≡ 0
OfFirst (bads.Incorrect kind instance) = instance ≡ 0
OfFirst bad = Unit {0}

one_test : (P : CBad → Type 0) (test : Bool) (bad : CBad) (rest : Option CBad) → P bad → IfSome rest P
    → IfSome (cond test (Some bad) rest) P
one_test P true bad rest first others = first
one_test P false bad rest first others = others

no_test : (P : CBad → Type 0) (test : Bool) (bad : CBad) → P bad → IfSome (cond test None (Some bad)) P
no_test P true bad is = tt
no_test P false bad is = is

either : (P : CBad → Type 0) (first second : Option CBad) → IfSome first P → IfSome second P
    → IfSome (option_or first second) P
either P None second is_first is_second = is_second
either P (Some bad) second is_first is_second = is_first

header_faults : (P : CBad → Type 0) → P bads.Short → P bads.Version → P bads.Piggyback → P bads.Length → P bads.Kind
    → (octets : List ℕ) → IfSome (header_fault octets) P
header_faults P short version piggyback len kind octets =
    one_test P (ltb (length octets) 8) bads.Short _ short
    (one_test P (not (eqb (version_of octets) 2)) bads.Version _ version
    (one_test P (has_piggyback octets) bads.Piggyback _ piggyback
    (one_test P (has_wrong_length octets) bads.Length _ len
    (one_test P (not (is_kind (kind_of octets))) bads.Kind None kind tt))))

of_element : (kind : IeKind) (ie : Option ReadIe) → IfSome (element_fault kind ie) OfElement
of_element kind None = refl
of_element kind (Some ie) = no_test OfElement (is_some ie.element) (bads.Incorrect (type_octet kind) 0) refl

of_kind : (ies : List ReadIe) (kind : IeKind) → IfSome (kind_fault ies kind) OfElement
of_kind ies kind = of_element kind (find (is_first (type_octet kind)) ies)

of_kinds : (ies : List ReadIe) (kinds : List IeKind) → IfSome (kinds_fault ies kinds) OfElement
of_kinds ies [] = tt
of_kinds ies (kind ∷ kinds) =
    either OfElement (kind_fault ies kind) (kinds_fault ies kinds) (of_kind ies kind) (of_kinds ies kinds)

of_part : (ies : List ReadIe) (part : Part) → IfSome (part_fault ies part) OfElement
of_part ies (parts.Ie kind) = of_kind ies kind
of_part ies parts.AssignedEbi =
    either OfElement (kind_fault ies kinds.Ebi) (zero_fault ies) (of_kind ies kinds.Ebi)
    (one_test OfElement (is_zero (first_ebi ies) || is_zero (held_ebi ies)) (bads.Incorrect 73 0) None refl tt)

of_parts : (ies : List ReadIe) (parts : List Part) → IfSome (parts_fault ies parts) OfElement
of_parts ies [] = tt
of_parts ies (part ∷ parts) =
    either OfElement (part_fault ies part) (parts_fault ies parts) (of_part ies part) (of_parts ies parts)

of_context : (inside : List Part) (ies : Option (List ReadIe)) → IfSome (context_fault inside ies) OfElement
of_context inside None = refl
of_context inside (Some ies) = of_parts ies inside

of_inside : (inside : List Part) (contexts : List (Option (List ReadIe)))
    → IfSome (inside_fault inside contexts) OfElement
of_inside inside [] = tt
of_inside inside (context ∷ contexts) =
    either OfElement (context_fault inside context) (inside_fault inside contexts) (of_context inside context)
    (of_inside inside contexts)

of_contexts : (must : Bool) (inside : List Part) (contexts : List (Option (List ReadIe)))
    → IfSome (contexts_fault must inside contexts) OfElement
of_contexts true inside [] = refl
of_contexts true inside (context ∷ contexts) = of_inside inside (context ∷ contexts)
of_contexts false inside contexts = of_inside inside contexts

of_row : (row : RequiredIes) (ies : List ReadIe) (contexts : List (Option (List ReadIe)))
    → IfSome (row_fault row ies contexts) OfElement
of_row row ies contexts =
    let inside : Option CBad = contexts_fault row.must row.inside contexts in
    either OfElement (kinds_fault ies row.before) (option_or inside (kinds_fault ies row.after))
    (of_kinds ies row.before)
    (either OfElement inside (kinds_fault ies row.after) (of_contexts row.must row.inside contexts)
    (of_kinds ies row.after))

first_if : (bad : CBad) → OfElement bad → OfFirst bad
first_if bads.Short is = tt
first_if bads.Version is = tt
first_if bads.Piggyback is = tt
first_if bads.Length is = tt
first_if bads.Kind is = tt
first_if (bads.Missing kind instance) is = is
first_if (bads.Incorrect kind instance) is = is
first_if bads.NoMemory is = tt

all_first : (fault : Option CBad) → IfSome fault OfElement → IfSome fault OfFirst
all_first None is = tt
all_first (Some bad) is = first_if bad is

of_body : (kind : ℕ) (octets : List ℕ) (read : Result (List RawIe) IeBad)
    → IfSome (elements_fault kind octets read) OfFirst
of_body kind octets (Ok raws) = all_first _ (of_row (required kind) (read_ies octets raws) (contexts_in octets raws))
of_body kind octets (Err bad) = tt

-- where the elements of a body read, no fault is one of the framing
element_not_framing : (bad : CBad) → OfElement bad → IsFraming bad → ⊥
element_not_framing (bads.Missing kind instance) is framing = framing
element_not_framing (bads.Incorrect kind instance) is framing = framing
element_not_framing _ is framing = is

pub not_framing : {X : Type 0} (kind : ℕ) (octets : List ℕ) (raws : List RawIe) (result : Result X CBad)
    → ies_of octets ≡ Ok raws
    → IfSome (body_fault kind octets) (λ bad. IsFraming bad → result ≡ Err bad)
not_framing kind octets raws result read =
    let fault : body_fault kind octets ≡ row_fault (required kind) (read_ies octets raws) (contexts_in octets raws) =
    ap (elements_fault kind octets) read in
    subst (λ (f : Option CBad). IfSome f (λ bad. IsFraming bad → result ≡ Err bad)) (sym fault)
    (each (row_fault (required kind) (read_ies octets raws) (contexts_in octets raws))
    (of_row (required kind) (read_ies octets raws) (contexts_in octets raws)))
  where
    each : (f : Option CBad) → IfSome f OfElement → IfSome f (λ bad. IsFraming bad → result ≡ Err bad)
    each None is = tt
    each (Some bad) is = λ framing. absurd (element_not_framing bad is framing)

-- nor is there one where memory ran out
pub memory_not_framing : {X : Type 0} (kind : ℕ) (octets : List ℕ) (result : Result X CBad)
    (read : Result (Vec RawIe) IeBad)
    → read ≡ Err NoMemory → ((bad : IeBad) → ies_of octets ≡ Err bad → read ≡ Err bad)
    → IfSome (body_fault kind octets) (λ bad. IsFraming bad → result ≡ Err bad)
memory_not_framing kind octets result read is fault = by_reading (ies_of octets) refl
  where
    by_reading : (found : Result (List RawIe) IeBad) → ies_of octets ≡ found
        → IfSome (body_fault kind octets) (λ bad. IsFraming bad → result ≡ Err bad)
    by_reading (Ok raws) found = not_framing kind octets raws result found
    by_reading (Err bad) found =
        let told : read ≡ Err bad = fault bad found in
        let memory : bad ≡ NoMemory = cc in
        absurd (ies_of-memory octets (found ∙ ap Err memory))

of_first : (octets : List ℕ) → IfSome (first_fault octets) OfFirst
of_first octets =
    either OfFirst (header_fault octets) (body_fault (kind_of octets) (body_of octets))
    (header_faults OfFirst tt tt tt tt tt octets)
    (of_body (kind_of octets) (body_of octets) (ies_of (body_of octets)))

of_some : (P : CBad → Type 0) (fault : Option CBad) (bad : CBad) → IfSome fault P → fault ≡ Some bad → P bad
of_some P fault bad is told = let at : IfSome (Some bad) P = subst (λ f. IfSome f P) told is in at

pub first_missing : (octets : List ℕ) (kind instance : ℕ) → IsRefusal octets (bads.Missing kind instance) → instance ≡ 0
first_missing octets kind instance refused = elim refused [
  | inl is ↦ of_some OfFirst (first_fault octets) (bads.Missing kind instance) (of_first octets) is
  | inr memory ↦ absurd cc
]

pub first_incorrect : (octets : List ℕ) (kind instance : ℕ) → IsRefusal octets (bads.Incorrect kind instance)
    → instance ≡ 0
first_incorrect octets kind instance refused = elim refused [
  | inl is ↦ of_some OfFirst (first_fault octets) (bads.Incorrect kind instance) (of_first octets) is
  | inr memory ↦ absurd cc
]

-- ---- a header without a fault is right

behind : (header body : Option CBad) (bad : CBad) → IfSome header OfHeader → option_or header body ≡ Some bad
    → (OfHeader bad → ⊥) → header ≡ None
behind None body bad is told other = refl
behind (Some first) body bad is told other = absurd (other (of_some OfHeader (Some first) bad is told))

untold : (test : Bool) (bad : CBad) (rest : Option CBad) → cond test (Some bad) rest ≡ None
    → (test ≡ false) × (rest ≡ None)
untold true bad rest none = absurd cc
untold false bad rest none = (refl, none)

not_false : (test : Bool) → not test ≡ false → test ≡ true
not_false true is = refl
not_false false is = absurd cc

neither : (first second : Bool) → (first || second) ≡ false → (first ≡ false) × (second ≡ false)
neither true second is = absurd cc
neither false second is = (refl, is)

pub right_of : (octets : List ℕ) → header_fault octets ≡ None → IsRight octets
right_of octets none =
    let short = untold (ltb (length octets) 8) bads.Short _ none in
    let version = untold (not (eqb (version_of octets) 2)) bads.Version _ short.1 in
    let piggyback = untold (has_piggyback octets) bads.Piggyback _ version.1 in
    let len = untold (has_wrong_length octets) bads.Length _ piggyback.1 in
    let kind = untold (not (is_kind (kind_of octets))) bads.Kind None len.1 in
    let lens = neither (ltb (length octets) (end_of octets))
    (ltb (end_of octets) (header_len (has_teid octets))) len.0 in
    record {
      least = ltb-false _ _ short.0;
      version = eqb-true _ _ (not_false _ version.0);
      alone = piggyback.0;
      whole = ltb-false _ _ lens.1;
      inside = ltb-false _ _ lens.0;
      kind = not_false _ kind.0;
    }

right_before : (octets : List ℕ) (bad : CBad) → (OfHeader bad → ⊥) → first_fault octets ≡ Some bad → IsRight octets
right_before octets bad other is =
    right_of octets (behind (header_fault octets) (body_fault (kind_of octets) (body_of octets)) bad
    (header_faults OfHeader tt tt tt tt tt octets) is other)

-- where an element is at fault the header is right
pub right_missing : (octets : List ℕ) (kind instance : ℕ) → IsRefusal octets (bads.Missing kind instance)
    → IsRight octets
right_missing octets kind instance refused = elim refused [
  | inl is ↦ right_before octets (bads.Missing kind instance) (λ none. none) is
  | inr memory ↦ absurd cc
]

pub right_incorrect : (octets : List ℕ) (kind instance : ℕ) → IsRefusal octets (bads.Incorrect kind instance)
    → IsRight octets
right_incorrect octets kind instance refused = elim refused [
  | inl is ↦ right_before octets (bads.Incorrect kind instance) (λ none. none) is
  | inr memory ↦ absurd cc
]

-- ---- the answer to a request is a known type

one_below : (most kind x : ℕ) (is any : Bool) → eqb x kind ≡ is → x ≤ most → (any ≡ true → kind ≤ most)
    → (is || any) ≡ true → kind ≤ most
one_below most kind x true any same le others some =
    let equal : x ≡ kind = eqb-true _ _ same in omega (arith, equal, le)
one_below most kind x false any same le others some = others some

below : (most kind : ℕ) (xs : List ℕ) → AllByRecursion (λ x. x ≤ most) xs → list_any (λ x. eqb x kind) xs ≡ true
    → kind ≤ most
below most kind [] all any = absurd cc
below most kind (x ∷ xs) all any =
    one_below most kind x (eqb x kind) (list_any (λ y. eqb y kind) xs) refl all.0 (below most kind xs all.1) any

pub request_small : (kind : ℕ) → is_request kind ≡ true → kind ≤ 176
unfolding is_request
request_small kind is =
    below 176 kind requests (
      omega arith,
      (
        omega arith,
        (omega arith, (omega arith, (omega arith, (omega arith, (omega arith, (omega arith, (omega arith, tt))))))),
      ),
    ) is

or_true : (first : Bool) → (first || true) ≡ true
or_true true = refl
or_true false = refl

pub answer_known : (kind : ℕ) → is_request kind ≡ true → is_kind (kind + 1) ≡ true
unfolding is_kind
answer_known kind is =
    let back : kind + 1 - 1 ≡ kind = omega arith in
    ap (λ k. is_request (kind + 1) || is_request k) back ∙ ap (λ b. is_request (kind + 1) || b) is
    ∙ or_true (is_request (kind + 1))

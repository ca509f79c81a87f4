-- What octets spell has what its type asks for.
use Rattle.std.proofs.Common.{◌≡◌, ℕ, zero, suc, Bool, true, false, eqb, ltb, cond, ◌&&◌, ◌||◌, List, [], ◌∷◌, length, Option, Some, None, Result, Ok, Err, refl, sym, ap, subst, ◌∙◌, arith}
use Rattle.std.specs.Prelude.{IfSome, IfOk}
use Rattle.std.specs.List.{find, list_any, cons_option, AllByRecursion}
use Rattle.std.specs.Option.{is_some, option_map, option_and_then, option_or}
use Rattle.std.proofs.lemmas.Bool.{eqb-true, le-ltb}
use Rattle.gtpv2_ie.specs.declared.context.Context.{Context}
use Rattle.gtpv2_ie.specs.declared.fault.IeBad.{IeBad}
use Rattle.gtpv2_ie.specs.declared.fteid.Fteid.{Fteid}
use Rattle.gtpv2_ie.specs.declared.kind.IeKind.{IeKind}
use Rattle.gtpv2_ie.specs.declared.kind.IeKind.TheVariants as kinds
use Rattle.gtpv2_ie.specs.declared.raw.RawIe.{RawIe}
use Rattle.gtpv2_ie.specs.declared.value.IeValue.{IeValue}
use Rattle.gtpv2_ie.specs.declared.value.IeValue.TheVariants as values
use Rattle.gtpv2_ie.specs.Context.{first_of, ebi_value, cause_value, tft_value, qos_value, fteid_value, context_with}
use Rattle.gtpv2_ie.specs.Element.{Element}
use Rattle.gtpv2_ie.specs.Fields.{ebi_of, pdn_of, paa_of, octets_of, cause_of, fteid_of}
use Rattle.gtpv2_ie.specs.Imsi.{imsi_of}
use Rattle.gtpv2_ie.specs.Kind.{row, no_context, least_len, type_octet, all_kinds, kind_at}
use Rattle.gtpv2_ie.specs.Spelling.{kind_of}
use Rattle.gtpv2_ie.specs.Stand.{ies_of, value_in}
use Rattle.gtpv2_ie.specs.Value.{kind_value, value_at, element_at, inner_elements, context_of}
use Rattle.gtpv2_msg.specs.declared.element.ReadIe.{ReadIe}
use Rattle.gtpv2_msg.specs.declared.fault.CBad.{CBad}
use Rattle.gtpv2_msg.specs.declared.fault.CBad.TheVariants.{Incorrect}
use Rattle.gtpv2_msg.specs.declared.table.Part.{Part}
use Rattle.gtpv2_msg.specs.declared.table.Part.TheVariants as parts
use Rattle.gtpv2_msg.specs.Elements.{read_ies, elements_in, elements_of, is_context, contexts_in, known_of}
use Rattle.gtpv2_msg.specs.HasRequired.{Has, IsAssigned, HasPart, MeetsRow, HasRequired}
use Rattle.gtpv2_msg.specs.Lookup.{is_of, first_context, contexts_of}
use Rattle.gtpv2_msg.specs.Header.{body_of}
use Rattle.gtpv2_msg.specs.Message.{Message}
use Rattle.gtpv2_msg.specs.Reading.{IsBody, Spells}
use Rattle.gtpv2_msg.specs.Required.{RequiredIes, table, row_in, required}
use Rattle.gtpv2_msg.specs.RowFault.{is_first, element_fault, kind_fault, first_ebi, held_ebi, is_zero, part_fault, kinds_fault, parts_fault, context_fault, inside_fault, contexts_fault, row_fault}
use Rattle.gtpv2_msg.proofs.MeetsLemmas.{none_first, none_second, holds, holds_has, each_other, is_context_here, is_any, any_context}

-- ---- a value that was read is of the kind of its type octet

abbrev IsKind : IeKind → IeValue → Type 0
IsKind kind value = kind_of value ≡ kind

any_map : {X Y : Type 0} (f : X → Y) (o : Option X) (P : Y → Type 0) → ((x : X) → P (f x)) → IfSome (option_map f o) P
any_map f None P holds = tt
any_map f (Some x) P holds = holds x

if_map : {X Y : Type 0} (f : X → Y) (o : Option X) (P : Y → Type 0) → IfSome o (λ x. P (f x))
    → IfSome (option_map f o) P
if_map f None P holds = tt
if_map f (Some x) P holds = holds

not_short : {X : Type 0} (short : Bool) (o : Option X) (P : X → Type 0) → IfSome o P → IfSome (cond short None o) P
not_short true o P holds = tt
not_short false o P holds = holds

kind_is : (reads : List ℕ → Option Context) (kind : IeKind) (octets : List ℕ)
    → IfSome (kind_value reads kind octets) (IsKind kind)
kind_is reads kind octets =
    not_short (ltb (length octets) (least_len kind)) ((row reads kind).value octets) (IsKind kind) (is kind)
  where
    is : (kind : IeKind) → IfSome ((row reads kind).value octets) (IsKind kind)
    is kinds.Imsi = any_map values.Imsi (imsi_of octets) (IsKind kinds.Imsi) (λ _. refl)
    is kinds.Cause = any_map values.Cause (cause_of octets) (IsKind kinds.Cause) (λ _. refl)
    is kinds.Recovery = refl
    is kinds.Apn = any_map values.Apn (octets_of 100 octets) (IsKind kinds.Apn) (λ _. refl)
    is kinds.Ambr = refl
    is kinds.Ebi = any_map values.Ebi (ebi_of octets) (IsKind kinds.Ebi) (λ _. refl)
    is kinds.Paa = any_map values.Paa (paa_of octets) (IsKind kinds.Paa) (λ _. refl)
    is kinds.Qos = refl
    is kinds.Rat = refl
    is kinds.Tft = any_map values.Tft (octets_of 1000 octets) (IsKind kinds.Tft) (λ _. refl)
    is kinds.Fteid = any_map values.Fteid (fteid_of octets) (IsKind kinds.Fteid) (λ _. refl)
    is kinds.Context = any_map values.Context (reads octets) (IsKind kinds.Context) (λ _. refl)
    is kinds.Pdn = any_map values.Pdn (pdn_of octets) (IsKind kinds.Pdn) (λ _. refl)

first_passes : {X : Type 0} (p : X → Bool) (x : X) (rest : Option X) (test : Bool) → p x ≡ test
    → IfSome rest (λ y. p y ≡ true)
    → IfSome (cond test (Some x) rest) (λ y. p y ≡ true)
first_passes p x rest true is others = is
first_passes p x rest false is others = others

passes : {X : Type 0} (p : X → Bool) (xs : List X) → IfSome (find p xs) (λ x. p x ≡ true)
passes p [] = tt
passes p (x ∷ xs) = first_passes p x (find p xs) (p x) refl (passes p xs)

moved : (kind : IeKind) (octet : ℕ) (o : Option IeValue) → type_octet kind ≡ octet → IfSome o (IsKind kind)
    → IfSome o (λ v. type_octet (kind_of v) ≡ octet)
moved kind octet None same is = tt
moved kind octet (Some v) same is = ap type_octet is ∙ same

octet_is : (reads : List ℕ → Option Context) (octet : ℕ) (octets : List ℕ)
    → IfSome (value_at reads octet octets) (λ v. type_octet (kind_of v) ≡ octet)
octet_is reads octet octets = of_found (kind_at octet) (passes (λ kind. eqb (type_octet kind) octet) all_kinds)
  where
    of_found : (found : Option IeKind) → IfSome found (λ kind. eqb (type_octet kind) octet ≡ true)
        → IfSome (option_and_then (λ kind. kind_value reads kind octets) found) (λ v. type_octet (kind_of v) ≡ octet)
    of_found None same = tt
    of_found (Some kind) same =
        moved kind octet (kind_value reads kind octets) (eqb-true _ _ same) (kind_is reads kind octets)

-- an element is of the type and instance that stand before it
pub record IsAt (octet instance : ℕ) (ie : Element) : Type 0 where
  pub octet_is : type_octet (kind_of ie.value) ≡ octet
  pub instance_is : ie.instance ≡ instance

element_is : (octets : List ℕ) (raw : RawIe) → IfSome (element_at context_of octets raw) (IsAt raw.kind raw.instance)
element_is octets raw =
    if_map (λ (value : IeValue). record { instance = raw.instance; value = value })
    (value_at context_of raw.kind (value_in octets raw))
    (IsAt raw.kind raw.instance)
    (of_value (value_at context_of raw.kind (value_in octets raw)) (octet_is context_of raw.kind (value_in octets raw)))
  where
    of_value : (o : Option IeValue) → IfSome o (λ v. type_octet (kind_of v) ≡ raw.kind)
        → IfSome o (λ v. IsAt raw.kind raw.instance (record { instance = raw.instance; value = v }))
    of_value None is = tt
    of_value (Some v) is = record { octet_is = is; instance_is = refl }

is_of-at : (kind : IeKind) (octet instance : ℕ) (ie : Element) → IsAt octet instance ie
    → is_of kind 0 ie ≡ (eqb octet (type_octet kind) && eqb instance 0)
is_of-at kind octet instance ie at =
    ap (λ (o : ℕ). eqb o (type_octet kind) && eqb ie.instance 0) at.octet_is
    ∙ ap (λ (i : ℕ). eqb octet (type_octet kind) && eqb i 0) at.instance_is

-- ---- what is required is among the elements

or_true : (test any : Bool) → any ≡ true → (test || any) ≡ true
or_true true any is = refl
or_true false any is = is

true_or : (test any : Bool) → test ≡ true → (test || any) ≡ true
true_or true any is = refl
true_or false any is = absurd cc

read_has : (kind : IeKind) (octet instance : ℕ) (element : Option Element) (rest : Option ReadIe)
    (others : List Element)
    → IfSome element (IsAt octet instance) → (here : Bool) → (eqb octet (type_octet kind) && eqb instance 0) ≡ here
    → (element_fault kind rest ≡ None → Has others kind)
    → element_fault kind (cond here (Some (record { kind = octet; instance = instance; element = element })) rest)
    ≡ None
    → Has (cons_option element others) kind
read_has kind octet instance None rest others at true is behind none = absurd cc
read_has kind octet instance None rest others at false is behind none = behind none
read_has kind octet instance (Some ie) rest others at true is behind none =
    true_or (is_of kind 0 ie) (list_any (is_of kind 0) others) (is_of-at kind octet instance ie at ∙ is)
read_has kind octet instance (Some ie) rest others at false is behind none =
    or_true (is_of kind 0 ie) (list_any (is_of kind 0) others) (behind none)

found_has : (kind : IeKind) (octets : List ℕ) (raws : List RawIe) → kind_fault (read_ies octets raws) kind ≡ None
    → Has (known_of (read_ies octets raws)) kind
found_has kind octets [] none = absurd cc
found_has kind octets (raw ∷ raws) none =
    read_has kind raw.kind raw.instance (element_at context_of octets raw)
    (find (is_first (type_octet kind)) (read_ies octets raws))
    (known_of (read_ies octets raws)) (element_is octets raw)
    (eqb raw.kind (type_octet kind) && eqb raw.instance 0) refl
    (found_has kind octets raws) none

all_found : (kinds : List IeKind) (octets : List ℕ) (raws : List RawIe)
    → kinds_fault (read_ies octets raws) kinds ≡ None
    → AllByRecursion (Has (known_of (read_ies octets raws))) kinds
all_found [] octets raws none = tt
all_found (kind ∷ kinds) octets raws none =
    (found_has kind octets raws (none_first _ _ none), all_found kinds octets raws (none_second _ _ none))

-- ---- a Context holds the first of its elements, and Contexts in it don't count

abbrev with_first : Option Element → Context → Context
with_first None c = c
with_first (Some ie) c = record {
  ebi = option_or (ebi_value ie.value) c.ebi;
  cause = option_or (cause_value ie.value) c.cause;
  tft = option_or (tft_value ie.value) c.tft;
  fteids = cons_option (fteid_value ie.instance ie.value) c.fteids;
  qos = option_or (qos_value ie.value) c.qos;
}

context_with-cons : (first : Option Element) (ies : List Element)
    → context_with (cons_option first ies) ≡ with_first first (context_with ies)
context_with-cons None ies = refl
context_with-cons (Some ie) ies = refl

abbrev an_element : ℕ → IeValue → Element
an_element instance value = record { instance = instance; value = value }

no_value : (short : Bool) → let none : Option IeValue = None in cond short none none ≡ None
no_value true = refl
no_value false = refl

context_counts_not : (instance : ℕ) (short : Bool) (c : Option Context) (rest : Context)
    → with_first (option_map (an_element instance) (cond short None (option_map values.Context c))) rest ≡ rest
context_counts_not instance true c rest = refl
context_counts_not instance false None rest = refl
context_counts_not instance false (Some c) rest = refl

same_first : (instance : ℕ) (kind : Option IeKind) (octets : List ℕ) (rest : Context)
    → with_first (option_map (an_element instance) (option_and_then (λ k. kind_value no_context k octets) kind)) rest
    ≡ with_first (option_map (an_element instance) (option_and_then (λ k. kind_value context_of k octets) kind)) rest
same_first instance None octets rest = refl
same_first instance (Some kinds.Context) octets rest =
    context_counts_not instance (ltb (length octets) 0) None rest
    ∙ sym (context_counts_not instance (ltb (length octets) 0) (context_of octets) rest)
same_first instance (Some _) octets rest = refl

-- a Context by its elements, with or without the Contexts in it
pub same_context : (octets : List ℕ) (raws : List RawIe)
    → context_with (inner_elements octets raws) ≡ context_with (known_of (read_ies octets raws))
same_context octets [] = refl
same_context octets (raw ∷ raws) =
    context_with-cons (element_at no_context octets raw) (inner_elements octets raws)
    ∙ ap (with_first (element_at no_context octets raw)) (same_context octets raws)
    ∙ same_first raw.instance (kind_at raw.kind) (value_in octets raw) (context_with (known_of (read_ies octets raws)))
    ∙ sym (context_with-cons (element_at context_of octets raw) (known_of (read_ies octets raws)))

first_some : {X : Type 0} (first rest : Option X) → is_some first ≡ true → is_some (option_or first rest) ≡ true
first_some None rest is = absurd cc
first_some (Some x) rest is = refl

rest_some : {X : Type 0} (first rest : Option X) → is_some rest ≡ true → is_some (option_or first rest) ≡ true
rest_some None rest is = is
rest_some (Some x) rest is = refl

some_here : {X : Type 0} (first rest : Option X) (test any : Bool) → (test ≡ true → is_some first ≡ true)
    → (any ≡ true → is_some rest ≡ true) → (test || any) ≡ true → is_some (option_or first rest) ≡ true
some_here first rest true any here behind is = first_some first rest (here refl)
some_here first rest false any here behind is = rest_some first rest (behind is)

some_found : {X : Type 0} (kind : IeKind) (part : Element → Option X)
    → ((ie : Element) → is_of kind 0 ie ≡ true → is_some (part ie) ≡ true)
    → (ies : List Element) → Has ies kind → is_some (first_of part ies) ≡ true
some_found kind part gives [] has = absurd cc
some_found kind part gives (ie ∷ ies) has =
    some_here (part ie) (first_of part ies) (is_of kind 0 ie) (list_any (is_of kind 0) ies) (gives ie)
    (some_found kind part gives ies) has

gives_ebi : (instance : ℕ) (value : IeValue) → is_of kinds.Ebi 0 (an_element instance value) ≡ true
    → is_some (ebi_value value) ≡ true
gives_ebi instance (values.Ebi ebi) is = refl
gives_ebi instance _ is = absurd cc

gives_cause : (instance : ℕ) (value : IeValue) → is_of kinds.Cause 0 (an_element instance value) ≡ true
    → is_some (cause_value value) ≡ true
gives_cause instance (values.Cause cause) is = refl
gives_cause instance _ is = absurd cc

gives_tft : (instance : ℕ) (value : IeValue) → is_of kinds.Tft 0 (an_element instance value) ≡ true
    → is_some (tft_value value) ≡ true
gives_tft instance (values.Tft tft) is = refl
gives_tft instance _ is = absurd cc

gives_qos : (instance : ℕ) (value : IeValue) → is_of kinds.Qos 0 (an_element instance value) ≡ true
    → is_some (qos_value value) ≡ true
gives_qos instance (values.Qos qos) is = refl
gives_qos instance _ is = absurd cc

abbrev any_first : List (ℕ × Fteid) → Bool
any_first fteids = list_any (λ (f : ℕ × Fteid). eqb f.0 0) fteids

gives_fteid : (instance : ℕ) (value : IeValue) (fteids : List (ℕ × Fteid)) (any : Bool)
    → (any ≡ true → any_first fteids ≡ true)
    → (is_of kinds.Fteid 0 (an_element instance value) || any) ≡ true
    → any_first (cons_option (fteid_value instance value) fteids) ≡ true
gives_fteid instance (values.Fteid fteid) fteids any behind is = either (eqb instance 0) is
  where
    either : (test : Bool) → (test || any) ≡ true → (test || any_first fteids) ≡ true
    either true is = refl
    either false is = behind is
gives_fteid instance _ fteids any behind is = behind is

fteid_found : (ies : List Element) → Has ies kinds.Fteid → any_first (context_with ies).fteids ≡ true
fteid_found [] has = absurd cc
fteid_found (ie ∷ ies) has =
    gives_fteid ie.instance ie.value (context_with ies).fteids (list_any (is_of kinds.Fteid 0) ies)
    (fteid_found ies) has

-- the kinds of element that a Context keeps
abbrev is_inner : IeKind → Bool
is_inner kinds.Ebi = true
is_inner kinds.Cause = true
is_inner kinds.Tft = true
is_inner kinds.Fteid = true
is_inner kinds.Qos = true
is_inner _ = false

inner_found : (kind : IeKind) (ies : List Element) → is_inner kind ≡ true → Has ies kind
    → holds kind (context_with ies) ≡ true
unfolding holds
inner_found kinds.Ebi ies inner has =
    some_found kinds.Ebi (λ ie. ebi_value ie.value) (λ ie is. gives_ebi ie.instance ie.value is) ies has
inner_found kinds.Cause ies inner has =
    some_found kinds.Cause (λ ie. cause_value ie.value) (λ ie is. gives_cause ie.instance ie.value is) ies has
inner_found kinds.Tft ies inner has =
    some_found kinds.Tft (λ ie. tft_value ie.value) (λ ie is. gives_tft ie.instance ie.value is) ies has
inner_found kinds.Fteid ies inner has = fteid_found ies has
inner_found kinds.Qos ies inner has =
    some_found kinds.Qos (λ ie. qos_value ie.value) (λ ie is. gives_qos ie.instance ie.value is) ies has
inner_found _ ies inner has = absurd cc

-- ---- the parts of a Context

abbrev IsInner : Part → Type 0
IsInner (parts.Ie kind) = is_inner kind ≡ true
IsInner parts.AssignedEbi = Unit {0}

second_false : (first second : Bool) (bad : CBad) → cond (first || second) (Some bad) None ≡ None → second ≡ false
second_false true second bad none = absurd cc
second_false false true bad none = absurd cc
second_false false false bad none = refl

assigned : (ebi : Option ℕ) → is_some ebi ≡ true → is_zero ebi ≡ false → IsAssigned ebi
assigned None some other = absurd cc
assigned (Some zero) some other = absurd cc
assigned (Some (suc ebi)) some other = omega arith

part_found : (part : Part) (octets : List ℕ) (raws : List RawIe) → IsInner part
    → part_fault (read_ies octets raws) part ≡ None
    → HasPart part (context_with (known_of (read_ies octets raws)))
unfolding holds
part_found (parts.Ie kind) octets raws inner none =
    let ies : List Element = known_of (read_ies octets raws) in
    holds_has kind (context_with ies) (inner_found kind ies inner (found_has kind octets raws none))
part_found parts.AssignedEbi octets raws inner none =
    let ies : List Element = known_of (read_ies octets raws) in
    let read : List ReadIe = read_ies octets raws in
    assigned (context_with ies).ebi
    (inner_found kinds.Ebi ies refl (found_has kinds.Ebi octets raws (none_first _ _ none)))
    (second_false (is_zero (first_ebi read)) (is_zero (held_ebi read)) (Incorrect 73 0) (none_second _ _ none))

parts_found : (parts : List Part) (octets : List ℕ) (raws : List RawIe) → AllByRecursion IsInner parts
    → parts_fault (read_ies octets raws) parts ≡ None
    → AllByRecursion (λ part. HasPart part (context_with (known_of (read_ies octets raws)))) parts
parts_found [] octets raws inner none = tt
parts_found (part ∷ parts) octets raws inner none = (
  part_found part octets raws inner.0 (none_first _ _ none),
  parts_found parts octets raws inner.1
      (none_second _ _ none),
)

-- ---- the Contexts

abbrev HasParts : List Part → Context → Type 0
HasParts parts c = AllByRecursion (λ part. HasPart part c) parts

both_true : (first second : Bool) → (first && second) ≡ true → (first ≡ true) × (second ≡ true)
both_true true second is = (refl, is)
both_true false second is = absurd cc

context_is : (octets : List ℕ) (raws : List RawIe) → ies_of octets ≡ Ok raws
    → value_at context_of 93 octets ≡ Some (values.Context (context_with (inner_elements octets raws)))
context_is octets raws read =
    let long : ltb (length octets) 0 ≡ false = le-ltb _ _ (omega arith) in rw (long, read) refl

context_element : (octets : List ℕ) (raw : RawIe) (raws : List RawIe) → is_context raw ≡ true
    → ies_of (value_in octets raw) ≡ Ok raws
    → element_at context_of octets raw
    ≡ Some (an_element 0 (values.Context (context_with (known_of (read_ies (value_in octets raw) raws)))))
context_element octets raw raws is read =
    let tests = both_true (eqb raw.kind 93) (eqb raw.instance 0) is in
    let value : List ℕ = value_in octets raw in
    ap (λ (kind : ℕ). option_map (an_element raw.instance) (value_at context_of kind value)) (eqb-true _ _ tests.0)
    ∙ ap (λ (instance : ℕ). option_map (an_element instance) (value_at context_of 93 value)) (eqb-true _ _ tests.1)
    ∙ ap (option_map (an_element 0)) (context_is value raws read)
    ∙ ap (λ (c : Context). Some (an_element 0 (values.Context c))) (same_context value raws)

abbrev is_read : List (Option (List ReadIe)) → Bool
is_read [] = false
is_read (first ∷ rest) = true

-- Contexts that were read have all parts, and one is there where one was read
abbrev AreFound : List Part → List (Option (List ReadIe)) → List Context → Type 0
AreFound parts read contexts = (is_read read ≡ is_any contexts) × AllByRecursion (HasParts parts) contexts

is_none : {X : Type 0} (o : Option X) → is_some o ≡ false → o ≡ None
is_none None is = refl
is_none (Some x) is = absurd cc

no_context_here : (element : Option Element) (octet instance : ℕ) (others : List Element)
    → IfSome element (IsAt octet instance)
    → (eqb octet 93 && eqb instance 0) ≡ false → contexts_of (cons_option element others) ≡ contexts_of others
no_context_here None octet instance others at other = refl
no_context_here (Some ie) octet instance others at other =
    let none : first_context ie ≡ None = is_none (first_context ie)
    (sym (is_context_here ie.instance ie.value) ∙ is_of-at kinds.Context octet instance ie at ∙ other) in
    ap (λ (first : Option Context). cons_option first (contexts_of others)) none

one_context : (parts : List Part) (octets : List ℕ) (raw : RawIe) (others : List Element)
    (rest : List (Option (List ReadIe)))
    → AllByRecursion IsInner parts → is_context raw ≡ true → AllByRecursion (HasParts parts) (contexts_of others)
    → (read : Result (List RawIe) IeBad) → ies_of (value_in octets raw) ≡ read
    → context_fault parts (elements_in (value_in octets raw) read) ≡ None
    → AreFound parts (elements_of (value_in octets raw) ∷ rest)
    (contexts_of (cons_option (element_at context_of octets raw) others))
unfolding is_any
one_context parts octets raw others rest inner is behind (Err bad) read none = absurd cc
one_context parts octets raw others rest inner is behind (Ok raws) read none =
    let c : Context = context_with (known_of (read_ies (value_in octets raw) raws)) in
    let found : contexts_of (cons_option (element_at context_of octets raw) others) ≡ c ∷ contexts_of others =
    ap (λ (first : Option Element). contexts_of (cons_option first others)) (context_element octets raw raws is read) in
    subst (AreFound parts (elements_of (value_in octets raw) ∷ rest)) (sym found)
    (refl, (parts_found parts (value_in octets raw) raws inner none, behind))

context_here : (parts : List Part) (octets : List ℕ) (raw : RawIe) (others : List Element)
    (rest : List (Option (List ReadIe)))
    → AllByRecursion IsInner parts → (inside_fault parts rest ≡ None → AreFound parts rest (contexts_of others))
    → (test : Bool) → is_context raw ≡ test → let read : Option (Option (List ReadIe)) =
    cond test (Some (elements_of (value_in octets raw))) None in
    inside_fault parts (cons_option read rest) ≡ None
    → AreFound parts (cons_option read rest) (contexts_of (cons_option (element_at context_of octets raw) others))
context_here parts octets raw others rest inner behind true is none =
    one_context parts octets raw others rest inner is (behind (none_second _ _ none)).1
    (ies_of (value_in octets raw)) refl (none_first _ _ none)
context_here parts octets raw others rest inner behind false is none =
    subst (AreFound parts rest)
    (sym (no_context_here (element_at context_of octets raw) raw.kind raw.instance others (element_is octets raw) is))
    (behind none)

contexts_found : (parts : List Part) (octets : List ℕ) (raws : List RawIe) → AllByRecursion IsInner parts
    → inside_fault parts (contexts_in octets raws) ≡ None
    → AreFound parts (contexts_in octets raws) (contexts_of (known_of (read_ies octets raws)))
unfolding is_any
contexts_found parts octets [] inner none = (refl, tt)
contexts_found parts octets (raw ∷ raws) inner none =
    context_here parts octets raw (known_of (read_ies octets raws)) (contexts_in octets raws) inner
    (contexts_found parts octets raws inner) (is_context raw) refl none

-- ---- a row

inner_entry : (test : Bool) (row rest : RequiredIes) → AllByRecursion IsInner row.inside → AllByRecursion IsInner rest.inside
    → AllByRecursion IsInner (cond test row rest).inside
inner_entry true row rest is others = is
inner_entry false row rest is others = others

inner_row : (entries : List (ℕ × RequiredIes)) (kind : ℕ)
    → AllByRecursion (λ (entry : ℕ × RequiredIes). AllByRecursion IsInner entry.1.inside) entries
    → AllByRecursion IsInner (row_in entries kind).inside
inner_row [] kind all = tt
inner_row (entry ∷ entries) kind all =
    inner_entry (eqb entry.0 kind) entry.1 (row_in entries kind) all.0 (inner_row entries kind all.1)

inner_required : (kind : ℕ) → AllByRecursion IsInner (required kind).inside
unfolding required
inner_required kind =
    inner_row table kind (
      (tt, (refl, tt)),
      (
        tt,
        (
          (tt, tt),
          (
            tt,
            (
              tt,
              ((refl, (refl, (refl, tt))), ((refl, (refl, tt)), ((refl, tt), (tt, (tt, (tt, (tt, tt))))))),
            ),
          ),
        ),
      ),
    )

must_be_read : (must : Bool) (parts : List Part) (read : List (Option (List ReadIe)))
    → contexts_fault must parts read ≡ None → must ≡ true → is_read read ≡ true
must_be_read true parts [] none must = absurd cc
must_be_read true parts (first ∷ rest) none must = refl
must_be_read false parts read none must = absurd cc

no_fault_inside : (must : Bool) (parts : List Part) (read : List (Option (List ReadIe)))
    → contexts_fault must parts read ≡ None → inside_fault parts read ≡ None
no_fault_inside true parts [] none = refl
no_fault_inside true parts (first ∷ rest) none = none
no_fault_inside false parts [] none = none
no_fault_inside false parts (first ∷ rest) none = none

row_found : (row : RequiredIes) (octets : List ℕ) (raws : List RawIe) → AllByRecursion IsInner row.inside
    → row_fault row (read_ies octets raws) (contexts_in octets raws) ≡ None
    → MeetsRow row (known_of (read_ies octets raws))
row_found row octets raws inner none =
    let ies : List Element = known_of (read_ies octets raws) in
    let contexts : Option CBad = contexts_fault row.must row.inside (contexts_in octets raws) in
    let after : Option CBad = kinds_fault (read_ies octets raws) row.after in
    let behind : option_or contexts after ≡ None = none_second _ _ none in
    let within : contexts ≡ None = none_first contexts after behind in
    let found = contexts_found row.inside octets raws inner
    (no_fault_inside row.must row.inside (contexts_in octets raws) within) in
    record {
      before = all_found row.before octets raws (none_first _ _ none);
      context = λ must. any_context ies ∙ sym found.0
          ∙ must_be_read row.must row.inside (contexts_in octets raws) within must;
      inside = each_other HasPart row.inside (contexts_of ies) found.1;
      after = all_found row.after octets raws (none_second contexts after behind);
    }

-- what octets spell has what its type asks for
pub has_required : (octets : List ℕ) (message : Message) → Spells octets message → HasRequired message
has_required octets message spells =
    let body : IsBody message.kind (body_of octets) message.ies = spells.body in
    subst (MeetsRow (required message.kind)) body.known
    (row_found (required message.kind) (body_of octets) body.raws (inner_required message.kind) body.required)

pub read_required : (octets : List ℕ) (result : Result Message CBad) → IfOk result (Spells octets)
    → IfOk result HasRequired
read_required octets (Ok message) found = has_required octets message found
read_required octets (Err bad) found = tt

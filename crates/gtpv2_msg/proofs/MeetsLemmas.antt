-- Elements have what a row asks for exactly where the row has no fault.
use Rattle.std.proofs.Common.{◌≡◌, ℕ, zero, suc, ◌<◌, Bool, true, false, eqb, cond, ◌&&◌, ◌||◌, List, [], ◌∷◌, map, Option, Some, None, refl, sym, ap, ◌∙◌, arith}
use Rattle.std.specs.List.{find, list_any, cons_option, AllByRecursion}
use Rattle.std.specs.Option.{is_some, option_or}
use Rattle.std.proofs.lemmas.Bool.{ne_eqb}
use Rattle.std.proofs.lemmas.List.Folds.{list_any-append}
use Rattle.gtpv2_ie.specs.declared.cause.CauseIe.{CauseIe}
use Rattle.gtpv2_ie.specs.declared.context.Context.{Context}
use Rattle.gtpv2_ie.specs.declared.fteid.Fteid.{Fteid}
use Rattle.gtpv2_ie.specs.declared.kind.IeKind.{IeKind}
use Rattle.gtpv2_ie.specs.declared.kind.IeKind.TheVariants as kinds
use Rattle.gtpv2_ie.specs.declared.qos.QosIe.{QosIe}
use Rattle.gtpv2_ie.specs.declared.value.IeValue.{IeValue}
use Rattle.gtpv2_ie.specs.declared.value.IeValue.TheVariants as values
use Rattle.gtpv2_ie.specs.Element.{Element}
use Rattle.gtpv2_ie.specs.Kind.{type_octet}
use Rattle.gtpv2_ie.specs.Spelling.{if_some, fteid_element, context_elements}
use Rattle.gtpv2_msg.specs.declared.element.ReadIe.{ReadIe}
use Rattle.gtpv2_msg.specs.declared.fault.CBad.{CBad}
use Rattle.gtpv2_msg.specs.declared.table.Part.{Part}
use Rattle.gtpv2_msg.specs.declared.table.Part.TheVariants as parts
use Rattle.gtpv2_msg.specs.HasRequired.{Has, ContextHas, IsAssigned, HasPart, MeetsRow, as_read, context_as_read, contexts_as_read}
use Rattle.gtpv2_msg.specs.Lookup.{is_of, first_context, contexts_of}
use Rattle.gtpv2_msg.specs.Required.{RequiredIes}
use Rattle.gtpv2_msg.specs.RowFault.{is_first, element_fault, kind_fault, kinds_fault, part_fault, parts_fault, inside_fault, contexts_fault, row_fault}

-- ---- none of two

pub none_first : (first second : Option CBad) → option_or first second ≡ None → first ≡ None
none_first None second none = refl
none_first (Some bad) second none = none

pub none_second : (first second : Option CBad) → option_or first second ≡ None → second ≡ None
none_second None second none = none
none_second (Some bad) second none = absurd cc

pub neither : (first second : Option CBad) → first ≡ None → second ≡ None → option_or first second ≡ None
neither None second is_first is_second = is_second
neither (Some bad) second is_first is_second = absurd cc

-- ---- an element of a kind and instance 0

has_here : (kind : IeKind) (here any : Bool) (ie : Element) (rest : Option ReadIe)
    → (any ≡ true → element_fault kind rest ≡ None) → (here || any) ≡ true
    → element_fault kind (cond here (Some (as_read ie)) rest) ≡ None
has_here kind true any ie rest behind has = refl
has_here kind false any ie rest behind has = behind has

pub has_no_fault : (kind : IeKind) (ies : List Element) → Has ies kind → kind_fault (map as_read ies) kind ≡ None
has_no_fault kind [] has = absurd cc
has_no_fault kind (ie ∷ ies) has =
    has_here kind (is_of kind 0 ie) (list_any (is_of kind 0) ies) ie
    (find (is_first (type_octet kind)) (map as_read ies))
    (has_no_fault kind ies) has

here_has : (kind : IeKind) (here any : Bool) (ie : Element) (rest : Option ReadIe)
    → (element_fault kind rest ≡ None → any ≡ true)
    → element_fault kind (cond here (Some (as_read ie)) rest) ≡ None → (here || any) ≡ true
here_has kind true any ie rest behind none = refl
here_has kind false any ie rest behind none = behind none

pub no_fault_has : (kind : IeKind) (ies : List Element) → kind_fault (map as_read ies) kind ≡ None → Has ies kind
no_fault_has kind [] none = absurd cc
no_fault_has kind (ie ∷ ies) none =
    here_has kind (is_of kind 0 ie) (list_any (is_of kind 0) ies) ie
    (find (is_first (type_octet kind)) (map as_read ies))
    (no_fault_has kind ies) none

kinds_no_fault : (ies : List Element) (kinds : List IeKind) → AllByRecursion (Has ies) kinds
    → kinds_fault (map as_read ies) kinds ≡ None
kinds_no_fault ies [] has = refl
kinds_no_fault ies (kind ∷ kinds) has =
    neither (kind_fault (map as_read ies) kind) (kinds_fault (map as_read ies) kinds) (has_no_fault kind ies has.0)
    (kinds_no_fault ies kinds has.1)

no_fault_kinds : (ies : List Element) (kinds : List IeKind) → kinds_fault (map as_read ies) kinds ≡ None
    → AllByRecursion (Has ies) kinds
no_fault_kinds ies [] none = tt
no_fault_kinds ies (kind ∷ kinds) none =
    let first : Option CBad = kind_fault (map as_read ies) kind in
    let rest : Option CBad = kinds_fault (map as_read ies) kinds in
    (no_fault_has kind ies (none_first first rest none), no_fault_kinds ies kinds (none_second first rest none))

-- ---- what a Context holds, and the elements that it is written as

-- whether a Context has an element of a kind
unfoldable pub holds : IeKind → Context → Bool
holds kinds.Ebi context = is_some context.ebi
holds kinds.Cause context = is_some context.cause
holds kinds.Tft context = is_some context.tft
holds kinds.Fteid context = list_any (λ (fteid : ℕ × Fteid). eqb fteid.0 0) context.fteids
holds kinds.Qos context = is_some context.qos
holds _ context = false

has_holds : (kind : IeKind) (context : Context) → ContextHas context kind → holds kind context ≡ true
unfolding holds
has_holds kinds.Ebi context has = has
has_holds kinds.Cause context has = has
has_holds kinds.Tft context has = has
has_holds kinds.Fteid context has = has
has_holds kinds.Qos context has = has
has_holds _ context has = absurd has

pub holds_has : (kind : IeKind) (context : Context) → holds kind context ≡ true → ContextHas context kind
unfolding holds
holds_has kinds.Ebi context is = is
holds_has kinds.Cause context is = is
holds_has kinds.Tft context is = is
holds_has kinds.Fteid context is = is
holds_has kinds.Qos context is = is
holds_has _ context is = absurd cc

one_part : (test own : Bool) → test ≡ own → (test || false) ≡ (own && true)
one_part true true same = refl
one_part true false same = absurd cc
one_part false true same = absurd cc
one_part false false same = refl

no_part : (own : Bool) → false ≡ (own && false)
no_part true = refl
no_part false = refl

any_if_some : {X : Type 0} (value : X → IeValue) (kind : IeKind) (own : Bool)
    → ((x : X) → is_of kind 0 (record { instance = 0; value = value x }) ≡ own) → (o : Option X)
    → list_any (is_of kind 0) (if_some value o) ≡ (own && is_some o)
any_if_some value kind own is None = no_part own
any_if_some value kind own is (Some x) = one_part (is_of kind 0 (record { instance = 0; value = value x })) own (is x)

either_own : (own test any : Bool) → ((own && test) || (own && any)) ≡ (own && (test || any))
either_own true test any = refl
either_own false test any = refl

any_fteids : (kind : IeKind) (own : Bool)
    → ((fteid : ℕ × Fteid) → is_of kind 0 (fteid_element fteid) ≡ (own && eqb fteid.0 0)) → (fteids : List (ℕ × Fteid))
    → list_any (is_of kind 0) (map fteid_element fteids) ≡ (own && list_any (λ (f : ℕ × Fteid). eqb f.0 0) fteids)
any_fteids kind own is [] = no_part own
any_fteids kind own is (f ∷ fteids) =
    let any : Bool = list_any (λ (g : ℕ × Fteid). eqb g.0 0) fteids in
    ap (λ (here : Bool). here || list_any (is_of kind 0) (map fteid_element fteids)) (is f)
    ∙ ap (λ (rest : Bool). (own && eqb f.0 0) || rest) (any_fteids kind own is fteids) ∙ either_own own (eqb f.0 0) any

any_parts : (kind : IeKind) (ebi cause tft fteid qos : Bool)
    → ((x : ℕ) → is_of kind 0 (record { instance = 0; value = values.Ebi x }) ≡ ebi)
    → ((x : CauseIe) → is_of kind 0 (record { instance = 0; value = values.Cause x }) ≡ cause)
    → ((x : List ℕ) → is_of kind 0 (record { instance = 0; value = values.Tft x }) ≡ tft)
    → ((f : ℕ × Fteid) → is_of kind 0 (fteid_element f) ≡ (fteid && eqb f.0 0))
    → ((x : QosIe) → is_of kind 0 (record { instance = 0; value = values.Qos x }) ≡ qos) → (c : Context)
    → list_any (is_of kind 0) (context_elements c)
    ≡ (((((ebi && is_some c.ebi) || (cause && is_some c.cause)) || (tft && is_some c.tft))
    || (fteid && list_any (λ (f : ℕ × Fteid). eqb f.0 0) c.fteids)) || (qos && is_some c.qos))
any_parts kind ebi cause tft fteid qos is_ebi is_cause is_tft is_fteid is_qos c =
    simp list_any-append (rw (
      any_if_some values.Ebi kind ebi is_ebi c.ebi,
      any_if_some values.Cause kind cause is_cause c.cause,
      any_if_some values.Tft kind tft is_tft c.tft,
      any_fteids kind fteid is_fteid c.fteids,
      any_if_some values.Qos kind qos is_qos c.qos,
    ) refl)

or_false : (test : Bool) → (test || false) ≡ test
or_false true = refl
or_false false = refl

-- an element of a kind and instance 0 is among those that a Context is written as where it has one
pub any_is : (kind : IeKind) (c : Context) → list_any (is_of kind 0) (context_elements c) ≡ holds kind c
unfolding holds
any_is kinds.Ebi c =
    any_parts kinds.Ebi true false false false false (λ _. refl) (λ _. refl) (λ _. refl) (λ _. refl) (λ _. refl) c
    ∙ or_false _ ∙ or_false _ ∙ or_false _ ∙ or_false _
any_is kinds.Cause c =
    any_parts kinds.Cause false true false false false (λ _. refl) (λ _. refl) (λ _. refl) (λ _. refl) (λ _. refl) c
    ∙ or_false _ ∙ or_false _ ∙ or_false _
any_is kinds.Tft c =
    any_parts kinds.Tft false false true false false (λ _. refl) (λ _. refl) (λ _. refl) (λ _. refl) (λ _. refl) c
    ∙ or_false _ ∙ or_false _
any_is kinds.Fteid c =
    any_parts kinds.Fteid false false false true false (λ _. refl) (λ _. refl) (λ _. refl) (λ _. refl) (λ _. refl) c
    ∙ or_false _
any_is kinds.Qos c =
    any_parts kinds.Qos false false false false true (λ _. refl) (λ _. refl) (λ _. refl) (λ _. refl) (λ _. refl) c
any_is kinds.Imsi c =
    any_parts kinds.Imsi false false false false false (λ _. refl) (λ _. refl) (λ _. refl) (λ _. refl) (λ _. refl) c
any_is kinds.Recovery c =
    any_parts kinds.Recovery false false false false false (λ _. refl) (λ _. refl) (λ _. refl) (λ _. refl) (λ _. refl) c
any_is kinds.Apn c =
    any_parts kinds.Apn false false false false false (λ _. refl) (λ _. refl) (λ _. refl) (λ _. refl) (λ _. refl) c
any_is kinds.Ambr c =
    any_parts kinds.Ambr false false false false false (λ _. refl) (λ _. refl) (λ _. refl) (λ _. refl) (λ _. refl) c
any_is kinds.Paa c =
    any_parts kinds.Paa false false false false false (λ _. refl) (λ _. refl) (λ _. refl) (λ _. refl) (λ _. refl) c
any_is kinds.Rat c =
    any_parts kinds.Rat false false false false false (λ _. refl) (λ _. refl) (λ _. refl) (λ _. refl) (λ _. refl) c
any_is kinds.Context c =
    any_parts kinds.Context false false false false false (λ _. refl) (λ _. refl) (λ _. refl) (λ _. refl) (λ _. refl) c
any_is kinds.Pdn c =
    any_parts kinds.Pdn false false false false false (λ _. refl) (λ _. refl) (λ _. refl) (λ _. refl) (λ _. refl) c

-- ---- the parts of a Context

not_zero : (ebi : ℕ) (bad : CBad) → 0 < ebi → cond (eqb ebi 0 || eqb ebi 0) (Some bad) None ≡ None
not_zero ebi bad some =
    let test : eqb ebi 0 ≡ false = ne_eqb ebi 0 (omega arith) in rw test refl

is_not_zero : (ebi : ℕ) (bad : CBad) → cond (eqb ebi 0 || eqb ebi 0) (Some bad) None ≡ None → 0 < ebi
is_not_zero zero bad none = absurd cc
is_not_zero (suc ebi) bad none = omega arith

abbrev context : Option ℕ → Option CauseIe → Option (List ℕ) → List (ℕ × Fteid) → Option QosIe → Context
context ebi cause tft fteids qos = record { ebi = ebi; cause = cause; tft = tft; fteids = fteids; qos = qos }

assigned_no_fault : (ebi : Option ℕ) (cause : Option CauseIe) (tft : Option (List ℕ)) (fteids : List (ℕ × Fteid))
    (qos : Option QosIe)
    → IsAssigned ebi → part_fault (map as_read
    (context_elements (context ebi cause tft fteids qos))) parts.AssignedEbi ≡ None
assigned_no_fault None cause tft fteids qos assigned = absurd assigned
assigned_no_fault (Some ebi) cause tft fteids qos assigned = not_zero ebi _ assigned

no_fault_assigned : (ebi : Option ℕ) (cause : Option CauseIe) (tft : Option (List ℕ)) (fteids : List (ℕ × Fteid))
    (qos : Option QosIe)
    → part_fault (map as_read (context_elements (context ebi cause tft fteids qos))) parts.AssignedEbi ≡ None
    → IsAssigned ebi
unfolding holds
no_fault_assigned None cause tft fteids qos none =
    let c : Context = context None cause tft fteids qos in
    let has : Has (context_elements c) kinds.Ebi = no_fault_has kinds.Ebi (context_elements c) (none_first _ _ none) in
    let some : false ≡ true = sym (any_is kinds.Ebi c) ∙ has in absurd cc
no_fault_assigned (Some ebi) cause tft fteids qos none = is_not_zero ebi _ none

part_no_fault : (part : Part) (c : Context) → HasPart part c → part_fault (map as_read (context_elements c)) part ≡ None
part_no_fault (parts.Ie kind) c has = has_no_fault kind (context_elements c) (any_is kind c ∙ has_holds kind c has)
part_no_fault parts.AssignedEbi c has = assigned_no_fault c.ebi c.cause c.tft c.fteids c.qos has

no_fault_part : (part : Part) (c : Context) → part_fault (map as_read (context_elements c)) part ≡ None → HasPart part c
no_fault_part (parts.Ie kind) c none =
    holds_has kind c (sym (any_is kind c) ∙ no_fault_has kind (context_elements c) none)
no_fault_part parts.AssignedEbi c none = no_fault_assigned c.ebi c.cause c.tft c.fteids c.qos none

parts_no_fault : (parts : List Part) (c : Context) → AllByRecursion (λ part. HasPart part c) parts
    → parts_fault (map as_read (context_elements c)) parts ≡ None
parts_no_fault [] c has = refl
parts_no_fault (part ∷ parts) c has = neither _ _ (part_no_fault part c has.0) (parts_no_fault parts c has.1)

no_fault_parts : (parts : List Part) (c : Context) → parts_fault (map as_read (context_elements c)) parts ≡ None
    → AllByRecursion (λ part. HasPart part c) parts
no_fault_parts [] c none = tt
no_fault_parts (part ∷ parts) c none =
    (no_fault_part part c (none_first _ _ none), no_fault_parts parts c (none_second _ _ none))

-- ---- all the Contexts

all_first : {X Y : Type 0} (R : X → Y → Type 0) (x : X) (xs : List X) (ys : List Y)
    → AllByRecursion (λ y. AllByRecursion (λ w. R w y) (x ∷ xs)) ys → AllByRecursion (R x) ys
all_first R x xs [] all = tt
all_first R x xs (y ∷ ys) all = (all.0.0, all_first R x xs ys all.1)

all_others : {X Y : Type 0} (R : X → Y → Type 0) (x : X) (xs : List X) (ys : List Y)
    → AllByRecursion (λ y. AllByRecursion (λ w. R w y) (x ∷ xs)) ys
    → AllByRecursion (λ y. AllByRecursion (λ w. R w y) xs) ys
all_others R x xs [] all = tt
all_others R x xs (y ∷ ys) all = (all.0.1, all_others R x xs ys all.1)

-- what holds of each of the one with each of the other holds the other way round
pub each_other : {X Y : Type 0} (R : X → Y → Type 0) (xs : List X) (ys : List Y)
    → AllByRecursion (λ y. AllByRecursion (λ x. R x y) xs) ys → AllByRecursion (λ x. AllByRecursion (R x) ys) xs
each_other R [] ys all = tt
each_other R (x ∷ xs) ys all = (all_first R x xs ys all, each_other R xs ys (all_others R x xs ys all))

inside_no_fault : (parts : List Part) (contexts : List Context)
    → AllByRecursion (λ c. AllByRecursion (λ part. HasPart part c) parts) contexts
    → inside_fault parts (map context_as_read contexts) ≡ None
inside_no_fault parts [] has = refl
inside_no_fault parts (c ∷ contexts) has =
    neither _ _ (parts_no_fault parts c has.0) (inside_no_fault parts contexts has.1)

no_fault_inside : (parts : List Part) (contexts : List Context)
    → inside_fault parts (map context_as_read contexts) ≡ None
    → AllByRecursion (λ c. AllByRecursion (λ part. HasPart part c) parts) contexts
no_fault_inside parts [] none = tt
no_fault_inside parts (c ∷ contexts) none =
    (no_fault_parts parts c (none_first _ _ none), no_fault_inside parts contexts (none_second _ _ none))

-- ---- whether a Context is there

unfoldable pub is_any : List Context → Bool
is_any [] = false
is_any (c ∷ contexts) = true

kept : (test : Bool) (c : Context) → test ≡ is_some (cond test (Some c) None)
kept true c = refl
kept false c = refl

dropped : (test : Bool) → let none : Option Context = None in false ≡ is_some (cond test none none)
dropped true = refl
dropped false = refl

pub is_context_here : (instance : ℕ) (value : IeValue)
    → is_of kinds.Context 0 (record { instance = instance; value = value })
    ≡ is_some (first_context (record { instance = instance; value = value }))
is_context_here instance (values.Context c) = kept (eqb instance 0) c
is_context_here instance _ = dropped (eqb instance 0)

any_behind : (first : Option Context) (rest : List Context)
    → is_any (cons_option first rest) ≡ (is_some first || is_any rest)
unfolding is_any
any_behind None rest = refl
any_behind (Some c) rest = refl

-- a Context of instance 0 is there where the list of them isn't empty
pub any_context : (ies : List Element) → list_any (is_of kinds.Context 0) ies ≡ is_any (contexts_of ies)
unfolding is_any
any_context [] = refl
any_context (ie ∷ ies) =
    ap (λ (here : Bool). here || list_any (is_of kinds.Context 0) ies) (is_context_here ie.instance ie.value)
    ∙ ap (λ (rest : Bool). is_some (first_context ie) || rest) (any_context ies)
    ∙ sym (any_behind (first_context ie) (contexts_of ies))

contexts_no_fault : (must : Bool) (parts : List Part) (contexts : List Context) → (must ≡ true → is_any contexts ≡ true)
    → inside_fault parts (map context_as_read contexts) ≡ None
    → contexts_fault must parts (map context_as_read contexts) ≡ None
unfolding is_any
contexts_no_fault true parts [] there inside = absurd (let none : false ≡ true = there refl in cc)
contexts_no_fault true parts (c ∷ contexts) there inside = inside
contexts_no_fault false parts [] there inside = inside
contexts_no_fault false parts (c ∷ contexts) there inside = inside

no_fault_there : (must : Bool) (parts : List Part) (contexts : List Context)
    → contexts_fault must parts (map context_as_read contexts) ≡ None → must ≡ true → is_any contexts ≡ true
unfolding is_any
no_fault_there true parts [] none must = absurd cc
no_fault_there true parts (c ∷ contexts) none must = refl
no_fault_there false parts contexts none must = absurd cc

no_fault_within : (must : Bool) (parts : List Part) (contexts : List Context)
    → contexts_fault must parts (map context_as_read contexts) ≡ None
    → inside_fault parts (map context_as_read contexts) ≡ None
no_fault_within true parts [] none = refl
no_fault_within true parts (c ∷ contexts) none = none
no_fault_within false parts [] none = none
no_fault_within false parts (c ∷ contexts) none = none

-- ---- a row

pub meets_no_fault : (row : RequiredIes) (ies : List Element) → MeetsRow row ies
    → row_fault row (map as_read ies) (contexts_as_read ies) ≡ None
meets_no_fault row ies meets =
    let each = each_other (λ (c : Context) (part : Part). HasPart part c) (contexts_of ies) row.inside meets.inside in
    neither _ _ (kinds_no_fault ies row.before meets.before)
    (neither _ _
    (contexts_no_fault row.must row.inside (contexts_of ies) (λ must. sym (any_context ies) ∙ meets.context must)
    (inside_no_fault row.inside (contexts_of ies) each))
    (kinds_no_fault ies row.after meets.after))

pub no_fault_meets : (row : RequiredIes) (ies : List Element) → row_fault row (map as_read ies) (contexts_as_read ies) ≡ None
    → MeetsRow row ies
no_fault_meets row ies none =
    let contexts : Option CBad = contexts_fault row.must row.inside (contexts_as_read ies) in
    let after : Option CBad = kinds_fault (map as_read ies) row.after in
    let behind : option_or contexts after ≡ None = none_second _ _ none in
    let within = no_fault_within row.must row.inside (contexts_of ies) (none_first contexts after behind) in
    record {
      before = no_fault_kinds ies row.before (none_first _ _ none);
      context = λ must. any_context ies
          ∙ no_fault_there row.must row.inside (contexts_of ies) (none_first contexts after behind) must;
      inside = each_other HasPart row.inside (contexts_of ies) (no_fault_inside row.inside (contexts_of ies) within);
      after = no_fault_kinds ies row.after (none_second contexts after behind);
    }

-- Elements that were read are written in no more octets than they were read from.
use Rattle.std.proofs.Common.{get_or, map, ◌&&◌, ◌≡◌, ℕ, zero, suc, ◌+◌, ◌-◌, ◌*◌, ◌%◌, ◌≤◌, Bool, true, false, eqb, ltb, leb, cond, List, [], ◌∷◌, length, drop, Option, Some, None, Result, Ok, Err, refl, ap, subst, arith, length-append, length-take}
use Rattle.std.specs.Prelude.{IfSome}
use Rattle.std.specs.List.{flat_map, filter_map, cons_option}
use Rattle.std.specs.Option.{option_map, option_and_then}
use Rattle.std.proofs.lemmas.Bool.{ltb-false, eqb-true}
use Rattle.gtpv2_ie.specs.declared.cause.CauseIe.{CauseIe}
use Rattle.gtpv2_ie.specs.declared.context.Context.{Context}
use Rattle.gtpv2_ie.specs.declared.fault.IeBad.{IeBad}
use Rattle.gtpv2_ie.specs.declared.fteid.Fteid.{Fteid}
use Rattle.gtpv2_ie.specs.declared.kind.IeKind.{IeKind}
use Rattle.gtpv2_ie.specs.declared.kind.IeKind.TheVariants as kinds
use Rattle.gtpv2_ie.specs.declared.qos.QosIe.{QosIe}
use Rattle.gtpv2_ie.specs.declared.raw.RawIe.{RawIe}
use Rattle.gtpv2_ie.specs.declared.value.IeValue.{IeValue}
use Rattle.gtpv2_ie.specs.declared.value.IeValue.TheVariants as values
use Rattle.gtpv2_ie.specs.Context.{ebi_value, cause_value, tft_value, qos_value, fteid_value, context_with}
use Rattle.gtpv2_ie.specs.Element.{Element}
use Rattle.gtpv2_ie.specs.Fields.{ebi_of, pdn_of, paa_of, octets_of, cause_of, fteid_of}
use Rattle.gtpv2_ie.specs.Imsi.{digit_pair, pair_digits, second_digit, with_pair, digits_of, if_imsi, imsi_of, imsi_octets}
use Rattle.gtpv2_ie.specs.Kind.{row, no_context, least_len, kind_at}
use Rattle.wire_octets.specs.Numbers.{be16_at}
use Rattle.gtpv2_ie.specs.Spelling.{cause_octets, plain_octets, element_octets, empty_context, if_some, fteid_element, context_octets, spellings}
use Rattle.gtpv2_ie.specs.Stand.{with_first, ies_from, ies_of, value_in}
use Rattle.gtpv2_ie.specs.Value.{kind_value, value_at, element_at, inner_elements, context_in, context_of, known_elements}
use Rattle.gtpv2_ie.proofs.ContextValidity.{inner_len, inner_len-append, length-context_octets, one_part}
use Rattle.gtpv2_msg.specs.Elements.{read_ies, known_of}

-- what stands in octets takes so many of them
abbrev total : List RawIe → ℕ
total [] = 0
total (raw ∷ raws) = 4 + (raw.to - raw.from) + total raws

abbrev at_most_left : ℕ → ℕ → Result (List RawIe) IeBad → Type 0
at_most_left left len (Ok raws) = left + total raws ≤ len
at_most_left left len (Err bad) = Unit {0}

one_more : (at left value len : ℕ) (raw : RawIe) (read : Result (List RawIe) IeBad) → raw.to - raw.from ≡ value
    → at_most_left value len read
    → at_most_left 0 (suc (suc (suc (suc len)))) (with_first raw read)
one_more at left value len raw (Ok raws) long most = omega (arith, long, most)
one_more at left value len raw (Err bad) long most = tt

one_fewer : (left len : ℕ) (read : Result (List RawIe) IeBad) → at_most_left left len read
    → at_most_left (suc left) (suc len) read
one_fewer left len (Ok raws) most = omega (arith, most)
one_fewer left len (Err bad) most = tt

total_from : (left at : ℕ) (octets : List ℕ) → at_most_left left (length octets) (ies_from left at octets)
unfolding ies_from
total_from zero at [] = omega arith
total_from zero at (kind ∷ high ∷ low ∷ last ∷ rest) =
    let len : ℕ = be16_at (high ∷ low ∷ []) 0 in
    one_more at 0 len (length rest) (record { kind = kind; instance = last % 16; from = at + 4; to = at + 4 + len })
    (ies_from len (at + 4) rest) (omega arith) (total_from len (at + 4) rest)
total_from zero at (a ∷ []) = tt
total_from zero at (a ∷ b ∷ []) = tt
total_from zero at (a ∷ b ∷ c ∷ []) = tt
total_from (suc left) at [] = tt
total_from (suc left) at (octet ∷ rest) =
    one_fewer left (length rest) (ies_from left (at + 1) rest) (total_from left (at + 1) rest)

pub total_of : (octets : List ℕ) (raws : List RawIe) → ies_of octets ≡ Ok raws → total raws ≤ length octets
total_of octets raws read =
    let most = total_from 0 0 octets in let at : at_most_left 0 (length octets) (Ok raws) =
    subst (at_most_left 0 (length octets)) read most in omega (arith, at)

if_map : {X Y : Type 0} (f : X → Y) (o : Option X) (P : Y → Type 0) → IfSome o (λ x. P (f x))
    → IfSome (option_map f o) P
if_map f None P holds = tt
if_map f (Some x) P holds = holds

if_then : {X : Type 0} (test : Bool) (x : X) (P : X → Type 0) → P x → IfSome (cond test (Some x) None) P
if_then true x P holds = holds
if_then false x P holds = tt

if_else : {X : Type 0} (test : Bool) (x : X) (P : X → Type 0) → P x → IfSome (cond test None (Some x)) P
if_else true x P holds = tt
if_else false x P holds = holds

if_long : {X : Type 0} (short : Bool) (len least : ℕ) (o : Option X) (P : X → Type 0) → ltb len least ≡ short
    → (least ≤ len → IfSome o P)
    → IfSome (cond short None o) P
if_long true len least o P is holds = tt
if_long false len least o P is holds = holds (ltb-false _ _ is)

second_len : (second : Option ℕ) → length (second_digit second) ≤ 1
second_len None = omega arith
second_len (Some digit) = omega arith

pair_few : (pair : Option (ℕ × Option ℕ)) (rest : Option (List ℕ)) (len : ℕ)
    → IfSome rest (λ digits. length digits ≤ 2 * len)
    → IfSome (with_pair pair rest) (λ digits. length digits ≤ 2 * suc len)
pair_few None rest len few = tt
pair_few (Some pair) None len few = tt
pair_few (Some pair) (Some digits) len few =
    omega (arith, few, second_len pair.1, length-append (pair_digits pair) digits)

digits_few : (octets : List ℕ) → IfSome (digits_of octets) (λ digits. length digits ≤ 2 * length octets)
unfolding digits_of
digits_few [] = omega arith
digits_few (octet ∷ octets) =
    pair_few (digit_pair octet (eqb (length octets) 0)) (digits_of octets) (length octets) (digits_few octets)

length-imsi_octets : (digits : List ℕ) → 2 * length (imsi_octets digits) ≤ length digits + 1
unfolding imsi_octets
length-imsi_octets [] = omega arith
length-imsi_octets (low ∷ []) = omega arith
length-imsi_octets (low ∷ high ∷ digits) = omega (arith, length-imsi_octets digits)

imsi_few : (digits : Option (List ℕ)) (len : ℕ) → IfSome digits (λ ds. length ds ≤ 2 * len)
    → IfSome (if_imsi digits) (λ ds. length (imsi_octets ds) ≤ len)
imsi_few None len few = tt
imsi_few (Some digits) len few =
    if_then (leb 6 (length digits) && leb (length digits) 15) digits (λ ds. length (imsi_octets ds) ≤ len)
    (omega (arith, few, length-imsi_octets digits))

abbrev cause_with : ℕ → Option (ℕ × ℕ) → CauseIe
cause_with cause offending = record { cause = cause; offending = offending }

cause_few : (longer zeros : Bool) (len cause kind instance : ℕ) → eqb len 6 ≡ longer → 2 ≤ len
    → IfSome (cond longer (cond zeros (Some (cause_with cause (Some (kind, instance)))) None)
    (Some (cause_with cause None))) (λ c. length (cause_octets c) ≤ len)
cause_few true true len cause kind instance is least = let six : len ≡ 6 = eqb-true _ _ is in omega (arith, six)
cause_few true false len cause kind instance is least = tt
cause_few false zeros len cause kind instance is least = omega (arith, least)

abbrev Few : (Context → List ℕ) → List ℕ → IeValue → Type 0
Few writes octets value = length (plain_octets writes value) ≤ length octets

-- the value of a kind takes no more octets than it was read from
value_few : (reads : List ℕ → Option Context) (writes : Context → List ℕ)
    → ((octets : List ℕ) → IfSome (reads octets) (λ c. length (writes c) ≤ length octets))
    → (kind : IeKind) (octets : List ℕ)
    → IfSome (kind_value reads kind octets) (λ v. length (plain_octets writes v) ≤ length octets)
value_few reads writes contexts kind octets =
    if_long (ltb (length octets) (least_len kind)) (length octets) (least_len kind) ((row reads kind).value octets)
    (λ v. length (plain_octets writes v) ≤ length octets) refl (long kind)
  where
    long : (kind : IeKind) → least_len kind ≤ length octets → IfSome ((row reads kind).value octets) (Few writes octets)
    long kinds.Imsi least =
        if_map values.Imsi (imsi_of octets) (Few writes octets)
        (imsi_few (digits_of octets) (length octets) (digits_few octets))
    long kinds.Cause least =
        if_map values.Cause (cause_of octets) (Few writes octets)
        (cause_few (eqb (length octets) 6) (eqb (be16_at octets 3) 0) (length octets) (get_or octets 0 0)
        (get_or octets 2 0) (get_or octets 5 0 % 16) refl least)
    long kinds.Recovery least = least
    long kinds.Apn least =
        if_map values.Apn (octets_of 100 octets) (Few writes octets)
        (if_then (leb (length octets) 100) octets (λ os. length os ≤ length octets) (omega arith))
    long kinds.Ambr least = least
    long kinds.Ebi least =
        if_map values.Ebi (ebi_of octets) (Few writes octets)
        (if_then _ (get_or octets 0 0 % 16) (λ _. 1 ≤ length octets) least)
    long kinds.Paa least =
        if_map values.Paa (paa_of octets) (Few writes octets) (if_then _ _ (λ _. 5 ≤ length octets) least)
    long kinds.Qos least = least
    long kinds.Rat least = least
    long kinds.Tft least =
        if_map values.Tft (octets_of 1000 octets) (Few writes octets)
        (if_then (leb (length octets) 1000) octets (λ os. length os ≤ length octets) (omega arith))
    long kinds.Fteid least =
        if_map values.Fteid (fteid_of octets) (Few writes octets) (if_else _ _ (λ _. 9 ≤ length octets) least)
    long kinds.Context least = if_map values.Context (reads octets) (Few writes octets) (contexts octets)
    long kinds.Pdn least =
        if_map values.Pdn (pdn_of octets) (Few writes octets)
        (if_then _ (get_or octets 0 0 % 8) (λ _. 1 ≤ length octets) least)

at_few : (reads : List ℕ → Option Context) (writes : Context → List ℕ)
    → ((octets : List ℕ) → IfSome (reads octets) (λ c. length (writes c) ≤ length octets))
    → (kind : Option IeKind) (octets : List ℕ)
    → IfSome (option_and_then (λ k. kind_value reads k octets) kind)
    (λ v. length (plain_octets writes v) ≤ length octets)
at_few reads writes contexts None octets = tt
at_few reads writes contexts (Some kind) octets = value_few reads writes contexts kind octets

widened : (o : Option IeValue) (writes : Context → List ℕ) (len most : ℕ) → len ≤ most
    → IfSome o (λ v. length (plain_octets writes v) ≤ len)
    → IfSome o (λ v. 4 + length (plain_octets writes v) ≤ 4 + most)
widened None writes len most le few = tt
widened (Some v) writes len most le few = omega (arith, le, few)

element_few : (reads : List ℕ → Option Context) (writes : Context → List ℕ)
    → ((octets : List ℕ) → IfSome (reads octets) (λ c. length (writes c) ≤ length octets))
    → (octets : List ℕ) (raw : RawIe)
    → IfSome (element_at reads octets raw) (λ ie. length (element_octets writes ie) ≤ 4 + (raw.to - raw.from))
element_few reads writes contexts octets raw =
    if_map (λ value. record { instance = raw.instance; value = value }) (value_at reads raw.kind (value_in octets raw))
    (λ (ie : Element). length (element_octets writes ie) ≤ 4 + (raw.to - raw.from))
    (same (value_at reads raw.kind (value_in octets raw))
    (widened (value_at reads raw.kind (value_in octets raw)) writes (length (value_in octets raw)) (raw.to - raw.from)
    (omega (arith, length-take (raw.to - raw.from) (drop raw.from octets)))
    (at_few reads writes contexts (kind_at raw.kind) (value_in octets raw))))
  where
    same : (o : Option IeValue) → IfSome o (λ v. 4 + length (plain_octets writes v) ≤ 4 + (raw.to - raw.from))
        → IfSome o (λ v. length (element_octets writes (record { instance = raw.instance; value = v })) ≤ 4 +
        (raw.to - raw.from))
    same None few = tt
    same (Some v) few = omega (arith, few)

-- one more element is no more text than its own
more_text : (writes : Context → List ℕ) (o : Option Element) (ies : List Element) (own rest : ℕ)
    → IfSome o (λ ie. length (element_octets writes ie) ≤ own)
    → length (flat_map (element_octets writes) ies) ≤ rest
    → length (flat_map (element_octets writes) (cons_option o ies)) ≤ own + rest
more_text writes None ies own rest few others = omega (arith, others)
more_text writes (Some ie) ies own rest few others =
    omega (arith, few, others, length-append (element_octets writes ie) (flat_map (element_octets writes) ies))

elements_few : (reads : List ℕ → Option Context) (writes : Context → List ℕ)
    → ((octets : List ℕ) → IfSome (reads octets) (λ c. length (writes c) ≤ length octets))
    → (octets : List ℕ) (raws : List RawIe)
    → length (flat_map (element_octets writes) (filter_map (element_at reads octets) raws)) ≤ total raws
elements_few reads writes contexts octets [] = omega arith
elements_few reads writes contexts octets (raw ∷ raws) =
    more_text writes (element_at reads octets raw) (filter_map (element_at reads octets) raws)
    (4 + (raw.to - raw.from)) (total raws)
    (element_few reads writes contexts octets raw) (elements_few reads writes contexts octets raws)

-- the octets of a Context, part by part
abbrev parts_len : Option ℕ → Option CauseIe → Option (List ℕ) → List (ℕ × Fteid) → Option QosIe → ℕ
parts_len ebi cause tft fteids qos =
    inner_len (if_some values.Ebi ebi) + inner_len (if_some values.Cause cause) + inner_len (if_some values.Tft tft)
    + inner_len (map fteid_element fteids) + inner_len (if_some values.Qos qos)

fteid_part : (first : Option (ℕ × Fteid)) (rest : List (ℕ × Fteid))
    → inner_len (map fteid_element (cons_option first rest)) ≤ inner_len
    (map fteid_element (cons_option first [])) + inner_len (map fteid_element rest)
fteid_part None rest = omega arith
fteid_part (Some f) rest = omega (arith, inner_len-append (fteid_element f ∷ []) (map fteid_element rest))

-- what an element gives to a Context is no more than its own octets
own_len : (instance : ℕ) (value : IeValue)
    → parts_len (ebi_value value) (cause_value value) (tft_value value) (cons_option (fteid_value instance value) [])
    (qos_value value)
    ≤ inner_len (record { instance = instance; value = value } ∷ [])
own_len instance (values.Ebi ebi) = omega arith
own_len instance (values.Cause cause) = omega arith
own_len instance (values.Tft octets) = omega arith
own_len instance (values.Fteid fteid) = omega arith
own_len instance (values.Qos qos) = omega arith
own_len instance (values.Imsi _) = omega arith
own_len instance (values.Recovery _) = omega arith
own_len instance (values.Apn _) = omega arith
own_len instance (values.Ambr _ _) = omega arith
own_len instance (values.Paa _) = omega arith
own_len instance (values.Rat _) = omega arith
own_len instance (values.Context _) = omega arith
own_len instance (values.Pdn _) = omega arith

context_with_few : (ies : List Element) → length (context_octets (context_with ies)) ≤ inner_len ies
context_with_few [] = omega arith
context_with_few (ie ∷ ies) =
    let c : Context = context_with ies in
    let all : Context = context_with (ie ∷ ies) in
    omega (
      arith,
      length-context_octets all,
      length-context_octets c,
      context_with_few ies,
      own_len ie.instance ie.value,
      inner_len-append (ie ∷ []) ies,
      one_part values.Ebi (ebi_value ie.value) c.ebi,
      one_part values.Cause (cause_value ie.value) c.cause,
      one_part values.Tft (tft_value ie.value) c.tft,
      fteid_part (fteid_value ie.instance ie.value) c.fteids,
      one_part values.Qos (qos_value ie.value) c.qos,
    )

no_contexts : (octets : List ℕ) → IfSome (no_context octets) (λ c. length (empty_context c) ≤ length octets)
no_contexts octets = tt

-- a Context is written in no more octets than it was read from
pub context_few : (octets : List ℕ) (read : Result (List RawIe) IeBad) → ies_of octets ≡ read
    → IfSome (context_in octets read) (λ c. length (context_octets c) ≤ length octets)
context_few octets (Err bad) is = tt
context_few octets (Ok raws) is =
    omega (
      arith,
      context_with_few
          (inner_elements octets raws),
      elements_few no_context empty_context no_contexts octets raws,
      total_of octets raws is,
    )

known_is : (octets : List ℕ) (raws : List RawIe) → known_of (read_ies octets raws) ≡ known_elements octets raws
known_is octets [] = refl
known_is octets (raw ∷ raws) = ap (cons_option (element_at context_of octets raw)) (known_is octets raws)

-- elements that were read are written in no more octets
pub no_longer : (octets : List ℕ) (raws : List RawIe) → ies_of octets ≡ Ok raws
    → length (spellings (known_of (read_ies octets raws))) ≤ length octets
no_longer octets raws is =
    omega (
      arith,
      ap (λ ies. length (spellings ies)) (known_is octets raws),
      elements_few context_of context_octets (λ os. context_few os (ies_of os) refl) octets raws,
      total_of octets raws is,
    )

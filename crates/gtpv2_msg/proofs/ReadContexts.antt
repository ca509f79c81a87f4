-- A Context that is made of the elements read in its octets, and what is wrong inside Contexts, one
-- behind another.
use Rattle.std.proofs.Common.{◌≡◌, ℕ, ◌+◌, ◌^◌, ◌<◌, ◌≤◌, List, [], ◌∷◌, ◌++◌, length, get_or, take, Option, Some, Ok, refl, sym, ap, subst, ◌∙◌, arith}
use Rattle.std.specs.Prelude.{IfSome}
use Rattle.std.specs.Option.{option_or}
use Rattle.std.proofs.lemmas.List.{take_more, map-append}
use Rattle.std.proofs.lemmas.List.Elements.{filter_map-append}
use Rattle.gtpv2_ie.specs.declared.context.Context.{Context}
use Rattle.gtpv2_ie.specs.declared.raw.RawIe.{RawIe}
use Rattle.gtpv2_ie.specs.Context.{context_with}
use Rattle.gtpv2_ie.specs.Element.{Element}
use Rattle.gtpv2_ie.specs.Spelling.{context_octets}
use Rattle.gtpv2_ie.specs.Stand.{ies_of}
use Rattle.gtpv2_ie.specs.Value.{context_in, context_of}
use Rattle.gtpv2_ie.proofs.ContextLemmas.{option_or_assoc}
use Rattle.gtpv2_msg.specs.declared.element.ReadIe.{ReadIe}
use Rattle.gtpv2_msg.specs.declared.fault.CBad.{CBad}
use Rattle.gtpv2_msg.specs.declared.table.Part.{Part}
use Rattle.gtpv2_msg.specs.Elements.{read_ie, read_ies, context_at, contexts_in, known_of}
use Rattle.gtpv2_msg.specs.RowFault.{context_fault, inside_fault}
use Rattle.gtpv2_msg.proofs.NoLonger.{context_few}
use Rattle.gtpv2_msg.proofs.WhatIsRead.{same_context}

-- the Context of the elements read is the one that the octets spell
pub read_is : (octets : List ℕ) (raws : List RawIe) (ies : List ReadIe) (known : List Element) (c : Context)
    → ies_of octets ≡ Ok raws → ies ≡ read_ies octets raws → known ≡ known_of ies → c ≡ context_with known
    → Some c ≡ context_of octets
read_is octets raws ies known c is ies_are known_are c_is =
    ap Some c_is ∙ ap (λ (k : List Element). Some (context_with k)) known_are
    ∙ ap (λ (i : List ReadIe). Some (context_with (known_of i))) ies_are
    ∙ ap Some (sym (same_context octets raws)) ∙ sym (ap (context_in octets) is)

-- it fits the length field where its octets do
pub read_fits : (octets : List ℕ) (c : Context) → Some c ≡ context_of octets → length octets < 2 ^ 16
    → length (context_octets c) < 2 ^ 16
read_fits octets c is fits =
    let few : length (context_octets c) ≤ length octets =
    subst (λ (read : Option Context). IfSome read (λ k. length (context_octets k) ≤ length octets)) (sym is)
    (context_few octets (ies_of octets) refl) in
    omega (arith, few)

inside_fault-append : (inside : List Part) (xs ys : List (Option (List ReadIe)))
    → inside_fault inside (xs ++ ys) ≡ option_or (inside_fault inside xs) (inside_fault inside ys)
inside_fault-append inside [] ys = refl
inside_fault-append inside (x ∷ xs) ys =
    ap (option_or (context_fault inside x)) (inside_fault-append inside xs ys)
    ∙ option_or_assoc (context_fault inside x) (inside_fault inside xs) (inside_fault inside ys)

-- what stands at one place more
pub value-more : (octets : List ℕ) (raws : List RawIe) (i : ℕ) (none : RawIe) (ies next : List ReadIe) (ie : ReadIe)
    → i < length raws → ies ≡ read_ies octets (take i raws) → ie ≡ read_ie octets (get_or raws i none)
    → next ≡ ies ++ ie ∷ [] → next ≡ read_ies octets (take (i + 1) raws)
value-more octets raws i none ies next ie there ies_are ie_is next_is =
    next_is ∙ ap (λ (is : List ReadIe). is ++ ie ∷ []) ies_are
    ∙ ap (λ (it : ReadIe). read_ies octets (take i raws) ++ it ∷ []) ie_is
    ∙ sym (map-append (read_ie octets) (take i raws) (get_or raws i none ∷ []))
    ∙ ap (read_ies octets) (sym (take_more raws i none there))

-- with one place more the first fault stays, or it is that of the place
pub fault-more : (octets : List ℕ) (inside : List Part) (raws : List RawIe) (i : ℕ) (none : RawIe)
    (first fault next : Option CBad) → i < length raws
    → first ≡ inside_fault inside (contexts_in octets (take i raws))
    → fault ≡ inside_fault inside (contexts_in octets (get_or raws i none ∷ []))
    → next ≡ option_or first fault
    → next ≡ inside_fault inside (contexts_in octets (take (i + 1) raws))
fault-more octets inside raws i none first fault next there first_is fault_is next_is =
    let before = contexts_in octets (take i raws) in
    let here = contexts_in octets (get_or raws i none ∷ []) in
    next_is ∙ ap (λ f. option_or f fault) first_is ∙ ap (option_or (inside_fault inside before)) fault_is
    ∙ sym (inside_fault-append inside before here)
    ∙ ap (inside_fault inside) (sym (filter_map-append (context_at octets) (take i raws) (get_or raws i none ∷ [])))
    ∙ ap (λ (rs : List RawIe). inside_fault inside (contexts_in octets rs)) (sym (take_more raws i none there))

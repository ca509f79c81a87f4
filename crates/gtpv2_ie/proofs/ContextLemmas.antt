-- A Context of one element more.
use Rattle.std.proofs.Common.{◌≡◌, ℕ, ◌+◌, ◌<◌, List, [], ◌∷◌, ◌++◌, length, get_or, take, Option, Some, None, refl, sym, ap, ◌∙◌}
use Rattle.std.specs.List.{cons_option}
use Rattle.std.specs.Option.{option_or}
use Rattle.std.proofs.lemmas.List.{append-nil, take_more}
use Rattle.std.proofs.lemmas.List.Elements.{filter_map-append}
use Rattle.gtpv2_ie.specs.declared.context.Context.{Context}
use Rattle.gtpv2_ie.specs.declared.raw.RawIe.{RawIe}
use Rattle.gtpv2_ie.specs.Element.{Element}
use Rattle.gtpv2_ie.specs.Kind.{no_context}
use Rattle.gtpv2_ie.specs.Context.{first_of, ebi_value, cause_value, tft_value, qos_value, fteid_value, context_with, put_in, put_if}
use Rattle.gtpv2_ie.specs.Value.{element_at, inner_elements}

pub option_or-None : {X : Type 0} (o : Option X) → option_or o None ≡ o
option_or-None None = refl
option_or-None (Some x) = refl

pub option_or_assoc : {X : Type 0} (a b c : Option X) → option_or a (option_or b c) ≡ option_or (option_or a b) c
option_or_assoc None b c = refl
option_or_assoc (Some x) b c = refl

first_of-push : {X : Type 0} (part : Element → Option X) (ies : List Element) (ie : Element)
    → first_of part (ies ++ ie ∷ []) ≡ option_or (first_of part ies) (part ie)
first_of-push part [] ie = option_or-None (part ie)
first_of-push part (first ∷ ies) ie =
    ap (option_or (part first)) (first_of-push part ies ie) ∙ option_or_assoc (part first) (first_of part ies) (part ie)

pub context_with-push : (ies : List Element) (ie : Element)
    → context_with (ies ++ ie ∷ []) ≡ put_in (context_with ies) ie
context_with-push ies ie =
    rw (
      first_of-push (λ e. ebi_value e.value) ies ie,
      first_of-push (λ e. cause_value e.value) ies ie,
      first_of-push (λ e. tft_value e.value) ies ie,
      first_of-push (λ e. qos_value e.value) ies ie,
      filter_map-append (λ (e : Element). fteid_value e.instance e.value) ies (ie ∷ []),
    ) refl

put_of_option : (ies : List Element) (ie : Option Element)
    → context_with (ies ++ cons_option ie []) ≡ put_if (context_with ies) ie
put_of_option ies None = ap context_with (append-nil ies)
put_of_option ies (Some ie) = context_with-push ies ie

-- one more of the elements in octets, if it is inside its grammar
pub one_more : (octets : List ℕ) (raws : List RawIe) (i : ℕ) (none : RawIe) → i < length raws
    → context_with (inner_elements octets (take (i + 1) raws))
    ≡ put_if (context_with (inner_elements octets (take i raws))) (element_at no_context octets (get_or raws i none))
one_more octets raws i none inside =
    let all : inner_elements octets (take (i + 1) raws)
    ≡ inner_elements octets (take i raws) ++ cons_option (element_at no_context octets (get_or raws i none)) [] =
    ap (inner_elements octets) (take_more raws i none inside)
    ∙ filter_map-append (element_at no_context octets) (take i raws) (get_or raws i none ∷ []) in
    ap context_with all
    ∙ put_of_option (inner_elements octets (take i raws)) (element_at no_context octets (get_or raws i none))

-- the same for a Context that holds the elements before
pub put_one_more : (octets : List ℕ) (raws : List RawIe) (i : ℕ) (none : RawIe) (old new : Context) → i < length raws
    → old ≡ context_with (inner_elements octets (take i raws))
    → new ≡ put_if old (element_at no_context octets (get_or raws i none))
    → new ≡ context_with (inner_elements octets (take (i + 1) raws))
put_one_more octets raws i none old new inside old_is new_is =
    new_is ∙ ap (λ context. put_if context (element_at no_context octets (get_or raws i none))) old_is
    ∙ sym (one_more octets raws i none inside)

-- A message that has what its type asks for has what its command takes.
use Rattle.std.proofs.Common.{◌≡◌, ℕ, eqb, Bool, true, false, ◌&&◌, Option, Some, None, if◌then◌else◌, option_map, option_and_then, List, [], ◌∷◌, refl, subst, arith}
use Rattle.std.specs.Prelude.{IsSome, find}
use Rattle.std.specs.List.{AllByRecursion, cons_option}
use Rattle.tft_codec.specs.Reading.{◌>>=◌}
use Rattle.std.proofs.lemmas.Bool.{ne_eqb}
use Rattle.gtpv2_ie.specs.declared.context.Context.{Context}
use Rattle.gtpv2_ie.specs.declared.kind.IeKind.{IeKind}
use Rattle.gtpv2_ie.specs.declared.kind.IeKind.TheVariants as kinds
use Rattle.gtpv2_ie.specs.declared.value.IeValue.{IeValue}
use Rattle.gtpv2_ie.specs.declared.value.IeValue.TheVariants as values
use Rattle.gtpv2_ie.specs.Element.{Element}
use Rattle.gtpv2_ie.specs.Kind.{type_octet}
use Rattle.gtpv2_ie.specs.Spelling.{kind_of}
use Rattle.gtpv2_msg.specs.declared.table.Part.TheVariants as parts
use Rattle.gtpv2_msg.specs.HasRequired.{Has, HasPart, IsAssigned, MeetsRow, HasRequired}
use Rattle.gtpv2_msg.specs.Lookup.{is_of, first_value, context_value, contexts_of}
use Rattle.gtpv2_msg.specs.Message.{Message}
use Rattle.gtpv2_msg.specs.Required.{required}
use Rattle.demux.specs.Mme.{create_asked}
use Rattle.demux.specs.Requests.{imsi_value, cause_value, rates_value, pdn_value, peer_value, imsi_in, cause_in, rates_in, pdn_in, mme_in, context_in, assigned, creation, bearer_answer}

-- a value of a kind is that kind's
abbrev IsOf : IeKind → IeValue → Type 0
IsOf kind value = eqb (type_octet (kind_of value)) (type_octet kind) ≡ true

imsi_is : (value : IeValue) → IsOf kinds.Imsi value → IsSome (imsi_value value)
imsi_is (values.Imsi digits) is = refl
imsi_is value is = absurd cc

cause_is : (value : IeValue) → IsOf kinds.Cause value → IsSome (cause_value value)
cause_is (values.Cause cause) is = refl
cause_is value is = absurd cc

rates_are : (value : IeValue) → IsOf kinds.Ambr value → IsSome (rates_value value)
rates_are (values.Ambr up down) is = refl
rates_are value is = absurd cc

pdn_is : (value : IeValue) → IsOf kinds.Pdn value → IsSome (pdn_value value)
pdn_is (values.Pdn pdn) is = refl
pdn_is value is = absurd cc

peer_is : (value : IeValue) → IsOf kinds.Fteid value → IsSome (peer_value value)
peer_is (values.Fteid fteid) is = refl
peer_is value is = absurd cc

context_is : (value : IeValue) → IsOf kinds.Context value → IsSome (context_value value)
context_is (values.Context context) is = refl
context_is value is = absurd cc

-- what the first element of a kind holds
left_holds : (a b : Bool) → (a && b) ≡ true → a ≡ true
left_holds true b is = refl
left_holds false b is = absurd cc

there : {X : Type 0} (of : IeValue → Option X) (kind : IeKind) (ies : List Element) (test : Bool) (ie : Element)
    → ((value : IeValue) → IsOf kind value → IsSome (of value)) → is_of kind 0 ie ≡ test
    → (test ≡ false → IsSome (option_and_then of (first_value kind 0 ies)))
    → IsSome (option_and_then of (first_value kind 0 (ie ∷ ies)))
there of kind ies true ie is here later =
    rw here (is ie.value (left_holds (eqb (type_octet (kind_of ie.value)) (type_octet kind)) (eqb ie.instance 0) here))
there of kind ies false ie is here later = rw here (later refl)

has_value : {X : Type 0} (of : IeValue → Option X) (kind : IeKind)
    → ((value : IeValue) → IsOf kind value → IsSome (of value))
    → (ies : List Element) → Has ies kind → IsSome (option_and_then of (first_value kind 0 ies))
has_value of kind is [] has = absurd cc
has_value of kind is (ie ∷ ies) has =
    there of kind ies (is_of kind 0 ie) ie is refl (λ not_here. has_value of kind is ies (rw not_here at has))

pub has_imsi : (ies : List Element) → Has ies kinds.Imsi → IsSome (imsi_in ies)
has_imsi = has_value imsi_value kinds.Imsi imsi_is

pub has_cause : (ies : List Element) → Has ies kinds.Cause → IsSome (cause_in ies)
has_cause = has_value cause_value kinds.Cause cause_is

pub has_rates : (ies : List Element) → Has ies kinds.Ambr → IsSome (rates_in ies)
has_rates = has_value rates_value kinds.Ambr rates_are

pub has_pdn : (ies : List Element) → Has ies kinds.Pdn → IsSome (pdn_in ies)
has_pdn = has_value pdn_value kinds.Pdn pdn_is

pub has_mme : (ies : List Element) → Has ies kinds.Fteid → IsSome (mme_in ies)
has_mme = has_value peer_value kinds.Fteid peer_is

pub has_context : (ies : List Element) → Has ies kinds.Context → IsSome (context_in ies)
has_context = has_value context_value kinds.Context context_is

-- the Context that counts is one of those of instance 0
other_kind : (P : Context → Type 0) (rest : List Element) (b : Bool)
    → AllByRecursion P (cons_option (if b then None else None) (contexts_of rest)) → AllByRecursion P (contexts_of rest)
other_kind P rest true all = all
other_kind P rest false all = all

own_kind : (P : Context → Type 0) (instance : ℕ) (own : Context) (rest : List Element) (context : Context) (b : Bool)
    → (context_in rest ≡ Some context → AllByRecursion P (contexts_of rest) → P context)
    → option_and_then context_value (option_map (λ (ie : Element). ie.value) (if b
    then Some (record { instance = instance; value = values.Context own })
    else find (is_of kinds.Context 0) rest)) ≡ Some context
    → AllByRecursion P (cons_option (if b then Some own else None) (contexts_of rest)) → P context
own_kind P instance own rest context true later is all = let same : own ≡ context = cc in subst P same all.0
own_kind P instance own rest context false later is all = later is all

one_more : (P : Context → Type 0) (instance : ℕ) (value : IeValue) (rest : List Element) (context : Context)
    → (context_in rest ≡ Some context → AllByRecursion P (contexts_of rest) → P context)
    → context_in (record { instance = instance; value = value } ∷ rest) ≡ Some context
    → AllByRecursion P (contexts_of (record { instance = instance; value = value } ∷ rest)) → P context
one_more P instance (values.Context own) rest context later is all =
    own_kind P instance own rest context (eqb instance 0) later is all
one_more P instance value rest context later is all = later is (other_kind P rest (eqb instance 0) all)

pub counted_context : (P : Context → Type 0) (ies : List Element) (context : Context) → context_in ies ≡ Some context
    → AllByRecursion P (contexts_of ies) → P context
counted_context P [] context is all = absurd cc
counted_context P (ie ∷ ies) context is all =
    one_more P ie.instance ie.value ies context (counted_context P ies context) is all

-- a step that has something to go on with
then_some : {A B : Type 0} (o : Option A) (f : A → Option B) → IsSome o → ((a : A) → o ≡ Some a → IsSome (f a))
    → IsSome (o >>= f)
then_some (Some a) f some next = next a refl
then_some None f some next = absurd cc

assigned_some : (ebi : Option ℕ) → IsAssigned ebi → IsSome (assigned ebi)
assigned_some (Some ebi) is = rw (ne_eqb ebi 0 (λ zero. absurd (omega (arith, is, zero)))) refl
assigned_some None is = absurd is

-- a Create Session Request (32), and a Create Bearer Response (96)
creation_of_row : (message : Message) → MeetsRow (required 32) message.ies → IsSome (creation message)
unfolding creation required
creation_of_row message meets =
    then_some (mme_in message.ies) _ (has_mme message.ies meets.before.1.0) (λ mme _.
    then_some (pdn_in message.ies) _ (has_pdn message.ies meets.before.1.1.0) (λ pdn _.
    then_some (rates_in message.ies) _ (has_rates message.ies meets.before.1.1.1.0) (λ rates _.
    then_some (context_in message.ies) _ (has_context message.ies (meets.context refl)) (λ context is.
    then_some (assigned context.ebi) _ (assigned_some context.ebi
    (counted_context (HasPart parts.AssignedEbi) message.ies context is meets.inside.0)) (λ ebi _.
    then_some context.qos _ (counted_context (HasPart (parts.Ie kinds.Qos)) message.ies context is
    meets.inside.1.0) (λ qos _. refl))))))

create_of_row : (message : Message) → MeetsRow (required 32) message.ies → IsSome (create_asked message)
unfolding required
create_of_row message meets =
    then_some (imsi_in message.ies) _ (has_imsi message.ies meets.before.0) (λ imsi _.
    then_some (mme_in message.ies) _ (has_mme message.ies meets.before.1.0) (λ mme _.
    then_some (creation message) _ (creation_of_row message meets) (λ create _. refl)))

answer_of_row : (message : Message) → MeetsRow (required 96) message.ies → IsSome (bearer_answer message)
unfolding bearer_answer required
answer_of_row message meets =
    then_some (cause_in message.ies) _ (has_cause message.ies meets.before.0) (λ cause _.
    then_some (context_in message.ies) _ (has_context message.ies (meets.context refl)) (λ context is.
    then_some context.ebi _ (counted_context (HasPart (parts.Ie kinds.Ebi)) message.ies context is meets.inside.0)
    (λ ebi _.
    then_some context.cause _ (counted_context (HasPart (parts.Ie kinds.Cause)) message.ies context is
    meets.inside.1.0) (λ row_cause _. refl))))

pub create_whole : (message : Message) → HasRequired message → message.kind ≡ 32 → IsSome (create_asked message)
create_whole message has is = create_of_row message (subst (λ kind. MeetsRow (required kind) message.ies) is has)

pub answer_whole : (message : Message) → HasRequired message → message.kind ≡ 96 → IsSome (bearer_answer message)
answer_whole message has is = answer_of_row message (subst (λ kind. MeetsRow (required kind) message.ies) is has)

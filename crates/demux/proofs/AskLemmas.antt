-- Of the asks for one EBI the first counts: one more ask, and the ranges that they keep.
use Rattle.std.proofs.Common.{◌≡◌, ℕ, ◌+◌, ◌-◌, ◌<◌, ◌≤◌, ◌==◌, ◌||◌, Bool, true, false, Option, Some, None, not, List, [], ◌∷◌, ◌++◌, length, take, get_or, add-one, map, append-nil, eqb, refl, sym, ap, subst, ◌∙◌, arith, eq-eqb}
use Rattle.std.specs.Prelude.{IfSome, option_and_then}
use Rattle.std.specs.List.{list_any, filter_map, cons_option, AllByRecursion, IsDistinct}
use Rattle.std.proofs.lemmas.Bool.{ne_eqb, eqb-true, false≢true}
use Rattle.std.proofs.Math.Seq.{take-suc}
use Rattle.std.proofs.lemmas.List.{length-map}
use Rattle.std.proofs.lemmas.List.Elements.{filter-append, filter_map-append}
use Rattle.std.proofs.lemmas.Map.Steps.{length-le_from_distinct_below}
use Rattle.gtpv2_ie.specs.declared.context.Context.{Context}
use Rattle.gtpv2_ie.specs.Element.{Element}
use Rattle.gtpv2_msg.specs.Lookup.{first_context, contexts_of}
use Rattle.bearer_state.specs.declared.ask.Ask.{Ask}
use Rattle.bearer_state.specs.Ask.{IsAsk, HaveTwoEbis, AreAsks}
use Rattle.bearer_state.specs.Bearer.{EachPair}
use Rattle.demux.specs.Requests.{ask_of, without_ebi, first_asks, each_ask, has_ebi, with_ask, ask_at}

eqb_no : (a b : ℕ) → eqb a b ≡ false → eqb b a ≡ false
eqb_no a b apart = ne_eqb b a (λ same. false≢true (sym apart ∙ eq-eqb a b (sym same)))

by_bool : {P : Type 0} (b : Bool) → (b ≡ true → P) → (b ≡ false → P) → P
by_bool true if_true if_false = if_true refl
by_bool false if_true if_false = if_false refl

-- an EBI that stays
has_without : (gone ebi : ℕ) (asks : List Ask) → eqb gone ebi ≡ false
    → has_ebi ebi (without_ebi gone asks) ≡ has_ebi ebi asks
has_without gone ebi [] apart = refl
has_without gone ebi (ask ∷ asks) apart = by_bool (eqb ask.ebi gone)
    (λ same. rw (same, eqb-true ask.ebi gone same, apart) (has_without gone ebi asks apart))
    (λ other. rw other (ap (λ rest. eqb ask.ebi ebi || rest) (has_without gone ebi asks apart)))

-- one more ask behind those of another EBI
push_behind : (first ask : Ask) (asks : List Ask)
    → first ∷ without_ebi first.ebi (with_ask asks (Some ask))
    ≡ with_ask (first ∷ without_ebi first.ebi asks) (Some ask)
push_behind first ask asks = by_bool (eqb first.ebi ask.ebi)
    (λ same. by_bool (has_ebi ask.ebi asks)
    (λ has. rw (same, has) refl)
    (λ lacks. rw (
      same,
      lacks,
      filter-append (λ (other : Ask). not (other.ebi == first.ebi)) asks (ask ∷ []),
      eq-eqb ask.ebi first.ebi (sym (eqb-true first.ebi ask.ebi same)),
    )
    (ap (λ rest. first ∷ rest) (append-nil (without_ebi first.ebi asks)))))
    (λ other. by_bool (has_ebi ask.ebi asks)
    (λ has. rw (other, has_without first.ebi ask.ebi asks other, has) refl)
    (λ lacks. rw (
      other,
      has_without first.ebi ask.ebi asks other,
      lacks,
      filter-append (λ (an : Ask). not (an.ebi == first.ebi)) asks (ask ∷ []),
      eqb_no first.ebi ask.ebi other,
    ) refl))

pub first_asks-push : (asks : List Ask) (ask : Ask) → first_asks (asks ++ ask ∷ [])
    ≡ with_ask (first_asks asks) (Some ask)
first_asks-push [] ask = refl
first_asks-push (first ∷ asks) ask =
    ap (λ rest. first ∷ without_ebi first.ebi rest) (first_asks-push asks ask) ∙ push_behind first ask (first_asks asks)

-- what holds of each and of each pair stays so where some go
each_without : (P : Ask → Type 0) (ebi : ℕ) (asks : List Ask) → AllByRecursion P asks
    → AllByRecursion P (without_ebi ebi asks)
each_without P ebi [] each = tt
each_without P ebi (ask ∷ asks) each = by_bool (eqb ask.ebi ebi)
    (λ same. rw same (each_without P ebi asks each.1))
    (λ other. rw other (each.0, each_without P ebi asks each.1))

pairs_without : (ebi : ℕ) (asks : List Ask) → EachPair HaveTwoEbis asks → EachPair HaveTwoEbis (without_ebi ebi asks)
pairs_without ebi [] pairs = tt
pairs_without ebi (ask ∷ asks) pairs = by_bool (eqb ask.ebi ebi)
    (λ same. rw same (pairs_without ebi asks pairs.1))
    (λ other. rw other (each_without (HaveTwoEbis ask) ebi asks pairs.0, pairs_without ebi asks pairs.1))

-- those that are left have another EBI
left_differ : (ask : Ask) (asks : List Ask) → AllByRecursion (HaveTwoEbis ask) (without_ebi ask.ebi asks)
left_differ ask [] = tt
left_differ ask (other ∷ asks) = by_bool (eqb other.ebi ask.ebi)
    (λ same. rw same (left_differ ask asks))
    (λ apart. rw apart ((λ same. false≢true (sym apart ∙ eq-eqb other.ebi ask.ebi (sym same))), left_differ ask asks))

pub each_first : (P : Ask → Type 0) (asks : List Ask) → AllByRecursion P asks → AllByRecursion P (first_asks asks)
each_first P [] each = tt
each_first P (ask ∷ asks) each = (each.0, each_without P ask.ebi (first_asks asks) (each_first P asks each.1))

pairs_differ : (asks : List Ask) → EachPair HaveTwoEbis (first_asks asks)
pairs_differ [] = tt
pairs_differ (ask ∷ asks) =
    (left_differ ask (first_asks asks), pairs_without ask.ebi (first_asks asks) (pairs_differ asks))

-- as many as there are EBIs, counted from 5
abbrev above_five : List Ask → List ℕ
above_five asks = map (λ (ask : Ask). ask.ebi - 5) asks

apart_above : (ask : Ask) (asks : List Ask) → IsAsk ask → AllByRecursion IsAsk asks
    → AllByRecursion (HaveTwoEbis ask) asks
    → AllByRecursion (λ above. eqb (ask.ebi - 5) above ≡ false) (above_five asks)
apart_above ask [] is each apart = tt
apart_above ask (other ∷ asks) is each apart = (
  ne_eqb (ask.ebi - 5) (other.ebi - 5) (λ same. apart.0
      (let here = is.least in let there = each.0.least in omega (arith, same))),
  apart_above ask asks is each.1 apart.1,
)

distinct_above : (asks : List Ask) → AllByRecursion IsAsk asks → EachPair HaveTwoEbis asks
    → IsDistinct eqb (above_five asks)
unfolding IsDistinct
distinct_above [] each pairs = tt
distinct_above (ask ∷ asks) each pairs =
    (apart_above ask asks each.0 each.1 pairs.0, distinct_above asks each.1 pairs.1)

below_eleven : (asks : List Ask) → AllByRecursion IsAsk asks → (q : ℕ) → list_any (eqb q) (above_five asks) ≡ true
    → q < 11
below_eleven [] each q is = absurd cc
below_eleven (ask ∷ asks) each q is = by_bool (eqb q (ask.ebi - 5))
    (λ here. let most = each.0.most in let same = eqb-true q (ask.ebi - 5) here in omega (arith, same))
    (λ other. below_eleven asks each.1 q (rw other at is))

few_first : (asks : List Ask) → AllByRecursion IsAsk asks → EachPair HaveTwoEbis asks → length asks ≤ 11
few_first asks each pairs =
    let most : length (above_five asks) ≤ 11 = length-le_from_distinct_below (above_five asks) 11
    (distinct_above asks each pairs) (below_eleven asks each) in
    omega (arith, most, length-map asks (λ (ask : Ask). ask.ebi - 5))

pub are_asks : (asks : List Ask) → AllByRecursion IsAsk asks → AreAsks (first_asks asks)
are_asks asks each = record {
  each = each_first IsAsk asks each;
  differ = pairs_differ asks;
  few = few_first (first_asks asks) (each_first IsAsk asks each) (pairs_differ asks);
}

-- one element more
each_ask-push : (ies : List Element) (ie : Element) → each_ask (ies ++ ie ∷ []) ≡ each_ask ies
    ++ filter_map ask_of (cons_option (first_context ie) [])
unfolding each_ask
each_ask-push ies ie =
    ap (filter_map ask_of) (filter_map-append first_context ies (ie ∷ []))
    ∙ filter_map-append ask_of (contexts_of ies) (cons_option (first_context ie) [])

by_context : (asks : List Ask) (context : Option Context)
    → first_asks (asks ++ filter_map ask_of (cons_option context []))
    ≡ with_ask (first_asks asks) (option_and_then ask_of context)
by_context asks None = ap first_asks (append-nil asks)
by_context asks (Some context) = by_ask asks (ask_of context)
  where
    by_ask : (asks : List Ask) (ask : Option Ask) → first_asks (asks ++ cons_option ask [])
        ≡ with_ask (first_asks asks) ask
    by_ask asks None = ap first_asks (append-nil asks)
    by_ask asks (Some ask) = first_asks-push asks ask

pub asks-push : (ies : List Element) (ie : Element) → first_asks (each_ask (ies ++ ie ∷ []))
    ≡ with_ask (first_asks (each_ask ies)) (ask_at ie)
asks-push ies ie = ap first_asks (each_ask-push ies ie) ∙ by_context (each_ask ies) (first_context ie)

-- .. and the range of its ask
each-append : (P : Ask → Type 0) (xs ys : List Ask) → AllByRecursion P xs → AllByRecursion P ys
    → AllByRecursion P (xs ++ ys)
each-append P [] ys xs_are ys_are = ys_are
each-append P (x ∷ xs) ys xs_are ys_are = (xs_are.0, each-append P xs ys xs_are.1 ys_are)

of_context : (context : Option Context) → IfSome (option_and_then ask_of context) IsAsk
    → AllByRecursion IsAsk (filter_map ask_of (cons_option context []))
of_context None is = tt
of_context (Some context) is = of_ask (ask_of context) is
  where
    of_ask : (ask : Option Ask) → IfSome ask IsAsk → AllByRecursion IsAsk (cons_option ask [])
    of_ask None is = tt
    of_ask (Some ask) is = (is, tt)

pub each-push : (ies : List Element) (ie : Element) → AllByRecursion IsAsk (each_ask ies) → IfSome (ask_at ie) IsAsk
    → AllByRecursion IsAsk (each_ask (ies ++ ie ∷ []))
each-push ies ie each is =
    subst (AllByRecursion IsAsk) (sym (each_ask-push ies ie))
    (each-append IsAsk (each_ask ies) (filter_map ask_of (cons_option (first_context ie) [])) each
    (of_context (first_context ie) is))

-- a turn of the loop over elements
take_more : (ies : List Element) (i : ℕ) (ie : Element) → i < length ies → ie ≡ get_or ies i ie
    → take (i + 1) ies ≡ take i ies ++ ie ∷ []
take_more ies i ie below is = rw add-one (take-suc ies i ie below ∙ ap (λ (e : Element). take i ies ++ e ∷ []) (sym is))

pub asks_step : (ies : List Element) (i : ℕ) (ie : Element) (asks new : List Ask) (ask : Option Ask)
    → i < length ies → ie ≡ get_or ies i ie
    → asks ≡ first_asks (each_ask (take i ies)) → ask ≡ ask_at ie → new ≡ with_ask asks ask
    → new ≡ first_asks (each_ask (take (i + 1) ies))
asks_step ies i ie asks new ask below is so_far own more =
    more ∙ ap (λ before. with_ask before ask) so_far ∙ ap (with_ask (first_asks (each_ask (take i ies)))) own
    ∙ sym (asks-push (take i ies) ie) ∙ ap (λ prefix. first_asks (each_ask prefix)) (sym (take_more ies i ie below is))

pub each_step : (ies : List Element) (i : ℕ) (ie : Element) (ask : Option Ask) → i < length ies → ie ≡ get_or ies i ie
    → AllByRecursion IsAsk (each_ask (take i ies)) → ask ≡ ask_at ie → IfSome ask IsAsk
    → AllByRecursion IsAsk (each_ask (take (i + 1) ies))
each_step ies i ie ask below is each own valid =
    subst (λ prefix. AllByRecursion IsAsk (each_ask prefix)) (sym (take_more ies i ie below is))
    (each-push (take i ies) ie each (subst (λ asked. IfSome asked IsAsk) own valid))

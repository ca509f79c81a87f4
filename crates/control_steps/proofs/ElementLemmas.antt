-- Each element that is written is in its ranges.
use Rattle.std.proofs.Common.{◌≡◌, ℕ, ◌*◌, ◌<◌, ◌≤◌, ◌^◌, Bool, true, false, cond, List, [], ◌∷◌, length, Option, Some, None, IfSome, arith, length-append}
use Rattle.std.specs.List.{AllByRecursion, flat_map, filter_map, cons_option}
use Rattle.std.specs.Option.{option_map}
use Rattle.tft_codec.specs.Component.{contents}
use Rattle.tft_codec.specs.declared.filter.Filter.{Filter}
use Rattle.tft_codec.specs.declared.tft.Tft.{Tft}
use Rattle.tft_codec.specs.declared.tft.Tft.TheVariants.{Create, Delete, Add, Replace, Remove, Nothing}
use Rattle.tft_codec.specs.Filter.{IsFilter, ArePacketFilters}
use Rattle.tft_codec.specs.Spelling.{filter_text, entries_text, spelling}
use Rattle.tft_codec.specs.Tft.{IsTft}
use Rattle.tft_codec.proofs.Bounds.{contents_bound}
use Rattle.gtpv2_ie.specs.Element.{Element}
use Rattle.gtpv2_ie.specs.Fields.{arp_bits}
use Rattle.gtpv2_ie.specs.Validity.{IsElement, IsFteid, IsOctets}
use Rattle.gtpv2_ie.specs.Validity as elements
use Rattle.bearer_state.specs.declared.ask.Ask.{Ask}
use Rattle.bearer_state.specs.declared.bearer.Bearer.{Bearer}
use Rattle.bearer_state.specs.declared.qos.Qos.{Qos}
use Rattle.bearer_state.specs.Ask.{IsAsk}
use Rattle.bearer_state.specs.Bearer.{IsBearer, IsEbi, is_active, index_of}
use Rattle.bearer_state.specs.Lookup.{active_index}
use Rattle.bearer_state.specs.Qos.{IsArp, IsQos}
use Rattle.std.specs.List.{find}
use Rattle.control_steps.specs.Messages.{control_end, user_end, cause_element, accepted, ask_accepted, new_context, changed_context, qos_ie}

pub cause_fits : (code : ℕ) → code < 2 ^ 8 → IsElement (cause_element code)
cause_fits code fits = record { instance = omega arith; value = record { octet = fits; offending = tt } }

pub control_end_fits : (slot : ℕ) → slot ≤ 65532 → IsFteid (control_end slot)
control_end_fits slot fits = record { interface = omega arith; teid = omega arith; addr = omega arith }

user_end_fits : (slot index : ℕ) → slot ≤ 65532 → index ≤ 10 → IsFteid (user_end slot index)
user_end_fits slot index fits in_range = record { interface = omega arith; teid = omega arith; addr = omega arith }

pub ebi_fits : (ebi : ℕ) → IsEbi ebi → elements.IsEbi ebi
ebi_fits ebi is = record { four_bits = omega (arith, is.most); assigned = λ _. is.least }

pub accepted_fits : (slot ebi index : ℕ) → slot ≤ 65532 → IsEbi ebi → index ≤ 10 → IsElement (accepted slot ebi index)
accepted_fits slot ebi index fits is in_range = record {
  instance = omega arith;
  value = record {
    ebi = ebi_fits ebi is;
    cause = record { octet = omega arith; offending = tt };
    tft = tt;
    fteids = ((omega arith, user_end_fits slot index fits in_range), tt);
    qos = tt;
    len = omega arith;
  };
}

-- the index that is found is one of a bearer
found_if : (passes : Bool) (b : Bearer) (rest : Option Bearer) → IsBearer b → IfSome rest IsBearer
    → IfSome (cond passes (Some b) rest) IsBearer
found_if true b rest is other = is
found_if false b rest is other = other

index_found : (ebi : ℕ) (bearers : List Bearer) → AllByRecursion IsBearer bearers
    → IfSome (find (is_active ebi) bearers) IsBearer
index_found ebi [] each = tt
index_found ebi (b ∷ bs) each =
    found_if (is_active ebi b) b (find (is_active ebi) bs) each.0 (index_found ebi bs each.1)

mapped : (found : Option Bearer) → IfSome found IsBearer → IfSome (option_map index_of found) (λ index. index ≤ 10)
mapped None is = tt
mapped (Some b) is = is.index

one_accepted : (slot ebi : ℕ) (index : Option ℕ) (rest : List Element) → slot ≤ 65532 → IsEbi ebi
    → IfSome index (λ i. i ≤ 10)
    → AllByRecursion IsElement rest → AllByRecursion IsElement (cons_option (option_map (accepted slot ebi) index) rest)
one_accepted slot ebi None rest fits is in_range each = each
one_accepted slot ebi (Some index) rest fits is in_range each = (accepted_fits slot ebi index fits is in_range, each)

pub asks_fit : (slot : ℕ) (bearers : List Bearer) (asks : List Ask) → slot ≤ 65532
    → AllByRecursion IsBearer bearers → AllByRecursion IsAsk asks
    → AllByRecursion IsElement (filter_map (ask_accepted slot bearers) asks)
asks_fit slot bearers [] fits each asked = tt
asks_fit slot bearers (ask ∷ asks) fits each asked =
    one_accepted slot ask.ebi (active_index bearers ask.ebi) (filter_map (ask_accepted slot bearers) asks) fits asked.0
    (mapped (find (is_active ask.ebi) bearers) (index_found ask.ebi bearers each))
    (asks_fit slot bearers asks fits each asked.1)

arp_kept : (arp : ℕ) → IsArp arp → arp_bits arp ≡ arp
arp_kept arp is = omega (arith, is.bit_8, is.bit_2)

qos_fits : (qos : Qos) → IsQos qos → elements.IsQos (qos_ie qos)
qos_fits qos is = record {
  arp_octet = omega (arith, is.arp.bit_8);
  arp_spare = arp_kept qos.arp is.arp;
  qci = is.qci;
  mbr_up = is.mbr_up;
  mbr_down = is.mbr_down;
  gbr_up = is.gbr_up;
  gbr_down = is.gbr_down;
}

pub new_context_fits : (slot index : ℕ) (tft : List ℕ) (qos : Qos) → slot ≤ 65532 → index ≤ 10 → IsOctets 1000 tft
    → IsQos qos
    → elements.IsContext (new_context slot index tft qos)
new_context_fits slot index tft qos fits in_range tft_fits is = record {
  ebi = record { four_bits = omega arith; assigned = λ more. absurd (omega arith) };
  cause = tt;
  tft = tft_fits;
  fteids = ((omega arith, user_end_fits slot index fits in_range), tt);
  qos = qos_fits qos is;
  len = simp length-append (omega (arith, tft_fits.few));
}

pub changed_context_fits : (ebi : ℕ) (tft : Option (List ℕ)) → elements.IsEbi ebi → IfSome tft (IsOctets 1000)
    → elements.IsContext (changed_context ebi tft)
changed_context_fits ebi None is tft_fits =
    record { ebi = is; cause = tt; tft = tt; fteids = tt; qos = tt; len = omega arith }
changed_context_fits ebi (Some tft) is tft_fits =
    record {
      ebi = is;
      cause = tt;
      tft = tft_fits;
      fteids = tt;
      qos = tt;
      len = simp length-append (omega (arith, tft_fits.few));
    }

-- a template's text fits its element
filters_len : (filters : List Filter) → AllByRecursion IsFilter filters
    → length (flat_map filter_text filters) ≤ 47 * length filters
filters_len [] each = omega arith
filters_len (f ∷ fs) each =
    let here : length (contents f.components) ≤ 44 = contents_bound f.components each.0.components in
    omega (arith, length-append (filter_text f) (flat_map filter_text fs), filters_len fs each.1)

entries_fit : (operation : ℕ) (filters : List Filter) → ArePacketFilters filters
    → IsOctets 1000 (entries_text operation filters)
entries_fit operation filters are =
    record { some = omega arith; few = omega (arith, filters_len filters are.filters.each, are.few) }

pub template_fits : (tft : Tft) → IsTft tft → IsOctets 1000 (spelling tft)
template_fits (Create filters) is = entries_fit 1 filters is
template_fits Delete is = record { some = omega arith; few = omega arith }
template_fits (Add filters) is = entries_fit 3 filters is
template_fits (Replace filters) is = entries_fit 4 filters is
template_fits (Remove ids) is = record { some = omega arith; few = omega (arith, is.few) }
template_fits Nothing is = record { some = omega arith; few = omega arith }

-- Elements that are written one behind another stand there, and each reads as it was written.
use Rattle.std.proofs.Common.{◌≡◌, ℕ, ◌+◌, ◌-◌, ◌*◌, ◌/◌, ◌%◌, ◌^◌, ◌<◌, List, [], ◌∷◌, ◌++◌, length, get_or, take, drop, Option, Some, refl, sym, ap, subst, ◌∙◌, append_assoc, arith, length-append}
use Rattle.std.specs.Prelude.{slice_range}
use Rattle.std.specs.List.{flat_map, filter_map, cons_option, AllByRecursion}
use Rattle.std.specs.Option.{option_map}
use Rattle.std.proofs.Math.Nat.{mod-eq_of_lt}
use Rattle.std.proofs.Math.Seq.{take-append_seam, drop-append-add}
use Rattle.std.proofs.lemmas.List.{append-nil, get_or-append-add}
use Rattle.gtpv2_ie.specs.declared.context.Context.{Context}
use Rattle.gtpv2_ie.specs.declared.raw.RawIe.{RawIe}
use Rattle.gtpv2_ie.specs.declared.value.IeValue.{IeValue}
use Rattle.gtpv2_ie.specs.Element.{Element}
use Rattle.gtpv2_ie.specs.Kind.{type_octet}
use Rattle.wire_octets.proofs.NumberLemmas.{be16-again}
use Rattle.wire_octets.specs.Numbers.{be16_at, be16_octets}
use Rattle.gtpv2_ie.specs.ReadBack.{end_of, places_by, AreReadAs}
use Rattle.gtpv2_ie.specs.Spelling.{ie_octets, kind_of, plain_octets, element_octets}
use Rattle.gtpv2_ie.specs.Stand.{raw_at, value_len, StandsAt, StandBetween, Stand}
use Rattle.gtpv2_ie.specs.Value.{value_at, element_at}

-- an element whose octets fit and read back
pub record IsWritten (context : Context → List ℕ) (reads : List ℕ → Option Context) (ie : Element) : Type 0 where
  pub instance : ie.instance < 16
  pub len : length (plain_octets context ie.value) < 2 ^ 16
  pub again : value_at reads (type_octet (kind_of ie.value)) (plain_octets context ie.value) ≡ Some ie.value

raw_at_is : (octets : List ℕ) (at kind instance len : ℕ) → get_or octets at 0 ≡ kind
    → get_or octets (at + 3) 0 % 16 ≡ instance → value_len octets at ≡ len
    → raw_at octets at ≡ record { kind = kind; instance = instance; from = at + 4; to = at + 4 + len }
raw_at_is octets at kind instance len kind_is instance_is len_is =
    ap (λ (k : ℕ). raw_of k (get_or octets (at + 3) 0 % 16) (value_len octets at)) kind_is
    ∙ ap (λ (i : ℕ). raw_of kind i (value_len octets at)) instance_is
    ∙ ap (raw_of kind instance) len_is
  where
    raw_of : ℕ → ℕ → ℕ → RawIe
    raw_of k i n = record { kind = k; instance = i; from = at + 4; to = at + 4 + n }

-- what a header says is what was written
header_is : (prefix more value : List ℕ) (kind instance : ℕ) → instance < 16 → length value < 2 ^ 16
    → raw_at (prefix ++ (ie_octets kind instance value ++ more)) (length prefix)
    ≡ record { kind = kind; instance = instance; from = length prefix + 4; to = length prefix + 4 + length value }
header_is prefix more value kind instance low fits =
    let text : List ℕ = ie_octets kind instance value ++ more in
    let third : length prefix + 1 + 1 ≡ length prefix + 2 = omega arith in
    let at_kind : get_or (prefix ++ text) (length prefix) 0 ≡ kind =
    ap (λ k. get_or (prefix ++ text) k 0) (omega arith) ∙ get_or-append-add prefix text 0 0 in
    let at_high : get_or (prefix ++ text) (length prefix + 1) 0 ≡ length value / 256 % 256 =
    get_or-append-add prefix text 1 0 in
    let at_low : get_or (prefix ++ text) (length prefix + 1 + 1) 0 ≡ length value % 256 =
    ap (λ k. get_or (prefix ++ text) k 0) third ∙ get_or-append-add prefix text 2 0 in
    let at_instance : get_or (prefix ++ text) (length prefix + 3) 0 ≡ instance = get_or-append-add prefix text 3 0 in
    let len : be16_at (be16_octets (length value)) 0 ≡ length value = be16-again (length value) [] fits in
    let len_is : value_len (prefix ++ text) (length prefix) ≡ length value =
    ap (λ (h : ℕ). 0x100 * h + get_or (prefix ++ text) (length prefix + 1 + 1) 0) at_high
    ∙ ap (λ (l : ℕ). 0x100 * (length value / 256 % 256) + l) at_low ∙ len in
    raw_at_is (prefix ++ text) (length prefix) kind instance (length value) at_kind
    (ap (λ (i : ℕ). i % 16) at_instance ∙ mod-eq_of_lt low) len_is

-- the value of an element that was written
pub value_is : (prefix more value : List ℕ) (kind instance : ℕ)
    → slice_range (prefix ++ (ie_octets kind instance value ++ more)) (length prefix + 4)
    (length prefix + 4 + length value) ≡ value
value_is prefix more value kind instance =
    let text : List ℕ = ie_octets kind instance value ++ more in
    let len : length prefix + 4 + length value - (length prefix + 4) ≡ length value = omega arith in
    ap (λ n. take n (drop (length prefix + 4) (prefix ++ text))) len
    ∙ ap (take (length value)) (drop-append-add prefix text 4)
    ∙ take-append_seam value more

-- one element stands behind what was written before it
stands_at : (context : Context → List ℕ) (prefix more : List ℕ) (ie : Element) → ie.instance < 16
    → length (plain_octets context ie.value) < 2 ^ 16
    → StandsAt (prefix ++ (element_octets context ie ++ more)) (length prefix)
    (record {
      kind =
          type_octet (kind_of ie.value);
      instance = ie.instance;
      from = length prefix + 4;
      to =
          end_of context (length prefix) ie;
    })
stands_at context prefix more ie low fits = record {
  header = sym (header_is prefix more (plain_octets context ie.value)
      (type_octet (kind_of ie.value)) ie.instance low fits);
  inside = simp (length-append) (omega arith);
}

-- the place behind one element's text
behind : (context : Context → List ℕ) (prefix : List ℕ) (ie : Element)
    → length (prefix ++ element_octets context ie) ≡ end_of context (length prefix) ie
behind context prefix ie = length-append prefix (element_octets context ie) ∙ omega arith

-- elements stand behind what was written before them
stand_behind : (context : Context → List ℕ) (reads : List ℕ → Option Context) (prefix : List ℕ) (ies : List Element)
    → AllByRecursion (IsWritten context reads) ies
    → StandBetween (prefix ++ flat_map (element_octets context) ies) (length prefix)
    (places_by context (length prefix) ies) (length (prefix ++ flat_map (element_octets context) ies))
stand_behind context reads prefix [] written = sym (ap length (append-nil prefix))
stand_behind context reads prefix (ie ∷ ies) written =
    let text : List ℕ = element_octets context ie in
    let rest : List ℕ = flat_map (element_octets context) ies in
    let later = stand_behind context reads (prefix ++ text) ies written.1 in
    let octets_are : (prefix ++ text) ++ rest ≡ prefix ++ (text ++ rest) = append_assoc prefix text rest in
    let moved : StandBetween ((prefix ++ text) ++ rest) (end_of context (length prefix) ie)
    (places_by context (end_of context (length prefix) ie) ies) (length ((prefix ++ text) ++ rest)) =
    subst (λ (k : ℕ). StandBetween ((prefix ++ text) ++ rest) k (places_by context k ies)
    (length ((prefix ++ text) ++ rest))) (behind context prefix ie) later in (
      stands_at context prefix rest ie written.0.instance written.0.len,
      subst (λ (octets : List ℕ). StandBetween octets (end_of context (length prefix) ie)
          (places_by context (end_of context (length prefix) ie) ies) (length octets)) octets_are moved,
    )

pub written_stand : (context : Context → List ℕ) (reads : List ℕ → Option Context) (ies : List Element)
    → AllByRecursion (IsWritten context reads) ies
    → Stand (flat_map (element_octets context) ies) (places_by context 0 ies)
written_stand context reads ies written = stand_behind context reads [] ies written

-- elements read behind what was written before them
read_behind : (context : Context → List ℕ) (reads : List ℕ → Option Context) (prefix : List ℕ) (ies : List Element)
    → AllByRecursion (IsWritten context reads) ies
    → AreReadAs reads (prefix ++ flat_map (element_octets context) ies) (places_by context (length prefix) ies) ies
read_behind context reads prefix [] written = tt
read_behind context reads prefix (ie ∷ ies) written =
    let text : List ℕ = element_octets context ie in
    let rest : List ℕ = flat_map (element_octets context) ies in
    let later = read_behind context reads (prefix ++ text) ies written.1 in
    let octets_are : (prefix ++ text) ++ rest ≡ prefix ++ (text ++ rest) = append_assoc prefix text rest in
    let moved : AreReadAs reads ((prefix ++ text) ++ rest)
    (places_by context (end_of context (length prefix) ie) ies) ies =
    subst (λ (k : ℕ). AreReadAs reads ((prefix ++ text) ++ rest) (places_by context k ies) ies)
    (behind context prefix ie) later in (
      record {
        kind = refl;
        instance = refl;
        value = ap (value_at reads (type_octet (kind_of ie.value)))
            (value_is prefix rest (plain_octets context ie.value) (type_octet (kind_of ie.value)) ie.instance)
            ∙ written.0.again;
      },
      subst (λ (octets : List ℕ). AreReadAs reads octets
          (places_by context (end_of context (length prefix) ie) ies) ies) octets_are moved,
    )

pub written_read : (context : Context → List ℕ) (reads : List ℕ → Option Context) (ies : List Element)
    → AllByRecursion (IsWritten context reads) ies
    → AreReadAs reads (flat_map (element_octets context) ies) (places_by context 0 ies) ies
written_read context reads ies written = read_behind context reads [] ies written

-- what stands at places, kept where it is known and inside its grammar, are these elements
pub read_elements : (reads : List ℕ → Option Context) (octets : List ℕ) (raws : List RawIe) (ies : List Element)
    → AreReadAs reads octets raws ies
    → filter_map (element_at reads octets) raws ≡ ies
read_elements reads octets [] [] read = refl
read_elements reads octets [] (ie ∷ ies) read = absurd read
read_elements reads octets (raw ∷ raws) [] read = absurd read
read_elements reads octets (raw ∷ raws) (ie ∷ ies) read =
    let first : element_at reads octets raw ≡ Some ie =
    ap (option_map (λ (value : IeValue). element raw.instance value)) read.0.value
    ∙ ap (λ (i : ℕ). Some (element i ie.value)) read.0.instance in
    ap (λ (o : Option Element). cons_option o (filter_map (element_at reads octets) raws)) first
    ∙ ap (λ (rest : List Element). ie ∷ rest) (read_elements reads octets raws ies read.1)
  where
    element : ℕ → IeValue → Element
    element i v = record { instance = i; value = v }

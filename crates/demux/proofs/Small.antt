-- Lists of octets, and what holds of each element of a list.
use Rattle.std.proofs.Common.{ℕ, zero, suc, ◌<◌, ◌≤◌, List, [], ◌∷◌, ◌++◌, take, drop, All, arith}
use Rattle.std.specs.List.{AllByRecursion, flat_map}
use Rattle.std.proofs.lemmas.List.Elements.{recursion_from_All}
use Rattle.wire_octets.specs.Numbers.{AreOctets, be16_octets, be24_octets, be32_octets, be40_octets}
use Rattle.tft_codec.specs.Component.{IsComponent, component_text}
use Rattle.tft_codec.specs.Filter.{ArePacketFilters, IsFilter}
use Rattle.tft_codec.specs.Spelling.{entries_text, filter_text, spelling}
use Rattle.tft_codec.specs.Tft.{IsTft}
use Rattle.tft_codec.specs.declared.component.Component.{Component}
use Rattle.tft_codec.specs.declared.component.Component.TheVariants.{RemoteAddr, LocalAddr, Protocol, LocalPort, LocalRange, RemotePort, RemoteRange, Spi, Tos}
use Rattle.tft_codec.specs.declared.filter.Filter.{Filter}
use Rattle.tft_codec.specs.declared.tft.Tft.{Tft}
use Rattle.tft_codec.specs.declared.tft.Tft.TheVariants.{Create, Delete, Add, Replace, Remove, Nothing}
use Rattle.tft_codec.proofs.Bounds.{contents_bound}
use Rattle.demux.specs.Ranges.{IsOctet}

abbrev pub Small : List ℕ → Type 0
Small octets = AllByRecursion IsOctet octets

pub each_append : {X : Type 0} (P : X → Type 0) (xs ys : List X) → AllByRecursion P xs → AllByRecursion P ys
    → AllByRecursion P (xs ++ ys)
each_append P [] ys first second = second
each_append P (x ∷ xs) ys first second = (first.0, each_append P xs ys first.1 second)

pub taken : {X : Type 0} (P : X → Type 0) (n : ℕ) (xs : List X) → AllByRecursion P xs → AllByRecursion P (take n xs)
taken P zero xs all = tt
taken P (suc n) [] all = tt
taken P (suc n) (x ∷ xs) all = (all.0, taken P n xs all.1)

pub dropped : {X : Type 0} (P : X → Type 0) (n : ℕ) (xs : List X) → AllByRecursion P xs → AllByRecursion P (drop n xs)
dropped P zero xs all = all
dropped P (suc n) [] all = tt
dropped P (suc n) (x ∷ xs) all = dropped P n xs all.1

-- octets by place
pub index_small : (octets : List ℕ) → Small octets → AreOctets octets
index_small [] small at = omega arith
index_small (octet ∷ octets) small zero = small.0
index_small (octet ∷ octets) small (suc at) = index_small octets small.1 at

pub small_octets : (octets : List ℕ) → All (λ octet. octet < 256) octets → Small octets
small_octets octets all = recursion_from_All IsOctet octets all

pub both : (xs ys : List ℕ) → Small xs → Small ys → Small (xs ++ ys)
both xs ys first second = each_append IsOctet xs ys first second

pub be16_small : (n : ℕ) → Small (be16_octets n)
be16_small n = (omega arith, (omega arith, tt))

pub be24_small : (n : ℕ) → Small (be24_octets n)
be24_small n = (omega arith, be16_small n)

pub be32_small : (n : ℕ) → Small (be32_octets n)
be32_small n = (omega arith, be24_small n)

pub be40_small : (n : ℕ) → Small (be40_octets n)
be40_small n = (omega arith, be32_small n)

pub flat_small : {X : Type 0} (P : X → Type 0) (f : X → List ℕ) → ((x : X) → P x → Small (f x)) → (xs : List X)
    → AllByRecursion P xs → Small (flat_map f xs)
flat_small P f each [] all = tt
flat_small P f each (x ∷ xs) all = both (f x) (flat_map f xs) (each x all.0) (flat_small P f each xs all.1)

-- a template
component_small : (c : Component) → IsComponent c → Small (component_text c)
component_small (RemoteAddr address mask) is =
    (omega arith, both (be32_octets address) (be32_octets mask) (be32_small address) (be32_small mask))
component_small (LocalAddr address mask) is =
    (omega arith, both (be32_octets address) (be32_octets mask) (be32_small address) (be32_small mask))
component_small (Protocol number) is = (omega arith, (is, tt))
component_small (LocalPort port) is = (omega arith, be16_small port)
component_small (LocalRange low high) is =
    (omega arith, both (be16_octets low) (be16_octets high) (be16_small low) (be16_small high))
component_small (RemotePort port) is = (omega arith, be16_small port)
component_small (RemoteRange low high) is =
    (omega arith, both (be16_octets low) (be16_octets high) (be16_small low) (be16_small high))
component_small (Spi spi) is = (omega arith, be32_small spi)
component_small (Tos value mask) is = (omega arith, (is.0, (is.1, tt)))

filter_small : (f : Filter) → IsFilter f → Small (filter_text f)
filter_small f is = (
  omega (arith, is.id, is.direction),
  (
    is.precedence,
    (
      omega (arith, contents_bound f.components is.components),
      flat_small IsComponent component_text component_small f.components is.components.fit,
    ),
  ),
)

entries_small : (operation : ℕ) (filters : List Filter) → operation ≤ 6 → ArePacketFilters filters
    → Small (entries_text operation filters)
entries_small operation filters known are = (
  omega (arith, known, are.few),
  flat_small IsFilter filter_text filter_small filters are.filters.each,
)

ids_small : (ids : List ℕ) → AllByRecursion (λ x. x < 16) ids → Small ids
ids_small [] each = tt
ids_small (id ∷ ids) each = (omega (arith, each.0), ids_small ids each.1)

pub template_small : (tft : Tft) → IsTft tft → Small (spelling tft)
template_small (Create filters) is = entries_small 1 filters (omega arith) is
template_small Delete is = (omega arith, tt)
template_small (Add filters) is = entries_small 3 filters (omega arith) is
template_small (Replace filters) is = entries_small 4 filters (omega arith) is
template_small (Remove ids) is = (omega (arith, is.few), ids_small ids is.each)
template_small Nothing is = (omega arith, tt)

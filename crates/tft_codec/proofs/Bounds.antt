-- How many octets a template takes.
use Rattle.std.proofs.Common.{◌≡◌, ℕ, ◌+◌, ◌*◌, ◌≤◌, ◌<◌, Bool, true, false, cond, ◌||◌, nat_eq, List, [], ◌∷◌, ◌++◌, length, map, take, get_or, Result, Ok, Err, refl, ap, ◌∙◌, arith}
use Rattle.std.specs.Prelude.{IfOk}
use Rattle.std.specs.declared.alloc.AllocError.{AllocError}
use Rattle.std.specs.Global.{Vec}
use Rattle.std.specs.List.{flat_map, AllByRecursion}
use Rattle.std.proofs.lemmas.Cmp.{nat_eq_equiv}
use Rattle.std.proofs.lemmas.List.{length-append, take_all}
use Rattle.std.proofs.lemmas.List.Concat.{flat_map-cons}
use Rattle.std.proofs.lemmas.List.Folds.{length-flat_map-take}
use Rattle.tft_codec.specs.declared.component.Component.{Component}
use Rattle.tft_codec.specs.declared.component.Component.TheVariants.{RemoteAddr, LocalAddr, Protocol, LocalPort, LocalRange, RemotePort, RemoteRange, Spi, Tos}
use Rattle.tft_codec.specs.Types.{remote_address_type, local_address_type, protocol_type, local_port_type, local_range_type, remote_port_type, remote_range_type, spi_type, tos_type}
use Rattle.tft_codec.specs.declared.filter.Filter.{Filter}
use Rattle.tft_codec.specs.declared.tft.Tft.{Tft}
use Rattle.tft_codec.specs.declared.tft.Tft.TheVariants.{Create, Delete, Add, Replace, Remove, Nothing}
use Rattle.tft_codec.specs.Types.{create_operation, add_operation, replace_operation}
use Rattle.tft_codec.specs.Component.{type_octet, component_text, contents, AreComponents, has}
use Rattle.tft_codec.specs.Filter.{IsFilter, ArePacketFilters}
use Rattle.tft_codec.specs.Tft.{IsTft}
use Rattle.tft_codec.specs.Spelling.{filter_text, entries_text, spelling, Spells}
use Rattle.tft_codec.proofs.ContentsLemmas.{AreFresh, fresh_from_distinct}
use Rattle.tft_codec.proofs.TftLemmas.{spelled_again}

-- the octets of a component of a type, where it was not seen
room_of : List ℕ → ℕ → ℕ → ℕ
room_of seen octet len = cond (has seen octet) 0 len

-- the octets of one component of each type that was not seen
abbrev room : List ℕ → ℕ
room seen =
    room_of seen remote_address_type 9 + room_of seen local_address_type 9 + room_of seen protocol_type 2
    + room_of seen local_port_type 3 + room_of seen local_range_type 5
    + room_of seen remote_port_type 3 + room_of seen remote_range_type 5 + room_of seen spi_type 5
    + room_of seen tos_type 3

-- a type that is seen takes its octets from the room, and others none
room_free : (seen : List ℕ) (octet len : ℕ) → has seen octet ≡ false → room_of seen octet len ≡ len
unfolding room_of
room_free seen octet len new = rw new refl

or_none : (b : Bool) → (b || false) ≡ b
or_none true = refl
or_none false = refl

or_regroup : (a b c : Bool) → (a || (b || c)) ≡ ((a || b) || c)
or_regroup true b c = refl
or_regroup false b c = refl

has_last : (seen : List ℕ) (octet x : ℕ) → has (seen ++ octet ∷ []) x ≡ (has seen x || nat_eq x octet)
has_last [] octet x = or_none (nat_eq x octet)
has_last (y ∷ seen) octet x =
    ap (λ (b : Bool). nat_eq x y || b) (has_last seen octet x) ∙ or_regroup (nat_eq x y) (has seen x) (nat_eq x octet)

room_taken : (seen : List ℕ) (octet len : ℕ) → room_of (seen ++ octet ∷ []) octet len ≡ 0
unfolding room_of
room_taken seen octet len =
    rw (has_last seen octet octet, nat_eq_equiv.refl octet)
    (elim (has seen octet) as (λ b. cond (b || true) 0 len ≡ 0) [ true ↦ refl | false ↦ refl ])

room_less : (seen : List ℕ) (octet x len : ℕ) → room_of (seen ++ octet ∷ []) x len ≤ room_of seen x len
unfolding room_of
room_less seen octet x len =
    rw (has_last seen octet x)
    (elim (has seen x) as
    (λ b. cond (b || nat_eq x octet) 0 len ≤ cond b 0 len) [
      | true ↦ omega arith
      | false ↦ elim (nat_eq x octet) as
          (λ b. cond b 0 len ≤ len) [ true ↦ omega arith | false ↦ omega arith ]
    ])

record AreLess (seen : List ℕ) (octet : ℕ) : Type 0 where
  remote_address : room_of (seen ++ octet ∷ []) remote_address_type 9 ≤ room_of seen remote_address_type 9
  local_address : room_of (seen ++ octet ∷ []) local_address_type 9 ≤ room_of seen local_address_type 9
  protocol : room_of (seen ++ octet ∷ []) protocol_type 2 ≤ room_of seen protocol_type 2
  local_port : room_of (seen ++ octet ∷ []) local_port_type 3 ≤ room_of seen local_port_type 3
  local_range : room_of (seen ++ octet ∷ []) local_range_type 5 ≤ room_of seen local_range_type 5
  remote_port : room_of (seen ++ octet ∷ []) remote_port_type 3 ≤ room_of seen remote_port_type 3
  remote_range : room_of (seen ++ octet ∷ []) remote_range_type 5 ≤ room_of seen remote_range_type 5
  spi : room_of (seen ++ octet ∷ []) spi_type 5 ≤ room_of seen spi_type 5
  tos : room_of (seen ++ octet ∷ []) tos_type 3 ≤ room_of seen tos_type 3

are_less : (seen : List ℕ) (octet : ℕ) → AreLess seen octet
are_less seen octet = record {
  remote_address = room_less seen octet remote_address_type 9;
  local_address = room_less seen octet local_address_type 9;
  protocol = room_less seen octet protocol_type 2;
  local_port = room_less seen octet local_port_type 3;
  local_range = room_less seen octet local_range_type 5;
  remote_port = room_less seen octet remote_port_type 3;
  remote_range = room_less seen octet remote_range_type 5;
  spi = room_less seen octet spi_type 5;
  tos = room_less seen octet tos_type 3;
}

room_falls : (seen : List ℕ) (c : Component) → has seen (type_octet c) ≡ false
    → length (component_text c) + room (seen ++ type_octet c ∷ []) ≤ room seen
room_falls seen (RemoteAddr address mask) new =
    let less = are_less seen remote_address_type in
    omega (arith, room_free seen remote_address_type 9 new, room_taken seen remote_address_type 9)
room_falls seen (LocalAddr address mask) new =
    let less = are_less seen local_address_type in
    omega (arith, room_free seen local_address_type 9 new, room_taken seen local_address_type 9)
room_falls seen (Protocol number) new =
    let less = are_less seen protocol_type in
    omega (arith, room_free seen protocol_type 2 new, room_taken seen protocol_type 2)
room_falls seen (LocalPort port) new =
    let less = are_less seen local_port_type in
    omega (arith, room_free seen local_port_type 3 new, room_taken seen local_port_type 3)
room_falls seen (LocalRange low high) new =
    let less = are_less seen local_range_type in
    omega (arith, room_free seen local_range_type 5 new, room_taken seen local_range_type 5)
room_falls seen (RemotePort port) new =
    let less = are_less seen remote_port_type in
    omega (arith, room_free seen remote_port_type 3 new, room_taken seen remote_port_type 3)
room_falls seen (RemoteRange low high) new =
    let less = are_less seen remote_range_type in
    omega (arith, room_free seen remote_range_type 5 new, room_taken seen remote_range_type 5)
room_falls seen (Spi spi) new =
    let less = are_less seen spi_type in omega (arith, room_free seen spi_type 5 new, room_taken seen spi_type 5)
room_falls seen (Tos value mask) new =
    let less = are_less seen tos_type in omega (arith, room_free seen tos_type 3 new, room_taken seen tos_type 3)

contents_room : (cs : List Component) (seen : List ℕ) → AreFresh seen (map type_octet cs)
    → length (contents cs) ≤ room seen
contents_room [] seen fresh = omega arith
contents_room (c ∷ cs) seen fresh =
    omega (
      arith,
      ap length (flat_map-cons component_text c cs),
      length-append (component_text c) (contents cs),
      contents_room cs (seen ++ type_octet c ∷ []) fresh.1,
      room_falls seen c fresh.0,
    )

-- the contents of a filter are at most one component of each type
pub contents_bound : (cs : List Component) → AreComponents cs → length (contents cs) ≤ 44
unfolding room_of
contents_bound cs kept = contents_room cs [] (fresh_from_distinct [] (map type_octet cs) kept.differ)

-- a prefix of the contents, and one component more
pub prefix_bound : (cs : List Component) (i : ℕ) (d : Component) → i < length cs → AreComponents cs
    → length (contents (take i cs)) + length (component_text (get_or cs i d)) ≤ 44
prefix_bound cs i d within kept =
    omega (arith, length-flat_map-take component_text cs i d within, contents_bound cs kept)

pub whole_bound : (cs : List Component) (i : ℕ) → length cs ≤ i → AreComponents cs → length (contents (take i cs)) ≤ 44
whole_bound cs i all kept = rw (take_all i cs all) (contents_bound cs kept)

filters_bound : (fs : List Filter) → AllByRecursion IsFilter fs → length (flat_map filter_text fs) ≤ 47 * length fs
filters_bound [] each = omega arith
filters_bound (f ∷ fs) each =
    omega (
      arith,
      ap length (flat_map-cons filter_text f fs),
      length-append (filter_text f) (flat_map filter_text fs),
      contents_bound f.components each.0.components,
      filters_bound fs each.1,
    )

entries_bound : (operation : ℕ) (fs : List Filter) → ArePacketFilters fs → length (entries_text operation fs) ≤ 706
entries_bound operation fs kept = omega (arith, filters_bound fs kept.filters.each, kept.few)

spelling_bound : (t : Tft) → IsTft t → length (spelling t) ≤ 706
spelling_bound (Create fs) kept = entries_bound create_operation fs kept
spelling_bound Delete kept = omega arith
spelling_bound (Add fs) kept = entries_bound add_operation fs kept
spelling_bound (Replace fs) kept = entries_bound replace_operation fs kept
spelling_bound (Remove xs) kept = omega (arith, kept.few)
spelling_bound Nothing kept = omega arith

-- ---- of what was written

pub written : (r : Result (Vec ℕ) AllocError) (t : Tft) → IsTft t → IfOk r (λ text. text.items ≡ spelling t)
    → IfOk r (λ text. Spells text.items t)
written (Ok text) t kept is = rw is (spelled_again t kept)
written (Err e) t kept is = tt

pub written_bound : (r : Result (Vec ℕ) AllocError) (t : Tft) → IsTft t → IfOk r (λ text. text.items ≡ spelling t)
    → IfOk r (λ text. length text.items ≤ 706)
written_bound (Ok text) t kept is = rw is (spelling_bound t kept)
written_bound (Err e) t kept is = tt

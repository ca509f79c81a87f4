-- Texts that are kept in fewer octets.
use Rattle.std.specs.Prelude.{◌≡◌, ℕ, ◌-◌, ◌<◌, ◌≤◌, ◌^◌, List, [], ◌∷◌, ◌++◌, All, length, map, flat_map}
use Rattle.std.specs.Prelude.{slice_index}
use Rattle.hex.specs.Hex.{encode_lower}
use Rattle.wire_octets.specs.Numbers.{be24_octets}

-- the parts of a text: what stands before the octets in it, those, and what stands behind them
pub record Pack : Type 0 where
  pub head : List ℕ
  pub octets : List ℕ
  pub tail : List ℕ

-- octets as a field, behind a space; nothing where there are none
abbrev pub field_of : List ℕ → List ℕ
field_of [] = []
field_of (octet ∷ octets) = 32 ∷ encode_lower (octet ∷ octets)

abbrev pub text_of : Pack → List ℕ
text_of pack = pack.head ++ field_of pack.octets ++ pack.tail

-- so it is kept: the lengths of its parts, and the parts
abbrev pub lengths_of : Pack → List ℕ
lengths_of pack =
    be24_octets (length pack.head) ++ be24_octets (length pack.octets) ++ be24_octets (length pack.tail)

abbrev pub octets_of : Pack → List ℕ
octets_of pack = lengths_of pack ++ pack.head ++ pack.octets ++ pack.tail

-- its lengths have three octets each
pub record IsShort (pack : Pack) : Type 0 where
  pub head : length pack.head < 2 ^ 24
  pub octets : length pack.octets < 2 ^ 24
  pub tail : length pack.tail < 2 ^ 24

-- From a place on octets are those of these texts.
pub record KeepsFrom (octets : List ℕ) (at : ℕ) (texts : List (List ℕ)) : Type 0 where
  pub packs : List Pack
  pub before : List ℕ
  pub parts : octets ≡ before ++ flat_map octets_of packs
  pub behind : length before ≡ at
  pub short : All IsShort packs
  pub are : map text_of packs ≡ texts

-- a field of a text from one place to another, with a space before it; or none, from 0 on
pub record IsField (text : List ℕ) (from to : ℕ) : Type 0 where
  pub ordered : from ≤ to
  pub within : to ≤ length text
  pub spaced : 0 < from → slice_index text (from - 1) ≡ 32

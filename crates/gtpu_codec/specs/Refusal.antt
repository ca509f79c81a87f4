-- Why octets are no message.
use Rattle.std.specs.Prelude.{
  ℕ,
  Bool,
  ◌&&◌,
  ◌||◌,
  not,
  nat_lt,
  List,
  length,
  drop,
  Option,
  Some,
  None,
  is_none,
  if◌then◌else◌,
}
use Rattle.gtpu_codec.specs.declared.fault.UBad.{UBad}
use Rattle.gtpu_codec.specs.declared.fault.UBad.TheVariants as bad
use Rattle.gtpu_codec.specs.Head.{
  flags_in,
  type_in,
  length_in,
  counted_in,
  has_version,
  is_gtp,
  has_extensions,
  has_options,
}
use Rattle.gtpu_codec.specs.Extension.{behind_headers}
use Rattle.gtpu_codec.specs.Kind.{kind_of}

-- the length passes the octets that are there, or leaves out the four that a flag asks for
abbrev pub ends_early : ℕ → ℕ → ℕ → Bool
ends_early flags counted there = nat_lt there counted || (has_options flags && nat_lt counted 4)

-- an extension header has length 0 or passes the end
abbrev pub breaks_chain : ℕ → List ℕ → Bool
breaks_chain flags counted = has_extensions flags && is_none (behind_headers counted)

-- the first of these that fits
abbrev pub first_fault : List ℕ → Option UBad
first_fault octets =
    if nat_lt (length octets) 8 then Some bad.Short
    else if not (has_version (flags_in octets)) then Some bad.Version
    else if not (is_gtp (flags_in octets)) then Some bad.NotGtp
    else if ends_early (flags_in octets) (length_in octets) (length (drop 8 octets)) then Some bad.Length
    else if breaks_chain (flags_in octets) (counted_in octets) then Some bad.Extension
    else if is_none (kind_of (type_in octets)) then Some bad.Kind
    else None

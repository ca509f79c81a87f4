-- What octets spell a message (TS 29.281, section 5.1).
use Rattle.std.specs.Prelude.{
  ◌≡◌,
  ℕ,
  ◌≤◌,
  Bool,
  true,
  false,
  List,
  length,
  slice_index,
  drop,
  IsTrue,
  Option,
  Some,
  None,
  if◌then◌else◌,
}
use Rattle.wire_octets.specs.Numbers.{be16_at}
use Rattle.gtpu_codec.specs.declared.head.GtpUHead.{GtpUHead}
use Rattle.gtpu_codec.specs.Head.{
  flags_in,
  type_in,
  length_in,
  teid_in,
  counted_in,
  has_version,
  is_gtp,
  has_extensions,
  has_seq,
  has_options,
}
use Rattle.gtpu_codec.specs.Extension.{IsChain}
use Rattle.gtpu_codec.specs.Kind.{type_octet}

-- with flag E, extension headers and the body stand behind the next type; without, the body alone
abbrev pub SpellsBody : Bool → ℕ → List ℕ → List ℕ → Type 0
SpellsBody true next octets body = IsChain next octets body
SpellsBody false next octets body = body ≡ octets

-- the sequence number, where flag S is set
abbrev pub seq_in : ℕ → List ℕ → Option ℕ
seq_in flags counted = if has_seq flags then Some (be16_at counted 0) else None

-- The octets that the length counts, by the flags and by whether E, S or PN is set there.
-- With a flag   0-1: sequence number   2: N-PDU number   3: next type; each counts with its own flag alone.
abbrev pub SpellsCounted : ℕ → Bool → List ℕ → Option ℕ → List ℕ → Type 0
SpellsCounted flags false counted seq body = (seq ≡ None) × (body ≡ counted)
SpellsCounted flags true counted seq body =
    (4 ≤ length counted) × (seq ≡ seq_in flags counted)
    × SpellsBody (has_extensions flags) (slice_index counted 3) (drop 4 counted) body

-- The octets begin with this head, and the message carries this body. What follows its length is no part
-- of it.
abbrev pub Spells : List ℕ → GtpUHead → List ℕ → Type 0
Spells octets head body =
    (8 ≤ length octets) × IsTrue (has_version (flags_in octets)) × IsTrue (is_gtp (flags_in octets))
    × (type_in octets ≡ type_octet head.kind) × (head.teid ≡ teid_in octets)
    × (length_in octets ≤ length (drop 8 octets))
    × SpellsCounted (flags_in octets) (has_options (flags_in octets)) (counted_in octets) head.seq body

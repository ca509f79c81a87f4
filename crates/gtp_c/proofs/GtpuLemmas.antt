-- A G-PDU without flags: its eight octets, and as many behind them as it says.
use Rattle.std.proofs.Common.{◌≡◌, ℕ, ◌+◌, ◌-◌, ◌≤◌, ◌<◌, List, length, take, drop, length-drop, Some, None, IsSomeAnd, IsTrue, refl, sym, ap, subst, arith}
use Rattle.std.specs.Prelude.{slice_index}
use Rattle.wire_octets.specs.Numbers.{be16_at}
use Rattle.gtpu_codec.specs.declared.head.GtpUHead.{GtpUHead}
use Rattle.gtpu_codec.specs.declared.kind.GtpUKind.TheVariants.{Gpdu}
use Rattle.gtpu_codec.specs.Kind.{type_octet}
use Rattle.gtpu_codec.specs.Head.{flags_in, type_in, length_in, teid_in, counted_in, has_version, is_gtp, has_options}
use Rattle.gtpu_codec.specs.Message.{message_of}
use Rattle.gtpu_codec.specs.Refusal.{first_fault}
use Rattle.gtpu_codec.specs.Spelling.{Spells, SpellsCounted}
use Rattle.gtp_c.specs.Gtpu.{Says}
use Rattle.gtpu_codec.proofs.MessageLemmas.{message_is}
use Rattle.gtpu_codec.proofs.SpellingLemmas.{no_fault}

abbrev pub plain_head : List ℕ → GtpUHead
plain_head octets = record { kind = Gpdu; teid = teid_in octets; seq = None }

spells_plain : (octets : List ℕ) → 8 ≤ length octets → flags_in octets ≡ 0x30 → type_in octets ≡ 255
    → length_in octets ≤ length octets - 8 → Spells octets (plain_head octets) (counted_in octets)
spells_plain octets whole flags kind there = (
  whole,
  subst (λ f. IsTrue (has_version f)) (sym flags) refl,
  subst (λ f. IsTrue (is_gtp f)) (sym flags) refl,
  kind,
  refl,
  subst (λ n. length_in octets ≤ n) (sym (length-drop 8 octets)) there,
  subst (λ f. SpellsCounted f (has_options f) (counted_in octets) None (counted_in octets)) (sym flags) (refl, refl),
)

-- (antt splits the first number into its two octets by the range of the second)
pub plain_is_message : (octets : List ℕ) → 8 ≤ length octets → be16_at octets 0 ≡ 0x30ff → slice_index octets 1 < 256
    → length_in octets ≤ length octets - 8
    → (first_fault octets ≡ None) × (message_of octets ≡ Some (plain_head octets, counted_in octets))
plain_is_message octets whole plain octet there =
    let flags : flags_in octets ≡ 0x30 = omega arith in
    let kind : type_in octets ≡ 255 = omega arith in
    let spelled = spells_plain octets whole flags kind there in (
      no_fault octets (plain_head octets) (counted_in octets) spelled,
      message_is octets (plain_head octets) (counted_in octets) spelled,
    )

-- and its head is said by these numbers
pub said_plain : (octets : List ℕ) (len teid kind : ℕ) → len ≡ length_in octets → teid ≡ teid_in octets
    → kind ≡ type_octet Gpdu → 8 ≤ length octets → length_in octets ≤ length octets - 8
    → message_of octets ≡ Some (plain_head octets, counted_in octets)
    → IsSomeAnd (message_of octets) (λ m. Says
    (record { body_from = 8; body_len = len; teid = teid; seq = 0; has_seq = 0; kind = kind }) octets m.0 m.1)
said_plain octets len teid kind len_is teid_is kind_is whole there is =
    let fits : 8 + len ≤ length octets = omega (arith, len_is, whole, there) in
    rw is (kind_is, teid_is, refl, fits, ap (λ n. take n (drop 8 octets)) len_is)

-- The header of a classic pcap file: 24 octets.
-- 0-3: magic   4-5: major version   6-7: minor version   8-15: two words that are ignored
-- 16-19: snapshot length   20-23: link type, in the low 16 bits
use Rattle.std.specs.Prelude.{◌≡◌, ◌==◌, ℕ, ◌%◌, ◌^◌, Bool, true, false, List, if◌then◌else◌, Option, None, Some}
use Rattle.pcap_form.specs.declared.head.CaptureHead.{CaptureHead}
use Rattle.pcap_form.specs.Numbers.{number16_at, number32_at}

-- the octets of a header
abbrev pub head_len : ℕ
head_len = 24

-- the magic of fractions in nanoseconds, or in microseconds
abbrev pub magic_of : Bool → ℕ
magic_of true = 0xa1b2_3c4d
magic_of false = 0xa1b2_c3d4

-- the link type of Ethernet frames, or of packets without a link header
abbrev pub link_of : Bool → ℕ
link_of true = 1
link_of false = 101

-- octets are this header: its magic stands there in its byte order, which all numbers have
pub record IsHead (octets : List ℕ) (head : CaptureHead) : Type 0 where
  pub magic : number32_at head.little octets 0 ≡ magic_of head.nanos
  pub major : number16_at head.little octets 4 ≡ 2
  pub link : number32_at head.little octets 20 % 2 ^ 16 ≡ link_of head.ethernet

-- which of two numbers a number is: the one for `true`, the one for `false`, or neither
abbrev pub which : (Bool → ℕ) → ℕ → Option Bool
which number_of number =
    if number == number_of true then Some true else if number == number_of false then Some false else None

-- the header of this byte order, by the precision that its magic fixes
abbrev pub linked : Bool → Bool → Option Bool → Option CaptureHead
linked little nanos None = None
linked little nanos (Some ethernet) = Some (record { little = little; nanos = nanos; ethernet = ethernet })

abbrev pub ordered : Bool → List ℕ → Option Bool → Option CaptureHead
ordered little octets None = None
ordered little octets (Some nanos) =
    if number16_at little octets 4 == 2
    then linked little nanos (which link_of (number32_at little octets 20 % 2 ^ 16))
    else None

abbrev pub head_in : Bool → List ℕ → Option CaptureHead
head_in little octets = ordered little octets (which magic_of (number32_at little octets 0))

-- no magic is the other's octets turned round, so the first byte order that fits is the one
abbrev pub either : Option CaptureHead → Option CaptureHead → Option CaptureHead
either (Some head) other = Some head
either None other = other

-- the header that octets are, if they are one
abbrev pub head_of : List ℕ → Option CaptureHead
head_of octets = either (head_in false octets) (head_in true octets)

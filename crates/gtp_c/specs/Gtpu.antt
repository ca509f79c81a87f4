-- What a C caller is told of a GTP-U message.
use Rattle.std.specs.Prelude.{
  ◌≡◌,
  ℕ,
  ◌+◌,
  ◌≤◌,
  ◌==◌,
  nat_lt,
  List,
  length,
  take,
  drop,
  Option,
  Some,
  None,
  if◌then◌else◌,
}
use Rattle.gtpu_codec.specs.declared.fault.UBad.{UBad}
use Rattle.gtpu_codec.specs.declared.fault.UBad.TheVariants as bad
use Rattle.gtpu_codec.specs.declared.head.GtpUHead.{GtpUHead}
use Rattle.gtpu_codec.specs.Kind.{type_octet}
use Rattle.gtp_c.specs.declared.gtpu.GtpuHead.{GtpuHead}

-- the number of a refusal; 0 is none
abbrev pub bad_number : UBad → ℕ
bad_number bad.Short = 1
bad_number bad.Version = 2
bad_number bad.NotGtp = 3
bad_number bad.Length = 4
bad_number bad.Extension = 5
bad_number bad.Kind = 6

abbrev pub code_of : Option UBad → ℕ
code_of None = 0
code_of (Some bad) = bad_number bad

abbrev pub seq_said : GtpuHead → Option ℕ
seq_said head = if head.has_seq == 0 then None else Some head.seq

-- the struct says this message of the octets: its fields, and where its body lies
abbrev pub Says : GtpuHead → List ℕ → GtpUHead → List ℕ → Type 0
Says said octets head body =
    (said.kind ≡ type_octet head.kind) × (said.teid ≡ head.teid) × (seq_said said ≡ head.seq)
    × (said.body_from + said.body_len ≤ length octets)
    × (take said.body_len (drop said.body_from octets) ≡ body)

-- the payload is longer than a length field says, or the buffer is too short
abbrev pub gpdu_code : ℕ → ℕ → ℕ
gpdu_code payload room = if nat_lt 65535 payload then 22 else if nat_lt room 8 then 21 else 0

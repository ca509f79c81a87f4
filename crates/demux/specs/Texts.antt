-- The notes on lines that are neither a command nor a packet, each by its cause.
use Rattle.std.specs.Prelude.{ℕ, ◌==◌, if◌then◌else◌, Option, Some, None, List, ◌∷◌, ◌++◌, codes, decimal}
use Rattle.hex.specs.Hex.{encode_lower}
use Rattle.gtpu_codec.specs.declared.fault.UBad.{UBad}
use Rattle.gtpu_codec.specs.declared.fault.UBad.TheVariants as tunnel_bad
use Rattle.gtpv2_msg.specs.declared.fault.CBad.{CBad}
use Rattle.gtpv2_msg.specs.declared.fault.CBad.TheVariants as message_bad
use Rattle.ipv4_packet.specs.declared.fault.IpBad.{IpBad}
use Rattle.ipv4_packet.specs.declared.fault.IpBad.TheVariants as ip_bad
use Rattle.tft_codec.specs.declared.fault.TBad.{TBad}
use Rattle.tft_codec.specs.declared.fault.TBad.TheVariants as template_bad

-- a word, and octets in hexadecimal
abbrev pub octets_note : List ℕ → List ℕ → List ℕ
octets_note word octets = word ++ 32 ∷ encode_lower octets

-- the same, or a dash where there are none
abbrev pub reply_note : List ℕ → Option (List ℕ) → List ℕ
reply_note word (Some reply) = octets_note word reply
reply_note word None = word ++ 32 ∷ codes "-"

-- an information element by its type and instance, and the reply to the request that it is refused in
abbrev pub element_note : List ℕ → ℕ → ℕ → Option (List ℕ) → List ℕ
element_note word kind instance reply = reply_note ((word ++ 32 ∷ decimal kind) ++ 32 ∷ decimal instance) reply

-- octets that are no message of GTPv2-C; no fault is out of memory
abbrev pub message_note : CBad → Option (List ℕ) → List ℕ
message_note message_bad.Short reply = codes "s11 short"
message_note message_bad.Version reply = codes "s11 version"
message_note message_bad.Piggyback reply = codes "s11 piggyback"
message_note message_bad.Length reply = codes "s11 length"
message_note message_bad.Kind reply = codes "s11 kind"
message_note (message_bad.Missing kind instance) reply = element_note (codes "s11 missing") kind instance reply
message_note (message_bad.Incorrect kind instance) reply = element_note (codes "s11 incorrect") kind instance reply
message_note message_bad.NoMemory reply = codes "s11 memory"

-- .. of GTP-U
abbrev pub tunnel_note : UBad → List ℕ
tunnel_note tunnel_bad.Short = codes "s1u short"
tunnel_note tunnel_bad.Version = codes "s1u version"
tunnel_note tunnel_bad.NotGtp = codes "s1u notgtp"
tunnel_note tunnel_bad.Length = codes "s1u length"
tunnel_note tunnel_bad.Extension = codes "s1u extension"
tunnel_note tunnel_bad.Kind = codes "s1u kind"

-- .. no IPv4 packet, where they came in a tunnel, and from the internet
abbrev pub carried_note : IpBad → List ℕ
carried_note ip_bad.Short = codes "s1u ip short"
carried_note ip_bad.Version = codes "s1u ip version"
carried_note ip_bad.Header = codes "s1u ip header"
carried_note ip_bad.Total = codes "s1u ip total"

abbrev pub packet_note : IpBad → List ℕ
packet_note ip_bad.Short = codes "sgi ip short"
packet_note ip_bad.Version = codes "sgi ip version"
packet_note ip_bad.Header = codes "sgi ip header"
packet_note ip_bad.Total = codes "sgi ip total"

-- .. no traffic flow template; no fault is out of memory
abbrev pub template_note : TBad → List ℕ
template_note template_bad.Short = codes "tft short"
template_note template_bad.Parameters = codes "tft parameters"
template_note template_bad.Operation = codes "tft operation"
template_note template_bad.Component = codes "tft component"
template_note template_bad.RepeatedId = codes "tft repeated"
template_note template_bad.Trailing = codes "tft trailing"
template_note template_bad.NoMemory = codes "tft memory"

-- an instruction to move a slot to a slice, which is its destination already, or isn't
abbrev pub move_word : ℕ → ℕ → List ℕ
move_word destination slice = if slice == destination then codes "stay" else codes "move"

abbrev pub move_note : ℕ → ℕ → ℕ → List ℕ
move_note destination slot slice = (move_word destination slice ++ 32 ∷ decimal slot) ++ 32 ∷ decimal slice

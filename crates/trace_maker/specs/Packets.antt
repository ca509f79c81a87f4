-- The octets of the packets in a generated trace.
use Rattle.std.specs.Prelude.{ℕ, ◌-◌, List, ◌∷◌, ◌++◌, replicate}
use Rattle.pc_base.specs.Addresses.{addr_of}
use Rattle.pc_base.specs.Teids.{teid_of}
use Rattle.pc_base.specs.declared.packet.TeidUse.TheVariants.{Bearer}
use Rattle.wire_octets.specs.Numbers.{be16_octets, be32_octets}
use Rattle.gtpu_codec.specs.Text.{gpdu_head}

-- 203.0.113.9
abbrev pub server : ℕ
server = 0xcb00_7109

-- an IPv4 packet of `len` octets (RFC 791, 3.1): a header without options, with 64 hops left, protocol 253 (for
-- experiments, RFC 3692) and no checksum, and zeros behind it
abbrev pub packet : ℕ → ℕ → ℕ → List ℕ
packet len source destination =
    0x45 ∷ 0x00 ∷ be16_octets len
    ++ 0x00 ∷ 0x00 ∷ 0x00 ∷ 0x00 ∷ 0x40 ∷ 0xfd ∷ 0x00 ∷ 0x00 ∷ be32_octets source
    ++ be32_octets destination
    ++ replicate (len - 20) 0

-- a packet of the subscriber of this slot to the server, in a G-PDU (TS 29.281, 5.1) to its bearer of index 0
abbrev pub uplink : ℕ → ℕ → List ℕ
uplink slot len = gpdu_head (teid_of slot (Bearer 0)) len ++ packet len (addr_of slot) server

-- a packet of the server to the subscriber
abbrev pub downlink : ℕ → ℕ → List ℕ
downlink slot len = packet len server (addr_of slot)

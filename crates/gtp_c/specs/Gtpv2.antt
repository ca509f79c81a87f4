-- What a C caller is told of a GTPv2-C message.
use Rattle.std.specs.Prelude.{◌≡◌, ℕ, ◌+◌, ◌≤◌, ◌==◌, List, length, Option, Some, None, if◌then◌else◌}
use Rattle.gtpv2_msg.specs.Header.{kind_of, teid_of, seq_of, has_teid, header_len, end_of}
use Rattle.gtp_c.specs.declared.gtpv2.Gtpv2Head.{Gtpv2Head}

abbrev pub teid_said : Gtpv2Head → Option ℕ
teid_said head = if head.has_teid == 0 then None else Some head.teid

-- the struct says the header of these octets, and where the elements lie
abbrev pub Says : Gtpv2Head → List ℕ → Type 0
Says said octets =
    (said.kind ≡ kind_of octets) × (teid_said said ≡ teid_of octets) × (said.seq ≡ seq_of octets)
    × (said.ies_from ≡ header_len (has_teid octets)) × (said.ies_from + said.ies_len ≡ end_of octets)
    × (end_of octets ≤ length octets)

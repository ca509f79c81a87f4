-- The message that octets without a fault spell (TS 29.274), as a function of them.
use Rattle.std.specs.Prelude.{ℕ, List, [], Result, Ok, Err}
use Rattle.gtpv2_ie.specs.declared.fault.IeBad.{IeBad}
use Rattle.gtpv2_ie.specs.declared.raw.RawIe.{RawIe}
use Rattle.gtpv2_ie.specs.Element.{Element}
use Rattle.gtpv2_ie.specs.Stand.{ies_of}
use Rattle.gtpv2_msg.specs.Elements.{read_ies, known_of}
use Rattle.gtpv2_msg.specs.Header.{kind_of, teid_of, seq_of, body_of}
use Rattle.gtpv2_msg.specs.Message.{Message}

-- the elements behind a header that are inside their grammar
abbrev pub elements_where : List ℕ → Result (List RawIe) IeBad → List Element
elements_where octets (Ok raws) = known_of (read_ies octets raws)
elements_where octets (Err bad) = []

abbrev pub elements_in : List ℕ → List Element
elements_in octets = elements_where octets (ies_of octets)

unfoldable pub message_in : List ℕ → Message
message_in octets = record {
  kind = kind_of octets;
  teid = teid_of octets;
  seq = seq_of octets;
  ies = elements_in (body_of octets);
}

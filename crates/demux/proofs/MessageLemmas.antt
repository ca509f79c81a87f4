-- What octets spell is the message that they are.
use Rattle.std.proofs.Common.{◌≡◌, ℕ, List, Option, ap, ◌∙◌}
use Rattle.gtpv2_ie.proofs.StandLemmas.{ies_of-Stand}
use Rattle.gtpv2_ie.specs.Element.{Element}
use Rattle.gtpv2_msg.specs.Header.{teid_of, seq_of, body_of}
use Rattle.gtpv2_msg.specs.Message.{Message}
use Rattle.gtpv2_msg.specs.Reading.{IsBody, Spells}
use Rattle.demux.specs.Message.{elements_where, elements_in, message_in}

elements_spelled : (kind : ℕ) (octets : List ℕ) (ies : List Element) → IsBody kind octets ies → elements_in octets ≡ ies
elements_spelled kind octets ies body =
    ap (elements_where octets) (ies_of-Stand octets body.raws body.stand) ∙ body.known

pub message_spelled : (octets : List ℕ) (message : Message) → Spells octets message → message_in octets ≡ message
unfolding message_in
message_spelled octets message spells =
    let made : ℕ → Option ℕ → ℕ → List Element → Message =
    λ kind teid seq ies. record { kind = kind; teid = teid; seq = seq; ies = ies } in
    ap (λ kind. made kind (teid_of octets) (seq_of octets) (elements_in (body_of octets))) spells.header.kind
    ∙ ap (λ teid. made message.kind teid (seq_of octets) (elements_in (body_of octets))) spells.header.teid
    ∙ ap (λ seq. made message.kind message.teid seq (elements_in (body_of octets))) spells.header.seq
    ∙ ap (made message.kind message.teid message.seq) (elements_spelled message.kind
    (body_of octets) message.ies spells.body)

-- The one text of each message that is written (TS 29.281, sections 5.1, 7 and 8).
use Rattle.std.specs.Prelude.{ℕ, ◌+◌, ◌<◌, ◌^◌, List, [], ◌∷◌, ◌++◌, length, Option, Some, None}
use Rattle.wire_octets.specs.Numbers.{be16_octets, be32_octets}
use Rattle.gtpu_codec.specs.declared.head.GtpUHead.{GtpUHead}
use Rattle.gtpu_codec.specs.declared.kind.GtpUKind.{GtpUKind}
use Rattle.gtpu_codec.specs.declared.kind.GtpUKind.TheVariants as kind
use Rattle.gtpu_codec.specs.declared.message.GtpU.{GtpU}
use Rattle.gtpu_codec.specs.declared.message.GtpU.TheVariants.{
  EchoRequest,
  EchoResponse,
  ErrorIndication,
  EndMarker,
  Gpdu,
}
use Rattle.gtpu_codec.specs.Kind.{type_octet}

-- A message with this head and body: octet 1 says version 1 and GTP, and S where there is a sequence
-- number; the N-PDU number and the next type are 0 then.
abbrev pub text : GtpUKind → ℕ → Option ℕ → List ℕ → List ℕ
text kind teid None body = 0x30 ∷ type_octet kind ∷ be16_octets (length body) ++ be32_octets teid ++ body
text kind teid (Some seq) body =
    0x32 ∷ type_octet kind ∷ be16_octets (length body + 4) ++ be32_octets teid ++ be16_octets seq ++ 0 ∷ 0 ∷ body

-- the octets of a G-PDU before its payload of so many octets
abbrev pub gpdu_head : ℕ → ℕ → List ℕ
gpdu_head teid payload_len = 0x30 ∷ type_octet kind.Gpdu ∷ be16_octets payload_len ++ be32_octets teid

-- what stands behind the head: the Recovery of an answer (8.2), the TEID Data I and the GTP-U Peer
-- Address of an error (8.3 and 8.4), the payload of a G-PDU
abbrev pub body_of : GtpU → List ℕ
body_of (EchoRequest seq) = []
body_of (EchoResponse seq) = 0x0e ∷ 0 ∷ []
body_of (ErrorIndication seq teid peer) = 0x10 ∷ be32_octets teid ++ 0x85 ∷ 0 ∷ 4 ∷ be32_octets peer
body_of (EndMarker teid) = []
body_of (Gpdu teid payload) = payload

abbrev pub head_of : GtpU → GtpUHead
head_of (EchoRequest seq) = record { kind = kind.EchoRequest; teid = 0; seq = Some seq }
head_of (EchoResponse seq) = record { kind = kind.EchoResponse; teid = 0; seq = Some seq }
head_of (ErrorIndication seq teid peer) = record { kind = kind.ErrorIndication; teid = 0; seq = Some seq }
head_of (EndMarker teid) = record { kind = kind.EndMarker; teid = teid; seq = None }
head_of (Gpdu teid payload) = record { kind = kind.Gpdu; teid = teid; seq = None }

abbrev pub spelling : GtpU → List ℕ
spelling message = text (head_of message).kind (head_of message).teid (head_of message).seq (body_of message)

-- how many octets a message's own payload has
abbrev pub payload_len : GtpU → ℕ
payload_len (EchoRequest seq) = 0
payload_len (EchoResponse seq) = 0
payload_len (ErrorIndication seq teid peer) = 0
payload_len (EndMarker teid) = 0
payload_len (Gpdu teid payload) = length payload

-- a message whose numbers fit their fields
abbrev pub IsMessage : GtpU → Type 0
IsMessage (EchoRequest seq) = seq < 2 ^ 16
IsMessage (EchoResponse seq) = seq < 2 ^ 16
IsMessage (ErrorIndication seq teid peer) = (seq < 2 ^ 16) × (teid < 2 ^ 32) × (peer < 2 ^ 32)
IsMessage (EndMarker teid) = teid < 2 ^ 32
IsMessage (Gpdu teid payload) = (teid < 2 ^ 32) × (length payload < 2 ^ 16)

-- how many octets the length counts
abbrev pub counted_len : Option ℕ → List ℕ → ℕ
counted_len None body = length body
counted_len (Some seq) body = length body + 4

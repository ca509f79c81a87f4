-- The types of message (TS 29.281, table 6.1-1).
use Rattle.std.specs.Prelude.{ℕ, ◌==◌, List, [], ◌∷◌, Option, find}
use Rattle.gtpu_codec.specs.declared.kind.GtpUKind.{GtpUKind}
use Rattle.gtpu_codec.specs.declared.kind.GtpUKind.TheVariants.{
  EchoRequest,
  EchoResponse,
  ErrorIndication,
  EndMarker,
  Gpdu,
}

-- octet 2 of a message
abbrev pub type_octet : GtpUKind → ℕ
type_octet EchoRequest = 1
type_octet EchoResponse = 2
type_octet ErrorIndication = 26
type_octet EndMarker = 254
type_octet Gpdu = 255

-- those that are spoken here
abbrev pub kinds : List GtpUKind
kinds = EchoRequest ∷ EchoResponse ∷ ErrorIndication ∷ EndMarker ∷ Gpdu ∷ []

-- the type of message with this octet
unfoldable pub kind_of : ℕ → Option GtpUKind
kind_of octet = find (λ kind. type_octet kind == octet) kinds

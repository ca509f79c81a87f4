-- The definitions at worked octets of TS 29.281: the header (5.1), extension headers (5.2), messages (7, 8).
use Rattle.std.proofs.Common.{◌≡◌, ℕ, List, [], ◌∷◌, Some, None, refl}
use Rattle.gtpu_codec.specs.declared.head.GtpUHead.{GtpUHead}
use Rattle.gtpu_codec.specs.declared.kind.GtpUKind.{GtpUKind}
use Rattle.gtpu_codec.specs.declared.kind.GtpUKind.TheVariants as kind
use Rattle.gtpu_codec.specs.declared.message.GtpU.TheVariants.{EchoRequest, EchoResponse, ErrorIndication, EndMarker, Gpdu}
use Rattle.gtpu_codec.specs.declared.fault.UBad.TheVariants as bad
use Rattle.gtpu_codec.specs.Kind.{kind_of}
use Rattle.gtpu_codec.specs.Message.{message_of}
use Rattle.gtpu_codec.specs.Refusal.{first_fault}
use Rattle.gtpu_codec.specs.Text.{spelling}

-- a message without a sequence number, of TEID 17
abbrev plain : GtpUKind → GtpUHead
plain kind = record { kind = kind; teid = 17; seq = None }

-- the first octet (version 1, GTP and the flags), then a G-PDU of TEID 17 that counts so many octets
abbrev gpdu : ℕ → ℕ → List ℕ → List ℕ
gpdu flags counted following = flags ∷ 255 ∷ 0 ∷ counted ∷ 0 ∷ 0 ∷ 0 ∷ 17 ∷ following

-- what it carries ends with its length
no_flag-message : message_of (gpdu 0x30 2 (69 ∷ 0 ∷ 9 ∷ [])) ≡ Some (plain kind.Gpdu, 69 ∷ 0 ∷ [])
unfolding kind_of
no_flag-message = refl

-- flag S: a sequence number; flag PN: an N-PDU number; the other fields don't count
numbered-message : message_of (gpdu 0x32 5 (1 ∷ 2 ∷ 3 ∷ 0x85 ∷ 69 ∷ []))
    ≡ Some (record { kind = kind.Gpdu; teid = 17; seq = Some 258 }, 69 ∷ [])
unfolding kind_of
numbered-message = refl

n_pdu-message : message_of (gpdu 0x31 5 (1 ∷ 2 ∷ 3 ∷ 0x85 ∷ 69 ∷ [])) ≡ Some (plain kind.Gpdu, 69 ∷ [])
unfolding kind_of
n_pdu-message = refl

-- flag E: a header of four octets, and one of eight behind it
one_header-message : message_of (gpdu 0x34 9 (0 ∷ 0 ∷ 0 ∷ 0x85 ∷ 1 ∷ 0x10 ∷ 0x09 ∷ 0 ∷ 69 ∷ []))
    ≡ Some (plain kind.Gpdu, 69 ∷ [])
unfolding kind_of
one_header-message = refl

two_headers-message : message_of (gpdu 0x34 17
    (0 ∷ 0 ∷ 0 ∷ 0x85 ∷ 1 ∷ 0x10 ∷ 0x09 ∷ 0x40 ∷ 2 ∷ 0 ∷ 0 ∷ 0 ∷ 0 ∷ 0 ∷ 0 ∷ 0 ∷ 69 ∷ []))
    ≡ Some (plain kind.Gpdu, 69 ∷ [])
unfolding kind_of
two_headers-message = refl

-- each fault
short-fault : first_fault (0x30 ∷ 255 ∷ 0 ∷ 0 ∷ 0 ∷ 0 ∷ 17 ∷ []) ≡ Some bad.Short
unfolding kind_of
short-fault = refl

version-fault : first_fault (gpdu 0x50 0 []) ≡ Some bad.Version
unfolding kind_of
version-fault = refl

gtp_prime-fault : first_fault (gpdu 0x20 0 []) ≡ Some bad.NotGtp
unfolding kind_of
gtp_prime-fault = refl

length-fault : first_fault (gpdu 0x30 1 []) ≡ Some bad.Length
unfolding kind_of
length-fault = refl

options-fault : first_fault (gpdu 0x31 3 (0 ∷ 0 ∷ 0 ∷ 0 ∷ [])) ≡ Some bad.Length
unfolding kind_of
options-fault = refl

extension-fault : first_fault (gpdu 0x34 4 (0 ∷ 0 ∷ 0 ∷ 0x85 ∷ [])) ≡ Some bad.Extension
unfolding kind_of
extension-fault = refl

kind-fault : first_fault (0x30 ∷ 253 ∷ 0 ∷ 0 ∷ 0 ∷ 0 ∷ 0 ∷ 17 ∷ []) ≡ Some bad.Kind
unfolding kind_of
kind-fault = refl

-- the messages that are written
echo_request-text : spelling (EchoRequest 7) ≡ 0x32 ∷ 1 ∷ 0 ∷ 4 ∷ 0 ∷ 0 ∷ 0 ∷ 0 ∷ 0 ∷ 7 ∷ 0 ∷ 0 ∷ []
echo_request-text = refl

echo_response-text : spelling (EchoResponse 7) ≡ 0x32 ∷ 2 ∷ 0 ∷ 6 ∷ 0 ∷ 0 ∷ 0 ∷ 0 ∷ 0 ∷ 7 ∷ 0 ∷ 0 ∷ 14 ∷ 0 ∷ []
echo_response-text = refl

error_indication-text : spelling (ErrorIndication 0 0x21 0xc000_0201)
    ≡ 0x32 ∷ 26 ∷ 0 ∷ 16 ∷ 0 ∷ 0 ∷ 0 ∷ 0 ∷ 0 ∷ 0 ∷ 0 ∷ 0 ∷ 16 ∷ 0 ∷ 0 ∷ 0 ∷ 0x21 ∷ 133 ∷ 0 ∷ 4 ∷ 0xc0 ∷ 0 ∷ 2 ∷ 1 ∷ []
error_indication-text = refl

end_marker-text : spelling (EndMarker 17) ≡ 0x30 ∷ 254 ∷ 0 ∷ 0 ∷ 0 ∷ 0 ∷ 0 ∷ 17 ∷ []
end_marker-text = refl

gpdu-text : spelling (Gpdu 17 (69 ∷ 0 ∷ [])) ≡ 0x30 ∷ 255 ∷ 0 ∷ 2 ∷ 0 ∷ 0 ∷ 0 ∷ 17 ∷ 69 ∷ 0 ∷ []
gpdu-text = refl

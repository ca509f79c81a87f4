-- The message that octets spell, as a function of them: nothing above looks at a header again.
use Rattle.std.specs.Prelude.{ℕ, List, [], drop, Option, None, is_some, option_map, unwrap_or, if◌then◌else◌}
use Rattle.gtpu_codec.specs.declared.head.GtpUHead.{GtpUHead}
use Rattle.gtpu_codec.specs.declared.kind.GtpUKind.{GtpUKind}
use Rattle.gtpu_codec.specs.Head.{flags_in, type_in, teid_in, counted_in, has_extensions, has_options}
use Rattle.gtpu_codec.specs.Extension.{behind_headers}
use Rattle.gtpu_codec.specs.Kind.{kind_of}
use Rattle.gtpu_codec.specs.Spelling.{seq_in}
use Rattle.gtpu_codec.specs.Refusal.{first_fault}

-- what the octets that the length counts carry, behind options and extension headers
abbrev pub carried : ℕ → List ℕ → List ℕ
carried flags counted =
    if has_extensions flags then unwrap_or (behind_headers counted) []
    else if has_options flags then drop 4 counted
    else counted

-- the head of a message of this type
abbrev pub head_with : List ℕ → GtpUKind → GtpUHead
head_with octets kind =
    record { kind = kind; teid = teid_in octets; seq = seq_in (flags_in octets) (counted_in octets) }

-- that head, and what the message carries
abbrev pub message_with : List ℕ → GtpUKind → GtpUHead × List ℕ
message_with octets kind = (head_with octets kind, carried (flags_in octets) (counted_in octets))

-- the head of the message and what it carries; None where the octets have a fault
abbrev pub message_of : List ℕ → Option (GtpUHead × List ℕ)
message_of octets =
    if is_some (first_fault octets) then None
    else option_map (message_with octets) (kind_of (type_in octets))

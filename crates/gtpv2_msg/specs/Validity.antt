-- What a message keeps.
use Rattle.std.specs.Prelude.{◌≡◌, ◌+◌, ◌^◌, ◌<◌, true, length, IfSome}
use Rattle.std.specs.Option.{is_some}
use Rattle.gtpv2_ie.specs.Spelling.{spellings}
use Rattle.gtpv2_msg.specs.Header.{header_len}
use Rattle.gtpv2_msg.specs.Kinds.{is_kind}
use Rattle.gtpv2_msg.specs.Message.{Message}

-- a known type, numbers in their ranges, and a length that fits its field
pub record IsMessage (message : Message) : Type 0 where
  pub kind : is_kind message.kind ≡ true
  pub teid : IfSome message.teid (λ teid. teid < 2 ^ 32)
  pub seq : message.seq < 2 ^ 24
  pub len : header_len (is_some message.teid) + length (spellings message.ies) < 4 + 2 ^ 16

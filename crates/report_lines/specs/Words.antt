-- The words of a report.
use Rattle.std.specs.Prelude.{ℕ, Bool, true, false, List, ◌∷◌, codes, decimal, Option, None, Some}
use Rattle.charging_book.specs.declared.records.Why.{Why}
use Rattle.charging_book.specs.declared.records.Why.TheVariants.{Volume, Qos, Gone}
use Rattle.hex.specs.Hex.{encode_lower}
use Rattle.pc_base.specs.declared.packet.Place.{Place}
use Rattle.pc_base.specs.declared.packet.Place.TheVariants.{At, Closing}
use Rattle.pc_base.specs.declared.reply.Outcome.{Outcome}
use Rattle.pc_base.specs.declared.reply.Outcome.TheVariants.{Done, No, Again}

abbrev pub outcome_word : Outcome → List ℕ
outcome_word Done = codes "ok"
outcome_word No = codes "no"
outcome_word Again = codes "again"

abbrev pub why_word : Why → List ℕ
why_word Volume = codes "volume"
why_word Qos = codes "qos"
why_word Gone = codes "gone"

-- a message in hexadecimal, or a dash
abbrev pub message_word : Option (List ℕ) → List ℕ
message_word None = codes "-"
message_word (Some octets) = encode_lower octets

-- a moment, or a dash
abbrev pub moment_word : Option ℕ → List ℕ
moment_word None = codes "-"
moment_word (Some moment) = decimal moment

-- a slice behind an at sign, or a dash at the end of an epoch
abbrev pub place_word : Place → List ℕ
place_word (At slice) = 64 ∷ decimal slice
place_word Closing = codes "@-"

-- what was refused: a packet, or a command
abbrev pub refused_word : Bool → List ℕ
refused_word true = codes "p"
refused_word false = codes "c"

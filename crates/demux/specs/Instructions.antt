-- What an instruction of the operator asks.
use Rattle.std.specs.Prelude.{ℕ, ◌%◌, ◌^◌, Option, Some, None, List, codes}
use Rattle.tft_codec.specs.declared.fault.TBad.{TBad}
use Rattle.tft_codec.specs.declared.tft.Tft.{Tft}
use Rattle.tft_codec.specs.Reading.{tft_at}
use Rattle.tft_codec.specs.Refusal.{first_fault}
use Rattle.control_steps.specs.declared.command.CommandKind.{CommandKind}
use Rattle.demux.specs.Texts.{template_note}
use Rattle.demux.specs.Asked.{Asked, Wish, of, imsi, command, noted}

-- the sequence number of a request that an instruction makes, by its line
abbrev pub seq_of_line : ℕ → ℕ
seq_of_line number = number % 2 ^ 23

-- an instruction with a template, which is read only for a subscriber of the book
abbrev pub templated_where : (Tft → CommandKind) → List ℕ → Option TBad → Wish
templated_where command_of octets (Some bad) = noted (template_note bad)
templated_where command_of octets None = command (command_of (tft_at octets))

unfoldable pub templated : (Tft → CommandKind) → List ℕ → Wish
templated command_of octets = templated_where command_of octets (first_fault octets)

-- an instruction for the subscriber of an IMSI
abbrev pub instructed : List ℕ → Wish → Asked
instructed digits wish = of (imsi digits) wish (codes "noimsi")

-- What the entries of one slot tell.
use Rattle.std.specs.Prelude.{ℕ, zero, suc, ◌+◌, ◌==◌, if◌then◌else◌, Option, Some, None, List, [], ◌∷◌}
use Rattle.pc_base.specs.declared.packet.Verdict.{Verdict}
use Rattle.pc_base.specs.declared.reply.Reply.{Reply}
use Rattle.report_lines.specs.declared.entry.LineEntry.{LineEntry}
use Rattle.report_lines.specs.declared.entry.LineEntry.TheVariants as line

-- of its commands: their numbers and replies
abbrev pub command_number : ℕ → LineEntry → Option ℕ
command_number slot (line.N noted) = None
command_number slot (line.C answered) = if answered.slot == slot then Some answered.number else None
command_number slot (line.P judged) = None
command_number slot (line.F refused) = None

abbrev pub reply_told : ℕ → LineEntry → Option Reply
reply_told slot (line.N noted) = None
reply_told slot (line.C answered) = if answered.slot == slot then Some answered.reply else None
reply_told slot (line.P judged) = None
reply_told slot (line.F refused) = None

-- of its packets: their numbers, how many commands stand before each, and the verdicts
abbrev pub packet_number : ℕ → LineEntry → Option ℕ
packet_number slot (line.N noted) = None
packet_number slot (line.C answered) = None
packet_number slot (line.P judged) = if judged.slot == slot then Some judged.number else None
packet_number slot (line.F refused) = None

abbrev pub commands_told : ℕ → LineEntry → Option ℕ
commands_told slot (line.N noted) = None
commands_told slot (line.C answered) = None
commands_told slot (line.P judged) = if judged.slot == slot then Some judged.commands else None
commands_told slot (line.F refused) = None

abbrev pub verdict_told : ℕ → LineEntry → Option Verdict
verdict_told slot (line.N noted) = None
verdict_told slot (line.C answered) = None
verdict_told slot (line.P judged) = if judged.slot == slot then Some judged.verdict else None
verdict_told slot (line.F refused) = None

-- so many numbers, from the first one on
abbrev pub counted : ℕ → ℕ → List ℕ
counted first zero = []
counted first (suc n) = first ∷ counted (first + 1) n

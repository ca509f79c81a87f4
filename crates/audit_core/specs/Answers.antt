-- What the lines of a slot tell, one behind another.
use Rattle.std.specs.Prelude.{Option, Some, None}
use Rattle.pc_base.specs.declared.packet.Verdict.{Verdict}
use Rattle.pc_base.specs.declared.reply.Reply.{Reply}
use Rattle.report_lines.specs.declared.entry.LineEntry.{LineEntry}
use Rattle.report_lines.specs.declared.entry.LineEntry.TheVariants as line
use Rattle.lawful_run.specs.LinesTold.{LineTold}

abbrev pub reply_of : LineEntry → Option Reply
reply_of (line.N noted) = None
reply_of (line.C answered) = Some answered.reply
reply_of (line.P judged) = None
reply_of (line.F refused) = None

abbrev pub verdict_of : LineEntry → Option Verdict
verdict_of (line.N noted) = None
verdict_of (line.C answered) = None
verdict_of (line.P judged) = Some judged.verdict
verdict_of (line.F refused) = None

abbrev pub reply_in : LineTold → Option Reply
reply_in told = reply_of told.entry

abbrev pub verdict_in : LineTold → Option Verdict
verdict_in told = verdict_of told.entry

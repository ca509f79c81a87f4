-- The terms of one bearer more and its template, as the command that they are.
use Rattle.tft_codec.specs.declared.tft.Tft.{Tft}
use Rattle.control_steps.specs.declared.asking.BearerTerms.{BearerTerms}
use Rattle.control_steps.specs.declared.command.CommandKind.{CommandKind}
use Rattle.control_steps.specs.declared.command.CommandKind.TheVariants.{AddBearer}

abbrev pub added_by : BearerTerms → Tft → CommandKind
added_by asked tft = AddBearer asked.seq asked.qci asked.mbr_up asked.mbr_down asked.gbr_up asked.gbr_down tft

-- The ranges of the numbers that a session keeps of a command.
use Rattle.bearer_state.specs.Bearer.{IsEbi, IsSeq}
use Rattle.bearer_state.specs.Qos.{IsQos}
use Rattle.control_steps.specs.Command.{AreRates}
use Rattle.control_steps.specs.ReadBack.{AreOrderNumbers}
use Rattle.control_steps.specs.declared.command.CommandKind.{CommandKind}
use Rattle.control_steps.specs.declared.command.CommandKind.TheVariants as commands

-- what a session keeps of a command
abbrev pub CommandKept : CommandKind → Type 0
CommandKept (commands.Attach enb up down) = AreRates up down
CommandKept (commands.Create seq mme pdn ebi qos enb up down) = IsSeq seq × IsEbi ebi × IsQos qos × AreRates up down
CommandKept (commands.Modify seq mme asks) = IsSeq seq
CommandKept (commands.Release seq) = IsSeq seq
CommandKept (commands.Delete seq) = IsSeq seq
CommandKept (commands.AddBearer seq qci mbr_up mbr_down gbr_up gbr_down tft) =
    IsSeq seq × AreOrderNumbers qci mbr_up mbr_down gbr_up gbr_down
CommandKept (commands.Filters seq ebi tft) = Unit {0}
CommandKept (commands.Drop seq ebi) = Unit {0}
CommandKept (commands.Ambr seq up down) = AreRates up down
CommandKept (commands.CreateAns seq cause ebi row_cause enb) = Unit {0}
CommandKept (commands.UpdateAns seq) = Unit {0}
CommandKept (commands.DeleteAns seq) = Unit {0}

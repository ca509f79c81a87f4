use Rattle.std.proofs.Common.{◌≡◌, OnOk, refl, sym, ap, subst, rules}
use Rattle.std.proofs.lemmas.Result.{on_ok_weaker}
use Rattle.demux.specs.Trace.{command}
use Rattle.demux.specs.declared.meant.Meant.{Meant}
use Rattle.demux.specs.declared.meant.Meant.TheVariants as meant
use Rattle.epoch_drive.specs.Kept.{KeepsLine}
use Rattle.epoch_drive.specs.declared.kept.EpochLines.{EpochLines}
use Rattle.slot_execution.specs.declared.kept.KeptMeaning.TheVariants as kept
use Rattle.epoch_drive.proofs.Keeping.{adds_alone}
use Rattle.epoch_drive.proofs.kept.keep.Goals as goal

pub returns-in-Packet : goal.returns-in-Packet
returns-in-Packet c =
    let old : EpochLines = c.args.lines.now in
    subst (λ (m : Meant). OnOk c.keep_packet.result (KeepsLine old c.keep_packet.new.lines m)) (sym c.in-Packet.is)
    c.keep_packet.ensures

pub returns-in_ok-command-in-Command : goal.returns-in_ok-command-in-Command
returns-in_ok-command-in-Command c =
    let old : EpochLines = c.args.lines.now in
    let slot = c.in-Command.slot in
    let same : c.in_ok-command-in-Command.command.value ≡ c.in-Command.command = search rules in
    subst (λ (m : Meant). OnOk c.add.result (KeepsLine old c.add.new.lines m)) (sym c.in-Command.is)
    (on_ok_weaker c.add.result (λ adds.
    adds_alone old c.add.new.lines (meant.Command slot c.in-Command.command)
    (kept.Command slot c.in_ok-command-in-Command.command) (ap (command slot) same) tt refl adds) c.add.ensures)

pub returns-in-Move : goal.returns-in-Move
returns-in-Move c =
    let old : EpochLines = c.args.lines.now in
    subst (λ (m : Meant). OnOk c.add-in-Move.result (KeepsLine old c.add-in-Move.new.lines m)) (sym c.in-Move.is)
    (on_ok_weaker c.add-in-Move.result (λ adds.
    adds_alone old c.add-in-Move.new.lines (meant.Move c.in-Move.slot c.in-Move.slice c.in-Move.text)
    (kept.Move c.in-Move.slot c.in-Move.slice c.in-Move.text) refl tt refl adds) c.add-in-Move.ensures)

pub returns-in-Note : goal.returns-in-Note
returns-in-Note c =
    let old : EpochLines = c.args.lines.now in
    subst (λ (m : Meant). OnOk c.add-in-Note.result (KeepsLine old c.add-in-Note.new.lines m)) (sym c.in-Note.is)
    (on_ok_weaker c.add-in-Note.result (λ adds.
    adds_alone old c.add-in-Note.new.lines (meant.Note c.in-Note.text) (kept.Note c.in-Note.text) refl tt refl adds)
    c.add-in-Note.ensures)

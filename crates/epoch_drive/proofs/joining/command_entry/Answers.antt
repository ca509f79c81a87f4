use Rattle.epoch_drive.proofs.EntryLemmas.{fills_command, fills_refused_command}
use Rattle.epoch_drive.proofs.joining.command_entry.Goals as goal

pub returns-then-taken : goal.returns-then-taken
returns-then-taken c =
    fills_command c.args.answers.now.items c.next_reply-next.new.answers.items c.args.line c.args.slot c.args.taken
    c.next_reply-next.result c.answer.result c.if-taken.true c.requires c.next_reply-next.ensures c.answer.ensures.told
    c.answer.ensures.short

pub returns-else-taken : goal.returns-else-taken
returns-else-taken c =
    fills_refused_command c.args.answers.now.items c.args.line c.args.slot c.args.taken c.if-taken.false

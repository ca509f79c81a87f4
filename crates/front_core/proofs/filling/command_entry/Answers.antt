use Rattle.front_core.proofs.Entries.{takes_command}
use Rattle.front_core.proofs.filling.command_entry.Goals as goal

pub returns : goal.returns
returns c =
    takes_command c.args.line c.args.slot c.args.answers.now.items c.next_reply-next.new.answers.items
    c.next_reply-next.result c.answer.result c.requires c.next_reply-next.ensures c.answer.ensures

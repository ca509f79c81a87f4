use Rattle.control_steps.specs.ReadBack.{HasOwnNumbers}
use Rattle.control_steps.specs.Row.{row_of}
use Rattle.control_steps.specs.Table.{written}
use Rattle.control_steps.proofs.WrittenTable.{AreInRange, written_fits, read_back}
use Rattle.control_steps.proofs.laws.written_messages_read_back.Goals as goal

pub returns : goal.returns
returns c =
    let own : HasOwnNumbers c.args.command.now = rw (← c.command.view_is) c.own_numbers.ensures in
    let are : AreInRange c.args.session.now c.args.command.now = record {
      numbers = c.numbers.ensures;
      session_fits = c.known.ensures.session;
      bearers = c.known.ensures.bearers;
      command_fits = rw c.command.view_is at c.command.invariant;
      own_numbers = own;
    } in
    read_back c.messages_read_back.ensures (written (row_of c.args.session.now c.args.command.now)
    c.args.session.now c.args.command.now)
    (written_fits (row_of c.args.session.now c.args.command.now) c.args.session.now c.args.command.now are)

-- What a step does of a row, as the table has it; where memory runs out nothing changes.
use Rattle.std.specs.Prelude.{◌≡◌, true, Result, Ok, Err}
use Rattle.std.specs.declared.alloc.AllocError.{AllocError}
use Rattle.pc_base.specs.declared.reply.Reply.{Reply}
use Rattle.bearer_state.specs.Session.{SessionState}
use Rattle.control_steps.specs.declared.command.CommandKind.{CommandKind}
use Rattle.control_steps.specs.Row.{Row, takes_memory}
use Rattle.control_steps.specs.Table.{session_after, reply}

pub record IsDone (row : Row) (command : CommandKind) (before after : SessionState) (answer : Reply) : Type 0 where
  pub session : after ≡ session_after row before command
  pub reply : answer ≡ reply row before command

abbrev pub Does : Row → CommandKind → SessionState → SessionState → Result Reply AllocError → Type 0
Does row command before after (Ok answer) = IsDone row command before after answer
Does row command before after (Err no_memory) = (after ≡ before) × (takes_memory row ≡ true)

use Rattle.trace_run.proofs.NotedLemmas.{both_none}
use Rattle.drive_command.proofs.driver.Driver.is_done.Goals as goal

pub returns-then-is_empty : goal.returns-then-is_empty
returns-then-is_empty c = λ start taken has.
    both_none c.is_none.result taken c.args.bad c.is_none.ensures
    (c.if-is_empty.ensures start taken c.args.self.now.gateway has)

use Rattle.trace_maker.proofs.NumberingLemmas.{made_in_order}
use Rattle.trace_maker.proofs.ReadLemmas.{length-made}
use Rattle.trace_maker.proofs.laws.made_lines_stand_in_order.Goals as goal

pub returns-clause-many : goal.returns-clause-many
returns-clause-many c seed subscribers lines = length-made seed subscribers lines

pub returns-clause-in_order : goal.returns-clause-in_order
returns-clause-in_order c seed subscribers lines some slots most =
    made_in_order seed subscribers lines some slots most

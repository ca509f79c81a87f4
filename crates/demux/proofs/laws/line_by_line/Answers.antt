use Rattle.std.proofs.Common.{[]}
use Rattle.demux.proofs.TraceLemmas.{book_of-push, decisions-push, destination_after-push, meanings_from-push}
use Rattle.demux.proofs.laws.line_by_line.Goals as goal

pub returns-clause-book : goal.returns-clause-book
returns-clause-book c = book_of-push

pub returns-clause-decisions : goal.returns-clause-decisions
returns-clause-decisions c = decisions-push

pub returns-clause-destination : goal.returns-clause-destination
returns-clause-destination c = destination_after-push

pub returns-clause-meanings : goal.returns-clause-meanings
returns-clause-meanings c = λ slices lines line. meanings_from-push slices [] lines line

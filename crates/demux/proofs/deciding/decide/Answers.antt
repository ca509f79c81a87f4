use Rattle.demux.proofs.MomentLemmas.{moment_if_ok}
use Rattle.demux.proofs.ResolvedLemmas.{book_if_ok, valid_if_ok}
use Rattle.demux.proofs.deciding.decide.Goals as goal

pub returns-clause-book : goal.returns-clause-book
returns-clause-book c =
    book_if_ok c.args.slices c.args.book.now c.args.line.now c.decide_kind.result c.decide_kind.ensures

pub returns-clause-valid : goal.returns-clause-valid
returns-clause-valid c =
    valid_if_ok c.args.slices c.args.book.now c.args.line.now c.decide_kind.result c.decide_kind.ensures

pub returns-clause-moment : goal.returns-clause-moment
returns-clause-moment c =
    moment_if_ok c.args.slices c.args.book.now c.args.line.now c.decide_kind.result c.decide_kind.ensures

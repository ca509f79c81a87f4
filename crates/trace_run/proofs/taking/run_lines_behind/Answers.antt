use Rattle.std.proofs.Common.{◌≡◌, ◌≤◌, ◌∷◌, ◌++◌, [], Err, refl, sym, ap, subst, ◌∙◌, arith}
use Rattle.trace_lines.specs.Line.{Line}
use Rattle.trace_run.specs.Coming as next
use Rattle.trace_run.specs.declared.ending.Ending.TheVariants.{Ended, ReadFault}
use Rattle.pc_outside.specs.declared.writing.Unwritten.TheVariants as unwritten
use Rattle.trace_run.specs.Takers.{IsNextFrom}
use Rattle.trace_run.proofs.EndingLemmas.{reached_end, reached_fault}
use Rattle.trace_run.proofs.ReadLemmas.{gives_last, gives_line}
use Rattle.trace_run.proofs.TakeLemmas.{cut_by, ends, ends_last, goes_on, if_err, is_next}
use Rattle.trace_run.proofs.taking.run_lines_behind.Goals as goal

pub loop-len-preserved : goal.loop-len-preserved
loop-len-preserved g c =
    let p = c.loop-len.invariant.taken in
    let line = c.next.new.line in
    let some : 2 ≤ (g.L.LineReader.holds c.loop-len.reader).room = omega (arith, c.in-Line.ensures.room) in
    let due = subst (λ n. IsNextFrom n p.0 c.loop-len.least line) (sym c.requires.begins)
    (is_next _ _ _ _ _ _ _ _ _ p.0 line c.in-Line.len p.1 c.in-Line.ensures.given some) in
    record {
      taken = (
        p.0 ++ line ∷ [],
        goes_on _ _ _ _ _ _ _ _ _ _ _ _ _ (g.L.LineReader.holds c.next.new.self).room p.0 line c.in-Line.len p.1
            (ap (λ (l : Line). l.moment) c.line.view_is) c.in-Line.ensures.tells c.in-Line.ensures.room
            (c.in_ok-take-in-Line.ensures.taken c.args.taker.now p.0 c.loop-len.least _ p.1.stands due),
      );
      ready = c.in-Line.ensures.ready;
      source_later = omega (arith, c.loop-len.invariant.source_later, c.in-Line.ensures.later);
      sink_later = omega (arith, c.loop-len.invariant.sink_later, c.in_ok-take-in-Line.ensures.later);
    }

pub returns-in_err-take-in-Line-clause-cut : goal.returns-in_err-take-in-Line-clause-cut
returns-in_err-take-in-Line-clause-cut g c =
    let p = c.loop-len.invariant.taken in
    let line = c.next.new.line in
    let some : 2 ≤ (g.L.LineReader.holds c.loop-len.reader).room = omega (arith, c.in-Line.ensures.room) in
    let due = subst (λ n. IsNextFrom n p.0 c.loop-len.least line) (sym c.requires.begins)
    (is_next _ _ _ _ _ _ _ _ _ p.0 line c.in-Line.len p.1 c.in-Line.ensures.given some) in
    if_err (λ why. why ≡ c.in_err-take-in-Line.field-0.0) _ c.from_residual.result
    (λ why is. cut_by _ (g.T.LineTaker.represents c.args.taker.now) (g.T.LineTaker.breaks c.args.taker.now) why _ _ _ _ _ _
    c.loop-len.taker _ _ _ (g.L.LineReader.holds c.next.new.self).room _ p.0 (next.Line line c.in-Line.len) line
    (gives_line line c.in-Line.len _ _ _ (g.L.LineReader.holds c.next.new.self).room) p.1 c.in-Line.ensures.tells
    (λ w. c.take.ensures.broken c.args.taker.now p.0 c.loop-len.least _ p.1.stands due
    (c.in_err-take-in-Line.was ∙ ap Err (sym is ∙ w)))
    (λ w. c.take.ensures.kept (c.in_err-take-in-Line.was ∙ ap Err (sym is ∙ w))))
    c.from_residual.ensures.1

pub returns-in_err-take-in-Last-clause-cut : goal.returns-in_err-take-in-Last-clause-cut
returns-in_err-take-in-Last-clause-cut g c =
    let p = c.loop-len.invariant.taken in
    let line = c.next.new.line in
    let due = subst (λ n. IsNextFrom n p.0 c.loop-len.least line) (sym c.requires.begins)
    (is_next _ _ _ _ _ _ _ _ _ p.0 line c.in-Last.len p.1 c.in-Last.ensures.given c.in-Last.ensures.room.1) in
    if_err (λ why. why ≡ c.in_err-take-in-Last.field-0.0) _ c.from_residual-in_err-take-in-Last.result
    (λ why is. cut_by _ (g.T.LineTaker.represents c.args.taker.now) (g.T.LineTaker.breaks c.args.taker.now) why _ _ _ _ _ _
    c.loop-len.taker _ _ _ (g.L.LineReader.holds c.next.new.self).room _ p.0 (next.Last line c.in-Last.len) line
    (gives_last line c.in-Last.len _ _ _ (g.L.LineReader.holds c.next.new.self).room) p.1 c.in-Last.ensures.tells
    (λ w. c.take-in-Last.ensures.broken c.args.taker.now p.0 c.loop-len.least _ p.1.stands due
    (c.in_err-take-in-Last.was ∙ ap Err (sym is ∙ w)))
    (λ w. c.take-in-Last.ensures.kept (c.in_err-take-in-Last.was ∙ ap Err (sym is ∙ w))))
    c.from_residual-in_err-take-in-Last.ensures.1

pub returns-in-Last-clause-ended : goal.returns-in-Last-clause-ended
returns-in-Last-clause-ended g c =
    let p = c.loop-len.invariant.taken in
    let line = c.next.new.line in
    let due = subst (λ n. IsNextFrom n p.0 c.loop-len.least line) (sym c.requires.begins)
    (is_next _ _ _ _ _ _ _ _ _ p.0 line c.in-Last.len p.1 c.in-Last.ensures.given c.in-Last.ensures.room.1) in
    ends_last _ _ _ _ _ _ _ _ _ _ _ _ (g.L.LineReader.holds c.next.new.self).room _ p.0 line c.in-Last.len p.1 c.in-Last.ensures.tells
    c.in-Last.ensures.room.1
    (c.in_ok-take-in-Last.ensures.taken c.args.taker.now p.0 c.loop-len.least _ p.1.stands due)

pub returns-in-ReadFault-clause-ended : goal.returns-in-ReadFault-clause-ended
returns-in-ReadFault-clause-ended g c =
    let p = c.loop-len.invariant.taken in
    ends _ _ ReadFault _ _ _ _ _ _ _ _ p.0 p.1
    (reached_fault _ _ _ _ _ _ _ (g.L.LineReader.holds c.next.new.self) p.0 p.1.read c.in-ReadFault.ensures.tells
    (c.in-ReadFault.ensures.unfinished refl))

pub returns-in-End-clause-ended : goal.returns-in-End-clause-ended
returns-in-End-clause-ended g c =
    let p = c.loop-len.invariant.taken in
    ends _ _ Ended _ _ _ _ _ _ _ _ p.0 p.1
    (reached_end _ _ _ _ _ _ _ (g.L.LineReader.holds c.next.new.self).room (g.L.LineReader.holds c.next.new.self).buffered
    p.0 p.1.read c.in-End.ensures.tells)

use Rattle.std.proofs.Common.{Ok, ap, arith, subst, length}
use Rattle.trace_maker.specs.Generated.{made}
use Rattle.trace_maker.proofs.WritingLemmas.{IsMade, begins, cut, on_err, on_ok, pushes, rises_later, sends, some_lines, stays, whole}
use Rattle.trace_maker.proofs.making.make.Goals as goal

pub loop-octets-init : goal.loop-octets-init
loop-octets-init g c = record {
  made = subst (λ all. IsMade (g.K.Sink.written c.args.sink.now) (g.K.Sink.written c.args.sink.now)
      c.new-text.result c.new-maker.result all) c.new-maker.ensures
      (begins (g.K.Sink.written c.args.sink.now) c.new-text.result c.new-maker.result c.new-text.ensures);
  later = omega arith;
}

pub returns-in_err-push_line-clause-no_memory : goal.returns-in_err-push_line-clause-no_memory
returns-in_err-push_line-clause-no_memory g c =
    λ _. some_lines _ _ _ _ _ c.loop-octets.invariant.made c.in_err-push_line.ensures.some

pub returns-in_err-push_line-clause-later : goal.returns-in_err-push_line-clause-later
returns-in_err-push_line-clause-later g c = c.loop-octets.invariant.later

pub loop-octets-smaller-in-Continue-branch-2 : goal.loop-octets-smaller-in-Continue-branch-2
loop-octets-smaller-in-Continue-branch-2 g c =
    omega (arith, ap length (c.in_ok-push_line.ensures.more (ap Ok c.if-branch.true)).made)

pub loop-octets-preserved-in-Continue-branch-2 : goal.loop-octets-preserved-in-Continue-branch-2
loop-octets-preserved-in-Continue-branch-2 g c = record {
  made = sends _ _ _ _ _ _ _ (pushes _ _ _ _ _ _ _ c.loop-octets.invariant.made
      (c.in_ok-push_line.ensures.more (ap Ok c.if-branch.true)))
      c.in_ok-write_text.ensures.whole c.in_ok-write_text.ensures.emptied;
  later = omega (arith, c.loop-octets.invariant.later, c.in_ok-write_text.ensures.later);
}

pub returns-in_err-write_text-clause-cut : goal.returns-in_err-write_text-clause-cut
returns-in_err-write_text-clause-cut g c =
    λ _. cut _ _ _ _ _ _ (pushes _ _ _ _ _ _ _ c.loop-octets.invariant.made
    (c.in_ok-push_line.ensures.more (ap Ok c.if-branch.true)))
    c.in_err-write_text.ensures.cut

pub returns-in_err-write_text-clause-later : goal.returns-in_err-write_text-clause-later
returns-in_err-write_text-clause-later g c =
    omega (arith, c.loop-octets.invariant.later, c.in_err-write_text.ensures.later)

pub returns-in_err-write_text-clause-fault : goal.returns-in_err-write_text-clause-fault
returns-in_err-write_text-clause-fault g c =
    λ _. rises_later _ _ _ c.loop-octets.invariant.later c.in_err-write_text.ensures.fault

pub loop-octets-smaller : goal.loop-octets-smaller
loop-octets-smaller g c = omega (arith, ap length (c.in_ok-push_line.ensures.more (ap Ok c.if-branch.true)).made)

pub loop-octets-preserved : goal.loop-octets-preserved
loop-octets-preserved g c = record {
  made = pushes _ _ _ _ _ _ _ c.loop-octets.invariant.made (c.in_ok-push_line.ensures.more (ap Ok c.if-branch.true));
  later = c.loop-octets.invariant.later;
}

pub returns-clause-whole : goal.returns-clause-whole
returns-clause-whole g c =
    let none = c.in_ok-push_line.ensures.none (ap Ok c.if-branch.false) in
    on_ok c.write_text-2.result
    (λ sent. whole _ (g.K.Sink.written c.loop-octets.sink) (g.K.Sink.written c.write_text-2.new.sink)
    c.push_line.new.text c.loop-octets.maker (made c.args.seed c.args.subscribers c.args.lines)
    (stays _ _ _ _ _ _ c.loop-octets.invariant.made none.1) none.0 sent)
    c.write_text-2.ensures.whole

pub returns-clause-cut : goal.returns-clause-cut
returns-clause-cut g c = λ failed.
    let none = c.in_ok-push_line.ensures.none (ap Ok c.if-branch.false) in
    cut _ (g.K.Sink.written c.loop-octets.sink) (g.K.Sink.written c.write_text-2.new.sink)
    c.push_line.new.text c.loop-octets.maker (made c.args.seed c.args.subscribers c.args.lines)
    (stays _ _ _ _ _ _ c.loop-octets.invariant.made none.1)
    (on_err c.write_text-2.result failed c.write_text-2.ensures.cut)

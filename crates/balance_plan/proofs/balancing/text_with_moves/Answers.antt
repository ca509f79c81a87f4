use Rattle.std.proofs.Common.{◌+◌, ◌++◌, ◌∷◌, [], ap, sym, ◌∙◌, subst, take}
use Rattle.std.proofs.lemmas.List.{take_all, take_more}
use Rattle.balance_plan.specs.Balance.{balanced}
use Rattle.balance_plan.specs.Written.{text_of}
use Rattle.balance_plan.specs.Writing.{HasWritten}
use Rattle.balance_plan.proofs.balancing.text_with_moves.Goals as goal

pub loop-line-preserved : goal.loop-line-preserved
loop-line-preserved c =
    let i = c.loop-line.line-index in
    let lines = c.args.lines.now in
    let line = c.line-item.result in
    let held = c.loop-line.invariant in
    let done = c.in_ok-take.ensures in
    record {
      writer = done.writer;
      slices = done.slices ∙ held.slices;
      most = done.most ∙ held.most;
      count = done.lines ∙ ap (λ n. n + 1) held.count;
      before = done.before;
      written = subst (HasWritten c.take.new.self c.in_ok-told.told.entries.now)
          (sym (take_more lines i line c.loop-line-test.true ∙ ap (λ l. take i lines ++ l ∷ []) (sym c.line-item.is)))
          (done.written (take i lines) held.written);
    }

pub returns : goal.returns
returns c =
    let held = c.loop-line.invariant in
    held.written.stands.text
    ∙ (λ i. text_of (balanced (held.slices i) (held.most i) (c.in_ok-told.ensures.entries i)
    (take_all c.loop-line.line-index c.args.lines.now c.loop-line-test.false i)))

use Rattle.std.proofs.Common.{◌+◌, ◌++◌, ◌∷◌, [], List, take, sym, ap, subst, ◌∙◌}
use Rattle.std.proofs.lemmas.List.{take_all, take_more}
use Rattle.trace_lines.specs.Line.{Line}
use Rattle.epoch_drive.specs.Taken.{HasTaken}
use Rattle.epoch_drive.proofs.whole.take_all.Goals as goal

pub loop-line-preserved : goal.loop-line-preserved
loop-line-preserved c = λ rest is.
    let at = c.loop-line in
    let lines = c.args.lines.now in
    let line = c.line-item.result in
    subst (λ (ls : List Line). HasTaken rest ls c.take.new.self c.take.new.lines)
    (ap (λ (l : Line). take at.line-index lines ++ l ∷ []) c.line-item.is
    ∙ sym (take_more lines at.line-index line c.loop-line-test.true))
    (c.in_ok-take.ensures rest (take at.line-index lines) (at.invariant rest is))

pub returns : goal.returns
returns c = λ rest is.
    let at = c.loop-line in
    subst (λ (ls : List Line). HasTaken rest ls at.gateway at.kept)
    (take_all at.line-index c.args.lines.now c.loop-line-test.false) (at.invariant rest is)

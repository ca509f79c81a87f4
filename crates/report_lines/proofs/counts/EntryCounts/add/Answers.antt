use Rattle.std.proofs.Common.{◌∷◌, ◌∙◌, ap}
use Rattle.text_fields.specs.Fields.{pieces_left}
use Rattle.report_lines.proofs.AddLemmas.{begins, ends, goes_on}
use Rattle.report_lines.proofs.counts.EntryCounts.add.Goals as goal

pub loop-rest-init : goal.loop-rest-init
loop-rest-init c = begins c.args.self.now c.args.text.now

pub loop-rest-preserved : goal.loop-rest-preserved
loop-rest-preserved c =
    goes_on c.args.self.now c.loop-rest.self c.add_counts.new.self c.counted.result c.args.text.now
    c.loop-rest.left.now c.cut.result.0.now c.in-Some.rest.now c.loop-rest.invariant
    (c.cut.ensures.pieces ∙ ap (λ left. c.cut.result.0.now ∷ pieces_left 10 left) c.in-Some.is)
    c.counted.ensures c.add_counts.ensures

pub returns-in-None : goal.returns-in-None
returns-in-None c =
    ends c.args.self.now c.loop-rest.self c.add_counts.new.self c.counted.result c.args.text.now
    c.loop-rest.left.now c.cut.result.0.now c.loop-rest.invariant
    (c.cut.ensures.pieces ∙ ap (λ left. c.cut.result.0.now ∷ pieces_left 10 left) c.in-None.is)
    c.counted.ensures c.add_counts.ensures

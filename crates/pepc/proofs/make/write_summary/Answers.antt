use Rattle.std.proofs.Common.{◌+◌, ◌++◌, subst, ap, ◌∙◌}
use Rattle.std.specs.Io.KnownBytes.{Appends}
use Rattle.report_lines.specs.Summary.{summary_text}
use Rattle.pc_outside.specs.Prefixes.{AppendsPrefix}
use Rattle.pepc.proofs.MakeLemmas.{is_summary, summary_cut, summary_whole}
use Rattle.pepc.proofs.make.write_summary.Goals as goal

pub returns-in-Ok-write_whole-clause-makes : goal.returns-in-Ok-write_whole-clause-makes
returns-in-Ok-write_whole-clause-makes g c =
    let counts = c.in-Ok.counts in
    let told = c.in-Ok-push_summary.ensures
    ∙ ap (λ items. items ++ summary_text (c.from.result + c.from-2.result) counts) c.new-text.ensures.items
    ∙ (λ i. summary_text (c.from.ensures i + c.from-2.ensures i) counts) in
    summary_whole c.args.seed c.args.subs c.args.lines _ _ c.push_summary.new.text.items
    (is_summary c.args.seed c.args.subs c.args.lines counts _ c.in-Ok.ensures told)
    (subst (Appends (g.K.Sink.written c.args.sink.now) (g.K.Sink.written c.write_whole.new.sink)) c.as_slice.ensures.value
    c.in-Ok-write_whole.ensures.whole)

pub returns-clause-makes : goal.returns-clause-makes
returns-clause-makes g c =
    let counts = c.in-Ok.counts in
    let told = c.in-Ok-push_summary.ensures
    ∙ ap (λ items. items ++ summary_text (c.from.result + c.from-2.result) counts) c.new-text.ensures.items
    ∙ (λ i. summary_text (c.from.ensures i + c.from-2.ensures i) counts) in
    summary_cut c.args.seed c.args.subs c.args.lines _ _ c.push_summary.new.text.items
    (is_summary c.args.seed c.args.subs c.args.lines counts _ c.in-Ok.ensures told)
    (subst (AppendsPrefix (g.K.Sink.written c.args.sink.now) (g.K.Sink.written c.write_whole.new.sink))
    c.as_slice.ensures.value c.in-Err-write_whole.ensures.cut)

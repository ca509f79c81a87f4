use Rattle.std.proofs.Common.{◌≡◌, refl, sym, ap, ◌∙◌, length, arith}
use Rattle.trace_lines.specs.Line.{Line}
use Rattle.audit_core.proofs.HeardLemmas.{bad_heard, says_line, says_over, trace_more}
use Rattle.audit_core.proofs.heard.Heard.take_line.Goals as goal

pub returns-then-is_some-clause-heard : goal.returns-then-is_some-clause-heard
returns-then-is_some-clause-heard c = λ texts hears.
    trace_more c.args.self.now _ texts c.args.text.now c.requires.unopened c.requires.other refl refl refl
    (λ trace. says_over _ c.args.self.now.bad _ trace c.args.text.now (sym c.is_some.ensures ∙ c.if-is_some.true)) hears

pub returns-in_ok-push-in-Ok-clause-heard : goal.returns-in_ok-push-in-Ok-clause-heard
returns-in_ok-push-in-Ok-clause-heard c = λ texts hears.
    let counted : c.len.result ≡ length c.args.self.now.lines.items =
    let a = c.args.self.now.lines.ok in omega (arith, c.len.ensures) in
    trace_more c.args.self.now _ texts c.args.text.now c.requires.unopened c.requires.other refl refl refl
    (λ trace says. rw c.in_ok-push-in-Ok.ensures.items
    (says_line c.args.self.now.lines.items c.args.self.now.bad c.args.self.now.least c.len.result c.line.inside.moment
    trace c.args.text.now c.in-Ok.line (sym c.is_some.ensures ∙ c.if-is_some.false) counted
    c.in-Ok.ensures.line (ap (λ (l : Line). l.moment) c.line.view_is) says)) hears

pub returns-in-Err-clause-heard : goal.returns-in-Err-clause-heard
returns-in-Err-clause-heard c = λ texts hears.
    let counted : c.len.result ≡ length c.args.self.now.lines.items =
    let a = c.args.self.now.lines.ok in omega (arith, c.len.ensures) in
    bad_heard c.args.self.now c.stop.new.self texts c.args.text.now c.len.result c.in-Err.why c.stop.result
    (sym c.is_some.ensures ∙ c.if-is_some.false) c.requires.unopened c.requires.other counted
    c.in-Err.ensures.refusal c.stop.ensures.other c.stop.ensures.stopped hears

use Rattle.std.proofs.Common.{◌≡◌, [], ◌++◌, false, refl, ap, subst, ◌∙◌}
use Rattle.std.specs.Io.KnownBytes.{prepend_known}
use Rattle.pc_outside.specs.Held.{Held}
use Rattle.pc_outside.specs.LineReads.{Answers, Reads}
use Rattle.pc_outside.proofs.ReadSteps.{reading-new, reads-of_answers, settles-behind, settles-stays, stopped-now, unfinished-goes_on}
use Rattle.pc_outside.proofs.reading.read_line.Goals as goal

pub returns-in-Some-clause-octets : goal.returns-in-Some-clause-octets
returns-in-Some-clause-octets g c =
    let so_far = reading-new c.args.buf.now c.forget_line.new.self (g.S.Source.left c.args.source.now)
    c.forget_line.ensures in
    reads-of_answers _ _ _ _ _ _ _ so_far (λ behind told.
    settles-behind _ _ _ behind so_far.line so_far.not_last c.in-Some.ensures.settled)

pub returns-in-Some-clause-stays : goal.returns-in-Some-clause-stays
returns-in-Some-clause-stays g c = λ stop stopped.
    let buffered = ap (λ (held : Held). held.buffered) c.forget_line.ensures in
    let room = ap (λ (held : Held). held.room) c.forget_line.ensures in
    let gives = settles-stays stop _ _ _
    (stopped-now stop c.args.buf.now c.forget_line.new.self stopped buffered room) c.in-Some.ensures.settled in
    (gives.0, refl, gives.1 ∙ buffered)

pub returns-in-None-clause-octets : goal.returns-in-None-clause-octets
returns-in-None-clause-octets g c =
    let same : c.settle.new.self ≡ record c.args.buf.now { line = []; last = false } =
    c.in-None.ensures.waits.0 ∙ c.forget_line.ensures in
    let left = g.S.Source.left c.args.source.now in
    let new = c.read_more.new.buf in
    subst (λ (held : Held). Reads c.read_more.result held.room new.room (prepend_known held.buffered left)
    (prepend_known new.buffered (g.S.Source.left c.read_more.new.source)) new.line new.last)
    same c.read_more.ensures.octets

pub returns-in-None-clause-held : goal.returns-in-None-clause-held
returns-in-None-clause-held g c =
    let same : c.settle.new.self ≡ record c.args.buf.now { line = []; last = false } =
    c.in-None.ensures.waits.0 ∙ c.forget_line.ensures in
    let new = c.read_more.new.buf in
    let more = c.read_more.ensures.held in (
      more.0,
      subst (λ (held : Held). Answers c.read_more.result held.room new.room (held.buffered ++ more.0) new.buffered
          new.line new.last) same more.1,
    )

pub returns-in-None-clause-stays : goal.returns-in-None-clause-stays
returns-in-None-clause-stays g c = λ stop stopped.
    let same : c.settle.new.self ≡ record c.args.buf.now { line = []; last = false } =
    c.in-None.ensures.waits.0 ∙ c.forget_line.ensures in
    absurd (unfinished-goes_on stop c.settle.new.self (stopped-now stop c.args.buf.now c.settle.new.self stopped
    (ap (λ (held : Held). held.buffered) same) (ap (λ (held : Held). held.room) same)) c.in-None.ensures.waits.1)

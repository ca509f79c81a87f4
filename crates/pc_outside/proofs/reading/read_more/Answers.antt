use Rattle.std.proofs.Common.{length, refl}
use Rattle.pc_outside.proofs.ReadSteps.{reading-begun, reading-gained, reads-of_answers, settles-behind, settles-held}
use Rattle.pc_outside.proofs.reading.read_more.Goals as goal

pub loop-buf-init : goal.loop-buf-init
loop-buf-init g c = record {
  reading = reading-begun c.args.buf.now _ c.requires.no_line c.requires.not_last c.requires.unfinished;
  unfinished = c.requires.unfinished;
  no_fault = refl;
}

pub returns-in-Some-clause-octets : goal.returns-in-Some-clause-octets
returns-in-Some-clause-octets g c =
    let so_far = reading-gained c.args.buf.now c.loop-buf.buf c.refill.new.self (g.S.Source.left c.args.source.now)
    (g.S.Source.left c.loop-buf.source) (g.S.Source.left c.refill.new.source) (length c.loop-buf.buf.buffered) _
    c.loop-buf.invariant.reading refl c.in-Ok.ensures.gains in
    reads-of_answers _ _ _ _ _ _ _ so_far (λ behind told.
    settles-behind _ _ _ behind so_far.line so_far.not_last c.in-Some.ensures.settled)

pub returns-in-Some-clause-held : goal.returns-in-Some-clause-held
returns-in-Some-clause-held g c =
    let so_far = reading-gained c.args.buf.now c.loop-buf.buf c.refill.new.self (g.S.Source.left c.args.source.now)
    (g.S.Source.left c.loop-buf.source) (g.S.Source.left c.refill.new.source) (length c.loop-buf.buf.buffered) _
    c.loop-buf.invariant.reading refl c.in-Ok.ensures.gains in
    settles-held c.in-Some.read c.args.buf.now c.refill.new.self c.settle.new.self _ _ _ so_far c.in-Some.ensures.settled

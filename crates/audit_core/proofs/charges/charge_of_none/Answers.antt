use Rattle.std.proofs.Common.{arith}
use Rattle.audit_core.specs.Entries.{slot_charged}
use Rattle.audit_core.proofs.SlotsKnown.{all_known, first_beyond, known_more}
use Rattle.audit_core.proofs.charges.charge_of_none.Goals as goal

pub returns-then-slot_of-slots-clause-some : goal.returns-then-slot_of-slots-clause-some
returns-then-slot_of-slots-clause-some c =
    first_beyond slot_charged c.args.slots c.args.told.now c.loop-one.one-index c.one-item.result c.loop-one-test.true
    c.one-item.is c.loop-one.invariant (omega (arith, c.slot_of.ensures))

pub loop-one-preserved : goal.loop-one-preserved
loop-one-preserved c =
    known_more slot_charged c.args.slots c.args.told.now c.loop-one.one-index c.one-item.result c.loop-one-test.true
    c.one-item.is c.loop-one.invariant (omega (arith, c.slot_of.ensures))

pub returns-clause-none : goal.returns-clause-none
returns-clause-none c =
    all_known slot_charged c.args.slots c.args.told.now c.loop-one.one-index c.loop-one-test.false c.loop-one.invariant

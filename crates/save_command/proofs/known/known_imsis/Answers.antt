use Rattle.std.proofs.Common.{subst}
use Rattle.std.proofs.lemmas.List.{take_all}
use Rattle.std.proofs.lemmas.List.Elements.{All-more}
use Rattle.pc_base.specs.Imsi.{IsImsi}
use Rattle.save_command.proofs.known.known_imsis.Goals as goal

pub loop-imsi-preserved : goal.loop-imsi-preserved
loop-imsi-preserved c =
    All-more IsImsi c.args.imsis.now c.loop-imsi.imsi-index c.imsi-item.result c.loop-imsi-test.true
    c.loop-imsi.invariant (subst IsImsi c.imsi-item.is (rw c.digits-digits.ensures.value at c.digits-digits.ensures.valid))

pub returns : goal.returns
returns c = rw (take_all c.loop-imsi.imsi-index c.args.imsis.now c.loop-imsi-test.false) at c.loop-imsi.invariant

use Rattle.demux.proofs.MmeLemmas.{asked_read}
use Rattle.demux.proofs.mme.decide_mme.Goals as goal

pub returns-in-Ok : goal.returns-in-Ok
returns-in-Ok c = λ slices.
    rw (asked_read c.args.octets.now c.in-Ok.message c.in-Ok.ensures.found
    (c.faults_or_spells.ensures.faultless c.args.octets.now c.in-Ok.message c.in-Ok.ensures.found))
    (c.decide_message.ensures slices)

use Rattle.std.proofs.Common.{ap}
use Rattle.demux.specs.declared.decision.Decision.TheVariants.{Note}
use Rattle.demux.specs.Resolved.{resolved}
use Rattle.demux.proofs.MmeLemmas.{asked_told}
use Rattle.demux.proofs.mme.decide_refused.Goals as goal

pub returns : goal.returns
unfolding resolved
returns c = λ slices book.
    rw (asked_told c.args.octets.now c.args.bad.now c.requires (rw c.if-is_no_memory.false at c.is_no_memory.ensures))
    (ap Note c.in_ok-message_note.ensures)

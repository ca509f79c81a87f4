use Rattle.std.proofs.Common.{subst}
use Rattle.std.proofs.lemmas.List.{take_all}
use Rattle.std.proofs.lemmas.List.Elements.{All-more}
use Rattle.save_command.specs.Known.{IsKnown}
use Rattle.save_command.proofs.known.known_subscribers.Goals as goal

pub loop-subscriber-preserved : goal.loop-subscriber-preserved
loop-subscriber-preserved c =
    All-more IsKnown c.args.subscribers.now c.loop-subscriber.subscriber-index c.subscriber-item.result c.loop-subscriber-test.true
    c.loop-subscriber.invariant (subst IsKnown c.subscriber-item.is c.known.ensures)

pub returns : goal.returns
returns c = rw (take_all c.loop-subscriber.subscriber-index c.args.subscribers.now c.loop-subscriber-test.false) at c.loop-subscriber.invariant

use Rattle.front_core.proofs.Pumps.{pump_keeps}
use Rattle.front_core.proofs.front.Front.pump.Goals as goal

pub returns-clause-whole : goal.returns-clause-whole
returns-clause-whole g c = λ whole.
    let old = c.args.self.now in
    pump_keeps old.opened.value old.slices old.lane old.lines old.latest old.book old.subscribers.items old.halves
    c.pump.new.self old.entries.items c.pump.ensures.pumps.settles whole

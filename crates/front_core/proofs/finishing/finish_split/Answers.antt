use Rattle.std.proofs.Common.{ℕ, subst}
use Rattle.std.proofs.lemmas.Result.{on_ok_weaker}
use Rattle.front_core.specs.Ending.{Tells, came_of}
use Rattle.front_core.proofs.Nexts.{ends_split}
use Rattle.front_core.proofs.Placed.{others_below, packets_below, told_below}
use Rattle.front_core.proofs.finishing.finish_split.Goals as goal

pub returns-clause-ends : goal.returns-clause-ends
returns-clause-ends g c = λ slot items lots can.
    let finished = c.in_ok-finished.finished in
    on_ok_weaker c.end_slot.result (λ ended. ends_split slot items c.args.end lots c.args.controls.now.items
    c.args.homes.now.items can c.pop.new.self.items c.in-Some.control c.in-Some.ensures.items c.pop-2.new.self.items
    c.in-Some-pop.home c.in-Some-pop.ensures.items c.args.subscriber.now c.end_slot.new.subscriber c.args.told.now
    c.end_slot.new.told finished c.in_ok-finished.ensures.finishes (
      ended.0,
      subst (λ (k : ℕ). Tells (came_of k finished) c.args.told.now c.end_slot.new.told) c.slot-slot.ensures ended.1,
    )) c.end_slot.ensures

pub returns-clause-below : goal.returns-clause-below
returns-clause-below g c = λ n homes told.
    let finished = c.in_ok-finished.finished in
    on_ok_weaker c.end_slot.result (λ ended. (
      others_below n c.args.homes.now.items c.pop-2.new.self.items c.in-Some-pop.home c.in-Some-pop.ensures.items homes,
      told_below n (came_of c.slot-slot.result finished) c.args.told.now c.end_slot.new.told ended.1
          (packets_below n c.args.homes.now.items c.pop-2.new.self.items c.in-Some-pop.home c.in-Some-pop.ensures.items
          homes finished.packets.items c.in_ok-finished.ensures.placed) told,
    )) c.end_slot.ensures

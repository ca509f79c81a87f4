use Rattle.std.proofs.Common.{◌≡◌, ◌+◌, slice_set, subst}
use Rattle.demux.specs.Trace.{packet}
use Rattle.front_core.specs.declared.tried.Given.{Given}
use Rattle.front_core.specs.Tries.{CountsTries, GivesPacket}
use Rattle.front_core.proofs.Takings.{admits_at, makes, packet_came, packet_refused, takes_give}
use Rattle.front_core.proofs.Counting.{accepted_so, full_so}
use Rattle.front_core.proofs.taking.take_packet.Goals as goal

pub admit-requires : goal.admit-requires
admit-requires g c =
    let at : c.slot.inside.0 ≡ c.args.slot = c.slot.view_is in
    admits_at (packet c.args.slot c.args.lent.now) c.args.subscribers.now c.args.halves.now c.requires c.args.slot c.slot.inside.0
    c.index-subscribers-slot.result at c.rest_leaves_room.ensures c.requires.is_to c.index-subscribers-slot.is

pub give_packet-requires : goal.give_packet-requires
give_packet-requires g c =
    let at : c.slot.inside.0 ≡ c.args.slot = c.slot.view_is in
    let now = packet c.args.slot c.args.lent.now in
    let after = slice_set c.args.subscribers.now c.slot.inside.0 c.admit.new.subscriber in
    let ready = makes now c.args.subscribers.now c.args.halves.now c.requires c.args.slot c.slot.inside.0
    c.index-subscribers-slot.result c.admit.new.subscriber c.admit.new.self at c.requires.is_to
    c.index-subscribers-slot.is c.in_ok-admit.ensures.ready c.admit.ensures.lots c.admit.ensures.fulls in
    takes_give now c.args.subscribers.now c.args.halves.now c.requires c.args.slot after c.admit.new.self ready

pub returns-in-Accepted-clause-takes : goal.returns-in-Accepted-clause-takes
returns-in-Accepted-clause-takes g c =
    let at : c.slot.inside.0 ≡ c.args.slot = c.slot.view_is in
    let now = packet c.args.slot c.args.lent.now in
    let after = slice_set c.args.subscribers.now c.slot.inside.0 c.admit.new.subscriber in
    let ready = makes now c.args.subscribers.now c.args.halves.now c.requires c.args.slot c.slot.inside.0
    c.index-subscribers-slot.result c.admit.new.subscriber c.admit.new.self at c.requires.is_to
    c.index-subscribers-slot.is c.in_ok-admit.ensures.ready c.admit.ensures.lots c.admit.ensures.fulls in
    packet_came c.args.slot c.args.line (c.args.patience + 1) c.args.subscribers.now after c.args.halves.now
    c.admit.new.self c.give_packet.new.self ready c.args.lent.now c.sent_of-sent.result c.in-Accepted.parked
    c.sent_of-sent.ensures
    (subst (λ (given : Given). GivesPacket c.args.slot c.args.line c.sent_of-sent.result (c.args.patience + 1) given
    c.admit.new.self c.give_packet.new.self) c.in-Accepted.is c.in_ok-parked.ensures.gives)

pub returns-in-Full-clause-takes : goal.returns-in-Full-clause-takes
returns-in-Full-clause-takes g c =
    let at : c.slot.inside.0 ≡ c.args.slot = c.slot.view_is in
    let now = packet c.args.slot c.args.lent.now in
    let after = slice_set c.args.subscribers.now c.slot.inside.0 c.admit.new.subscriber in
    let ready = makes now c.args.subscribers.now c.args.halves.now c.requires c.args.slot c.slot.inside.0
    c.index-subscribers-slot.result c.admit.new.subscriber c.admit.new.self at c.requires.is_to
    c.index-subscribers-slot.is c.in_ok-admit.ensures.ready c.admit.ensures.lots c.admit.ensures.fulls in
    packet_refused c.args.slot c.args.line (c.args.patience + 1) c.args.subscribers.now after c.args.halves.now
    c.admit.new.self c.give_packet.new.self ready c.args.lent.now c.sent_of-sent.result
    (subst (λ (given : Given). GivesPacket c.args.slot c.args.line c.sent_of-sent.result (c.args.patience + 1) given
    c.admit.new.self c.give_packet.new.self) c.in-Full.is c.in_ok-parked.ensures.gives)

pub returns-in-Accepted-clause-tried : goal.returns-in-Accepted-clause-tried
returns-in-Accepted-clause-tried g c =
    accepted_so (c.args.patience + 1) c.in-Accepted.parked c.in-Accepted.parked c.args.halves.now.fulls
    c.admit.new.self.fulls c.give_packet.new.self.fulls c.admit.ensures.fulls
    (subst (λ (given : Given). CountsTries (c.args.patience + 1) given c.admit.new.self.fulls
    c.give_packet.new.self.fulls) c.in-Accepted.is c.in_ok-parked.ensures.counts)

pub returns-in-Full-clause-tried : goal.returns-in-Full-clause-tried
returns-in-Full-clause-tried g c =
    full_so (c.args.patience + 1) c.args.halves.now.fulls c.admit.new.self.fulls c.give_packet.new.self.fulls
    c.admit.ensures.fulls
    (subst (λ (given : Given). CountsTries (c.args.patience + 1) given c.admit.new.self.fulls
    c.give_packet.new.self.fulls) c.in-Full.is c.in_ok-parked.ensures.counts)

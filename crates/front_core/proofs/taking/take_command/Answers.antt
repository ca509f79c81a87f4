use Rattle.std.proofs.Common.{◌≡◌, ◌+◌, false, slice_set}
use Rattle.demux.specs.Trace.{command}
use Rattle.front_core.proofs.Takings.{admits_at, command_came, command_refused, makes, takes_give}
use Rattle.front_core.proofs.Counting.{accepted_so, full_so}
use Rattle.front_core.proofs.taking.take_command.Goals as goal

pub admit-requires : goal.admit-requires
admit-requires g c =
    let at : c.slot.inside.0 ≡ c.args.slot = c.slot.view_is in
    admits_at (command c.args.slot c.args.asks) c.args.subscribers.now c.args.halves.now c.requires c.args.slot c.slot.inside.0
    c.index-subscribers-slot.result at c.rest_leaves_room.ensures c.requires.is_to c.index-subscribers-slot.is

pub give_command-requires : goal.give_command-requires
give_command-requires g c =
    let at : c.slot.inside.0 ≡ c.args.slot = c.slot.view_is in
    let now = command c.args.slot c.args.asks in
    let after = slice_set c.args.subscribers.now c.slot.inside.0 c.admit.new.subscriber in
    let ready = makes now c.args.subscribers.now c.args.halves.now c.requires c.args.slot c.slot.inside.0
    c.index-subscribers-slot.result c.admit.new.subscriber c.admit.new.self at c.requires.is_to
    c.index-subscribers-slot.is c.in_ok-admit.ensures.ready c.admit.ensures.lots c.admit.ensures.fulls in
    takes_give now c.args.subscribers.now c.args.halves.now c.requires c.args.slot after c.admit.new.self ready

pub returns-in-Accepted-clause-takes : goal.returns-in-Accepted-clause-takes
returns-in-Accepted-clause-takes g c =
    let at : c.slot.inside.0 ≡ c.args.slot = c.slot.view_is in
    let now = command c.args.slot c.args.asks in
    let after = slice_set c.args.subscribers.now c.slot.inside.0 c.admit.new.subscriber in
    let ready = makes now c.args.subscribers.now c.args.halves.now c.requires c.args.slot c.slot.inside.0
    c.index-subscribers-slot.result c.admit.new.subscriber c.admit.new.self at c.requires.is_to
    c.index-subscribers-slot.is c.in_ok-admit.ensures.ready c.admit.ensures.lots c.admit.ensures.fulls in
    command_came c.args.slot c.args.line (c.args.patience + 1) c.args.subscribers.now after c.args.halves.now
    c.admit.new.self c.give_command.new.self ready c.args.asks c.in-Accepted.parked c.in-Accepted.ensures.gives

pub returns-in-Full-clause-takes : goal.returns-in-Full-clause-takes
returns-in-Full-clause-takes g c =
    let at : c.slot.inside.0 ≡ c.args.slot = c.slot.view_is in
    let now = command c.args.slot c.args.asks in
    let after = slice_set c.args.subscribers.now c.slot.inside.0 c.admit.new.subscriber in
    let ready = makes now c.args.subscribers.now c.args.halves.now c.requires c.args.slot c.slot.inside.0
    c.index-subscribers-slot.result c.admit.new.subscriber c.admit.new.self at c.requires.is_to
    c.index-subscribers-slot.is c.in_ok-admit.ensures.ready c.admit.ensures.lots c.admit.ensures.fulls in
    command_refused c.args.slot c.args.line (c.args.patience + 1) c.args.subscribers.now after c.args.halves.now
    c.admit.new.self c.give_command.new.self ready c.args.asks c.in-Full.ensures.gives

pub returns-in-Accepted-clause-tried : goal.returns-in-Accepted-clause-tried
returns-in-Accepted-clause-tried g c =
    accepted_so (c.args.patience + 1) c.in-Accepted.parked false c.args.halves.now.fulls c.admit.new.self.fulls
    c.give_command.new.self.fulls c.admit.ensures.fulls c.in-Accepted.ensures.counts

pub returns-in-Full-clause-tried : goal.returns-in-Full-clause-tried
returns-in-Full-clause-tried g c =
    full_so (c.args.patience + 1) c.args.halves.now.fulls c.admit.new.self.fulls c.give_command.new.self.fulls
    c.admit.ensures.fulls c.in-Full.ensures.counts

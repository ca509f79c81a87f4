use Rattle.std.proofs.Common.{◌+◌, List, length, refl, sym, ap, subst, ◌∙◌, arith}
use Rattle.epoch_schedule.specs.TurnsTold.{AreWorkers, turns_behind, turns_told}
use Rattle.subscriber.specs.Standing.{SubscriberState}
use Rattle.at_rest.specs.Rest.{Rest}
use Rattle.epoch_drive.specs.Taken.{rest_of}
use Rattle.epoch_drive.proofs.Epochs.{behind_so, driven_so, represents_so}
use Rattle.epoch_drive.proofs.Finals.{bounds_so}
use Rattle.epoch_drive.proofs.Sets.{as_many_asks, as_many_kept, may_do, resting_so, steps_so}
use Rattle.epoch_drive.proofs.gateway.DrivenGateway.drive.Goals as goal

pub do_lines-requires-clause-slices : goal.do_lines-requires-clause-slices
do_lines-requires-clause-slices c =
    let set_up = c.requires.2.0.set_up in (
      omega (arith, set_up.same_slices, set_up.some_slices),
      omega (arith, set_up.same_slices, set_up.few_slices),
    )

pub do_lines-requires-clause-workers : goal.do_lines-requires-clause-workers
do_lines-requires-clause-workers c =
    subst (λ k. AreWorkers k c.args.turns.now) (sym c.requires.2.0.set_up.same_slices) c.requires.2.2

pub do_lines-requires-clause-may : goal.do_lines-requires-clause-may
do_lines-requires-clause-may c =
    may_do c.requires.0 c.requires.1 c.args.self.now c.args.lines.now c.requires.2.0 c.requires.2.1

pub returns-clause-driven : goal.returns-clause-driven
returns-clause-driven c = λ start taken prior before slots has may is represents known.
    let old = c.args.self.now in
    let turns = c.args.turns.now in
    let new : List SubscriberState = c.do_lines.new.subscribers.items in
    let epoch = c.in_ok-epoch.epoch in
    let steps = steps_so start taken old c.args.lines.now has (record { room = old.room; lane = old.lane }) turns new epoch refl c.in_ok-epoch.ensures.does in
    driven_so start taken (turns_told turns start.slices (length taken)) old.book new epoch steps has.set_up.at_rest
    may.later may.few prior before slots is represents known

pub returns-clause-represents : goal.returns-clause-represents
returns-clause-represents c = λ start taken prior before has may is represents.
    let old = c.args.self.now in
    let turns = c.args.turns.now in
    let new : List SubscriberState = c.do_lines.new.subscribers.items in
    let epoch = c.in_ok-epoch.epoch in
    let steps = steps_so start taken old c.args.lines.now has (record { room = old.room; lane = old.lane }) turns new epoch refl c.in_ok-epoch.ensures.does in
    let kept = as_many_kept start taken old c.args.lines.now has in
    represents_so start taken (turns_told turns start.slices (length taken)) old.book new epoch steps
    has.set_up.at_rest may.later may.few _ refl (omega (arith, has.set_up.same_lines, kept, c.len.ensures)) prior
    before is represents

pub returns-clause-behind : goal.returns-clause-behind
returns-clause-behind c = λ start taken prior has may is.
    let old = c.args.self.now in
    let turns = c.args.turns.now in
    let new : List SubscriberState = c.do_lines.new.subscribers.items in
    let epoch = c.in_ok-epoch.epoch in
    let steps = steps_so start taken old c.args.lines.now has (record { room = old.room; lane = old.lane }) turns new epoch refl c.in_ok-epoch.ensures.does in
    let kept = as_many_kept start taken old c.args.lines.now has in
    behind_so start taken (turns_told turns start.slices (length taken)) old.book new epoch steps has.set_up.at_rest
    may.later may.few _ has.set_up.same_slices refl refl (omega (arith, has.set_up.same_lines, kept, c.len.ensures)) prior is

pub returns-clause-setup : goal.returns-clause-setup
returns-clause-setup c = λ start taken has.
    (has.set_up.same_slices, has.set_up.same_room, has.set_up.same_lane)

pub returns-clause-latest : goal.returns-clause-latest
returns-clause-latest c = λ start taken has. has.latest

pub returns-clause-lines : goal.returns-clause-lines
returns-clause-lines c = λ start taken has.
    let kept = as_many_kept start taken c.args.self.now c.args.lines.now has in
    omega (arith, has.set_up.same_lines, kept, c.len.ensures)

pub returns-clause-turns : goal.returns-clause-turns
returns-clause-turns c = λ start taken has.
    let asks = as_many_asks start taken c.args.self.now c.args.lines.now has in
    c.in_ok-epoch.ensures.turns
    ∙ ap (turns_behind c.args.turns.now) (omega (arith, asks, c.args.lines.now.asks.ok.0))

pub returns-clause-bounds : goal.returns-clause-bounds
returns-clause-bounds c = λ start taken prior has may is.
    let old = c.args.self.now in
    let turns = c.args.turns.now in
    let new : List SubscriberState = c.do_lines.new.subscribers.items in
    let epoch = c.in_ok-epoch.epoch in
    let steps = steps_so start taken old c.args.lines.now has (record { room = old.room; lane = old.lane }) turns new epoch
    refl c.in_ok-epoch.ensures.does in
    let kept = as_many_kept start taken old c.args.lines.now has in
    let after : Rest = rest_of (record old {
      subscribers = c.do_lines.new.subscribers;
      lines = old.lines + c.len.result;
    }) in
    bounds_so start after prior taken is
    (behind_so start taken (turns_told turns start.slices (length taken)) old.book new epoch steps has.set_up.at_rest
    may.later may.few after has.set_up.same_slices refl refl (omega (arith, has.set_up.same_lines, kept, c.len.ensures))
    prior is) has.set_up.same_slices

pub returns-clause-rests : goal.returns-clause-rests
returns-clause-rests c = λ start taken has may.
    let old = c.args.self.now in
    let turns = c.args.turns.now in
    let new : List SubscriberState = c.do_lines.new.subscribers.items in
    let epoch = c.in_ok-epoch.epoch in
    let steps = steps_so start taken old c.args.lines.now has (record { room = old.room; lane = old.lane }) turns new epoch
    refl c.in_ok-epoch.ensures.does in
    let kept = as_many_kept start taken old c.args.lines.now has in
    resting_so start taken old c.args.lines.now has c.sessions_keep_their_slot.ensures may
    (turns_told turns start.slices (length taken)) (record old {
      subscribers = c.do_lines.new.subscribers;
      lines = old.lines + c.len.result;
    }) epoch steps refl refl (omega (arith, kept, c.len.ensures)) refl

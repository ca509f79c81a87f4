use Rattle.std.proofs.Common.{◌≡◌, ◌+◌, ◌<◌, ◌++◌, ◌∷◌, [], length, get_or, set, refl, sym, ap, subst, ◌∙◌, arith}
use Rattle.std.proofs.lemmas.List.{map_push}
use Rattle.demux.specs.declared.packet.LentPacket.{LentPacket}
use Rattle.epoch_schedule.specs.Slots.{Met}
use Rattle.epoch_schedule.specs.Plan.{mets_of}
use Rattle.slot_execution.specs.Replaying.{counts_of, places_of}
use Rattle.slot_execution.specs.declared.placed.Placed.{Placed}
use Rattle.subscriber.specs.Standing.{SubscriberState}
use Rattle.epoch_drive.specs.Shares.{packets_lent}
use Rattle.epoch_drive.specs.declared.sharing.Share.{Share}
use Rattle.epoch_drive.proofs.sharing.give_packet.Goals as goal

pub returns : goal.returns
returns c =
    let shares = c.args.shares.now.items in
    let share : Share = c.index_mut-share.result.now in
    let after : Share = record share { packets = c.push.new.self } in
    let subscriber : SubscriberState = c.index-subscribers-place.result in
    let met : Met = record { commands = c.met.inside.commands; place = c.met.inside.place } in
    let packet : LentPacket = c.args.packet in
    let placed : Placed = record {
      commands = c.commands-before.result + met.commands;
      place = met.place;
      packet = packet;
    } in
    let found : share ≡ get_or shares c.args.slot share =
    c.index_mut-share.ensures.value ∙ ap (λ k. get_or shares k share) c.slot.view_is in
    let number : c.len-number.result ≡ length share.packets.items =
    omega (arith, c.len-number.ensures, share.packets.ok.0) in
    record {
      share = share;
      after = after;
      subscriber = subscriber;
      met = met;
      found = found;
      there = c.index-subscribers-place.is ∙ ap (λ k. get_or c.args.subscribers.now k subscriber) c.slot.view_is;
      meets = subst (λ m. m ≡ get_or (mets_of c.args.scheduled.now c.args.slot) (length share.packets.items) m)
          (sym c.met.view_is)
          (c.met-met.ensures
          ∙ ap (λ k. get_or (mets_of c.args.scheduled.now k) c.len-number.result c.met-met.result) c.slot.view_is
          ∙ ap (λ k. get_or (mets_of c.args.scheduled.now c.args.slot) k c.met-met.result) number);
      within = subst (λ (s : Share). length s.packets.items < length (mets_of c.args.scheduled.now c.args.slot)) (sym found)
          (c.requires.met.within share);
      is = ap (λ k. set shares k after) c.slot.view_is;
      commands = refl;
      packets = ap packets_lent c.in_ok-push.ensures.items
          ∙ map_push (λ (p : Placed). p.packet) share.packets.items placed;
      counts = ap counts_of c.in_ok-push.ensures.items
          ∙ map_push (λ (p : Placed). p.commands) share.packets.items placed
          ∙ ap (λ n. counts_of share.packets.items ++ (n + met.commands) ∷ []) c.commands-before.ensures;
      places = ap places_of c.in_ok-push.ensures.items
          ∙ map_push (λ (p : Placed). p.place) share.packets.items placed;
    }

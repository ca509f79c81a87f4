use Rattle.std.proofs.Common.{rules, ◌≡◌, length}
use Rattle.std.proofs.lemmas.List.{nil_from_length}
use Rattle.epoch_drive.specs.Replays.{DoesShare}
use Rattle.epoch_drive.proofs.Replaying.{adds_share, untouched_does}
use Rattle.epoch_drive.proofs.replays.do_share.Goals as goal

pub returns-then-is_empty-2-clause-adds : goal.returns-then-is_empty-2-clause-adds
returns-then-is_empty-2-clause-adds c =
    let told = c.add_replayed.ensures in
    let share = c.args.share.now in
    let commands : length share.commands.items ≡ 0 = search rules in
    let packets : length share.packets.items ≡ 0 = search rules in
    let none = c.nothing.ensures in
    let does =
    untouched_does c.args.subscriber.now share c.nothing.result (nil_from_length share.commands.items commands)
    (nil_from_length share.packets.items packets) none.replies none.packets none.effects none.rows in
    adds_share c.add_replayed.result c.args.subscriber.now c.args.subscriber.now c.args.share.now c.args.replays.now
    c.add_replayed.new.replays c.args.slot c.nothing.result does told.answers told.effects told.rows

pub returns-clause-adds : goal.returns-clause-adds
returns-clause-adds c =
    let told = c.add_replayed-2.ensures in
    let does : DoesShare c.args.subscriber.now c.replay.new.subscriber c.args.share.now c.in_ok-replayed.replayed =
    search rules in
    adds_share c.add_replayed-2.result c.args.subscriber.now c.replay.new.subscriber c.args.share.now c.args.replays.now
    c.add_replayed-2.new.replays c.args.slot c.in_ok-replayed.replayed does told.answers told.effects told.rows

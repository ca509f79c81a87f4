use Rattle.std.proofs.Common.{◌<◌, length, refl, ◌∙◌, arith}
use Rattle.epoch_drive.proofs.Replaying.{more_done}
use Rattle.epoch_drive.proofs.replays.replay_all.Goals as goal

pub do_share-requires-clause-room : goal.do_share-requires-clause-room
do_share-requires-clause-room c =
    let at = c.loop-i in
    omega (arith, at.invariant.room, at.invariant.done.answered, at.replays.answers.ok.0, c.loop-i-test.true)

pub loop-i-preserved : goal.loop-i-preserved
loop-i-preserved c =
    let at = c.loop-i in
    let low : at.i < length c.args.subscribers.now.items =
    omega (arith, c.loop-i-test.true, c.requires.slots, c.args.subscribers.now.ok.0) in
    let did = c.in_ok-do_share.ensures in
    record {
      room = did.room ∙ at.invariant.room;
      done = more_done c.args.subscribers.now.items at.subscribers.items _ c.args.shares.now at.replays
          c.do_share.new.replays at.i c.index_mut.result.now c.do_share.new.subscriber c.index-shares-place.result
          at.invariant.done low (omega (arith, c.requires.many, c.args.subscribers.now.ok.0)) c.index_mut.ensures.value
          refl c.index-shares-place.is did.adds;
    }

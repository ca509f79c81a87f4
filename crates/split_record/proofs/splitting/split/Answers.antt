use Rattle.std.proofs.Common.{arith, sym, subst}
use Rattle.subscriber.specs.Standing.{HasRoom}
use Rattle.split_record.proofs.splitting.split.Goals as goal

pub new-requires-clause-few : goal.new-requires-clause-few
new-requires-clause-few c =
    let room = subst HasRoom (sym c.subscriber.view_is) c.requires.few in
    (omega (arith, room.few), omega (arith, room.few))

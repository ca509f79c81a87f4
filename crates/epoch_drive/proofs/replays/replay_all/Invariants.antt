use Rattle.std.proofs.Common.{◌≡◌, vec_capacity}
use Rattle.epoch_drive.specs.Replays.{HaveDone}
use Rattle.epoch_drive.proofs.replays.replay_all.Given as goal

abbrev pub invariant-loop-i : goal.invariant-loop-i
invariant-loop-i l = record {
  room : vec_capacity l.replays.answers ≡ l.slots;
  done : HaveDone l.fn.subscribers.items l.subscribers.items l.shares l.replays l.i;
}

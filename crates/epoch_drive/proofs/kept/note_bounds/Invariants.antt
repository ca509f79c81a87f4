use Rattle.std.proofs.Common.{◌≡◌, map, take}
use Rattle.subscriber.specs.Standing.{SubscriberState}
use Rattle.epoch_drive.proofs.kept.note_bounds.Given as goal

abbrev pub invariant-loop-subscriber : goal.invariant-loop-subscriber
invariant-loop-subscriber l =
    l.bounds.items ≡ map (λ (s : SubscriberState). s.destination) (take l.subscriber-index l.subscribers)

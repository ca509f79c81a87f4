use Rattle.std.proofs.Common.{◌≡◌, take}
use Rattle.std.specs.List.{fold}
use Rattle.packet_steps.specs.Meters.{in_use, with_begun}
use Rattle.packet_steps.proofs.meters.Meters.learn.Given as goal

-- the meters with those bearers begun that were seen
abbrev pub invariant-loop-bearer : goal.invariant-loop-bearer
invariant-loop-bearer l =
    in_use l.self ≡ fold (with_begun l.before) (in_use l.initial.self) (take l.bearer-index l.bearer-items)

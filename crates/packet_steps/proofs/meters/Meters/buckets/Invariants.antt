use Rattle.std.proofs.Common.{◌≡◌, ◌∷◌, take}
use Rattle.std.specs.List.{flat_map}
use Rattle.packet_steps.specs.Meters.{in_use}
use Rattle.packet_steps.specs.Parts.{own_buckets}
use Rattle.packet_steps.proofs.meters.Meters.buckets.Given as goal

-- the buckets of those bearers that were seen
abbrev pub invariant-loop-bearer : goal.invariant-loop-bearer
invariant-loop-bearer l = l.buckets.items
    ≡ l.self.shared.up ∷ l.self.shared.down ∷ flat_map (own_buckets (in_use l.self)) (take l.bearer-index l.bearers)

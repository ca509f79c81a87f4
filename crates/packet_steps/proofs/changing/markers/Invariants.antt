use Rattle.std.proofs.Common.{◌≡◌, take}
use Rattle.std.specs.List.{flat_map}
use Rattle.packet_steps.specs.Change.{marker_for}
use Rattle.packet_steps.proofs.changing.markers.Given as goal

-- the markers of the bearers that were seen
abbrev pub invariant-loop-bearer : goal.invariant-loop-bearer
invariant-loop-bearer l = l.effects.items ≡ flat_map (marker_for l.after) (take l.bearer-index l.bearer-items)

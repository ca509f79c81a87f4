use Rattle.std.proofs.Common.{◌≡◌, length, drop}
use Rattle.packet_steps.specs.Meters.{no_meters, in_use}
use Rattle.packet_steps.specs.Parts.{first_meter, own_with}
use Rattle.packet_steps.proofs.parts.meters_of.Given as goal

-- the bearers that are left take the buckets that are left
abbrev pub invariant-loop-bearer : goal.invariant-loop-bearer
invariant-loop-bearer l = record {
  shared : (in_use l.meters).shared ≡ first_meter l.buckets;
  own : own_with no_meters l.bearers (drop 2 l.buckets) ≡ own_with (in_use l.meters).own l.left l.rest;
}

abbrev pub decreases-loop-bearer : goal.decreases-loop-bearer
decreases-loop-bearer l = length l.left

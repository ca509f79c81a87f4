use Rattle.std.proofs.Common.{◌≤◌, length, ◌-◌}
use Rattle.gtpv2_ie.specs.Stand.{StandBetween}
use Rattle.gtpv2_ie.proofs.raw.list_ies.Given as goal

abbrev pub invariant-loop-at : goal.invariant-loop-at
invariant-loop-at l = record {
  in_octets : l.at ≤ length l.octets;
  prefix : StandBetween l.octets 0 l.ies.items l.at;
}

abbrev pub decreases-loop-at : goal.decreases-loop-at
decreases-loop-at l = length l.octets - l.at

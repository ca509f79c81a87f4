use Rattle.std.proofs.Common.{◌≤◌, List, length, ◌-◌}
use Rattle.gtpv2_ie.specs.declared.raw.RawIe.{RawIe}
use Rattle.gtpv2_ie.specs.Stand.{StandBetween}
use Rattle.gtpv2_ie.proofs.raw.count_ies.Given as goal

abbrev pub invariant-loop-at : goal.invariant-loop-at
invariant-loop-at l = record {
  in_octets : l.at ≤ length l.octets;
  few : l.count ≤ l.at;
  prefix : (before : List RawIe) × StandBetween l.octets 0 before l.at;
}

abbrev pub decreases-loop-at : goal.decreases-loop-at
decreases-loop-at l = length l.octets - l.at

use Rattle.std.proofs.Common.{◌≡◌, ◌++◌, ◌*◌, drop}
use Rattle.gtpv2_ie.specs.Imsi.{imsi_octets}
use Rattle.gtpv2_ie.proofs.imsi.imsi_octets.Given as goal

-- the octets so far, and those of the digits that are left
abbrev pub invariant-loop-i : goal.invariant-loop-i
invariant-loop-i l = l.octets.items ++ imsi_octets (drop (2 * l.i) l.digits) ≡ imsi_octets l.digits

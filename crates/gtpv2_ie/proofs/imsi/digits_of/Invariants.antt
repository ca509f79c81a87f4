use Rattle.std.proofs.Common.{◌≡◌, drop}
use Rattle.gtpv2_ie.specs.Imsi.{digits_of, with_digits}
use Rattle.gtpv2_ie.proofs.imsi.digits_of.Given as goal

-- the digits so far, and those of the octets that are left
abbrev pub invariant-loop-i : goal.invariant-loop-i
invariant-loop-i l = with_digits l.digits.items (digits_of (drop l.i l.octets)) ≡ digits_of l.octets

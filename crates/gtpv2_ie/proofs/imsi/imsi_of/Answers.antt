use Rattle.std.proofs.Common.{◌≡◌, Some, sym, arith}
use Rattle.gtpv2_ie.specs.Imsi.{digits_of}
use Rattle.gtpv2_ie.proofs.ImsiLemmas.{digits_decimal}
use Rattle.gtpv2_ie.proofs.imsi.imsi_of.Goals as goal

pub returns-in-Some-clause-valid : goal.returns-in-Some-clause-valid
returns-in-Some-clause-valid c =
    let digits_are : digits_of c.args.octets.now ≡ Some c.in-Some.digits.items =
    sym (rw c.in-Some.is at c.in_ok-digits.ensures) in
    rw c.of.ensures
    (record {
      least = omega arith;
      most = omega arith;
      decimal =
          digits_decimal c.args.octets.now c.in-Some.digits.items digits_are;
    })

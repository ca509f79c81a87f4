use Rattle.std.proofs.Common.{◌++◌, ◌∷◌, [], arith}
use Rattle.gtpv2_ie.specs.declared.raw.RawIe.{RawIe}
use Rattle.gtpv2_ie.proofs.StandLemmas.{StandBetween-push, StandsAt-long}
use Rattle.gtpv2_ie.proofs.raw.count_ies.Goals as goal

pub loop-at-preserved : goal.loop-at-preserved
loop-at-preserved c =
    let before = c.loop-at.invariant.prefix in
    let ie : RawIe = c.in_ok-at.field-0 in
    record {
      in_octets = c.in_ok-at.ensures.found.inside;
      few = omega (
        arith,
        StandsAt-long c.args.octets.now c.loop-at.at ie c.in_ok-at.ensures.found,
        c.loop-at.invariant.few,
      );
      prefix = (
        before.0 ++ ie
            ∷ [],
        StandBetween-push c.args.octets.now 0 c.loop-at.at before.0 ie before.1 c.in_ok-at.ensures.found,
      );
    }

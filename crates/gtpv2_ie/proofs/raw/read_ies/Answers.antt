use Rattle.std.proofs.Common.{subst, arith}
use Rattle.gtpv2_ie.specs.declared.fault.IeBad.TheVariants.{Short, Length, NoMemory}
use Rattle.gtpv2_ie.specs.Stand.{items_of}
use Rattle.gtpv2_ie.proofs.StandLemmas.{exact, ies_of-Stand, ies_of-short, ies_of-length, found_inside}
use Rattle.gtpv2_ie.proofs.raw.read_ies.Goals as goal
use Rattle.wire_octets.specs.Memory.{OrNoMemory}

pub returns-clause-exact : goal.returns-clause-exact
returns-clause-exact c =
    exact c.args.octets.now c.find_ies.result c.find_ies.ensures.found c.find_ies.ensures.short
    c.find_ies.ensures.length

pub returns-clause-only : goal.returns-clause-only
returns-clause-only c = λ ies stand.
    subst (λ read. OrNoMemory (items_of c.find_ies.result) read NoMemory) (ies_of-Stand c.args.octets.now ies stand)
    (returns-clause-exact c)

pub returns-clause-ends_short : goal.returns-clause-ends_short
returns-clause-ends_short c = λ short. c.find_ies.ensures.fault Short (ies_of-short c.args.octets.now short)

pub returns-clause-passes_end : goal.returns-clause-passes_end
returns-clause-passes_end c = λ long. c.find_ies.ensures.fault Length (ies_of-length c.args.octets.now long)

pub returns-clause-inside : goal.returns-clause-inside
returns-clause-inside c =
    found_inside c.args.octets.now c.find_ies.result (λ i. omega (arith, c.type_inv.octets i)) c.find_ies.ensures.found

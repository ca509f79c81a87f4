use Rattle.std.proofs.Common.{◌≡◌, Err, rules}
use Rattle.gtpv2_ie.proofs.StandLemmas.{counted, no_fault}
use Rattle.gtpv2_ie.proofs.raw.find_ies.Goals as goal

pub returns-in_err-count-clause-fault : goal.returns-in_err-count-clause-fault
returns-in_err-count-clause-fault c = λ bad read.
    let count : c.count_ies.result ≡ Err bad =
    counted c.args.octets.now c.count_ies.result c.count_ies.ensures.found c.count_ies.ensures.short
    c.count_ies.ensures.length
    c.count_ies.ensures.memory bad read in
    search rules

pub returns-clause-fault : goal.returns-clause-fault
returns-clause-fault c = λ bad read. absurd (no_fault c.args.octets.now _ bad c.in_ok-count.ensures.found read)

-- What stands in the octets is written in no more of them.
use Rattle.std.proofs.Common.{ap, ◌∙◌}
use Rattle.gtpv2_ie.proofs.StandLemmas.{ies_of-Stand}
use Rattle.gtpv2_msg.specs.Elements.{contexts_in}
use Rattle.gtpv2_msg.specs.Required.{required}
use Rattle.gtpv2_msg.specs.RowFault.{inside_fault}
use Rattle.gtpv2_msg.proofs.NoLonger.{no_longer}
use Rattle.gtpv2_msg.proofs.ReadingLemmas.{body_told}
use Rattle.gtpv2_msg.proofs.reading.read_required.Goals as goal

pub returns-in_ok-known_of-in-None-clause-no_longer : goal.returns-in_ok-known_of-in-None-clause-no_longer
returns-in_ok-known_of-in-None-clause-no_longer c =
    rw (c.in_ok-known_of-in-None.ensures, c.in_ok-ies.ensures.value)
    (no_longer _ _ (ies_of-Stand c.args.octets.now c.args.raws.now c.requires.stand))

pub returns-in-Some-clause-refused : goal.returns-in-Some-clause-refused
returns-in-Some-clause-refused c =
    body_told c.args.kind c.args.octets.now c.args.raws.now c.deref.result.now c.row_fault.result c.in-Some.bad
    c.requires.stand (c.deref.ensures.value ∙ c.in_ok-ies.ensures.value)
    (c.row_fault.ensures c.args.octets.now (required c.args.kind) c.required-row.ensures.before
    c.required-row.ensures.must c.required-row.ensures.after
    (c.in_ok-ies.ensures.fault
    ∙ ap (λ parts. inside_fault parts (contexts_in c.args.octets.now c.args.raws.now)) c.required-row.ensures.inside))
    c.in-Some.is

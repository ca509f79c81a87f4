-- A fault of the framing is told without memory.
use Rattle.std.proofs.Common.{Err, ap, ◌∙◌}
use Rattle.gtpv2_ie.proofs.StandLemmas.{ies_of-Stand}
use Rattle.gtpv2_msg.proofs.RequiredLemmas.{not_framing, memory_not_framing}
use Rattle.gtpv2_msg.proofs.reading.read_body.Goals as goal

pub returns-in-Ok-clause-framing : goal.returns-in-Ok-clause-framing
returns-in-Ok-clause-framing c =
    not_framing c.args.kind c.args.octets.now c.in-Ok.raws.items _ (ies_of-Stand _ _ c.in-Ok.ensures.found)

pub returns-in-Err-NoMemory-clause-framing : goal.returns-in-Err-NoMemory-clause-framing
returns-in-Err-NoMemory-clause-framing c =
    memory_not_framing c.args.kind c.args.octets.now _ c.read_ies.result
    (c.in-Err-NoMemory.is ∙ ap Err c.in-Err-NoMemory.field-0-is)
    c.read_ies.ensures.fault

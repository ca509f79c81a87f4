use Rattle.std.proofs.Common.{sym, ◌∙◌, refl}
use Rattle.audit_core.proofs.AlongTold.{ends_failed, ends_so, ends_unread, memory_ends}
use Rattle.audit_core.proofs.along.finish.Goals as goal

pub end_last-requires : goal.end_last-requires
end_last-requires g c = let f = c.requires.3 in (f.known, f.piece, f.hears)

pub returns-in-Ok-clause-ends : goal.returns-in-Ok-clause-ends
returns-in-Ok-clause-ends g c = λ under texts said follows.
    rw c.ends_as.ensures
    (ends_so under c.args.pieces.now c.end_last.new.pieces texts said follows c.args.why c.in-Ok.text _ _
    c.in-Ok.lawful c.write_whole.result (c.in-Ok.ensures.told follows.known follows.piece follows.hears)
    (rw (← c.as_slice.ensures) c.write_whole.ensures.whole) (rw (← c.as_slice.ensures) c.write_whole.ensures.cut))

pub returns-in-Ok-clause-fault : goal.returns-in-Ok-clause-fault
returns-in-Ok-clause-fault g c = λ is.
    ends_failed c.in-Ok.lawful c.write_whole.result _ c.write_whole.ensures.fault (sym c.ends_as.ensures ∙ is)

pub returns-in-Ok-clause-no_read : goal.returns-in-Ok-clause-no_read
returns-in-Ok-clause-no_read g c = λ is.
    ends_unread c.in-Ok.lawful c.write_whole.result (sym c.ends_as.ensures ∙ is)

pub returns-in-Err-clause-ends : goal.returns-in-Err-clause-ends
returns-in-Err-clause-ends g c = λ under texts said follows.
    memory_ends under c.args.pieces.now texts said follows c.args.why _

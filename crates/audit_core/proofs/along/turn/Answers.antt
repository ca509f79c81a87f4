use Rattle.std.proofs.Common.{sym, ◌∙◌, refl}
use Rattle.audit_core.specs.Along.{turn}
use Rattle.audit_core.proofs.AlongTold.{goes_failed, goes_lawful, goes_so, goes_unread, memory_stops, stops_so}
use Rattle.audit_core.proofs.along.turn.Goals as goal

pub end_piece-requires : goal.end_piece-requires
end_piece-requires g c = let f = c.requires.3 in (f.known, f.piece, f.hears)

pub returns-in-Ok-clause-goes_on : goal.returns-in-Ok-clause-goes_on
returns-in-Ok-clause-goes_on g c = λ under texts said follows.
    rw c.goes_as.ensures
    (goes_so under c.args.pieces.now c.end_piece.new.pieces texts said follows c.args.why c.in-Ok.text _ _
    c.end_piece.ensures.setup c.in-Ok.lawful c.write_whole.result
    (c.in-Ok.ensures.told follows.known follows.piece follows.hears)
    (rw (← c.as_slice.ensures) c.write_whole.ensures.whole))

pub returns-in-Ok-clause-stops : goal.returns-in-Ok-clause-stops
returns-in-Ok-clause-stops g c = λ under texts said follows.
    rw c.goes_as.ensures
    (stops_so under c.args.pieces.now c.end_piece.new.pieces texts said follows c.args.why c.in-Ok.text _ _
    c.end_piece.ensures.setup c.in-Ok.lawful c.write_whole.result
    (c.in-Ok.ensures.told follows.known follows.piece follows.hears)
    (rw (← c.as_slice.ensures) c.write_whole.ensures.whole) (rw (← c.as_slice.ensures) c.write_whole.ensures.cut))

pub returns-in-Ok-clause-weight : goal.returns-in-Ok-clause-weight
returns-in-Ok-clause-weight g c = λ under texts said follows.
    rw c.goes_as.ensures
    (goes_lawful c.in-Ok.lawful c.write_whole.result _
    (c.in-Ok.ensures.weight follows.known follows.piece follows.hears))

pub returns-in-Ok-clause-fault : goal.returns-in-Ok-clause-fault
returns-in-Ok-clause-fault g c = λ is.
    goes_failed c.in-Ok.lawful c.write_whole.result _ c.write_whole.ensures.fault (sym c.goes_as.ensures ∙ is)

pub returns-in-Ok-clause-no_read : goal.returns-in-Ok-clause-no_read
returns-in-Ok-clause-no_read g c = λ is.
    goes_unread c.in-Ok.lawful c.write_whole.result (sym c.goes_as.ensures ∙ is)

pub returns-in-Err-clause-stops : goal.returns-in-Err-clause-stops
returns-in-Err-clause-stops g c = λ under texts said follows.
    memory_stops under c.args.pieces.now texts said follows c.args.why _ turn

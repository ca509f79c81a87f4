use Rattle.std.proofs.lemmas.Result.{err_from_is_err_and}
use Rattle.record_codec.specs.Read.{each_at, piece_at}
use Rattle.record_codec.proofs.Loops.{goes_on_each, ends_each}
use Rattle.record_codec.proofs.counters.pieces_at.Goals as goal

pub returns-in_err-push_piece : goal.returns-in_err-push_piece
returns-in_err-push_piece c =
    let p = err_from_is_err_and c.from_residual.result c.from_residual.ensures.1 in
    rw (p.1, p.2)
    (ends_each piece_at c.args.bearers.now c.in_err-push_piece.field-0.0 c.loop-bearer.pieces.items
    c.loop-bearer.bearer-index c.bearer-item.result c.loop-bearer.input.rest.now
    (each_at piece_at c.args.bearers.now c.args.input.now.rest.now) c.loop-bearer-test.true c.bearer-item.is
    c.in_err-push_piece.ensures c.loop-bearer.invariant)

pub loop-bearer-preserved : goal.loop-bearer-preserved
loop-bearer-preserved c =
    let pushed = c.in_ok-push_piece.ensures in
    rw pushed.2
    (goes_on_each piece_at c.args.bearers.now c.loop-bearer.pieces.items c.loop-bearer.bearer-index
    c.bearer-item.result c.loop-bearer.input.rest.now pushed.0 c.push_piece.new.input.rest.now
    (each_at piece_at c.args.bearers.now c.args.input.now.rest.now) c.loop-bearer-test.true c.bearer-item.is pushed.1
    c.loop-bearer.invariant)

use Rattle.std.proofs.Common.{◌≡◌, drop}
use Rattle.record_codec.specs.Read.{each_at, piece_at}
use Rattle.record_codec.proofs.Loops.{with_prefix}
use Rattle.record_codec.proofs.counters.pieces_at.Given as goal

abbrev pub invariant-loop-bearer : goal.invariant-loop-bearer
invariant-loop-bearer l =
    with_prefix l.pieces.items (each_at piece_at (drop l.bearer-index l.bearers) l.input.rest.now)
    ≡ each_at piece_at l.bearers l.fn.input.rest.now

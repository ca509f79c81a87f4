use Rattle.std.proofs.Common.{◌≡◌, ◌++◌, take}
use Rattle.std.specs.List.{flat_map}
use Rattle.record_codec.specs.Spelling.{text_for}
use Rattle.record_codec.proofs.writing.put_pieces.Given as goal

abbrev pub invariant-loop-bearer : goal.invariant-loop-bearer
invariant-loop-bearer l =
    l.text.items ≡ l.fn.text.items ++ flat_map (text_for l.pieces) (take l.bearer-index l.bearers)

use Rattle.std.proofs.Common.{◌≡◌, ◌++◌, ◌∷◌, take, length}
use Rattle.std.specs.List.{flat_map}
use Rattle.record_codec.specs.Spelling.{held_text}
use Rattle.record_codec.proofs.writing.put_all_held.Given as goal

abbrev pub invariant-loop-row : goal.invariant-loop-row
invariant-loop-row l =
    l.text.items ≡ l.fn.text.items ++ (length l.held ∷ flat_map held_text (take l.row-index l.held))

use Rattle.std.proofs.Common.{◌≡◌, ◌++◌, ◌∷◌, take, length}
use Rattle.std.specs.List.{flat_map}
use Rattle.record_codec.specs.Spelling.{bearer_text}
use Rattle.record_codec.proofs.writing.put_bearers.Given as goal

abbrev pub invariant-loop-bearer : goal.invariant-loop-bearer
invariant-loop-bearer l =
    l.text.items ≡ l.fn.text.items ++ (length l.bearers ∷ flat_map bearer_text (take l.bearer-index l.bearers))

use Rattle.std.proofs.Common.{◌≡◌, ◌++◌, ◌∷◌, take, length}
use Rattle.std.specs.List.{flat_map}
use Rattle.record_codec.specs.Spelling.{filter_text}
use Rattle.record_codec.proofs.writing.put_filters.Given as goal

abbrev pub invariant-loop-filter : goal.invariant-loop-filter
invariant-loop-filter l =
    l.text.items ≡ l.fn.text.items ++ (length l.filters ∷ flat_map filter_text (take l.filter-index l.filters))

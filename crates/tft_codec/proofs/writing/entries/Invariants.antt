use Rattle.std.proofs.Common.{◌≡◌, ◌∷◌, take, length}
use Rattle.std.specs.List.{flat_map}
use Rattle.tft_codec.specs.Spelling.{first_octet, filter_text}
use Rattle.tft_codec.proofs.writing.entries.Given as goal

abbrev pub invariant-loop-filter : goal.invariant-loop-filter
invariant-loop-filter l =
    l.text.items ≡ first_octet l.operation (length l.filters) ∷ flat_map filter_text (take l.filter-index l.filters)

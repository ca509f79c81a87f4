use Rattle.std.proofs.Common.{◌≡◌, ◌++◌, ◌∷◌, take, length}
use Rattle.tft_codec.specs.Component.{contents}
use Rattle.tft_codec.specs.Spelling.{filter_octet}
use Rattle.tft_codec.proofs.writing.put_filter.Given as goal

abbrev pub invariant-loop-component : goal.invariant-loop-component
invariant-loop-component l =
    l.text.items ≡ l.fn.text.items ++ filter_octet l.filter ∷ l.filter.precedence ∷ length
    (contents l.filter.components) ∷ contents (take l.component-index l.components)

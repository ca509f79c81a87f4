use Rattle.std.proofs.Common.{◌≡◌, length, take}
use Rattle.tft_codec.specs.Component.{contents}
use Rattle.tft_codec.proofs.writing.contents_len.Given as goal

abbrev pub invariant-loop-component : goal.invariant-loop-component
invariant-loop-component l = l.len ≡ length (contents (take l.component-index l.components))

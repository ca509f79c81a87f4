-- One more line that may come.
use Rattle.std.proofs.Common.{◌≡◌, ℕ, ◌≤◌, List, [], ◌∷◌, ◌++◌, refl}
use Rattle.trace_lines.specs.Line.{Line}
use Rattle.at_rest.specs.Coming.{AreLater, latest_behind}

pub later-push : (latest : ℕ) (lines : List Line) (line : Line) → AreLater latest lines
    → latest_behind latest lines ≤ line.moment → AreLater latest (lines ++ line ∷ [])
later-push latest [] line later last = (last, tt)
later-push latest (first ∷ lines) line later last = (later.0, later-push first.moment lines line later.1 last)

pub latest-push : (latest : ℕ) (lines : List Line) (line : Line) → latest_behind latest (lines ++ line ∷ []) ≡ line.moment
latest-push latest [] line = refl
latest-push latest (first ∷ lines) line = latest-push first.moment lines line

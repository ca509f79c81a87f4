-- The generated trace: one line for each subscriber, and then lines that are drawn.
use Rattle.std.specs.Prelude.{ℕ, zero, suc, ◌+◌, ◌*◌, ◌==◌, List, [], ◌∷◌, ◌++◌, nat_lt, if◌then◌else◌}
use Rattle.std.specs.List.{flat_map}
use Rattle.trace_lines.specs.Line.{Line}
use Rattle.trace_lines.specs.Text.{line_text}
use Rattle.trace_maker.specs.Draws.{moved, number_at}
use Rattle.trace_maker.specs.Said.{kind_of}
use Rattle.trace_maker.specs.declared.said.Said.{Said}
use Rattle.trace_maker.specs.declared.said.Said.TheVariants.{Attach, Up, Down, Rates, Move}

-- what is drawn for a line, and the state behind it
pub record Drawn : Type 0 where
  pub said : Said
  pub state : ℕ

-- of sixteen choices eight are packets up, six packets down, one is rates and one a slice; only the last two draw
-- once more, rates one number for both ways
abbrev pub chosen : ℕ → ℕ → ℕ → ℕ → Drawn
chosen slot choice len state =
    if nat_lt choice 8 then record { said = Up slot len; state = state }
    else if nat_lt choice 14 then record { said = Down slot len; state = state }
    else if choice == 14
    then record { said = Rates slot (1000 * (1 + number_at 100 (moved state))); state = moved state }
    else record { said = Move slot (number_at 2 (moved state)); state = moved state }

-- a subscriber, a choice and a length are drawn for every line, in this order, whatever the choice needs
abbrev pub line_drawn : ℕ → ℕ → Drawn
line_drawn subscribers state =
    let first = moved state in
    let second = moved first in
    let third = moved second in
    chosen (number_at subscribers first) (number_at 16 second) (20 + number_at 181 third) third

-- the line that attaches the subscriber of a slot
abbrev pub attach_line : ℕ → Line
attach_line slot = record { number = slot + 1; moment = 0; kind = kind_of (Attach slot) }

-- those of so many subscribers from this slot on
abbrev pub attach_lines : ℕ → ℕ → List Line
attach_lines slot zero = []
attach_lines slot (suc more) = attach_line slot ∷ attach_lines (slot + 1) more

-- so many lines drawn from a state on, of which the first is the drawn line of this number: one each 100 microseconds
abbrev pub drawn_lines : ℕ → ℕ → ℕ → ℕ → List Line
drawn_lines subscribers state at zero = []
drawn_lines subscribers state at (suc more) =
    let now = line_drawn subscribers state in
    record { number = subscribers + at; moment = 100 * at; kind = kind_of now.said }
    ∷ drawn_lines subscribers now.state (at + 1) more

-- the trace of a seed, of so many subscribers and so many lines behind those that attach them
abbrev pub made : ℕ → ℕ → ℕ → List Line
made seed subscribers lines = attach_lines 0 subscribers ++ drawn_lines subscribers seed 1 lines

-- a line with its newline, and so the text of lines
abbrev pub row_of : Line → List ℕ
row_of line = line_text line ++ 10 ∷ []

abbrev pub text_of : List Line → List ℕ
text_of lines = flat_map row_of lines

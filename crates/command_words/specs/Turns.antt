-- The turns that a command line lists, or has drawn.
use Rattle.std.specs.Prelude.{ℕ, ◌-◌, ◌*◌, List, [], ◌∷◌, length, nat_le, Option, Some, None, option_and_then}
use Rattle.std.specs.Prelude.{option_map, if◌then◌else◌}
use Rattle.text_fields.specs.Fields.{pieces}
use Rattle.text_fields.specs.Number.{number_in}
use Rattle.command_words.specs.Words.{Text}
use Rattle.command_words.specs.declared.turns.AskedTurns.{AskedTurns}
use Rattle.command_words.specs.declared.turns.AskedTurns.TheVariants as asked

-- what stands between turns, and how many there may be
abbrev pub comma : ℕ
comma = 44

abbrev pub most_turns : ℕ
most_turns = 1024

-- texts as numbers up to a last one; nothing where one of them is none
abbrev pub numbers_in : ℕ → List Text → Option (List ℕ)
numbers_in last [] = Some []
numbers_in last (text ∷ texts) =
    option_and_then (λ number. option_map (λ more. number ∷ more) (numbers_in last texts)) (number_in 0 last text)

-- the turns that a text lists: numbers with a comma between each two, and not too many
abbrev pub turns_in : ℕ → Text → Option (List ℕ)
turns_in last text =
    if nat_le (length (pieces comma text)) most_turns then numbers_in last (pieces comma text) else None

-- each slice has two workers; the last one's number
abbrev pub last_worker : ℕ → ℕ
last_worker slices = 2 * slices - 1

-- turns drawn from a seed, so many behind each line
abbrev pub drawn : Text → Text → Option AskedTurns
drawn seed per = option_and_then (λ from. option_map (λ each. asked.Drawn from each) (number_in 0 64 per))
    (number_in 0 18446744073709551615 seed)

-- the turns of a command line, by the texts of `turns`, `seed` and `per`: they are listed or drawn, or there are none
abbrev pub turns_asked : ℕ → Option Text → Option Text → Option Text → Option AskedTurns
turns_asked slices None None None = Some asked.NoTurns
turns_asked slices None None (Some per) = None
turns_asked slices None (Some seed) None = None
turns_asked slices None (Some seed) (Some per) = drawn seed per
turns_asked slices (Some turns) None None = option_map asked.Listed (turns_in (last_worker slices) turns)
turns_asked slices (Some turns) None (Some per) = None
turns_asked slices (Some turns) (Some seed) None = None
turns_asked slices (Some turns) (Some seed) (Some per) = None

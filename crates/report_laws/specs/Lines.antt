-- Lines that differ in what is nothing to some slots.
use Rattle.std.specs.Prelude.{◌≡◌, ℕ, ◌+◌, ◌⊎◌, ◌||◌, nat_le, Bool, false, if◌then◌else◌, List, [], ◌∷◌, ◌++◌}
use Rattle.std.specs.Prelude.{length, map}
use Rattle.trace_lines.specs.Epochs.{ends_epoch, is_fence}
use Rattle.trace_lines.specs.Input.{Input}
use Rattle.trace_lines.specs.Line.{Line}
use Rattle.trace_lines.specs.Kind as kind
use Rattle.demux.specs.Resolved.{book_after, decided, slot_of}
use Rattle.demux.specs.declared.decision.Decision.{Decision}
use Rattle.demux.specs.declared.decision.Decision.TheVariants.{Command, Packet, Move, Note}
use Rattle.lawful_run.specs.Trace.{stop_noted}

-- a decision is a command or packet of one of these slots
abbrev pub is_for : (ℕ → Bool) → List (List ℕ) → Decision → Bool
is_for own book (Command whose asks) = own (slot_of book whose)
is_for own book (Packet at lent) = own at
is_for own book (Move at slice) = false
is_for own book (Note text) = false

-- Behind the same book a line and another are no command or packet of these slots, and admit the same: most often no
-- one.
pub record AreOthers (own : ℕ → Bool) (slices : ℕ) (book : List (List ℕ)) (line other : Line) : Type 0 where
  pub admits : book_after book line ≡ book_after book other
  pub foreign : is_for own book (decided slices book line) ≡ false
  pub other_foreign : is_for own book (decided slices book other) ≡ false

-- Line by line, behind this book, two traces have the same, or what is of others.
abbrev pub AreAlike : (ℕ → Bool) → ℕ → List (List ℕ) → (lines others : List Line) → Type 0
AreAlike own slices book [] [] = Unit {0}
AreAlike own slices book [] (other ∷ others) = ⊥
AreAlike own slices book (line ∷ lines) [] = ⊥
AreAlike own slices book (line ∷ lines) (other ∷ others) =
    ((line ≡ other) ⊎ AreOthers own slices book line other)
    × AreAlike own slices (book_after book line) lines others

-- what may stand in the place of a line: octets that are no message, at its moment
abbrev pub stand_in : Line → Line
stand_in line = record { number = line.number; moment = line.moment; kind = kind.S1u (0 ∷ []) }

-- a line ends its epoch as a FENCE, or as the 65,536th line
abbrev pub ends_by_count : List Line → Line → Bool
ends_by_count before line = is_fence line.kind || nat_le 65536 (length before + 1)

-- of lines behind these of their epoch, octets end no epoch
abbrev pub EndByCount : List Line → List Line → Type 0
EndByCount before [] = Unit {0}
EndByCount before (line ∷ lines) =
    (ends_epoch before line ≡ ends_by_count before line)
    × EndByCount (if ends_by_count before line then [] else before ++ line ∷ []) lines

-- Epochs of two inputs end alike: a FENCE stands where a FENCE stands, octets end no epoch, and no bad line is noted.
pub record EndAlike (input other : Input) : Type 0 where
  pub fences : map (λ (line : Line). is_fence line.kind) input.lines
      ≡ map (λ (line : Line). is_fence line.kind) other.lines
  pub by_count : EndByCount [] input.lines
  pub other_by_count : EndByCount [] other.lines
  pub good : stop_noted input.stop ≡ []
  pub other_good : stop_noted other.stop ≡ []

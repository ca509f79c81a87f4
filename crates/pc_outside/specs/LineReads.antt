-- What an answer of `read_line` says of the octets.
use Rattle.std.specs.Prelude.{◌≡◌, ℕ, ◌<◌, Bool, false, List, [], Option, None, Some}
use Rattle.pc_outside.specs.Line.{HoldsLine, BeginsLong, FillsRoom}
use Rattle.pc_outside.specs.declared.reading.LineRead.{LineRead}
use Rattle.pc_outside.specs.declared.reading.LineRead.TheVariants.{Line, End, ReadFault, LineLong, TooLong}

-- nothing is given: octets and room stay, there is no line, and none was the last
pub record GivesNone (room after : ℕ) (octets rest line : List ℕ) (last : Bool) : Type 0 where
  pub octets_stay : rest ≡ octets
  pub room_stays : after ≡ room
  pub no_line : line ≡ []
  pub not_last : last ≡ false

-- with this room the octets give the answer and the line, tell whether that is the last one, and leave that
-- room and the rest
abbrev pub Answers : LineRead → ℕ → ℕ → List ℕ → List ℕ → List ℕ → Bool → Type 0
Answers Line room after octets rest line last = HoldsLine room after octets rest line last
Answers End room after octets rest line last = GivesNone room after octets rest line last × (octets ≡ []) × (0 < room)
Answers ReadFault room after octets rest line last = GivesNone room after octets rest line last
Answers LineLong room after octets rest line last = GivesNone room after octets rest line last × BeginsLong room octets
Answers TooLong room after octets rest line last = GivesNone room after octets rest line last × FillsRoom room octets

-- the same, where the octets are told
abbrev pub Reads : LineRead → ℕ → ℕ → Option (List ℕ) → Option (List ℕ) → List ℕ → Bool → Type 0
Reads read room after None now line last = Unit {0}
Reads read room after (Some octets) None line last = ⊥
Reads read room after (Some octets) (Some rest) line last = Answers read room after octets rest line last

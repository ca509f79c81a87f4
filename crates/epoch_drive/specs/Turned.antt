-- What lines do, one after another.
use Rattle.std.specs.Prelude.{◌≡◌, ℕ, List, [], ◌∷◌, ◌++◌, All, length}
use Rattle.trace_lines.specs.Line.{Line}
use Rattle.demux.specs.Trace.{Meaning}
use Rattle.lawful_run.specs.Merging.{Histories}
use Rattle.lawful_run.specs.Trace.{meant_from}
use Rattle.subscriber.specs.Standing.{SubscriberState}
use Rattle.at_rest.specs.Meant.{AreStanding, HasItsMoment, IsWithin, Stand}
use Rattle.at_rest.specs.Rest.{AreAtRest}

abbrev pub HaveMoments : List Line → List Meaning → Type 0
HaveMoments [] [] = Unit {0}
HaveMoments [] (now ∷ made) = ⊥
HaveMoments (line ∷ lines) [] = ⊥
HaveMoments (line ∷ lines) (now ∷ made) = HasItsMoment line.moment now × HaveMoments lines made

-- They mean what they mean behind those before them, and leave the book and the subscribers that the lines with them
-- leave. Subscribers stay at rest, and represent what they represented.
pub record TurnedAll (slices : ℕ) (book : List (List ℕ)) (subscribers : List SubscriberState) (lines : List Line)
    (made : List Meaning) (book_now : List (List ℕ)) (subscribers_now : List SubscriberState) : Type 0 where
  pub many : length subscribers_now ≡ length book_now
  pub within : All (IsWithin (length subscribers_now)) made
  pub moments : HaveMoments lines made
  pub means : (prior : List Line) → Stand slices book subscribers prior → made ≡ meant_from slices prior lines
  pub stand : (prior : List Line) → Stand slices book subscribers prior
      → Stand slices book_now subscribers_now (prior ++ lines)
  pub keep : (before : Histories) → AreStanding subscribers before → AreStanding subscribers_now before
  pub rest : (count latest : ℕ) → AreAtRest slices count latest subscribers
      → AreAtRest slices count latest subscribers_now

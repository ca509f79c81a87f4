-- What lines mean to a book and the subscribers in it, and what they leave.
use Rattle.std.specs.Prelude.{◌≡◌, ◌≢◌, ℕ, ◌≤◌, ◌<◌, ◌⊎◌, List, [], ◌∷◌, ◌++◌, length}
use Rattle.std.specs.Prelude.{None, get_or, set, slice_get}
use Rattle.trace_lines.specs.Line.{Line}
use Rattle.demux.specs.Destinations.{start_slice}
use Rattle.demux.specs.Meant.{meaning_of}
use Rattle.demux.specs.Texts.{move_note}
use Rattle.demux.specs.Trace.{Meaning, command, packet, move, note, book_of, destination_after}
use Rattle.demux.specs.declared.decision.Whose.{Whose}
use Rattle.demux.specs.declared.decision.Whose.TheVariants.{Known, New}
use Rattle.demux.specs.declared.meant.Meant.{Meant}
use Rattle.demux.specs.declared.meant.Meant.TheVariants as meant
use Rattle.lawful_run.specs.Merging.{Histories}
use Rattle.lawful_run.specs.Trace.{meant_next}
use Rattle.subscriber.specs.Standing.{SubscriberState, StandsFor, last_of, Represents}
use Rattle.at_rest.specs.Rest.{AreAtRest, destination_or}

-- a command or packet is of one of so many slots
abbrev pub IsWithin : ℕ → Meaning → Type 0
IsWithin slots (command slot c) = slot < slots
IsWithin slots (packet slot p) = slot < slots
IsWithin slots (move slot slice text) = Unit {0}
IsWithin slots (note text) = Unit {0}

-- a packet has this moment
abbrev pub HasItsMoment : ℕ → Meaning → Type 0
HasItsMoment moment (command slot c) = Unit {0}
HasItsMoment moment (packet slot p) = p.moment ≡ moment
HasItsMoment moment (move slot slice text) = Unit {0}
HasItsMoment moment (note text) = Unit {0}

-- where a slot is bound for
abbrev pub bound_of : ℕ → List SubscriberState → ℕ → ℕ
bound_of slices subscribers slot = destination_or (start_slice slices slot) (slice_get subscribers slot)

-- a book and its subscribers are what lines leave
pub record Stand (slices : ℕ) (book : List (List ℕ)) (subscribers : List SubscriberState) (prior : List Line) :
    Type 0 where
  pub book_is : book ≡ book_of prior
  pub bounds : (slot : ℕ) → bound_of slices subscribers slot ≡ destination_after slices slot prior

-- each subscriber represents the events of its slot, and beyond there are none
pub record AreStanding (subscribers : List SubscriberState) (before : Histories) : Type 0 where
  pub each : (slot : ℕ) (none : SubscriberState) → slot < length subscribers
      → Represents (get_or subscribers slot none) slot (before slot)
  pub beyond : (slot : ℕ) → length subscribers ≤ slot → before slot ≡ []

-- a new IMSI gets a subscriber that is bound for its start slice
pub record IsAdmitted (slices slot : ℕ) (old new : List SubscriberState) : Type 0 where
  pub subscriber : SubscriberState
  pub pushed : new ≡ old ++ subscriber ∷ []
  pub represents : StandsFor subscriber slot [] 0
  pub destination : subscriber.destination ≡ start_slice slices slot
  pub last : last_of subscriber ≡ None

abbrev pub Admits : ℕ → List (List ℕ) → Whose → List SubscriberState → List SubscriberState → Type 0
Admits slices book (Known slot) old new = new ≡ old
Admits slices book (New imsi) old new = IsAdmitted slices (length book) old new

-- an instruction to move moves the subscriber, or it was bound for the slice already
pub record Stays (old new : List SubscriberState) (slot slice : ℕ) (now : Meant) : Type 0 where
  pub subscriber : SubscriberState
  pub found : subscriber ≡ get_or old slot subscriber
  pub bound : slice ≡ subscriber.destination
  pub means : now ≡ meant.Note (move_note subscriber.destination slot slice)
  pub same : new ≡ old

pub record Moves (old new : List SubscriberState) (slot slice : ℕ) (now : Meant) : Type 0 where
  pub subscriber : SubscriberState
  pub found : subscriber ≡ get_or old slot subscriber
  pub bound : slice ≢ subscriber.destination
  pub means : now ≡ meant.Move slot slice (move_note subscriber.destination slot slice)
  pub moved : new ≡ set old slot (record subscriber { destination = slice })

abbrev pub GoesOrStays : List SubscriberState → List SubscriberState → (slot slice : ℕ) → Meant → Type 0
GoesOrStays old new slot slice now = Stays old new slot slice now ⊎ Moves old new slot slice now

-- What a line does: it means what it means behind the lines before it, and leaves the book and the subscribers that
-- the lines with it leave. Subscribers stay at rest, and represent what they represented.
pub record Turned (slices : ℕ) (book : List (List ℕ)) (subscribers : List SubscriberState) (line : Line) (now : Meant)
    (book_now : List (List ℕ)) (subscribers_now : List SubscriberState) : Type 0 where
  pub many : length subscribers_now ≡ length book_now
  pub more : length subscribers ≤ length subscribers_now
  pub within : IsWithin (length subscribers_now) (meaning_of now)
  pub moment : HasItsMoment line.moment (meaning_of now)
  pub means : (prior : List Line) → Stand slices book subscribers prior
      → meaning_of now ≡ meant_next slices prior line
  pub stand : (prior : List Line) → Stand slices book subscribers prior
      → Stand slices book_now subscribers_now (prior ++ line ∷ [])
  pub keep : (before : Histories) → AreStanding subscribers before → AreStanding subscribers_now before
  pub rest : (lines latest : ℕ) → AreAtRest slices lines latest subscribers
      → AreAtRest slices lines latest subscribers_now

-- The gateway between two epochs: what it keeps, and the events that its subscribers represent.
use Rattle.std.specs.Prelude.{◌≡◌, ℕ, ◌<◌, ◌≤◌, Option, Some, None, List, []}
use Rattle.std.specs.Prelude.{length, get_or, slice_get, unwrap_or}
use Rattle.trace_lines.specs.Line.{Line}
use Rattle.demux.specs.Destinations.{start_slice}
use Rattle.demux.specs.Trace.{book_of, destination_after}
use Rattle.gate_model.specs.declared.event.Event.{Event}
use Rattle.gate_model.specs.Events.{FewEvents}
use Rattle.lawful_run.specs.Merging.{Histories}
use Rattle.subscriber.specs.Standing.{SubscriberState, Represents, HasRoom, last_of}

-- how many slices there are, the rooms of a slot's queues and of a slice's lane, the IMSIs and the subscribers by slot,
-- how many lines there were, the moment of the last one, and how many tries of lines were answered Full
pub record Rest : Type 0 where
  pub slices : ℕ
  pub room : ℕ
  pub lane : ℕ
  pub book : List (List ℕ)
  pub subscribers : List SubscriberState
  pub lines : ℕ
  pub latest : ℕ
  pub fulls : ℕ

-- before the first line
abbrev pub new_rest : (slices room lane : ℕ) → Rest
new_rest slices room lane = record {
  slices = slices;
  room = room;
  lane = lane;
  book = [];
  subscribers = [];
  lines = 0;
  latest = 0;
  fulls = 0;
}

-- it represents some events, at most as many as there were lines
pub record HasEvents (slot lines : ℕ) (subscriber : SubscriberState) : Type 0 where
  pub events : List Event
  pub represents : Represents subscriber slot events
  pub few : length events ≤ lines

-- what is kept of the subscriber at a slot: its session has that slot, it is bound for one of the slices, its last
-- packet isn't later than the last line, and it represents some events
pub record IsAtRest (slices lines latest slot : ℕ) (subscriber : SubscriberState) : Type 0 where
  pub own : subscriber.session.slot ≡ slot
  pub bound : subscriber.destination < slices
  pub late : unwrap_or (last_of subscriber) 0 ≤ latest
  pub has_events : ∥ HasEvents slot lines subscriber ∥₁

abbrev pub AreAtRest : (slices lines latest : ℕ) → List SubscriberState → Type 0
AreAtRest slices lines latest subscribers = (slot : ℕ) (none : SubscriberState) → slot < length subscribers
    → IsAtRest slices lines latest slot (get_or subscribers slot none)

-- The gateway at rest represents one list of events for each slot: that of the slot's subscriber, and no events where
-- there is none.
pub record RepresentsAll (rest : Rest) (before : Histories) : Type 0 where
  pub each : (slot : ℕ) (none : SubscriberState) → slot < length rest.subscribers
      → Represents (get_or rest.subscribers slot none) slot (before slot)
  pub beyond : (slot : ℕ) → length rest.subscribers ≤ slot → before slot ≡ []
  pub few : (slot : ℕ) → length (before slot) ≤ rest.lines

-- where a slot is bound for: by its subscriber, or its start slice
abbrev pub destination_or : ℕ → Option SubscriberState → ℕ
destination_or start None = start
destination_or start (Some subscriber) = subscriber.destination

abbrev pub bound_at : Rest → ℕ → ℕ
bound_at rest slot = destination_or (start_slice rest.slices slot) (slice_get rest.subscribers slot)

-- It is what lines leave: their book, where each slot is bound for behind them, and how many they are.
pub record IsBehind (rest : Rest) (lines : List Line) : Type 0 where
  pub book : rest.book ≡ book_of lines
  pub bounds : (slot : ℕ) → bound_at rest slot ≡ destination_after rest.slices slot lines
  pub count : rest.lines ≡ length lines

-- Where there were few lines, the counts of each subscriber may rise.
abbrev pub RestLeavesRoom : Type 0
RestLeavesRoom = (slices lines latest slot : ℕ) (subscriber : SubscriberState) → FewEvents lines
    → IsAtRest slices lines latest slot subscriber → HasRoom subscriber

-- A slot that is new to the book gets a subscriber without events.
abbrev pub NewOneIsAtRest : Type 0
NewOneIsAtRest = (slices lines latest slot : ℕ) (subscriber : SubscriberState) → Represents subscriber slot []
    → subscriber.destination < slices → last_of subscriber ≡ None → IsAtRest slices lines latest slot subscriber

-- What is kept stays true behind more lines.
abbrev pub RestGoesOn : Type 0
RestGoesOn = (slices lines latest slot : ℕ) (subscriber : SubscriberState) (more later : ℕ) → lines ≤ more
    → latest ≤ later → IsAtRest slices lines latest slot subscriber → IsAtRest slices more later slot subscriber

-- What a gateway on one thread represents: the lines that it answered, epoch by epoch.
use Rattle.std.specs.Prelude.{◌≡◌, ℕ, ◌+◌, ◌<◌, ◌≤◌, ◌==◌, if◌then◌else◌, List, []}
use Rattle.std.specs.Prelude.{◌∷◌, ◌++◌, length, IfSome}
use Rattle.trace_lines.specs.Line.{Line}
use Rattle.demux.specs.Destinations.{start_slice}
use Rattle.demux.specs.Trace.{Meaning, book_of, destination_after, meaning}
use Rattle.gate_model.specs.SlotPast.{records_after}
use Rattle.gate_model.specs.declared.event.Event.{Event}
use Rattle.report_lines.specs.declared.entry.Entry.TheVariants as entry
use Rattle.subscriber.specs.Standing as subscribers
use Rattle.lawful_run.specs.AnsweredRun.{behind_lines, brings, entry_after}
use Rattle.lawful_run.specs.Merging.{Histories}
use Rattle.lawful_run.specs.Trace.{settled_by}
use Rattle.solo_command.specs.declared.solo.Solo.{Solo}
use Rattle.solo_command.specs.Entries.{text_line}
use Rattle.solo_command.specs.Gathering.{Gathers}
use Rattle.solo_command.specs.Places.{HasAt}
use Rattle.solo_command.specs.Report.{slices}

-- What a gateway answered: how many lines, and the book behind them; where each slot is bound for, and the moment of
-- the last line; the events of each slot in whole epochs, and what the lines of the open one mean.
pub record Story : Type 0 where
  pub lines : ℕ
  pub book : List (List ℕ)
  pub bound : ℕ → ℕ
  pub latest : ℕ
  pub before : Histories
  pub made : List Meaning

-- all events of a slot
abbrev pub events_of : Story → Histories
events_of story = behind_lines story.before story.made

-- the line of the entry of a line that means this, and the story behind it
abbrev pub entry_line : Story → Meaning → List ℕ
entry_line story now = text_line (entry.Line (entry_after (story.lines + 1) (events_of story) now))

abbrev pub with_meaning : Story → Meaning → Story
with_meaning story now = record story { lines = story.lines + 1; made = story.made ++ now ∷ [] }

-- a packet of this moment too · a slot bound for another slice too · another book
abbrev pub with_packet : Story → Meaning → ℕ → Story
with_packet story now moment = record (with_meaning story now) { latest = moment }

abbrev pub with_move : Story → Meaning → ℕ → ℕ → Story
with_move story now own slice =
    record (with_meaning story now) { bound = λ slot. if own == slot then slice else story.bound slot }

abbrev pub with_book : Story → List (List ℕ) → Story
with_book story book = record story { book = book }

-- the epoch ends
abbrev pub with_end : Story → Story
with_end story = record story { before = events_of story; made = [] }

-- A subscriber represents the events of its slot, and its charging records are all taken out; it is bound for a slice,
-- and none of its packets came later than this moment.
pub record SlotStands (held : subscribers.SubscriberState) (slot bound latest : ℕ) (events : List Event) : Type 0 where
  pub stands : subscribers.StandsFor held slot events (length (records_after slot events))
  pub bound_for : held.destination ≡ bound
  pub in_order : IfSome (subscribers.last_of held) (λ last. last ≤ latest)

-- no slot beyond the book has events
abbrev pub NoneBeyond : Story → Type 0
NoneBeyond story = (slot : ℕ) → length story.book ≤ slot → events_of story slot ≡ []

-- the gateway has a subscriber for each slot of the book, and each represents its slot's events
pub record Stands (solo : Solo) (story : Story) : Type 0 where
  pub same_book : solo.book ≡ story.book
  pub places : length solo.subscribers.items ≡ length story.book
  pub each : (slot : ℕ) → slot < length story.book
      → HasAt solo.subscribers.items slot (λ held. SlotStands held slot (story.bound slot) story.latest
      (events_of story slot))
  pub none_beyond : NoneBeyond story
  pub at_home : (slot : ℕ) → length story.book ≤ slot → story.bound slot ≡ start_slice slices slot
  pub few : (slot : ℕ) → length (events_of story slot) ≤ story.lines
  pub gathered : Gathers solo.gathered (length story.book) story.before story.made

-- a slot of the book
abbrev pub IsInBook : Solo → ℕ → Type 0
IsInBook solo slot = slot < length solo.book

-- a meaning that is no event of any slot
abbrev pub BringsNothing : Meaning → Type 0
BringsNothing now = (slot : ℕ) (events : List Event) → brings slot events now ≡ []

-- the story of lines, the last of which has this moment
abbrev pub story_of : List Line → ℕ → Histories → List Meaning → Story
story_of done latest before made = record {
  lines = length done;
  book = book_of done;
  bound = λ slot. destination_after slices slot done;
  latest = latest;
  before = before;
  made = made;
}

-- what a line means behind lines
abbrev pub meant_next : List Line → Line → Meaning
meant_next done line = settled_by slices done (meaning slices done line)

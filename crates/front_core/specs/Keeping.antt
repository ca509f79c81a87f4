-- What a front keeps: of the split subscribers and their halves, and of the lines.
use Rattle.std.specs.Prelude.{◌≡◌, ℕ, ◌+◌, ◌*◌, ◌≤◌, ◌^◌, true, false, if◌then◌else◌, Option, Some, None}
use Rattle.std.specs.Prelude.{List, [], ◌++◌, length, replicate, All, unwrap_or, is_some}
use Rattle.trace_lines.specs.Line.{Line}
use Rattle.lawful_run.specs.Merging.{Histories}
use Rattle.lawful_run.specs.Trace.{meant_from}
use Rattle.subscriber.specs.Standing.{SubscriberState, last_of, Represents}
use Rattle.at_rest.specs.Rest.{Rest, AreAtRest}
use Rattle.at_rest.specs.Meant.{AreStanding, Stand}
use Rattle.worker_core.specs.Desks.{lanes_of}
use Rattle.control_half.specs.Named as control_named
use Rattle.counter_half.specs.Named as data_named
use Rattle.counter_half.specs.declared.items.DataItem.{DataItem}
use Rattle.split_record.specs.declared.front.FrontEnd.{FrontEnd}
use Rattle.split_record.specs.Rejoined.{AreAccepted, commands_sent, start_of}
use Rattle.front_core.specs.Kept.{LinesKept}
use Rattle.front_core.specs.declared.lot.Lot.{Lot}
use Rattle.front_core.specs.declared.lot.Lot.TheVariants.{Moved, Split}
use Rattle.front_core.specs.declared.halves.Halves.{Halves}
use Rattle.front_core.specs.declared.taken.Taken.{Taken}
use Rattle.front_core.specs.Entries.{opens_of, lines_of}
use Rattle.front_core.specs.Steps.{AreOneSplit}
use Rattle.lane_core.specs.Ends.{sender_lane}
use Rattle.front_core.specs.Views.{both, View, view_at, parts_of, load_of, lane_rooms}

-- Of a split subscriber, behind so many lines, the last at this moment: its halves are those that are admitted, what
-- was accepted is what its front end counted, and that is few.
pub record SplitKeeps (slot lines latest : ℕ) (end : FrontEnd) (view : View) : Type 0 where
  pub own : end.slot ≡ slot
  pub control_admitted : is_some view.control ≡ true
  pub data_admitted : is_some view.data_half ≡ true
  pub names : (half : control_named.Named) (counter : data_named.Named) → view.control ≡ Some half
      → view.data_half ≡ Some counter → AreOneSplit end half counter
  pub accepted : AreAccepted end view.accepted
  pub late : All (λ (i : DataItem). i.packet.moment ≤ latest) view.accepted
  pub late_start : unwrap_or (last_of (start_of end)) 0 ≤ latest
  pub few : length (commands_sent end) + length view.accepted ≤ lines
  pub hops_few : end.hop ≤ lines

-- of one that isn't
pub record RestsHere (view : View) : Type 0 where
  pub no_control : view.control ≡ None
  pub no_data : view.data_half ≡ None
  pub no_parks : view.parks ≡ false

abbrev pub LotKeeps : ℕ → ℕ → ℕ → Option Lot → View → Type 0
LotKeeps slot lines latest None view = RestsHere view
LotKeeps slot lines latest (Some Moved) view = RestsHere view
LotKeeps slot lines latest (Some (Split end)) view = SplitKeeps slot lines latest end view

abbrev pub ViewKeeps : ℕ → ℕ → ℕ → View → Type 0
ViewKeeps slot lines latest view = LotKeeps slot lines latest view.lot view

-- so many slices and rooms, so many slots in the book; behind so many lines of the epoch, at which sides were asked at
-- most so often
pub record HalvesKeep (slices room lane slots lines latest asks : ℕ) (halves : Halves) : Type 0 where
  pub views : (slot : ℕ) → ViewKeeps slot lines latest (view_at halves slot)
  pub within : (slot : ℕ) → slots ≤ slot → (view_at halves slot).lot ≡ None
  pub lots_few : length halves.lots.items ≤ slots
  pub controls_are : length (lanes_of ((both halves).control_desks)) ≡ slices
  pub lanes_are : lane_rooms halves ≡ replicate slices lane
  pub queues_are : (both halves).queue_room ≡ room
  pub room_is : halves.room ≡ room
  pub rooms : (slot : ℕ) (end : FrontEnd) → (view_at halves slot).lot ≡ Some (Split end)
      → (sender_lane end.lane).room ≡ room
  pub control_asked : (both halves).control_asked ≤ asks
  pub asked : (load_of halves).asked ≤ asks

-- the subscriber of a slot as it was at the epoch's start, where it is split
abbrev pub start_in : Option Lot → Option SubscriberState
start_in None = None
start_in (Some Moved) = None
start_in (Some (Split end)) = Some end.started.value

abbrev pub starts_of : Halves → ℕ → Option SubscriberState
starts_of halves slot = start_in (view_at halves slot).lot

-- the events of those that aren't
abbrev pub unless_split : (ℕ → Option SubscriberState) → Histories → Histories
unless_split starts before slot = if is_some (starts slot) then [] else before slot

-- each subscriber represents the events of its slot; in place of one that is split stands one without events
pub record AreStarts (subscribers : List SubscriberState) (starts : ℕ → Option SubscriberState) (before : Histories) :
    Type 0 where
  pub standing : AreStanding subscribers (unless_split starts before)
  pub split : (slot : ℕ) (start : SubscriberState) → starts slot ≡ Some start → Represents start slot (before slot)

-- all that a front keeps since it was opened
pub record FrontKeeps (opened : Rest) (slices lane lines latest : ℕ) (book : List (List ℕ))
    (subscribers : List SubscriberState) (halves : Halves) (entries : List Taken) : Type 0 where
  pub slices_are : slices ≡ opened.slices
  pub lane_is : lane ≡ opened.lane
  pub slices_few : (1 ≤ slices) × (slices ≤ 64)
  pub roomy : (1 ≤ opened.room) × (opened.room ≤ 256)
  pub lane_roomy : (1 ≤ lane) × (lane ≤ 16384)
  pub as_many : length subscribers ≡ length book
  pub counted : lines ≡ opened.lines + length entries
  pub few : lines ≤ 2 ^ 39
  pub at_rest : AreAtRest slices lines latest subscribers
  -- it was opened behind some lines, with subscribers that represent some events
  pub first : List Line
  pub behind : Stand slices opened.book opened.subscribers first
  pub history : Histories
  pub represents : AreStanding opened.subscribers history
  pub events_few : (slot : ℕ) → length (history slot) ≤ opened.lines
  pub stand : (prior : List Line) → Stand slices opened.book opened.subscribers prior
      → Stand slices book subscribers (prior ++ lines_of entries)
  pub starts : (before : Histories) → AreStanding opened.subscribers before
      → AreStarts subscribers (starts_of halves) before
  pub halves_keep : HalvesKeep slices opened.room lane (length subscribers) (length entries) latest
      (2 * length entries) halves
  pub lines_keep : (prior : List Line) → Stand slices opened.book opened.subscribers prior
      → LinesKept slices opened.room lane (opened.lines + 1) (meant_from slices prior (lines_of entries))
      (opens_of (opened.lines + 1) entries) (parts_of halves) (load_of halves)

-- Parts of a front that clauses speak of.
use Rattle.std.specs.Prelude.{◌≡◌, ℕ, zero, suc, List, ◌∷◌, [], ◌++◌}
use Rattle.worker_core.specs.Workers.{Lanes}
use Rattle.worker_core.specs.Desks.{lanes_of}
use Rattle.trace_lines.specs.Line.{Line}
use Rattle.demux.specs.Meant.{meaning_of}
use Rattle.demux.specs.declared.meant.Meant.{Meant}
use Rattle.subscriber.specs.Standing.{SubscriberState}
use Rattle.at_rest.specs.Meant.{Turned}
use Rattle.at_rest.specs.Rest.{Rest}
use Rattle.front_core.specs.declared.halves.Halves.{Halves}
use Rattle.front_core.specs.Steps.{Pumps}
use Rattle.front_core.specs.Views.{both}
use Rattle.front_core.specs.declared.front.Front.{Front}
use Rattle.front_core.specs.declared.taken.Taken.{Taken}
use Rattle.front_core.specs.declared.took.Took.{Took}
use Rattle.front_core.specs.Entries.{lines_of, took_of}
use Rattle.front_core.specs.Keeping.{FrontKeeps}
use Rattle.front_core.specs.Taking.{Takes}

-- the gateway that it was opened with
abbrev pub opened_of : Front → Rest
opened_of front = front.opened.value

-- no line of it ran out of memory: all is known that a front keeps
abbrev pub IsWhole : Front → Type 0
IsWhole front = FrontKeeps front.opened.value front.slices front.lane front.lines front.latest front.book
    front.subscribers.items front.halves front.entries.items

-- the lines that it took since, with what is told of each until the epoch closes
abbrev pub entries_in : Front → List Taken
entries_in front = front.entries.items

abbrev pub taken_by : Front → List Line
taken_by front = lines_of front.entries.items

abbrev pub lines_in : Front → ℕ
lines_in front = front.lines

abbrev pub latest_in : Front → ℕ
latest_in front = front.latest

abbrev pub fulls_in : Front → ℕ
fulls_in front = front.halves.fulls

-- the slots whose control half may be on its way
abbrev pub moving_in : Front → List ℕ
moving_in front = front.halves.sides.moving.items

-- the lanes of the desks of both sides, by slice
abbrev pub control_lanes : Front → List Lanes
control_lanes front = lanes_of (both front.halves).control_desks

abbrev pub data_lanes : Front → List Lanes
data_lanes front = lanes_of (both front.halves).desks

-- the numbers of so many slices
abbrev pub first_slices : ℕ → List ℕ
first_slices zero = []
first_slices (suc n) = first_slices n ++ n ∷ []

-- Both sides of a front were pumped.
abbrev pub PumpsFront : Front → Front → Type 0
PumpsFront old new = Pumps old.halves new.halves

-- What a line does: behind a pump it is decided, which may bring a subscriber or bind one for another slice, and what
-- it means is done, with so many tries. Its entry is left open as the answer says.
pub record TakesLine (line : Line) (tries : ℕ) (took : Took) (old new : Front) : Type 0 where
  pub taken : Taken
  pub entries : entries_in new ≡ entries_in old ++ taken ∷ []
  pub line_is : taken.line.value ≡ line
  pub took_is : took ≡ took_of taken.open
  pub pumped : Halves
  pub pumps : Pumps old.halves pumped
  pub now : Meant
  pub turned : List SubscriberState
  pub turns : Turned old.slices old.book old.subscribers.items line now new.book turned
  pub takes : Takes new.lines tries (meaning_of now) taken.open turned new.subscribers.items pumped new.halves

-- The same where nothing is pumped before.
pub record TakesAtOnce (line : Line) (tries : ℕ) (took : Took) (old new : Front) : Type 0 where
  pub taken : Taken
  pub entries : entries_in new ≡ entries_in old ++ taken ∷ []
  pub line_is : taken.line.value ≡ line
  pub took_is : took ≡ took_of taken.open
  pub now : Meant
  pub turned : List SubscriberState
  pub turns : Turned old.slices old.book old.subscribers.items line now new.book turned
  pub takes : Takes new.lines tries (meaning_of now) taken.open turned new.subscribers.items old.halves new.halves

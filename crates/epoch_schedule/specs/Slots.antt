-- A slot in an epoch, as the schedule sees it: numbers alone. All counts are from the epoch's start.
use Rattle.std.specs.Prelude.{ℕ, Bool, true, false, Option, None, List, []}
use Rattle.std.specs.Prelude.{unwrap_or}
use Rattle.pc_base.specs.declared.packet.Place.{Place}

-- Where a half of a slot is: not yet made; at the front; on a slice; on a slice that it shall leave, a control half
-- once so many commands are done; or on its way home.
pub data Standing : Type 0 where
  absent : Standing
  front : Standing
  placed : (slice : ℕ) → Standing
  recalled : (slice until : ℕ) → Standing
  leaving : Standing

abbrev pub is_placed : Standing → Bool
is_placed absent = false
is_placed front = false
is_placed (placed slice) = true
is_placed (recalled slice until) = false
is_placed leaving = false

abbrev pub is_absent : Standing → Bool
is_absent absent = true
is_absent front = false
is_absent (placed slice) = false
is_absent (recalled slice until) = false
is_absent leaving = false

-- an accepted command: the moves of its slot before it, and how many packets it waits for
pub record CommandTags : Type 0 where
  pub hop : ℕ
  pub floor : ℕ

-- a packet that was handled: how many commands it met, and where
pub record Met : Type 0 where
  pub commands : ℕ
  pub place : Place

pub record SlotNow : Type 0 where
  -- what the front knows: the slot's moves, where the last one sends it, what was accepted, and what was accepted
  -- before the last move. Of a packet its floor stands, the number of commands that it waits for
  pub hop : ℕ
  pub bound : Option ℕ
  pub commands : List CommandTags
  pub packets : List ℕ
  pub commands_before : ℕ
  pub packets_before : ℕ
  -- the control half: the moves that it knows of, how many commands it took and applied, a batch of so many versions
  -- that isn't sent, and those that are sent and not yet taken
  pub control : Standing
  pub arrived : ℕ
  pub taken : ℕ
  pub applied : ℕ
  pub unsent : Option ℕ
  pub sent : List ℕ
  -- the data half: the batch that it keeps, how many versions it learnt, what its packets met, and how many packets
  -- wait at the front
  pub data_half : Standing
  pub batch : Option ℕ
  pub learnt : ℕ
  pub met : List Met
  pub queued : ℕ

-- a slot without a line
abbrev pub fresh_slot : SlotNow
fresh_slot = record {
  hop = 0;
  bound = None;
  commands = [];
  packets = [];
  commands_before = 0;
  packets_before = 0;
  control = absent;
  arrived = 0;
  taken = 0;
  applied = 0;
  unsent = None;
  sent = [];
  data_half = absent;
  batch = None;
  learnt = 0;
  met = [];
  queued = 0;
}

-- where a slot is bound for, by its last move or by where it was bound for as the epoch began
abbrev pub destination : (ℕ → ℕ) → ℕ → SlotNow → ℕ
destination bounds s slot = unwrap_or slot.bound (bounds s)

-- What a line changes of what is kept.
use Rattle.std.specs.Prelude.{◌≡◌, ◌≢◌, ℕ, ◌+◌, ◌*◌, ◌≤◌, ◌⊎◌, Bool, true, false, Option, Some, None}
use Rattle.std.specs.Prelude.{List, [], ◌∷◌, ◌++◌, length}
use Rattle.std.specs.Option.{option_map}
use Rattle.control_steps.specs.declared.command.CommandKind.{CommandKind}
use Rattle.demux.specs.Trace.{Meaning, command, packet, move, note}
use Rattle.demux.specs.declared.packet.LentPacket.{LentPacket}
use Rattle.report_lines.specs.declared.entry.LineEntry.{LineEntry}
use Rattle.report_lines.specs.declared.entry.LineEntry.TheVariants as line
use Rattle.lawful_run.specs.Opened.{open_command, open_packet}
use Rattle.front_core.specs.Kept.{Ends, Part, Load, LinesKept, new_ends, with_command, with_packet, moved_on}

-- pumping a side may end that a slot's packets are parked, and never begins it
pub record Eases (old new : Part) : Type 0 where
  pub own : new.own ≡ old.own
  pub moved : new.moved ≡ old.moved
  pub parks : new.parks ≡ true → old.parks ≡ true

-- that of each slot but one
abbrev pub EaseOthers : ℕ → (ℕ → Part) → (ℕ → Part) → Type 0
EaseOthers slot old new = (other : ℕ) → other ≢ slot → Eases (old other) (new other)

-- a split subscriber's ends, or those of one that is split now
abbrev pub IsAdmitted : Option Ends → Ends → Type 0
IsAdmitted None ends = (first_command : ℕ) × (first_packet : ℕ) × (ends ≡ new_ends first_command first_packet)
IsAdmitted (Some own) ends = ends ≡ own

-- how many subscribers more are split
abbrev pub newly : Option Ends → ℕ
newly None = 1
newly (Some own) = 0

-- packets of the slot were parked, or its subscriber is split now and had moved
abbrev pub MayPark : Part → Type 0
MayPark part = (part.parks ≡ true) ⊎ ((part.own ≡ None) × (part.moved ≡ true))

-- the entry of a note or a move
abbrev pub noted : ℕ → List ℕ → LineEntry
noted n text = line.N (record { line = n; note = text })

module _ (slices room lane first : ℕ) (made : List Meaning) (entries : List LineEntry) where
  -- the line of this number
  abbrev pub next : ℕ
  next = first + length made

  -- what is kept with a line more
  abbrev pub KeptWith : Meaning → LineEntry → (ℕ → Part) → Load → Type 0
  KeptWith now entry parts load =
      LinesKept slices room lane first (made ++ now ∷ []) (entries ++ entry ∷ []) parts load

-- a note changes nothing
abbrev pub NotedIsKept : Type 0
NotedIsKept = (slices room lane first : ℕ) (made : List Meaning) (entries : List LineEntry)
    (old new : ℕ → Part) (load : Load) (text : List ℕ)
    → LinesKept slices room lane first made entries old load → ((slot : ℕ) → Eases (old slot) (new slot))
    → KeptWith slices room lane first made entries (note text) (noted (first + length made) text) new load

-- a move: what comes of the slot from now on waits for what was accepted before
pub record Goes (slot : ℕ) (old new : ℕ → Part) (load after : Load) : Type 0 where
  pub others : EaseOthers slot old new
  pub own : (new slot).own ≡ option_map moved_on (old slot).own
  pub moved : (new slot).moved ≡ true
  pub accepted : after.accepted ≡ load.accepted
  pub admitted : after.admitted ≡ load.admitted
  pub asked : after.asked ≤ load.asked + 1

abbrev pub MovedIsKept : Type 0
MovedIsKept = (slices room lane first : ℕ) (made : List Meaning) (entries : List LineEntry)
    (old new : ℕ → Part) (load after : Load) (slot slice : ℕ) (text : List ℕ)
    → LinesKept slices room lane first made entries old load → Goes slot old new load after
    → KeptWith slices room lane first made entries (move slot slice text) (noted (first + length made) text) new after

-- a command: it is accepted, or as many were as a queue has room for
pub record Commands (room slot : ℕ) (c : CommandKind) (taken : Bool) (old new : ℕ → Part) (load after : Load) :
    Type 0 where
  pub others : EaseOthers slot old new
  pub ends : Ends
  pub admitted_as : IsAdmitted (old slot).own ends
  pub accepted_as : taken ≡ true → (new slot).own ≡ Some (with_command c ends)
  pub refused_as : taken ≡ false → ((new slot).own ≡ Some ends) × (room ≤ length ends.commands)
  pub moved : (new slot).moved ≡ (old slot).moved
  pub parks : (new slot).parks ≡ true → MayPark (old slot)
  pub accepted : after.accepted ≡ load.accepted
  pub admitted : after.admitted ≡ load.admitted + newly (old slot).own
  pub asked : after.asked ≤ load.asked + newly (old slot).own

abbrev pub CommandIsKept : Type 0
CommandIsKept = (slices room lane first : ℕ) (made : List Meaning) (entries : List LineEntry)
    (old new : ℕ → Part) (load after : Load) (slot : ℕ) (c : CommandKind) (taken : Bool)
    → LinesKept slices room lane first made entries old load → Commands room slot c taken old new load after
    → KeptWith slices room lane first made entries (command slot c) (open_command (first + length made) slot taken)
    new after

-- a slice's lane was full: it has room for no more than were sent there, which are at most twice what was asked for,
-- but for an order of each packet and each split subscriber
pub record LaneWasFull (lane : ℕ) (load : Load) : Type 0 where
  pub orders : ℕ
  pub full : lane ≤ orders
  pub few : orders + load.accepted + load.admitted ≤ 2 * load.asked

-- a packet: it is accepted, parked where its slot's are; or its lane was full, or its queue was
pub record Packets (room lane slot : ℕ) (p : LentPacket) (taken parked : Bool) (old new : ℕ → Part)
    (load after : Load) : Type 0 where
  pub others : EaseOthers slot old new
  pub ends : Ends
  pub admitted_as : IsAdmitted (old slot).own ends
  pub accepted_as : taken ≡ true → ((new slot).own ≡ Some (with_packet p ends))
      × (parked ≡ true → MayPark (old slot)) × ((new slot).parks ≡ true → parked ≡ true)
      × (after.accepted ≡ load.accepted + 1) × (after.asked ≤ load.asked + newly (old slot).own + 1)
  pub refused_as : taken ≡ false → ((new slot).own ≡ Some ends) × ((new slot).parks ≡ true → MayPark (old slot))
      × (after.accepted ≡ load.accepted) × (after.asked ≤ load.asked + newly (old slot).own)
      × (LaneWasFull lane after ⊎ (MayPark (old slot) × (room ≤ length ends.packets)))
  pub moved : (new slot).moved ≡ (old slot).moved
  pub admitted : after.admitted ≡ load.admitted + newly (old slot).own

abbrev pub PacketIsKept : Type 0
PacketIsKept = (slices room lane first : ℕ) (made : List Meaning) (entries : List LineEntry)
    (old new : ℕ → Part) (load after : Load) (slot : ℕ) (p : LentPacket) (taken parked : Bool)
    → LinesKept slices room lane first made entries old load
    → Packets room lane slot p taken parked old new load after
    → KeptWith slices room lane first made entries (packet slot p)
    (open_packet (first + length made) slot taken parked) new after

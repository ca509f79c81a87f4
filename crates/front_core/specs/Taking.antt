-- What a line does to the subscribers and the halves, and its open entry.
use Rattle.std.specs.Prelude.{◌≡◌, ℕ, ◌+◌, ◌*◌, ◌≤◌, ◌<◌, ◌^◌, ◌⊎◌, Bool, true, false, List, length, get_or, set}
use Rattle.control_steps.specs.declared.command.CommandKind.{CommandKind}
use Rattle.demux.specs.Packets.{numbered}
use Rattle.demux.specs.Trace.{Meaning, command, packet, move, note}
use Rattle.demux.specs.declared.packet.LentPacket.{LentPacket}
use Rattle.subscriber.specs.Standing.{SubscriberState}
use Rattle.at_rest.specs.Rest.{AreAtRest}
use Rattle.front_core.specs.declared.halves.Halves.{Halves}
use Rattle.front_core.specs.Steps.{Settles, SlotMoves, IsReady, Commanded, CommandsFull, Received, PacketsFull}
use Rattle.front_core.specs.Tries.{RisesBy, TriedOften, lane_fulls, packets_refused}
use Rattle.front_core.specs.declared.taken.OpenEntry.{OpenEntry}
use Rattle.front_core.specs.declared.taken.OpenEntry.TheVariants as entry
use Rattle.front_core.specs.declared.took.Took.{Took}
use Rattle.front_core.specs.declared.took.Took.TheVariants as answer
use Rattle.front_core.specs.Keeping.{HalvesKeep}

-- a line may be taken: a command or packet of one of the subscribers, or a move to one of the slices
abbrev pub IsTo : (slices slots : ℕ) → Meaning → Type 0
IsTo slices slots (command slot c) = slot < slots
IsTo slices slots (packet slot p) = slot < slots
IsTo slices slots (move slot slice text) = (slot < slots) × (slice < slices)
IsTo slices slots (note text) = Unit {0}

pub record MayTake (now : Meaning) (subscribers : List SubscriberState) (halves : Halves) : Type 0 where
  pub slices : ℕ
  pub room : ℕ
  pub lane : ℕ
  pub lines : ℕ
  pub all : ℕ
  pub latest : ℕ
  pub few : (lines ≤ all) × (all ≤ 2 ^ 39)
  pub roomy : (1 ≤ room) × (room ≤ 256)
  pub is_to : IsTo slices (length subscribers) now
  pub rest : AreAtRest slices all latest subscribers
  pub keeps : HalvesKeep slices room lane (length subscribers) lines latest (2 * lines) halves

-- the lots reach no further than this slot, or than they did
abbrev pub GrowsTo : ℕ → Halves → Halves → Type 0
GrowsTo slot old new = (most : ℕ) → slot < most → length old.lots.items ≤ most → length new.lots.items ≤ most

-- the subscriber of a slot is split, if it wasn't
pub record MakesReady (slot : ℕ) (old new : List SubscriberState) (halves now : Halves) : Type 0 where
  pub low : slot < length old
  pub was : SubscriberState
  pub is : SubscriberState
  pub found : was ≡ get_or old slot was
  pub changed : new ≡ set old slot is
  pub ready : IsReady slot was is halves now
  pub lots : GrowsTo slot halves now
  pub fulls : now.fulls ≡ halves.fulls

-- a command was sent, behind tries that were refused; or each of them was, as the count of its lane tells
pub record Accepts (slot line : ℕ) (c : CommandKind) (open_ : OpenEntry) (old new : Halves) : Type 0 where
  pub is : open_ ≡ entry.Command slot
  pub mid : Halves
  pub settles : Settles old mid
  pub sent : Commanded slot line c mid new

pub record Refuses (slot tries : ℕ) (open_ : OpenEntry) (old new : Halves) : Type 0 where
  pub is : open_ ≡ entry.Full slot false
  pub settles : Settles old new
  pub full : CommandsFull slot new
  pub rises : RisesBy tries old.fulls new.fulls
  pub lane_rises : RisesBy tries (lane_fulls slot old) (lane_fulls slot new)

pub record TakesCommand (slot line tries : ℕ) (c : CommandKind) (open_ : OpenEntry) (subs now : List SubscriberState)
    (old new : Halves) : Type 0 where
  pub mid : Halves
  pub ready : MakesReady slot subs now old mid
  pub came : Accepts slot line c open_ mid new ⊎ Refuses slot tries open_ mid new

-- the same of a packet, by the count of the side of data halves; behind each refusal but the last both sides were
-- pumped
pub record AcceptsPacket (slot line tries : ℕ) (p : LentPacket) (open_ : OpenEntry) (old new : Halves) : Type 0 where
  pub parked : Bool
  pub is : open_ ≡ entry.Packet slot parked
  pub mid : Halves
  pub settles : Settles old mid
  pub received : Received slot line (numbered 0 p) parked mid new
  pub before : ℕ
  pub fewer : before < tries
  pub often : TriedOften slot before old mid

pub record RefusesPacket (slot tries : ℕ) (open_ : OpenEntry) (old new : Halves) : Type 0 where
  pub is : open_ ≡ entry.Full slot true
  pub settles : Settles old new
  pub full : PacketsFull slot old new
  pub rises : RisesBy tries old.fulls new.fulls
  pub side_rises : RisesBy tries (packets_refused old) (packets_refused new)
  pub before : ℕ
  pub last : Halves
  pub all : before + 1 ≡ tries
  pub often : TriedOften slot before old last
  pub still : Settles last new
  pub full_last : PacketsFull slot last new

pub record TakesPacket (slot line tries : ℕ) (p : LentPacket) (open_ : OpenEntry) (subs now : List SubscriberState)
    (old new : Halves) : Type 0 where
  pub mid : Halves
  pub ready : MakesReady slot subs now old mid
  pub came : AcceptsPacket slot line tries p open_ mid new ⊎ RefusesPacket slot tries open_ mid new

-- a slot moves to a slice
pub record TakesMove (slot slice : ℕ) (text : List ℕ) (open_ : OpenEntry) (subs now : List SubscriberState)
    (old new : Halves) : Type 0 where
  pub is : open_ ≡ entry.Note text
  pub same : now ≡ subs
  pub moves : SlotMoves slot slice old new
  pub lots : GrowsTo slot old new

-- a note changes nothing
pub record TakesNote (text : List ℕ) (open_ : OpenEntry) (subs now : List SubscriberState)
    (old new : Halves) : Type 0 where
  pub is : open_ ≡ entry.Note text
  pub same : now ≡ subs
  pub still : Settles old new

-- what the line of this number does, with so many tries
abbrev pub Takes : (line tries : ℕ) → Meaning → OpenEntry → (subs now : List SubscriberState) → Halves → Halves → Type 0
Takes line tries (command slot c) open_ subs now old new = TakesCommand slot line tries c open_ subs now old new
Takes line tries (packet slot p) open_ subs now old new = TakesPacket slot line tries p open_ subs now old new
Takes line tries (move slot slice text) open_ subs now old new = TakesMove slot slice text open_ subs now old new
Takes line tries (note text) open_ subs now old new = TakesNote text open_ subs now old new

-- What may become of a line that means this: a note or an instruction to move is answered, and nothing else is; a
-- command isn't parked.
abbrev pub MayBecome : Meaning → Took → Type 0
MayBecome (command slot c) took = (took ≡ answer.Accepted false) ⊎ (took ≡ answer.Full)
MayBecome (packet slot p) took = ((parked : Bool) × (took ≡ answer.Accepted parked)) ⊎ (took ≡ answer.Full)
MayBecome (move slot slice text) took = took ≡ answer.Answered
MayBecome (note text) took = took ≡ answer.Answered

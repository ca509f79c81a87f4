-- What lines mean that are kept, with the octets of packets behind one another.
use Rattle.std.specs.Prelude.{◌≡◌, ℕ, ◌≤◌, List, ◌++◌, length, slice_range}
use Rattle.ipv4_packet.specs.Packet.{IsPacket}
use Rattle.demux.specs.Trace.{Meaning, command, packet, move, note}
use Rattle.demux.specs.declared.packet.LentPacket.{LentPacket}
use Rattle.slot_execution.specs.declared.kept.KeptMeaning.{KeptMeaning}
use Rattle.slot_execution.specs.declared.kept.KeptMeaning.TheVariants as kept
use Rattle.slot_execution.specs.declared.kept.KeptPacket.{KeptPacket}

-- a packet among the octets of all, and what a line means with them
abbrev pub packet_in : List ℕ → KeptPacket → LentPacket
packet_in octets p = record { moment = p.moment; way = p.way; ip = slice_range octets p.from p.to }

abbrev pub meaning_in : List ℕ → KeptMeaning → Meaning
meaning_in octets (kept.Command slot c) = command slot c.value
meaning_in octets (kept.Packet slot p) = packet slot (packet_in octets p)
meaning_in octets (kept.Move slot slice text) = move slot slice text
meaning_in octets (kept.Note text) = note text

-- a packet stands among them
pub record IsPlacedPacket (octets : List ℕ) (p : KeptPacket) : Type 0 where
  pub ordered : p.from ≤ p.to
  pub within : p.to ≤ length octets
  pub whole : IsPacket (slice_range octets p.from p.to)

abbrev pub IsPlaced : List ℕ → KeptMeaning → Type 0
IsPlaced octets (kept.Command slot c) = Unit {0}
IsPlaced octets (kept.Packet slot p) = IsPlacedPacket octets p
IsPlaced octets (kept.Move slot slice text) = Unit {0}
IsPlaced octets (kept.Note text) = Unit {0}

-- a packet is put behind the octets before
pub record Places (old new : List ℕ) (p : LentPacket) (placed : KeptPacket) : Type 0 where
  pub grown : new ≡ old ++ p.ip
  pub is : packet_in new placed ≡ p
  pub stands : IsPlacedPacket new placed

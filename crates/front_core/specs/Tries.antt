-- What the tries of a command or packet came to.
use Rattle.std.specs.Prelude.{◌≡◌, ℕ, zero, suc, ◌+◌, ◌<◌, false}
use Rattle.lane_core.specs.Ends.{raised}
use Rattle.control_steps.specs.declared.command.CommandKind.{CommandKind}
use Rattle.pc_base.specs.declared.packet.Packet.{Packet}
use Rattle.migration.specs.DataWords.{refused_of}
use Rattle.front_core.specs.declared.halves.Halves.{Halves}
use Rattle.front_core.specs.declared.tried.Given.{Given}
use Rattle.front_core.specs.declared.tried.Given.TheVariants as given
use Rattle.front_core.specs.declared.tried.Tried.{Tried}
use Rattle.front_core.specs.declared.tried.Tried.TheVariants as tried
use Rattle.front_core.specs.Lots.{fulls_at, lot_of}
use Rattle.front_core.specs.Steps.{Settles, Commanded, CommandsFull, Received, PacketsFull, IsSamePacket, Pumps}

-- a count behind so many answers more, each of which raised it by one, and which stays at the last u64
abbrev pub raised_by : ℕ → ℕ → ℕ
raised_by zero count = count
raised_by (suc many) count = raised (raised_by many count)

-- a count rose by so many answers, and by nothing else
abbrev pub RisesBy : ℕ → ℕ → ℕ → Type 0
RisesBy many old new = new ≡ raised_by many old

-- how often the lane of a slot's commands was full, and how often a packet found its lane or queue full
abbrev pub lane_fulls : ℕ → Halves → ℕ
lane_fulls slot halves = fulls_at (lot_of halves.lots.items slot)

abbrev pub packets_refused : Halves → ℕ
packets_refused halves = refused_of halves.sides.datas

-- one try of a packet, which comes back as it was, but for its number
abbrev pub TriesPacket : ℕ → ℕ → Packet → Tried → Halves → Halves → Type 0
TriesPacket slot line packet (tried.Accepted parked) old new = Received slot line packet parked old new
TriesPacket slot line packet (tried.Full back) old new = Settles old new
    × IsSamePacket back packet × PacketsFull slot old new × RisesBy 1 old.fulls new.fulls
    × RisesBy 1 (packets_refused old) (packets_refused new)
TriesPacket slot line packet tried.NoMemory old new = Unit {0}

-- so many tries of a slot's packet were refused, and behind each of them both sides were pumped
abbrev pub TriedOften : (slot tries : ℕ) → Halves → Halves → Type 0
TriedOften slot zero old new = new ≡ old
TriedOften slot (suc n) old new = (before : Halves) × (refused : Halves) × TriedOften slot n old before
    × Settles before refused × PacketsFull slot before refused × Pumps refused new

-- all tries of a command, and of a packet: a refusal is as many answers of the lane or queue
abbrev pub GivesCommand : (slot line : ℕ) → CommandKind → (tries : ℕ) → Given → Halves → Halves → Type 0
GivesCommand slot line c tries (given.Accepted parked) old new =
    (mid : Halves) × Settles old mid × Commanded slot line c mid new × (parked ≡ false)
GivesCommand slot line c tries given.Full old new =
    Settles old new × CommandsFull slot new × RisesBy tries old.fulls new.fulls
    × RisesBy tries (lane_fulls slot old) (lane_fulls slot new)

abbrev pub GivesPacket : (slot line : ℕ) → Packet → (tries : ℕ) → Given → Halves → Halves → Type 0
GivesPacket slot line packet tries (given.Accepted parked) old new =
    (mid : Halves) × Settles old mid × Received slot line packet parked mid new
    × (n : ℕ) × (n < tries) × TriedOften slot n old mid
GivesPacket slot line packet tries given.Full old new =
    Settles old new × PacketsFull slot old new × RisesBy tries old.fulls new.fulls
    × RisesBy tries (packets_refused old) (packets_refused new)
    × (n : ℕ) × (mid : Halves) × (n + 1 ≡ tries) × TriedOften slot n old mid × Settles mid new
    × PacketsFull slot mid new

-- how the count of full answers rises with one try of a packet, and with all tries of a command or packet: by one for
-- each that was refused, of which an accepted one has fewer than there are tries
abbrev pub CountsTry : Tried → ℕ → ℕ → Type 0
CountsTry (tried.Accepted parked) old new = new ≡ old
CountsTry (tried.Full back) old new = RisesBy 1 old new
CountsTry tried.NoMemory old new = new ≡ old

abbrev pub CountsTries : (tries : ℕ) → Given → ℕ → ℕ → Type 0
CountsTries tries (given.Accepted parked) old new = (failed : ℕ) × (failed < tries) × RisesBy failed old new
CountsTries tries given.Full old new = RisesBy tries old new

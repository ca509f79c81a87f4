-- What is charged to pieces may be posted to them: each active bearer has a piece, no others have one, and counts are
-- low. So it is of counters that were made of parts, of which no history is known.
use Rattle.std.specs.Prelude.{ℕ, ◌+◌, ◌-◌, ◌^◌, ◌≤◌, ◌↔◌, List, length, map, IsTrue}
use Rattle.std.specs.List.{Contains, AllByRecursion}
use Rattle.pc_base.specs.declared.packet.Packet.{Packet}
use Rattle.charging_book.specs.declared.records.Piece.{Piece}
use Rattle.charging_book.specs.Accounts.{IsBounded}
use Rattle.charging_book.specs.Happenings.{Happening}
use Rattle.charging_book.specs.Parts.{are_parts}
use Rattle.charging_book.specs.Posted.{pieces_after, AllMayBePosted}
use Rattle.bearer_state.specs.Version.{VersionState, IsVersion}
use Rattle.packet_steps.specs.Change.{has_life}
use Rattle.packet_steps.specs.Parts.{pieces_fit}
use Rattle.packet_steps.specs.Standing.{CountersState}
use Rattle.packet_steps.specs.Running.{planned, charged_by, brought}
use Rattle.subscriber.specs.Alike.{life_of}

-- the lives that have a piece are those of the active bearers
abbrev pub AreOpen : VersionState → List Piece → Type 0
AreOpen version pieces =
    (life : ℕ) → Contains (map life_of pieces) life ↔ IsTrue (has_life version.bearers life)

-- no count of the pieces is above a number
abbrev pub AreWithin : ℕ → List Piece → Type 0
AreWithin most pieces = AllByRecursion (λ (piece : Piece). IsBounded most piece.counts) pieces

-- these may be posted one after another, and leave the pieces of a version, whose counts rose by one at each at most
pub record MayBeCharged (version : VersionState) (most : ℕ) (pieces : List Piece)
    (happened : List Happening) : Type 0 where
  pub may : AllMayBePosted pieces happened
  pub open_then : AreOpen version (pieces_after pieces happened)
  pub within : AreWithin (most + length happened) (pieces_after pieces happened)

-- what a packet charges
abbrev pub PacketsMayBeCharged : Type 0
PacketsMayBeCharged = (version : VersionState) (counters : CountersState) (pieces : List Piece) (most : ℕ)
    (packet : Packet) → AreOpen version pieces → AreWithin most pieces → most + 1 ≤ 2 ^ 61 - 20
    → MayBeCharged version most pieces (charged_by (planned version counters packet) packet.moment)

-- what a version charges, after which its bearers have the pieces
abbrev pub VersionsMayBeCharged : Type 0
VersionsMayBeCharged = (before after : VersionState) (counters : CountersState) (pieces : List Piece) (most : ℕ)
    → IsVersion before → IsVersion after → AreOpen before pieces → AreWithin most pieces
    → most + length (brought before after counters).charged ≤ 2 ^ 61 - 20
    → MayBeCharged after most pieces (brought before after counters).charged

-- parts that fit a version have such pieces
abbrev pub FittingPiecesAreOpen : Type 0
FittingPiecesAreOpen = (version : VersionState) (pieces : List Piece) → IsTrue (pieces_fit version.bearers pieces)
    → IsTrue (are_parts pieces) → AreOpen version pieces

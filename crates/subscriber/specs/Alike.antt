-- Counters that hold the same under a version, but for the order of their last pieces and for buckets that no bearer
-- uses: so are those that were made of others' parts.
use Rattle.std.specs.Prelude.{◌≡◌, ℕ, ◌++◌, List, length, map, Option, IsTrue}
use Rattle.std.specs.List.{Contains, find}
use Rattle.pc_base.specs.declared.packet.Packet.{Packet}
use Rattle.charging_book.specs.declared.records.Piece.{Piece}
use Rattle.charging_book.specs.Accounts.{AreDistinct}
use Rattle.charging_book.specs.Happenings.{Happening}
use Rattle.charging_book.specs.Parts.{ArePiecesOf}
use Rattle.charging_book.specs.Posted.{is_of, pieces_after, rows_after, AllMayBePosted}
use Rattle.bearer_state.specs.declared.version.ActiveBearer.{ActiveBearer}
use Rattle.bearer_state.specs.Qos.{is_guaranteed}
use Rattle.bearer_state.specs.Bearer.{AreBearers}
use Rattle.bearer_state.specs.Session.{SessionState, IsSession}
use Rattle.bearer_state.specs.Version.{VersionState, IsVersion, version_of}
use Rattle.control_steps.specs.declared.command.CommandKind.{CommandKind}
use Rattle.control_steps.specs.Table.{controlled}
use Rattle.packet_steps.specs.Meters.{MetersState, own_meter}
use Rattle.packet_steps.specs.Standing.{CountersState}
use Rattle.packet_steps.specs.Parts.{PartsState, IsMadeOf, buckets_in}
use Rattle.packet_steps.specs.Running.{planned, charged_by, GoesOn, brought, Advances}

-- the piece of a life
abbrev pub piece_for : ℕ → List Piece → Option Piece
piece_for life pieces = find (is_of life) pieces

abbrev pub life_of : Piece → ℕ
life_of piece = piece.counts.life

-- the same pieces, no two of one life, in any order
pub record ArePiecesAlike (pieces others : List Piece) : Type 0 where
  pub apart : AreDistinct (map life_of pieces)
  pub others_apart : AreDistinct (map life_of others)
  pub same : (life : ℕ) → piece_for life pieces ≡ piece_for life others

-- what is posted to both makes the same rows, and leaves the same pieces
pub record StayAlike (pieces others : List Piece) (happened : List Happening) : Type 0 where
  pub may : AllMayBePosted others happened
  pub rows : rows_after pieces happened ≡ rows_after others happened
  pub alike : ArePiecesAlike (pieces_after pieces happened) (pieces_after others happened)

abbrev pub AlikePiecesStayAlike : Type 0
AlikePiecesStayAlike = (pieces others : List Piece) (happened : List Happening) → ArePiecesAlike pieces others
    → AllMayBePosted pieces happened → StayAlike pieces others happened

-- buckets that police bearers of a list are the same
pub record AreMetersAlike (bearers : List ActiveBearer) (meters others : MetersState) : Type 0 where
  pub sized : length meters.own ≡ 11
  pub others_sized : length others.own ≡ 11
  pub shared : meters.shared ≡ others.shared
  pub own : (b : ActiveBearer) → Contains bearers b → IsTrue (is_guaranteed b.qos.qci)
      → own_meter meters b.index ≡ own_meter others b.index

-- counters that hold the same under a version, with these pieces
pub record AreAlike (version : VersionState) (counters other : CountersState)
    (pieces others : List Piece) : Type 0 where
  pub meters : AreMetersAlike version.bearers counters.meters other.meters
  pub pieces_are : ArePiecesOf counters.book pieces
  pub others_are : ArePiecesOf other.book others
  pub pieces_alike : ArePiecesAlike pieces others
  pub held : counters.held ≡ other.held
  pub last : counters.last ≡ other.last

-- counters that were alike are so behind what both were charged, and it made the same rows
pub record AreChargedAlike (version : VersionState) (old other new next : CountersState) (pieces others : List Piece)
    (happened : List Happening) : Type 0 where
  pub alike : AreAlike version new next (pieces_after pieces happened) (pieces_after others happened)
  pub rows : new.book.rows ≡ old.book.rows ++ rows_after pieces happened
  pub others_rows : next.book.rows ≡ other.book.rows ++ rows_after pieces happened

-- A packet has the same verdict by both, and leaves them alike.
pub record PacketsAreAlike : Type 0 where
  pub plans : (version : VersionState) (old other : CountersState) (pieces others : List Piece) (packet : Packet)
      → AreAlike version old other pieces others → planned version old packet ≡ planned version other packet
  pub goes_on : (version : VersionState) (old other new next : CountersState) (pieces others : List Piece)
      (packet : Packet) → IsVersion version → AreAlike version old other pieces others
      → AllMayBePosted pieces (charged_by (planned version old packet) packet.moment)
      → GoesOn (planned version old packet) packet old new → GoesOn (planned version other packet) packet other next
      → AreChargedAlike version old other new next pieces others
      (charged_by (planned version old packet) packet.moment)

-- a life keeps its place and its quality of service
abbrev pub KeepPlaces : VersionState → VersionState → Type 0
KeepPlaces before after = (b c : ActiveBearer) → Contains before.bearers b → Contains after.bearers c
    → b.life ≡ c.life → (b.index ≡ c.index) × (b.qos ≡ c.qos)

-- A new version has the same effects by both, and leaves them alike.
pub record VersionsAreAlike : Type 0 where
  pub effects : (before after : VersionState) (old other : CountersState) (pieces others : List Piece)
      → AreAlike before old other pieces others → KeepPlaces before after → IsVersion after
      → (brought before after old).effects ≡ (brought before after other).effects
  pub advances : (before after : VersionState) (old other new next : CountersState) (pieces others : List Piece)
      → AreAlike before old other pieces others → KeepPlaces before after → IsVersion after
      → AllMayBePosted pieces (brought before after old).charged
      → Advances before after old new → Advances before after other next
      → AreChargedAlike after old other new next pieces others (brought before after old).charged

-- So do the bearers of any session at a command.
abbrev pub SessionsKeepPlaces : Type 0
SessionsKeepPlaces = (session : SessionState) (command : CommandKind) (number next : ℕ) → IsSession session
    → AreBearers session.bearers
    → KeepPlaces (version_of session number) (version_of (controlled session command).0 next)

-- Counters that were made of parts under a version are like those that the parts were read of, in whatever order the
-- pieces are.
abbrev pub MadeOnesAreAlike : Type 0
MadeOnesAreAlike = (version : VersionState) (counters other : CountersState) (pieces : List Piece) (parts : PartsState)
    → length counters.meters.own ≡ 11 → ArePiecesOf counters.book pieces → IsMadeOf version parts other
    → parts.last ≡ counters.last → parts.buckets ≡ buckets_in version.bearers counters.meters
    → parts.held ≡ counters.held → ArePiecesAlike pieces parts.pieces
    → AreAlike version counters other pieces parts.pieces

-- Counters by their parts under a version, as they are kept and made again.
use Rattle.std.specs.Prelude.{◌≡◌, ℕ, ◌==◌, ◌&&◌, nat_le, Bool, true, false, if◌then◌else◌, List, [], ◌∷◌}
use Rattle.std.specs.Prelude.{length, drop, get_or, slice_set, Option, Some, None, unwrap_or}
use Rattle.std.specs.List.{flat_map, list_all, list_any}
use Rattle.pc_base.specs.declared.packet.Way.{Way}
use Rattle.pc_base.specs.declared.packet.Way.TheVariants.{Up, Down}
use Rattle.rate_policer.specs.Buckets as bucket
use Rattle.charging_book.specs.declared.records.Piece.{Piece}
use Rattle.charging_book.specs.Happenings.{rows_of}
use Rattle.charging_book.specs.Parts as book
use Rattle.bearer_state.specs.declared.version.ActiveBearer.{ActiveBearer}
use Rattle.bearer_state.specs.Qos.{is_guaranteed}
use Rattle.bearer_state.specs.Version.{VersionState}
use Rattle.packet_steps.specs.declared.meters.Meter.{Meter}
use Rattle.packet_steps.specs.Rows.{HeldRow, in_order}
use Rattle.packet_steps.specs.Past.{Past}
use Rattle.packet_steps.specs.Change.{waits}
use Rattle.packet_steps.specs.Meters.{MetersState, own_meter, unused, no_meters}
use Rattle.packet_steps.specs.Standing.{CountersState, StandsFor}

-- the moment of the last packet, the buckets, the last pieces of the lives that aren't over, the packets that are held
pub record PartsState : Type 0 where
  pub last : Option ℕ
  pub buckets : List bucket.BucketState
  pub pieces : List Piece
  pub held : List HeldRow

-- the buckets of meters, up before down: those of the AMBR, then those of each bearer with a guaranteed rate, by index
abbrev pub own_buckets : MetersState → ActiveBearer → List bucket.BucketState
own_buckets meters bearer =
    if is_guaranteed bearer.qos.qci
    then (own_meter meters bearer.index).up ∷ (own_meter meters bearer.index).down ∷ []
    else []

abbrev pub buckets_in : List ActiveBearer → MetersState → List bucket.BucketState
buckets_in bearers meters = meters.shared.up ∷ meters.shared.down ∷ flat_map (own_buckets meters) bearers

-- counters have these parts under a version
pub record ArePartsOf (version : VersionState) (counters : CountersState) (parts : PartsState) : Type 0 where
  pub last : parts.last ≡ counters.last
  pub buckets : parts.buckets ≡ buckets_in version.bearers counters.meters
  pub pieces : book.ArePiecesOf counters.book parts.pieces
  pub held : parts.held ≡ counters.held

-- counters were made of these parts under a version, with no charging records
pub record IsMadeOf (version : VersionState) (parts : PartsState) (counters : CountersState) : Type 0 where
  pub parts_are : ArePartsOf version counters parts
  pub rows : counters.book.rows ≡ []
  pub sized : length counters.meters.own ≡ 11

-- buckets have a bearer's maximum rates, up and down · those of each bearer with a guaranteed rate, and no more
abbrev pub first_fit : (up down : ℕ) → List bucket.BucketState → Bool
first_fit up down [] = false
first_fit up down (first ∷ []) = false
first_fit up down (first ∷ second ∷ others) = (first.rate == up) && (second.rate == down)

abbrev pub own_fit : List ActiveBearer → List bucket.BucketState → Bool
own_fit [] [] = true
own_fit [] (first ∷ others) = false
own_fit (bearer ∷ bearers) buckets =
    if is_guaranteed bearer.qos.qci
    then first_fit bearer.qos.mbr_up bearer.qos.mbr_down buckets && own_fit bearers (drop 2 buckets)
    else own_fit bearers buckets

-- two buckets have the version's rates, and the others those of its bearers
abbrev pub buckets_fit : VersionState → List bucket.BucketState → Bool
buckets_fit version buckets = first_fit version.up version.down buckets && own_fit version.bearers (drop 2 buckets)

-- none was asked later than at the moment of the last packet
abbrev pub were_asked : Option ℕ → List bucket.BucketState → Bool
were_asked last buckets =
    list_all (λ (b : bucket.BucketState). nat_le (bucket.last_of b) (unwrap_or last 0)) buckets

-- a piece is that of a bearer · there are as many pieces as bearers, each that of one
abbrev pub is_piece_of : Piece → ActiveBearer → Bool
is_piece_of piece bearer =
    piece.counts.life == bearer.life && (piece.counts.ebi == bearer.ebi && (piece.counts.qci == bearer.qos.qci))

abbrev pub has_bearer : List ActiveBearer → Piece → Bool
has_bearer bearers piece = list_any (is_piece_of piece) bearers

abbrev pub all_have_bearers : List ActiveBearer → List Piece → Bool
all_have_bearers bearers pieces = list_all (has_bearer bearers) pieces

abbrev pub pieces_fit : List ActiveBearer → List Piece → Bool
pieces_fit bearers pieces = length pieces == length bearers && all_have_bearers bearers pieces

-- a packet goes down, for a bearer without an eNodeB
abbrev pub goes_down : Way → Bool
goes_down (Up index) = false
goes_down Down = true

abbrev pub may_wait : List ActiveBearer → HeldRow → Bool
may_wait bearers row = goes_down row.packet.way && waits bearers row.life

abbrev pub all_may_wait : List ActiveBearer → List HeldRow → Bool
all_may_wait bearers rows = list_all (may_wait bearers) rows

-- at most sixteen packets are held, and none before the first packet
abbrev pub waiting_fit : ℕ → List ActiveBearer → List HeldRow → Bool
waiting_fit last bearers rows =
    nat_le (length rows) 16 && (all_may_wait bearers rows && in_order 0 last rows)

abbrev pub held_fit : Option ℕ → List ActiveBearer → List HeldRow → Bool
held_fit None bearers rows = length rows == 0
held_fit (Some last) bearers rows = waiting_fit last bearers rows

-- parts are those that counters may have under a version; no two pieces are of one life, and none is full
abbrev pub may_fit : VersionState → PartsState → Bool
may_fit version parts =
    buckets_fit version parts.buckets
    && (were_asked parts.last parts.buckets
    && (held_fit parts.last version.bearers parts.held && pieces_fit version.bearers parts.pieces))

abbrev pub fit : VersionState → PartsState → Bool
fit version parts = may_fit version parts && book.are_parts parts.pieces

-- the first two buckets as a meter · own meters, of which each bearer with a guaranteed rate takes the next two buckets
abbrev pub first_meter : List bucket.BucketState → Meter
first_meter buckets =
    record { up = get_or buckets 0 (bucket.full_bucket 0); down = get_or buckets 1 (bucket.full_bucket 0) }

-- counters before the first packet
abbrev pub new_counters : CountersState
new_counters = record {
  meters = record { shared = unused; own = no_meters };
  book = record { opens = []; moments = []; rows = [] };
  held = [];
  last = None;
}

abbrev pub own_with : List Meter → List ActiveBearer → List bucket.BucketState → List Meter
own_with own [] buckets = own
own_with own (bearer ∷ bearers) buckets =
    if is_guaranteed bearer.qos.qci
    then own_with (slice_set own bearer.index (first_meter buckets)) bearers (drop 2 buckets)
    else own_with own bearers buckets

-- counters of another's parts represent what that one does, once its rows were taken out
abbrev pub PartsRepresentTheSame : Type 0
PartsRepresentTheSame = (counters other : CountersState) (past : Past) (taken : ℕ) (parts : PartsState)
    → StandsFor counters past taken → ArePartsOf past.version counters parts → IsMadeOf past.version parts other
    → StandsFor other past (length (rows_of past.charged))

-- What a state file has, and what it keeps.
use Rattle.std.specs.Prelude.{◌≡◌, ℕ, ◌+◌, ◌==◌, ◌<◌, ◌≤◌, ◌^◌, true, List, [], ◌∷◌, length, map, All}
use Rattle.std.specs.Prelude.{Option, IfSome}
use Rattle.std.specs.List.{AllByRecursion, filter_map, find}
use Rattle.pc_base.specs.Imsi.{IsImsi}
use Rattle.pc_base.specs.declared.packet.Peer.{Peer}
use Rattle.rate_policer.specs.Buckets.{BucketState}
use Rattle.rate_policer.specs.Conforming.{burst}
use Rattle.charging_book.specs.declared.records.Piece.{Piece}
use Rattle.charging_book.specs.Rows.{Counters, Moments}
use Rattle.charging_book.specs.Pieces.{volume}
use Rattle.charging_book.specs.Accounts.{AreDistinct}
use Rattle.charging_book.specs.Parts.{ArePiecesOf, piece_of}
use Rattle.tft_codec.specs.Filter.{AreFilters}
use Rattle.bearer_state.specs.declared.bearer.Bearer.{Bearer}
use Rattle.bearer_state.specs.declared.kept.Kept.{Kept}
use Rattle.bearer_state.specs.declared.version.ActiveBearer.{ActiveBearer}
use Rattle.bearer_state.specs.Bearer.{AreBearers}
use Rattle.bearer_state.specs.Session.{SessionState, IsSession}
use Rattle.bearer_state.specs.Version.{version_of, actives}
use Rattle.packet_steps.specs.Rows.{HeldRow}
use Rattle.packet_steps.specs.Standing.{CountersState}
use Rattle.packet_steps.specs.Parts.{PartsState, buckets_in, fit}
use Rattle.subscriber.specs.Standing.{SubscriberState}
use Rattle.subscriber.specs.Alike.{life_of}
use Rattle.subscriber.specs.Charging.{AreOpen}
use Rattle.address_book.specs.Book.{IsBook}

-- a subscriber as it is saved: its IMSI, its session, how many commands and packets came, the slice that it is bound
-- for, and the parts of its counters, with one piece for each active bearer, by index
pub record SavedSubscriber : Type 0 where
  pub imsi : List ℕ
  pub session : SessionState
  pub commands : ℕ
  pub packets : ℕ
  pub destination : ℕ
  pub counters : PartsState

-- how many lines were read, the moment of the last one or 0, and the subscribers by slot
pub record FileState : Type 0 where
  pub lines : ℕ
  pub moment : ℕ
  pub subscribers : List SavedSubscriber

-- the pieces of a book, in the order of their starts · those of bearers, in the order of these
abbrev pub pieces_of : List Counters → List Moments → List Piece
pieces_of [] moments = []
pieces_of (counts ∷ opens) [] = []
pieces_of (counts ∷ opens) (span ∷ moments) = piece_of counts span ∷ pieces_of opens moments

abbrev pub piece_for : List Piece → ActiveBearer → Option Piece
piece_for pieces bearer = find (λ (piece : Piece). piece.counts.life == bearer.life) pieces

abbrev pub by_index : List ActiveBearer → List Piece → List Piece
by_index bearers pieces = filter_map (piece_for pieces) bearers

-- the parts of counters under the bearers of a version
abbrev pub parts_of : List ActiveBearer → CountersState → PartsState
parts_of bearers counters = record {
  last = counters.last;
  buckets = buckets_in bearers counters.meters;
  pieces = by_index bearers (pieces_of counters.book.opens counters.book.moments);
  held = counters.held;
}

-- a subscriber of an IMSI as it is saved · subscribers and their IMSIs, by slot
abbrev pub saved : List ℕ → SubscriberState → SavedSubscriber
saved imsi subscriber = record {
  imsi = imsi;
  session = subscriber.session;
  commands = subscriber.version.number;
  packets = subscriber.packets;
  destination = subscriber.destination;
  counters = parts_of subscriber.version.bearers subscriber.counters;
}

abbrev pub all_saved : List (List ℕ) → List SubscriberState → List SavedSubscriber
all_saved [] subscribers = []
all_saved (imsi ∷ imsis) [] = []
all_saved (imsi ∷ imsis) (subscriber ∷ subscribers) = saved imsi subscriber ∷ all_saved imsis subscribers

-- a count of a state file is below 2^50
abbrev pub IsCount : ℕ → Type 0
IsCount n = n < 2 ^ 50

-- the numbers of a peer have four octets each
pub record IsPeer (peer : Peer) : Type 0 where
  pub teid : peer.teid < 2 ^ 32
  pub addr : peer.addr < 2 ^ 32

-- the kept answer's length has four octets
pub record IsAnswer (kept : Kept) : Type 0 where
  pub kind : kept.kind < 2 ^ 8
  pub reply : length kept.reply < 2 ^ 32

-- what a bearer has beside the ranges that a session keeps
pub record IsOwnBearer (bearer : Bearer) : Type 0 where
  pub enb : IfSome bearer.enb IsPeer
  pub filters : AreFilters bearer.choice.filters

-- a session that may be saved
pub record IsSavedSession (session : SessionState) : Type 0 where
  pub ranges : IsSession session
  pub bearers : AreBearers session.bearers
  pub own : AllByRecursion IsOwnBearer session.bearers
  pub mme : IfSome session.mme IsPeer
  pub rates : IsCount session.rates
  pub lives : IsCount session.lives
  pub answer : IfSome session.last IsAnswer

-- a bucket: its level is within the burst of its rate
pub record IsBucket (bucket : BucketState) : Type 0 where
  pub rate : bucket.rate < 2 ^ 40
  pub level : bucket.level ≤ burst bucket.rate
  pub last : IsCount bucket.last

-- a piece: its octets are fewer than fill one
pub record IsPiece (piece : Piece) : Type 0 where
  pub octets : piece.counts.up_octets + piece.counts.down_octets < volume
  pub seq : IsCount piece.counts.seq
  pub up_packets : IsCount piece.counts.up_packets
  pub down_packets : IsCount piece.counts.down_packets
  pub first : IfSome piece.first IsCount
  pub last : IfSome piece.last IsCount

-- a held packet: its number is one of the packets that came
pub record IsHeld (packets : ℕ) (row : HeldRow) : Type 0 where
  pub number : row.packet.number < packets
  pub moment : IsCount row.packet.moment
  pub life : row.life < 2 ^ 64
  pub octets : length row.packet.octets < 2 ^ 16

-- a piece is that of a bearer · pieces are those of bearers, one each, in their order
pub record IsPieceOf (bearer : ActiveBearer) (piece : Piece) : Type 0 where
  pub life : piece.counts.life ≡ bearer.life
  pub ebi : piece.counts.ebi ≡ bearer.ebi
  pub qci : piece.counts.qci ≡ bearer.qos.qci

abbrev pub ArePiecesFor : List ActiveBearer → List Piece → Type 0
ArePiecesFor [] [] = Unit {0}
ArePiecesFor [] (piece ∷ pieces) = ⊥
ArePiecesFor (bearer ∷ bearers) [] = ⊥
ArePiecesFor (bearer ∷ bearers) (piece ∷ pieces) = IsPieceOf bearer piece × ArePiecesFor bearers pieces

-- parts of counters that may be saved: no moment of a packet is above that of the last line
pub record AreSavedParts (packets moment : ℕ) (bearers : List ActiveBearer) (parts : PartsState) : Type 0 where
  pub last : IfSome parts.last (λ last. last ≤ moment)
  pub buckets : AllByRecursion IsBucket parts.buckets
  pub pieces : AllByRecursion IsPiece parts.pieces
  pub pieces_for : ArePiecesFor bearers parts.pieces
  pub held : AllByRecursion (IsHeld packets) parts.held

-- a subscriber of a slot that may be saved, by the moment of the last line: its counters fit its version
pub record IsSaved (moment slot : ℕ) (one : SavedSubscriber) : Type 0 where
  pub imsi : IsImsi one.imsi
  pub slot_is : one.session.slot ≡ slot
  pub session : IsSavedSession one.session
  pub commands : IsCount one.commands
  pub packets : IsCount one.packets
  pub destination : one.destination ≤ 63
  pub counters : AreSavedParts one.packets moment (actives one.session.bearers) one.counters
  pub fits : fit (version_of one.session one.commands) one.counters ≡ true

abbrev pub AreSaved : (moment slot : ℕ) → List SavedSubscriber → Type 0
AreSaved moment slot [] = Unit {0}
AreSaved moment slot (one ∷ others) = IsSaved moment slot one × AreSaved moment (slot + 1) others

abbrev pub imsi_of : SavedSubscriber → List ℕ
imsi_of one = one.imsi

-- what a state file keeps: no two IMSIs are the same, and each subscriber may be saved at its slot
pub record IsFile (file : FileState) : Type 0 where
  pub lines : IsCount file.lines
  pub moment : IsCount file.moment
  pub book : IsBook (map imsi_of file.subscribers)
  pub subscribers : AreSaved file.moment 0 file.subscribers

-- a subscriber's pieces are those of its active bearers, one each
pub record HasItsPieces (subscriber : SubscriberState) : Type 0 where
  pub pieces : List Piece
  pub are : ArePiecesOf subscriber.counters.book pieces
  pub apart : AreDistinct (map life_of pieces)
  pub open_ : AreOpen subscriber.version pieces

-- a subscriber that was read is at rest: its version is that of its session, and its records were taken out
pub record IsResting (subscriber : SubscriberState) : Type 0 where
  pub version : subscriber.version ≡ version_of subscriber.session subscriber.version.number
  pub rows : subscriber.counters.book.rows ≡ []
  pub sized : length subscriber.counters.meters.own ≡ 11
  pub has_pieces : HasItsPieces subscriber

-- what its octets need room for: the kept answer, and the packets that are held
pub record IsWritable (subscriber : SubscriberState) : Type 0 where
  pub answer : IfSome subscriber.session.last IsAnswer
  pub few : length subscriber.counters.held ≤ 16
  pub short : All (λ (row : HeldRow). length row.packet.octets < 2 ^ 16) subscriber.counters.held

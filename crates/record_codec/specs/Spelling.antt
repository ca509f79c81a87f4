-- The octets of a state file, version 1: field by field, numbers with the most significant octet first.
use Rattle.std.specs.Prelude.{ℕ, Bool, true, false, List, [], ◌∷◌, ◌++◌, length, Option, Some, None}
use Rattle.std.specs.List.{flat_map}
use Rattle.std.specs.Int.{w16, w32, w64, to_be_bytes}
use Rattle.pc_base.specs.declared.packet.Peer.{Peer}
use Rattle.tft_codec.specs.declared.filter.Filter.{Filter}
use Rattle.tft_codec.specs.declared.tft.Tft.TheVariants.{Create}
use Rattle.tft_codec.specs.Spelling as tft
use Rattle.rate_policer.specs.Buckets.{BucketState}
use Rattle.charging_book.specs.declared.records.Piece.{Piece}
use Rattle.bearer_state.specs.declared.bearer.Phase.{Phase}
use Rattle.bearer_state.specs.declared.bearer.Phase.TheVariants.{Asked, Active}
use Rattle.bearer_state.specs.declared.bearer.Bearer.{Bearer}
use Rattle.bearer_state.specs.declared.kept.Kept.{Kept}
use Rattle.bearer_state.specs.declared.qos.Qos.{Qos}
use Rattle.bearer_state.specs.Session.{SessionState}
use Rattle.packet_steps.specs.Rows.{HeldRow}
use Rattle.packet_steps.specs.Parts.{PartsState}
use Rattle.bearer_state.specs.declared.version.ActiveBearer.{ActiveBearer}
use Rattle.record_codec.specs.Saved.{SavedSubscriber, FileState, piece_for}

-- fields, one behind another
abbrev pub fields : List (List ℕ) → List ℕ
fields [] = []
fields (first ∷ []) = first
fields (first ∷ second ∷ others) = first ++ fields (second ∷ others)

-- numbers of one, two, four and eight octets
abbrev pub u8 : ℕ → List ℕ
u8 n = n ∷ []

abbrev pub u16 : ℕ → List ℕ
u16 n = to_be_bytes w16 n

abbrev pub u32 : ℕ → List ℕ
u32 n = to_be_bytes w32 n

abbrev pub u64 : ℕ → List ℕ
u64 n = to_be_bytes w64 n

-- 0 or 1 · 0, or 1 and the value · how many, in one octet, and each
abbrev pub flag : Bool → List ℕ
flag false = u8 0
flag true = u8 1

abbrev pub optional : {X : Type 0} → (X → List ℕ) → Option X → List ℕ
optional text None = u8 0
optional text (Some x) = 1 ∷ text x

abbrev pub listed : {X : Type 0} → (X → List ℕ) → List X → List ℕ
listed text xs = length xs ∷ flat_map text xs

-- octets behind their length, in so many octets as a number has
abbrev pub measured : (ℕ → List ℕ) → List ℕ → List ℕ
measured number octets = number (length octets) ++ octets

abbrev pub peer_text : Peer → List ℕ
peer_text peer = fields (u32 peer.teid ∷ u32 peer.addr ∷ [])

-- the answer that is kept for repeats: the request's type and sequence number, and the octets of the answer
abbrev pub kept_text : Kept → List ℕ
kept_text kept = fields (u8 kept.kind ∷ u32 kept.seq ∷ measured u32 kept.reply ∷ [])

abbrev pub phase_text : Phase → List ℕ
phase_text (Asked seq) = 0 ∷ u32 seq
phase_text (Active ebi) = 1 ∷ u8 ebi

-- a packet filter: the traffic flow template that creates it alone (TS 24.008, 10.5.6.12)
abbrev pub filter_text : Filter → List ℕ
filter_text filter = measured u16 (tft.spelling (Create (filter ∷ [])))

abbrev pub qos_text : Qos → List ℕ
qos_text qos = fields
    (u8 qos.arp ∷ u8 qos.qci ∷ u64 qos.mbr_up ∷ u64 qos.mbr_down ∷ u64 qos.gbr_up ∷ u64 qos.gbr_down ∷ [])

abbrev pub bearer_text : Bearer → List ℕ
bearer_text bearer = fields
    (u8 bearer.choice.index
    ∷ u64 bearer.life
    ∷ phase_text bearer.phase
    ∷ qos_text bearer.qos
    ∷ optional peer_text bearer.enb
    ∷ listed filter_text bearer.choice.filters
    ∷ [])

abbrev pub session_text : SessionState → List ℕ
session_text session = fields
    (flag session.live
    ∷ optional peer_text session.mme
    ∷ u64 session.up
    ∷ u64 session.down
    ∷ u64 session.rates
    ∷ u64 session.lives
    ∷ optional kept_text session.last
    ∷ listed bearer_text session.bearers
    ∷ [])

abbrev pub bucket_text : BucketState → List ℕ
bucket_text bucket = fields (u64 bucket.rate ∷ u64 bucket.level ∷ u64 bucket.last ∷ [])

-- a piece of a bearer, whose life, EBI and QCI stand with the bearer
abbrev pub piece_text : Piece → List ℕ
piece_text piece = fields
    (u64 piece.counts.seq
    ∷ u64 piece.counts.up_octets
    ∷ u64 piece.counts.down_octets
    ∷ u64 piece.counts.up_packets
    ∷ u64 piece.counts.down_packets
    ∷ optional u64 piece.first
    ∷ optional u64 piece.last
    ∷ [])

-- the same of a bearer that may have one
abbrev pub piece_or_none : Option Piece → List ℕ
piece_or_none None = []
piece_or_none (Some piece) = piece_text piece

abbrev pub text_for : List Piece → ActiveBearer → List ℕ
text_for pieces bearer = piece_or_none (piece_for pieces bearer)

-- a packet that is held; it goes down
abbrev pub held_text : HeldRow → List ℕ
held_text row = fields
    (u64 row.packet.number
    ∷ u64 row.packet.moment
    ∷ u64 row.life
    ∷ measured u32 row.packet.octets
    ∷ [])

-- how many buckets and pieces there are follows from the bearers
abbrev pub counters_text : PartsState → List ℕ
counters_text parts = fields
    (optional u64 parts.last
    ∷ flat_map bucket_text parts.buckets
    ∷ flat_map piece_text parts.pieces
    ∷ listed held_text parts.held
    ∷ [])

abbrev pub subscriber_text : SavedSubscriber → List ℕ
subscriber_text one = fields
    (measured u8 one.imsi
    ∷ session_text one.session
    ∷ u64 one.commands
    ∷ u64 one.packets
    ∷ u8 one.destination
    ∷ counters_text one.counters
    ∷ [])

-- the first octet
abbrev pub format_version : ℕ
format_version = 1

-- the state of a file: its octets
abbrev pub state : FileState → List ℕ
state file = fields
    (u8 format_version
    ∷ u64 file.lines
    ∷ u64 file.moment
    ∷ u32 (length file.subscribers)
    ∷ flat_map subscriber_text file.subscribers
    ∷ [])

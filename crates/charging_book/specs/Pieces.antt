-- A life's story is its forwarded packets and marks. It is cut into pieces at marks, and right after
-- the packet that fills a piece.
use Rattle.std.specs.Prelude.{
  ℕ,
  ◌+◌,
  Bool,
  not,
  nat_le,
  List,
  [],
  ◌∷◌,
  ◌++◌,
  fold,
  sum_by,
  count_by,
  Option,
  None,
  Some,
  if◌then◌else◌,
}
use Rattle.charging_book.specs.declared.records.Why.{Why}
use Rattle.charging_book.specs.declared.records.Why.TheVariants.{Volume}
use Rattle.charging_book.specs.Rows.{Counters, Moments, Charged}

-- a packet that was forwarded: which way, how many octets, and when
pub record Forwarded : Type 0 where
  pub up : Bool
  pub octets : ℕ
  pub at : ℕ

-- a step of a story
pub data Item : Type 0 where
  packet : Forwarded → Item
  mark : Why → Item

abbrev pub up_octets : List Forwarded → ℕ
up_octets piece = sum_by (λ p. if p.up then p.octets else 0) piece

abbrev pub down_octets : List Forwarded → ℕ
down_octets piece = sum_by (λ p. if p.up then 0 else p.octets) piece

abbrev pub up_packets : List Forwarded → ℕ
up_packets piece = count_by (λ p. p.up) piece

abbrev pub down_packets : List Forwarded → ℕ
down_packets piece = count_by (λ p. not p.up) piece

-- how many octets fill a piece
abbrev pub volume : ℕ
volume = 1000000

-- whether a piece is full
abbrev pub is_full : List Forwarded → Bool
is_full piece = nat_le volume (up_octets piece + down_octets piece)

-- the moment of the first packet
abbrev pub first_at : List Forwarded → Option ℕ
first_at [] = None
first_at (p ∷ _) = Some p.at

-- the moment of the last packet
abbrev pub last_at : List Forwarded → Option ℕ
last_at piece = fold (λ _ p. Some p.at) None piece

-- a finished piece, and why it was finished
pub record Finished : Type 0 where
  pub piece : List Forwarded
  pub why : Why

-- what an item finishes, behind a piece so far
abbrev pub finishes : List Forwarded → Item → List Finished
finishes piece (packet p) =
    if is_full (piece ++ p ∷ []) then record { piece = piece ++ p ∷ []; why = Volume } ∷ [] else []
finishes piece (mark why) = record { piece = piece; why = why } ∷ []

-- the piece behind an item
abbrev pub piece_after : List Forwarded → Item → List Forwarded
piece_after piece (packet p) = if is_full (piece ++ p ∷ []) then [] else piece ++ p ∷ []
piece_after piece (mark why) = []

-- the finished pieces of a story behind a piece so far
abbrev pub finished_from : List Forwarded → List Item → List Finished
finished_from piece [] = []
finished_from piece (item ∷ items) = finishes piece item ++ finished_from (piece_after piece item) items

-- the finished pieces of a story · its last piece
abbrev pub finished : List Item → List Finished
finished items = finished_from [] items

abbrev pub last_piece : List Item → List Forwarded
last_piece items = fold piece_after [] items

-- the open counters of a piece that so many finished ones stand before
abbrev pub open_of : ℕ → ℕ → ℕ → ℕ → List Forwarded → Counters
open_of life ebi qci seq piece = record {
  life = life;
  ebi = ebi;
  qci = qci;
  seq = seq;
  up_octets = up_octets piece;
  down_octets = down_octets piece;
  up_packets = up_packets piece;
  down_packets = down_packets piece;
}

-- its moments
abbrev pub moments_of : List Forwarded → Moments
moments_of piece = record { first = first_at piece; last = last_at piece }

-- the row of a finished piece that so many stand before
abbrev pub row_of : ℕ → ℕ → ℕ → ℕ → Finished → Charged
row_of life ebi qci seq done = record {
  life = life;
  ebi = ebi;
  qci = qci;
  seq = seq;
  up_octets = up_octets done.piece;
  down_octets = down_octets done.piece;
  up_packets = up_packets done.piece;
  down_packets = down_packets done.piece;
  first = first_at done.piece;
  last = last_at done.piece;
  why = done.why;
}

-- What a happening makes of a book by its pieces alone, also of a book that was made of some.
use Rattle.std.specs.Prelude.{
  ◌≡◌,
  ℕ,
  ◌+◌,
  ◌==◌,
  not,
  nat_le,
  Bool,
  List,
  [],
  ◌∷◌,
  ◌++◌,
  map,
  filter,
  fold,
  if◌then◌else◌,
}
use Rattle.std.specs.List.{flat_map}
use Rattle.charging_book.specs.declared.records.Piece.{Piece}
use Rattle.charging_book.specs.declared.records.Why.TheVariants.{Volume, Qos, Gone}
use Rattle.charging_book.specs.Rows.{Counters, Moments, Charged}
use Rattle.charging_book.specs.Pieces.{Forwarded, volume, open_of}
use Rattle.charging_book.specs.Counters.{with_packet, next_piece, no_moments, with_moment, row_from}
use Rattle.charging_book.specs.Happenings.{Happening, started, forwarded, closed}
use Rattle.charging_book.specs.Accounts.{Accounts}
use Rattle.charging_book.specs.Parts.{piece_of, moments_in, ArePiecesOf, book_with}
use Rattle.charging_book.specs.Postings.{MayBePosted}

-- whether sums fill a piece
abbrev pub fill : Counters → Bool
fill counts = nat_le volume (counts.up_octets + counts.down_octets)

-- the sums and the moments of a piece with a packet more
abbrev pub counts_with : Forwarded → Piece → Counters
counts_with p piece = with_packet piece.counts p.up p.octets

abbrev pub moments_with : Forwarded → Piece → Moments
moments_with p piece = with_moment (moments_in piece) p.at

-- the piece behind a finished one of these sums
abbrev pub next_behind : Counters → Piece
next_behind counts = piece_of (next_piece counts) no_moments

-- the piece that goes on behind a packet, from its sums, and the row of one that the packet fills
abbrev pub with_one : Forwarded → Piece → Piece
with_one p piece =
    if fill (counts_with p piece) then next_behind (counts_with p piece)
    else piece_of (counts_with p piece) (moments_with p piece)

abbrev pub row_filled : Forwarded → Piece → List Charged
row_filled p piece =
    if fill (counts_with p piece) then row_from (counts_with p piece) (moments_with p piece) Volume ∷ [] else []

abbrev pub is_of : ℕ → Piece → Bool
is_of life piece = piece.counts.life == life

-- the pieces behind a happening
abbrev pub pieces_behind : List Piece → Happening → List Piece
pieces_behind pieces (started life ebi qci) = pieces ++ piece_of (open_of life ebi qci 0 []) no_moments ∷ []
pieces_behind pieces (forwarded life p) = map (λ piece. if is_of life piece then with_one p piece else piece) pieces
pieces_behind pieces (closed life Volume) =
    map (λ piece. if is_of life piece then next_behind piece.counts else piece) pieces
pieces_behind pieces (closed life Qos) =
    map (λ piece. if is_of life piece then next_behind piece.counts else piece) pieces
pieces_behind pieces (closed life Gone) = filter (λ piece. not (is_of life piece)) pieces

-- the rows that it makes
abbrev pub rows_made : List Piece → Happening → List Charged
rows_made pieces (started life ebi qci) = []
rows_made pieces (forwarded life p) = flat_map (λ piece. if is_of life piece then row_filled p piece else []) pieces
rows_made pieces (closed life why) =
    flat_map (λ piece. if is_of life piece then row_from piece.counts (moments_in piece) why ∷ [] else []) pieces

-- a book behind a happening: its pieces went on by it, and its rows stand behind those before
pub record GoesOn (old new : Accounts) (now : Happening) : Type 0 where
  pub pieces : (pieces : List Piece) → ArePiecesOf old pieces → ArePiecesOf new (pieces_behind pieces now)
  pub rows : (pieces : List Piece) → ArePiecesOf old pieces → new.rows ≡ old.rows ++ rows_made pieces now

-- the pieces behind several happenings, and the rows that they make
abbrev pub pieces_after : List Piece → List Happening → List Piece
pieces_after pieces happened = fold pieces_behind pieces happened

abbrev pub rows_after : List Piece → List Happening → List Charged
rows_after pieces [] = []
rows_after pieces (now ∷ later) = rows_made pieces now ++ rows_after (pieces_behind pieces now) later

-- each may be posted to the book of the pieces by then
abbrev pub AllMayBePosted : List Piece → List Happening → Type 0
AllMayBePosted pieces [] = Unit {0}
AllMayBePosted pieces (now ∷ later) =
    MayBePosted (book_with pieces) now × AllMayBePosted (pieces_behind pieces now) later

-- a book behind several happenings that may be posted
pub record GoesFar (old new : Accounts) (happened : List Happening) : Type 0 where
  pub pieces : (pieces : List Piece) → ArePiecesOf old pieces → AllMayBePosted pieces happened
      → ArePiecesOf new (pieces_after pieces happened)
  pub rows : (pieces : List Piece) → ArePiecesOf old pieces → AllMayBePosted pieces happened
      → new.rows ≡ old.rows ++ rows_after pieces happened

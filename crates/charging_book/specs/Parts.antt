-- A book by its parts: the last pieces of the lives that aren't over.
use Rattle.std.specs.Prelude.{◌≡◌, ℕ, ◌+◌, ◌==◌, ◌&&◌, not, nat_lt, Bool, true, List, [], ◌∷◌, length, map}
use Rattle.std.specs.List.{list_any}
use Rattle.charging_book.specs.declared.records.Piece.{Piece}
use Rattle.charging_book.specs.Rows.{Counters, Moments}
use Rattle.charging_book.specs.Pieces.{volume}
use Rattle.charging_book.specs.Happenings.{Happening, rows_of}
use Rattle.charging_book.specs.Accounts.{Accounts, StandsFor}

-- a piece of these counters and moments · the moments of a piece · its counters
abbrev pub piece_of : Counters → Moments → Piece
piece_of counters moments = record { counts = counters; first = moments.first; last = moments.last }

abbrev pub moments_in : Piece → Moments
moments_in piece = record { first = piece.first; last = piece.last }

abbrev pub counts_in : Piece → Counters
counts_in piece = piece.counts

-- pieces have the counters and the moments of a book, one behind another
pub record ArePiecesOf (book : Accounts) (pieces : List Piece) : Type 0 where
  pub opens : map counts_in pieces ≡ book.opens
  pub moments : map moments_in pieces ≡ book.moments

-- a piece has fewer octets than fill one · one of the pieces is of this life
abbrev pub is_counting : Piece → Bool
is_counting piece = nat_lt (piece.counts.up_octets + piece.counts.down_octets) volume

abbrev pub has_life : ℕ → List Piece → Bool
has_life life pieces = list_any (λ piece. life == piece.counts.life) pieces

-- no two pieces are of one life, and none is full
abbrev pub are_parts : List Piece → Bool
are_parts [] = true
are_parts (piece ∷ pieces) = not (has_life piece.counts.life pieces) && is_counting piece && are_parts pieces

-- the book of these pieces, whose rows were all taken out
abbrev pub book_with : List Piece → Accounts
book_with pieces = record { opens = map counts_in pieces; moments = map moments_in pieces; rows = [] }

-- a book of another's pieces represents what that one does, once its rows were taken out
abbrev pub PartsRepresentTheSame : Type 0
PartsRepresentTheSame = (book : Accounts) (happened : List Happening) (taken : ℕ) (pieces : List Piece)
    → StandsFor book happened taken → ArePiecesOf book pieces
    → StandsFor (book_with pieces) happened (length (rows_of happened))

use Rattle.std.proofs.Common.{◌≡◌, ℕ, List, ◌++◌, length, map, take}
use Rattle.charging_book.specs.declared.records.Piece.{Piece}
use Rattle.charging_book.specs.Happenings.{Happening, rows_of}
use Rattle.charging_book.specs.Accounts.{StandsFor}
use Rattle.charging_book.specs.Parts.{ArePiecesOf}
use Rattle.charging_book.specs.Posted.{pieces_after, rows_after, AllMayBePosted}
use Rattle.charging_book.specs.Postings.{happening_of, MayAllFollow}
use Rattle.charging_book.proofs.accounts.Book.post_many.Given as goal

-- the copy represents what was posted so far, and its pieces went on by it
abbrev pub invariant-loop-posting : goal.invariant-loop-posting
invariant-loop-posting l = record {
  stands : (happened : List Happening) (taken : ℕ) → StandsFor l.fn.self happened taken
      → MayAllFollow happened (map happening_of l.postings)
      → StandsFor l.copy (happened ++ map happening_of (take l.posting-index l.postings)) (length (rows_of happened));
  pieces : (pieces : List Piece) → ArePiecesOf l.fn.self pieces
      → AllMayBePosted pieces (map happening_of l.postings)
      → ArePiecesOf l.copy (pieces_after pieces (map happening_of (take l.posting-index l.postings)))
      × (l.copy.rows ≡ rows_after pieces (map happening_of (take l.posting-index l.postings)));
}

-- What an item, or a happening, adds to the pieces of a life.
use Rattle.std.proofs.Common.{◌≡◌, ◌≢◌, ℕ, Bool, true, false, List, [], ◌∷◌, ◌++◌, map, ◌∙◌, ap, refl, subst, eq-eqb, inl, inr}
use Rattle.std.specs.List.{flat_map}
use Rattle.std.proofs.lemmas.Bool.{ne_eqb}
use Rattle.std.proofs.lemmas.Bool.Decides.{eqb_tells}
use Rattle.std.proofs.lemmas.List.{append-nil}
use Rattle.charging_book.specs.Accounts.{IsNone, AreDistinct}
use Rattle.charging_book.specs.Rows.{Charged}
use Rattle.charging_book.specs.Pieces.{Forwarded, Item, packet, mark, Finished, is_full, finishes, piece_after, last_piece, row_of}
use Rattle.charging_book.specs.Happenings.{Happening, story_of, open_at}
use Rattle.charging_book.specs.Ledger.{rows_for, opens_for, TellPieces, TellLast}
use Rattle.charging_book.proofs.Standing.{unfilled, filled}

-- finished pieces one behind another
abbrev pub joined : List Finished → List Forwarded
joined pieces = flat_map (λ done. done.piece) pieces

-- the packet that an item is
abbrev pub packet_in : Item → List Forwarded
packet_in (packet p) = p ∷ []
packet_in (mark why) = []

-- what an item finishes and leaves of a piece is the piece with its packet
pub item_kept : (piece : List Forwarded) (item : Item)
    → joined (finishes piece item) ++ piece_after piece item ≡ piece ++ packet_in item
item_kept piece (mark why) = append-nil (piece ++ [])
item_kept piece (packet p) = packet_kept (is_full (piece ++ p ∷ [])) refl
  where
    packet_kept : (full : Bool) → is_full (piece ++ p ∷ []) ≡ full
        → joined (finishes piece (packet p)) ++ piece_after piece (packet p) ≡ piece ++ p ∷ []
    packet_kept true full = let done = filled piece p full in rw (done.0, done.1) (append-nil (piece ++ p ∷ [] ++ [])
        ∙ append-nil (piece ++ p ∷ []))
    packet_kept false full = let done = unfilled piece p full in rw (done.0, done.1) refl

-- the rows of the life's own pieces are all its rows, and tell them
pub own_rows : (life ebi qci seq : ℕ) (done : List Finished)
    → rows_for life (map (row_of life ebi qci seq) done) ≡ map (row_of life ebi qci seq) done
own_rows life ebi qci seq [] = refl
own_rows life ebi qci seq (d ∷ ds) =
    rw (eq-eqb life life refl) (ap (λ rows. row_of life ebi qci seq d ∷ rows) (own_rows life ebi qci seq ds))

pub others_rows : (life other ebi qci seq : ℕ) (done : List Finished) → other ≢ life
    → rows_for life (map (row_of other ebi qci seq) done) ≡ []
others_rows life other ebi qci seq [] differs = refl
others_rows life other ebi qci seq (d ∷ ds) differs =
    rw (ne_eqb other life differs) (others_rows life other ebi qci seq ds differs)

pub rows_tell : (life ebi qci seq : ℕ) (done : List Finished) → TellPieces (map (row_of life ebi qci seq) done) done
rows_tell life ebi qci seq [] = tt
rows_tell life ebi qci seq (d ∷ ds) = (refl, rows_tell life ebi qci seq ds)

pub tell-append : (rows more : List Charged) (pieces done : List Finished) → TellPieces rows pieces
    → TellPieces more done
    → TellPieces (rows ++ more) (pieces ++ done)
tell-append [] more [] done tell also = also
tell-append [] more (d ∷ pieces) done tell also = absurd tell
tell-append (row ∷ rows) more [] done tell also = absurd tell
tell-append (row ∷ rows) more (d ∷ pieces) done tell also = (tell.0, tell-append rows more pieces done tell.1 also)

-- the last piece of a life
abbrev pub last_of : ℕ → List Happening → List Forwarded
last_of life happened = last_piece (story_of happened life).items

-- a life that isn't among some has no open counters among theirs
opens-none : (life : ℕ) (happened : List Happening) (xs : List ℕ) → IsNone life xs
    → opens_for life (map (open_at happened) xs) ≡ []
opens-none life happened [] none = refl
opens-none life happened (x ∷ xs) none = rw (ne_eqb x life none.0) (opens-none life happened xs none.1)

-- and the others have one, which tells their last piece
pub opens_tell : (life : ℕ) (happened : List Happening) (xs : List ℕ) → AreDistinct xs
    → (IsNone life xs → last_of life happened ≡ [])
    → TellLast (opens_for life (map (open_at happened) xs)) (last_of life happened)
opens_tell life happened [] distinct over = over tt
opens_tell life happened (x ∷ xs) distinct over = elim (eqb_tells x life) [
  | inl same ↦
      let none : IsNone life xs = subst (λ y. IsNone y xs) same.1 distinct.0 in
      let only : opens_for life (map (open_at happened) (x ∷ xs)) ≡ open_at happened life ∷ [] =
      rw (eq-eqb x life same.1) (ap (λ opens. open_at happened x ∷ opens) (opens-none life happened xs none)
      ∙ ap (λ y. open_at happened y ∷ []) same.1) in
      rw only refl
  | inr other ↦
      let fewer : opens_for life (map (open_at happened) (x ∷ xs)) ≡ opens_for life (map (open_at happened) xs) =
      rw (ne_eqb x life other.1) refl in
      rw fewer (opens_tell life happened xs distinct.1 (λ none. over (other.1, none)))
]

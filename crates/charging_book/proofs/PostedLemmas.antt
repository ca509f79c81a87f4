-- A book's pieces behind a happening.
use Rattle.std.proofs.Common.{◌≡◌, ◌≢◌, ℕ, zero, suc, ◌+◌, ◌<◌, not, Bool, true, false, cond, List, [], ◌∷◌, ◌++◌, length, map, filter, take, drop, All, Contains, get_or, set, sym, ◌∙◌, ap, refl, subst, append_assoc, arith, eq-eqb}
use Rattle.std.specs.List.{remove, flat_map}
use Rattle.std.proofs.lemmas.Bool.{ne_eqb}
use Rattle.std.proofs.lemmas.List.{append-nil, get_or-map, length-map, map-set, map_push, map-append, take_more, take-append-drop}
use Rattle.std.proofs.lemmas.List.Sums.{fold-append}
use Rattle.std.proofs.Math.Seq.{drop-cons}
use Rattle.charging_book.specs.declared.records.Piece.{Piece}
use Rattle.charging_book.specs.declared.records.Why.{Why}
use Rattle.charging_book.specs.declared.records.Why.TheVariants.{Volume, Qos, Gone}
use Rattle.charging_book.specs.Rows.{Counters, Moments, Charged}
use Rattle.charging_book.specs.Pieces.{Forwarded, open_of}
use Rattle.charging_book.specs.Counters.{HasRoom, with_packet, next_piece, no_moments, with_moment, row_from}
use Rattle.charging_book.specs.Happenings.{Happening, started, forwarded, closed}
use Rattle.charging_book.specs.Accounts.{Accounts, lives_in, IsNone, AreDistinct}
use Rattle.charging_book.specs.Parts.{piece_of, moments_in, counts_in, ArePiecesOf, book_with}
use Rattle.charging_book.specs.declared.accounts.posting.Posting.{Posting}
use Rattle.charging_book.specs.Postings.{happening_of, MayGoOn, MayBePosted}
use Rattle.charging_book.specs.Posted.{fill, next_behind, with_one, row_filled, is_of, pieces_behind, rows_made, GoesOn, pieces_after, rows_after, AllMayBePosted, GoesFar}
use Rattle.charging_book.proofs.Places.{none-at}
use Rattle.charging_book.proofs.Standing.{IsAt}

abbrev life_of : Piece → ℕ
life_of piece = piece.counts.life

abbrev counter_life : Counters → ℕ
counter_life counters = counters.life

-- what is done to the pieces of one life
abbrev one : {Y : Type 0} → ℕ → (Piece → Y) → (Piece → Y) → Piece → Y
one life f g piece = cond (is_of life piece) (f piece) (g piece)

one_same : {Y : Type 0} (life : ℕ) (f g : Piece → Y) (piece : Piece) → piece.counts.life ≡ life
    → one life f g piece ≡ f piece
one_same life f g piece same = ap (λ b. cond b (f piece) (g piece)) (eq-eqb piece.counts.life life same)

one_other : {Y : Type 0} (life : ℕ) (f g : Piece → Y) (piece : Piece) → piece.counts.life ≢ life
    → one life f g piece ≡ g piece
one_other life f g piece differs = ap (λ b. cond b (f piece) (g piece)) (ne_eqb piece.counts.life life differs)

abbrev itself : Piece → Piece
itself piece = piece

map_none : (life : ℕ) (f : Piece → Piece) (pieces : List Piece) → IsNone life (map life_of pieces)
    → map (one life f itself) pieces ≡ pieces
map_none life f [] none = refl
map_none life f (piece ∷ pieces) none =
    let head = one_other life f itself piece none.0 in let rest = map_none life f pieces none.1 in cc

map_one : (life : ℕ) (f : Piece → Piece) (pieces : List Piece) (place : ℕ) (piece : Piece)
    → AreDistinct (map life_of pieces) → place < length pieces → get_or (map life_of pieces) place 0 ≡ life
    → piece ≡ get_or pieces place piece
    → map (one life f itself) pieces ≡ set pieces place (f piece)
map_one life f [] place piece distinct within found is = absurd (omega arith)
map_one life f (first ∷ pieces) zero piece distinct within found is =
    let head = one_same life f itself first found ∙ ap f (sym is) in
    let none : IsNone life (map life_of pieces) = subst (λ x. IsNone x (map life_of pieces)) found distinct.0 in
    let rest = map_none life f pieces none in cc
map_one life f (first ∷ pieces) (suc place) piece distinct within found is =
    let inside : place < length pieces = omega (arith, within) in
    let other : first.counts.life ≢ life = λ same. none-at first.counts.life (map life_of pieces) place distinct.0
    (subst (λ n. place < n) (sym (length-map pieces life_of)) inside) (found ∙ sym same) in
    let head = one_other life f itself first other in
    let rest = map_one life f pieces place piece distinct.1 inside found is in cc

abbrev left_out : ℕ → Piece → Bool
left_out life piece = not (is_of life piece)

kept_other : (life : ℕ) (piece : Piece) (pieces : List Piece) → piece.counts.life ≢ life
    → filter (left_out life) (piece ∷ pieces) ≡ piece ∷ filter (left_out life) pieces
kept_other life piece pieces differs = rw (ne_eqb piece.counts.life life differs)

dropped_same : (life : ℕ) (piece : Piece) (pieces : List Piece) → piece.counts.life ≡ life
    → filter (left_out life) (piece ∷ pieces) ≡ filter (left_out life) pieces
dropped_same life piece pieces same = rw (eq-eqb piece.counts.life life same)

filter_none : (life : ℕ) (pieces : List Piece) → IsNone life (map life_of pieces)
    → filter (left_out life) pieces ≡ pieces
filter_none life [] none = refl
filter_none life (piece ∷ pieces) none =
    kept_other life piece pieces none.0 ∙ ap (λ rest. piece ∷ rest) (filter_none life pieces none.1)

filter_one : (life : ℕ) (pieces : List Piece) (place : ℕ) → AreDistinct (map life_of pieces)
    → place < length pieces → get_or (map life_of pieces) place 0 ≡ life
    → filter (left_out life) pieces ≡ remove pieces place
filter_one life [] place distinct within found = absurd (omega arith)
filter_one life (first ∷ pieces) zero distinct within found =
    let none : IsNone life (map life_of pieces) = subst (λ x. IsNone x (map life_of pieces)) found distinct.0 in
    dropped_same life first pieces found ∙ filter_none life pieces none
filter_one life (first ∷ pieces) (suc place) distinct within found =
    let inside : place < length pieces = omega (arith, within) in
    let other : first.counts.life ≢ life = λ same. none-at first.counts.life (map life_of pieces) place distinct.0
    (subst (λ n. place < n) (sym (length-map pieces life_of)) inside) (found ∙ sym same) in
    kept_other life first pieces other
    ∙ ap (λ rest. first ∷ rest) (filter_one life pieces place distinct.1 inside found)

abbrev nothing : Piece → List Charged
nothing piece = []

rows_none : (life : ℕ) (g : Piece → List Charged) (pieces : List Piece) → IsNone life (map life_of pieces)
    → flat_map (one life g nothing) pieces ≡ []
rows_none life g [] none = refl
rows_none life g (piece ∷ pieces) none =
    ap (λ xs. xs ++ flat_map (one life g nothing) pieces) (one_other life g nothing piece none.0)
    ∙ rows_none life g pieces none.1

rows_one : (life : ℕ) (g : Piece → List Charged) (pieces : List Piece) (place : ℕ) (piece : Piece)
    → AreDistinct (map life_of pieces) → place < length pieces → get_or (map life_of pieces) place 0 ≡ life
    → piece ≡ get_or pieces place piece
    → flat_map (one life g nothing) pieces ≡ g piece
rows_one life g [] place piece distinct within found is = absurd (omega arith)
rows_one life g (first ∷ pieces) zero piece distinct within found is =
    let none : IsNone life (map life_of pieces) = subst (λ x. IsNone x (map life_of pieces)) found distinct.0 in
    ap (λ xs. xs ++ flat_map (one life g nothing) pieces) (one_same life g nothing first found ∙ ap g (sym is))
    ∙ ap (λ xs. g piece ++ xs) (rows_none life g pieces none) ∙ append-nil (g piece)
rows_one life g (first ∷ pieces) (suc place) piece distinct within found is =
    let inside : place < length pieces = omega (arith, within) in
    let other : first.counts.life ≢ life = λ same. none-at first.counts.life (map life_of pieces) place distinct.0
    (subst (λ n. place < n) (sym (length-map pieces life_of)) inside) (found ∙ sym same) in
    ap (λ xs. xs ++ flat_map (one life g nothing) pieces) (one_other life g nothing first other)
    ∙ rows_one life g pieces place piece distinct.1 inside found is

map_removed : {X Y : Type 0} (f : X → Y) (xs : List X) (place : ℕ) → map f (remove xs place) ≡ remove (map f xs) place
map_removed f [] zero = refl
map_removed f [] (suc place) = refl
map_removed f (x ∷ xs) zero = refl
map_removed f (x ∷ xs) (suc place) = ap (λ ys. f x ∷ ys) (map_removed f xs place)

lives_are : (pieces : List Piece) → map (λ (counters : Counters). counters.life) (map counts_in pieces) ≡ map life_of pieces
lives_are [] = refl
lives_are (piece ∷ pieces) = ap (λ lives. piece.counts.life ∷ lives) (lives_are pieces)

-- where counters and moments of a life stand, its piece stands
record PieceIs (pieces : List Piece) (place life : ℕ) (counters : Counters) (moments : Moments) : Type 0 where
  distinct : AreDistinct (map life_of pieces)
  within : place < length pieces
  found : get_or (map life_of pieces) place 0 ≡ life
  is : piece_of counters moments ≡ get_or pieces place (piece_of counters moments)

piece_there : (book : Accounts) (pieces : List Piece) (place life : ℕ) (counters : Counters) (moments : Moments)
    → ArePiecesOf book pieces → AreDistinct (lives_in book) → IsAt book place life counters moments
    → PieceIs pieces place life counters moments
piece_there book pieces place life counters moments are distinct at =
    let lives : lives_in book ≡ map life_of pieces =
    ap (map (λ (c : Counters). c.life)) (sym are.opens) ∙ lives_are pieces in
    let within : place < length pieces = subst (λ n. place < n)
    (ap length (sym are.opens) ∙ length-map pieces counts_in) at.within in
    let d = get_or pieces place (piece_of counters moments) in
    let counts : counters ≡ counts_in d = at.counters_are ∙ ap (λ xs. get_or xs place counters) (sym are.opens)
    ∙ get_or-map counts_in pieces place (piece_of counters moments) counters within in
    let times : moments ≡ moments_in d = at.moments_are ∙ ap (λ xs. get_or xs place moments) (sym are.moments)
    ∙ get_or-map moments_in pieces place (piece_of counters moments) moments within in
    record {
      distinct = subst AreDistinct lives distinct;
      within = within;
      found = ap (λ xs. get_or xs place 0) (sym lives) ∙ at.found;
      is = ap (λ c. piece_of c moments) counts ∙ ap (piece_of (counts_in d)) times;
    }

-- one piece goes on
goes_at : (old new : Accounts) (now : Happening) (life place : ℕ) (counters : Counters) (moments : Moments)
    (after : Piece → Piece) (rows : Piece → List Charged)
    → AreDistinct (lives_in old) → IsAt old place life counters moments
    → ((pieces : List Piece) → pieces_behind pieces now ≡ map (one life after itself) pieces)
    → ((pieces : List Piece) → rows_made pieces now ≡ flat_map (one life rows nothing) pieces)
    → new.opens ≡ set old.opens place (counts_in (after (piece_of counters moments)))
    → new.moments ≡ set old.moments place (moments_in (after (piece_of counters moments)))
    → new.rows ≡ old.rows ++ rows (piece_of counters moments)
    → GoesOn old new now
goes_at old new now life place counters moments after rows distinct at behind made opens times is = record {
  pieces = λ pieces are.
      let there = piece_there old pieces place life counters moments are distinct at in
      let piece = piece_of counters moments in
      let all : pieces_behind pieces now ≡ set pieces place (after piece) = behind pieces
      ∙ map_one life after pieces place piece there.distinct there.within there.found there.is in
      record {
        opens = ap (map counts_in) all ∙ map-set counts_in pieces place (after piece)
            ∙ ap (λ xs. set xs place (counts_in (after piece))) are.opens ∙ sym opens;
        moments = ap (map moments_in) all ∙ map-set moments_in pieces place (after piece)
            ∙ ap (λ xs. set xs place (moments_in (after piece))) are.moments ∙ sym times;
      };
  rows = λ pieces are.
      let there = piece_there old pieces place life counters moments are distinct at in
      let piece = piece_of counters moments in
      is ∙ ap (λ xs. old.rows ++ xs) (sym (made pieces
      ∙ rows_one life rows pieces place piece there.distinct there.within there.found there.is));
}

-- a packet that doesn't fill its piece · one that does
pub goes-counted : (old new : Accounts) (life place : ℕ) (p : Forwarded) (counters : Counters) (moments : Moments)
    → AreDistinct (lives_in old) → IsAt old place life counters moments
    → fill (with_packet counters p.up p.octets) ≡ false
    → new.opens ≡ set old.opens place (with_packet counters p.up p.octets)
    → new.moments ≡ set old.moments place (with_moment moments p.at) → new.rows ≡ old.rows
    → GoesOn old new (forwarded life p)
goes-counted old new life place p counters moments distinct at unfilled opens times rows =
    let counts = with_packet counters p.up p.octets in
    let is : with_one p (piece_of counters moments) ≡ piece_of counts (with_moment moments p.at) =
    ap (λ b. cond b (next_behind counts) (piece_of counts (with_moment moments p.at))) unfilled in
    let made : row_filled p (piece_of counters moments) ≡ [] =
    ap (λ b. cond b (row_from counts (with_moment moments p.at) Volume ∷ []) []) unfilled in
    goes_at old new (forwarded life p) life place counters moments (with_one p) (row_filled p) distinct at
    (λ pieces. refl) (λ pieces. refl)
    (opens ∙ ap (λ (piece : Piece). set old.opens place (counts_in piece)) (sym is))
    (times ∙ ap (λ (piece : Piece). set old.moments place (moments_in piece)) (sym is))
    (rows ∙ sym (append-nil old.rows) ∙ ap (λ xs. old.rows ++ xs) (sym made))

pub goes-filled : (old new : Accounts) (life place : ℕ) (p : Forwarded) (counters : Counters) (moments : Moments)
    → AreDistinct (lives_in old) → IsAt old place life counters moments
    → fill (with_packet counters p.up p.octets) ≡ true
    → new.opens ≡ set old.opens place (next_piece (with_packet counters p.up p.octets))
    → new.moments ≡ set old.moments place no_moments
    → new.rows ≡ old.rows ++ row_from (with_packet counters p.up p.octets) (with_moment moments p.at) Volume ∷ []
    → GoesOn old new (forwarded life p)
goes-filled old new life place p counters moments distinct at filled opens times rows =
    let counts = with_packet counters p.up p.octets in
    let is : with_one p (piece_of counters moments) ≡ next_behind counts =
    ap (λ b. cond b (next_behind counts) (piece_of counts (with_moment moments p.at))) filled in
    let made : row_filled p (piece_of counters moments) ≡ row_from counts (with_moment moments p.at) Volume ∷ [] =
    ap (λ b. cond b (row_from counts (with_moment moments p.at) Volume ∷ []) []) filled in
    goes_at old new (forwarded life p) life place counters moments (with_one p) (row_filled p) distinct at
    (λ pieces. refl) (λ pieces. refl)
    (opens ∙ ap (λ (piece : Piece). set old.opens place (counts_in piece)) (sym is))
    (times ∙ ap (λ (piece : Piece). set old.moments place (moments_in piece)) (sym is))
    (rows ∙ ap (λ xs. old.rows ++ xs) (sym made))

-- a piece that is finished, of a life that goes on · of one that is over

behind_marked : (life : ℕ) (why : Why) (pieces : List Piece) → why ≢ Gone
    → pieces_behind pieces (closed life why) ≡ map (one life (λ piece. next_behind piece.counts) itself) pieces
behind_marked life Volume pieces other = refl
behind_marked life Qos pieces other = refl
behind_marked life Gone pieces other = absurd (other refl)

pub goes-marked : (old new : Accounts) (life place : ℕ) (why : Why) (counters : Counters) (moments : Moments)
    → AreDistinct (lives_in old) → IsAt old place life counters moments → why ≢ Gone
    → new.opens ≡ set old.opens place (next_piece counters) → new.moments ≡ set old.moments place no_moments
    → new.rows ≡ old.rows ++ row_from counters moments why ∷ []
    → GoesOn old new (closed life why)
goes-marked old new life place why counters moments distinct at other opens times rows =
    goes_at old new (closed life why) life place counters moments (λ piece. next_behind piece.counts)
    (λ piece. row_from piece.counts (moments_in piece) why ∷ []) distinct at
    (λ pieces. behind_marked life why pieces other) (λ pieces. refl) opens times rows

pub goes-gone : (old new : Accounts) (life place : ℕ) (counters : Counters) (moments : Moments)
    → AreDistinct (lives_in old) → IsAt old place life counters moments
    → new.opens ≡ remove old.opens place → new.moments ≡ remove old.moments place
    → new.rows ≡ old.rows ++ row_from counters moments Gone ∷ []
    → GoesOn old new (closed life Gone)
goes-gone old new life place counters moments distinct at opens times rows = record {
  pieces = λ pieces are.
      let there = piece_there old pieces place life counters moments are distinct at in
      let all = filter_one life pieces place there.distinct there.within there.found in
      record {
        opens = ap (map counts_in) all ∙ map_removed counts_in pieces place
            ∙ ap (λ xs. remove xs place) are.opens ∙ sym opens;
        moments = ap (map moments_in) all ∙ map_removed moments_in pieces place
            ∙ ap (λ xs. remove xs place) are.moments ∙ sym times;
      };
  rows = λ pieces are.
      let there = piece_there old pieces place life counters moments are distinct at in
      rows ∙ ap (λ xs. old.rows ++ xs) (sym (rows_one life (λ piece. row_from piece.counts (moments_in piece) Gone ∷ [])
      pieces place (piece_of counters moments) there.distinct there.within there.found there.is));
}

pub goes-started : (old new : Accounts) (life ebi qci : ℕ)
    → new.opens ≡ old.opens ++ open_of life ebi qci 0 [] ∷ [] → new.moments ≡ old.moments ++ no_moments ∷ []
    → new.rows ≡ old.rows
    → GoesOn old new (started life ebi qci)
goes-started old new life ebi qci opens times rows = record {
  pieces = λ pieces are.
      let first = piece_of (open_of life ebi qci 0 []) no_moments in
      record {
        opens = map_push counts_in pieces first
            ∙ ap (λ xs. xs ++ open_of life ebi qci 0 [] ∷ []) are.opens ∙ sym opens;
        moments = map_push moments_in pieces first ∙ ap (λ xs. xs ++ no_moments ∷ []) are.moments ∙ sym times;
      };
  rows = λ pieces are. rows ∙ sym (append-nil old.rows);
}

-- what may be posted to a book may be posted to the book of its pieces, and the other way round
pub may_by_pieces : (book : Accounts) (pieces : List Piece) (now : Happening) → ArePiecesOf book pieces
    → MayBePosted (book_with pieces) now → MayBePosted book now
may_by_pieces book pieces (started life ebi qci) are may = record {
  in_range = may.in_range;
  fresh = subst (λ (opens : List Counters). All (λ other. other ≢ life) (map counter_life opens)) are.opens may.fresh;
}
may_by_pieces book pieces (forwarded life p) are may = goes book pieces life are may
  where
    goes : (book : Accounts) (pieces : List Piece) (life : ℕ) → ArePiecesOf book pieces
        → MayGoOn (book_with pieces) life → MayGoOn book life
    goes book pieces life are may = record {
      is_open = subst (λ (opens : List Counters). Contains (map counter_life opens) life) are.opens may.is_open;
      room = subst (λ (opens : List Counters). All (λ counters. counters.life ≡ life → HasRoom counters) opens)
          are.opens may.room;
    }
may_by_pieces book pieces (closed life why) are may = record {
  is_open = subst (λ (opens : List Counters). Contains (map counter_life opens) life) are.opens may.is_open;
  room = subst (λ (opens : List Counters). All (λ counters. counters.life ≡ life → HasRoom counters) opens)
      are.opens may.room;
}

pieces_push : (pieces : List Piece) (xs : List Happening) (now : Happening)
    → pieces_after pieces (xs ++ now ∷ []) ≡ pieces_behind (pieces_after pieces xs) now
pieces_push pieces xs now = fold-append pieces_behind pieces xs (now ∷ [])

rows_push : (pieces : List Piece) (xs : List Happening) (now : Happening)
    → rows_after pieces (xs ++ now ∷ []) ≡ rows_after pieces xs ++ rows_made (pieces_after pieces xs) now
rows_push pieces [] now = append-nil (rows_made pieces now)
rows_push pieces (x ∷ xs) now =
    ap (λ rows. rows_made pieces x ++ rows) (rows_push (pieces_behind pieces x) xs now)
    ∙ sym (append_assoc (rows_made pieces x) (rows_after (pieces_behind pieces x) xs)
    (rows_made (pieces_after (pieces_behind pieces x) xs) now))

may_behind : (pieces : List Piece) (xs ys : List Happening) → AllMayBePosted pieces (xs ++ ys)
    → AllMayBePosted (pieces_after pieces xs) ys
may_behind pieces [] ys may = may
may_behind pieces (x ∷ xs) ys may = may_behind (pieces_behind pieces x) xs ys may.1

-- one posting more
pub posted_more : (copy new : Accounts) (pieces : List Piece) (postings : List Posting) (place : ℕ) (posting : Posting)
    → place < length postings → posting ≡ get_or postings place posting
    → ArePiecesOf copy (pieces_after pieces (map happening_of (take place postings)))
    → copy.rows ≡ rows_after pieces (map happening_of (take place postings))
    → AllMayBePosted pieces (map happening_of postings)
    → (MayBePosted copy (happening_of posting) → GoesOn copy new (happening_of posting))
    → ArePiecesOf new (pieces_after pieces (map happening_of (take (place + 1) postings)))
    × (new.rows ≡ rows_after pieces (map happening_of (take (place + 1) postings)))
posted_more copy new pieces postings place posting within is are rows may goes =
    let so_far = map happening_of (take place postings) in
    let now = happening_of posting in
    let more : map happening_of (take (place + 1) postings) ≡ so_far ++ now ∷ [] =
    ap (map happening_of) (take_more postings place posting within ∙ ap (λ x. take place postings ++ x ∷ []) (sym is))
    ∙ map_push happening_of (take place postings) posting in
    let rest : drop place postings ≡ posting ∷ drop (suc place) postings =
    drop-cons postings place posting within ∙ ap (λ x. x ∷ drop (suc place) postings) (sym is) in
    let split : map happening_of postings ≡ so_far ++ now ∷ map happening_of (drop (suc place) postings) =
    ap (map happening_of) (sym (take-append-drop place postings) ∙ ap (λ xs. take place postings ++ xs) rest)
    ∙ map-append happening_of (take place postings) (posting ∷ drop (suc place) postings) in
    let may_now = (may_behind pieces so_far (now ∷ map happening_of (drop (suc place) postings))
    (subst (AllMayBePosted pieces) split may)).0 in
    let gone = goes (may_by_pieces copy (pieces_after pieces so_far) now are may_now) in (
      subst (ArePiecesOf new) (sym (ap (pieces_after pieces) more ∙ pieces_push pieces so_far now))
          (gone.pieces (pieces_after pieces so_far) are),
      gone.rows (pieces_after pieces so_far) are
          ∙ ap (λ xs. xs ++ rows_made (pieces_after pieces so_far) now) rows
          ∙ sym (ap (rows_after pieces) more ∙ rows_push pieces so_far now),
    )

-- a book that takes a copy's counters over, and its rows behind its own
pub goes_far : (old copy new : Accounts) (postings : List Posting)
    → ((pieces : List Piece) → ArePiecesOf old pieces → AllMayBePosted pieces (map happening_of postings)
    → ArePiecesOf copy (pieces_after pieces (map happening_of postings))
    × (copy.rows ≡ rows_after pieces (map happening_of postings)))
    → new.opens ≡ copy.opens → new.moments ≡ copy.moments → new.rows ≡ old.rows ++ copy.rows
    → GoesFar old new (map happening_of postings)
goes_far old copy new postings gone opens times rows = record {
  pieces = λ pieces are may.
      let there = (gone pieces are may).0 in
      record { opens = there.opens ∙ sym opens; moments = there.moments ∙ sym times };
  rows = λ pieces are may. rows ∙ ap (λ xs. old.rows ++ xs) (gone pieces are may).1;
}

-- One happening more.
use Rattle.std.proofs.Common.{◌≡◌, ℕ, ◌==◌, not, List, [], ◌∷◌, ◌++◌, fold, sym, ◌∙◌, ap, refl, append_assoc}
use Rattle.std.proofs.lemmas.List.{append-nil}
use Rattle.std.proofs.lemmas.List.Sums.{fold-append}
use Rattle.charging_book.specs.Pieces.{Forwarded, Item, finishes, piece_after, finished_from, finished, last_piece}
use Rattle.charging_book.specs.declared.records.Why.TheVariants.{Volume, Qos, Gone}
use Rattle.charging_book.specs.Happenings.{Happening, started, forwarded, closed, story_step, story_of, lives_step, lives_of, rows_at, rows_from, rows_of, MayHappen, AllMay, IsLawful}
use Rattle.charging_book.proofs.Places.{none_of_all, distinct-push, distinct-filter}
use Rattle.charging_book.specs.Accounts.{AreDistinct}

finished_from-append : (piece : List Forwarded) (xs ys : List Item)
    → finished_from piece (xs ++ ys) ≡ finished_from piece xs ++ finished_from (fold piece_after piece xs) ys
finished_from-append piece [] ys = refl
finished_from-append piece (x ∷ xs) ys =
    ap (λ rest. finishes piece x ++ rest) (finished_from-append (piece_after piece x) xs ys)
    ∙ sym (append_assoc (finishes piece x) (finished_from (piece_after piece x) xs)
    (finished_from (fold piece_after (piece_after piece x) xs) ys))

pub finished-push : (items : List Item) (item : Item)
    → finished (items ++ item ∷ []) ≡ finished items ++ finishes (last_piece items) item
finished-push items item =
    finished_from-append [] items (item ∷ [])
    ∙ ap (λ rest. finished items ++ rest) (append-nil (finishes (last_piece items) item))

pub last_piece-push : (items : List Item) (item : Item)
    → last_piece (items ++ item ∷ []) ≡ piece_after (last_piece items) item
last_piece-push items item = fold-append piece_after [] items (item ∷ [])

pub story-push : (happened : List Happening) (now : Happening) (life : ℕ)
    → story_of (happened ++ now ∷ []) life ≡ story_step life (story_of happened life) now
story-push happened now life =
    fold-append (story_step life) (record { ebi = 0; qci = 0; items = [] }) happened (now ∷ [])

pub lives-push : (happened : List Happening) (now : Happening)
    → lives_of (happened ++ now ∷ []) ≡ lives_step (lives_of happened) now
lives-push happened now = fold-append lives_step [] happened (now ∷ [])

pub rows_from-append : (before xs ys : List Happening)
    → rows_from before (xs ++ ys) ≡ rows_from before xs ++ rows_from (before ++ xs) ys
rows_from-append before [] ys = ap (λ b. rows_from b ys) (sym (append-nil before))
rows_from-append before (x ∷ xs) ys =
    ap (λ rest. rows_at before x ++ rest)
    (rows_from-append (before ++ x ∷ []) xs ys
    ∙ ap (λ b. rows_from (before ++ x ∷ []) xs ++ rows_from b ys) (append_assoc before (x ∷ []) xs))
    ∙ sym (append_assoc (rows_at before x) (rows_from (before ++ x ∷ []) xs) (rows_from (before ++ x ∷ xs) ys))

pub rows-push : (happened : List Happening) (now : Happening)
    → rows_of (happened ++ now ∷ []) ≡ rows_of happened ++ rows_at happened now
rows-push happened now = rows_from-append [] happened (now ∷ [])
    ∙ ap (λ rest. rows_of happened ++ rest) (append-nil (rows_at happened now))

pub may_from-push : (before xs : List Happening) (now : Happening) → AllMay before xs → MayHappen (before ++ xs) now
    → AllMay before (xs ++ now ∷ [])
may_from-push before [] now all may = (rw (append-nil before) at may, tt)
may_from-push before (x ∷ xs) now all may =
    (all.0, may_from-push (before ++ x ∷ []) xs now all.1 (rw (append_assoc before (x ∷ []) xs) may))

pub lawful-push : (happened : List Happening) (now : Happening) → IsLawful happened → MayHappen happened now
    → IsLawful (happened ++ now ∷ [])
lawful-push happened now lawful may = may_from-push [] happened now lawful may

-- the lives of what may happen are distinct
distinct-step : (before : List Happening) (now : Happening) → MayHappen before now → AreDistinct (lives_of before)
    → AreDistinct (lives_step (lives_of before) now)
distinct-step before (started life ebi qci) may distinct =
    distinct-push (lives_of before) life distinct (none_of_all life (lives_of before) may)
distinct-step before (forwarded life p) may distinct = distinct
distinct-step before (closed life Volume) may distinct = distinct
distinct-step before (closed life Qos) may distinct = distinct
distinct-step before (closed life Gone) may distinct =
    distinct-filter (λ other. not (other == life)) (lives_of before) distinct

distinct_from : (before xs : List Happening) → AllMay before xs → AreDistinct (lives_of before)
    → AreDistinct (lives_of (before ++ xs))
distinct_from before [] all distinct = rw (append-nil before) distinct
distinct_from before (x ∷ xs) all distinct =
    rw (append_assoc before (x ∷ []) xs) at
    (distinct_from (before ++ x ∷ []) xs all.1 (rw (lives-push before x) (distinct-step before x all.0 distinct)))

pub lives-distinct : (happened : List Happening) → IsLawful happened → AreDistinct (lives_of happened)
lives-distinct happened lawful = distinct_from [] happened lawful tt

-- Of a book that represents what happened no piece is full, and no two are of one life.
use Rattle.std.proofs.Common.{◌≡◌, ℕ, ◌+◌, ◌<◌, ◌++◌, ◌∷◌, Bool, true, false, if◌then◌else◌, List, [], map, fold, refl, sym, ap, subst}
use Rattle.std.specs.List.{AllByRecursion}
use Rattle.std.proofs.lemmas.Bool.{leb-false}
use Rattle.std.proofs.lemmas.List.Elements.{All-from_recursion}
use Rattle.charging_book.specs.Accounts.{Accounts, AreCounting, AreDistinct, StandsFor}
use Rattle.charging_book.specs.Happenings.{Happening, lives_of, open_at, story_of}
use Rattle.charging_book.specs.Pieces.{Forwarded, Item, packet, mark, is_full, last_piece, piece_after, volume, up_octets, down_octets}
use Rattle.charging_book.specs.Rows.{Counters}
use Rattle.charging_book.proofs.Steps.{lives-distinct}

by_fill : (more : List Forwarded) (full : Bool) → is_full more ≡ full → is_full (if full then [] else more) ≡ false
by_fill more true is = refl
by_fill more false is = is

-- the piece behind an item isn't full
behind : (piece : List Forwarded) (item : Item) → is_full (piece_after piece item) ≡ false
behind piece (packet p) = by_fill (piece ++ p ∷ []) (is_full (piece ++ p ∷ [])) refl
behind piece (mark why) = refl

not_full : (piece : List Forwarded) (items : List Item) → is_full piece ≡ false
    → is_full (fold piece_after piece items) ≡ false
not_full piece [] some = some
not_full piece (item ∷ items) some = not_full (piece_after piece item) items (behind piece item)

abbrev IsCounting : Counters → Type 0
IsCounting counters = counters.up_octets + counters.down_octets < volume

open_counts : (happened : List Happening) (life : ℕ) → IsCounting (open_at happened life)
open_counts happened life =
    let piece : List Forwarded = last_piece (story_of happened life).items in
    leb-false volume (up_octets piece + down_octets piece) (not_full [] (story_of happened life).items refl)

each_counts : (happened : List Happening) (lives : List ℕ) → AllByRecursion IsCounting (map (open_at happened) lives)
each_counts happened [] = tt
each_counts happened (life ∷ lives) = (open_counts happened life, each_counts happened lives)

pub stands_counting : (book : Accounts) (happened : List Happening) (taken : ℕ) → StandsFor book happened taken
    → AreCounting book.opens
stands_counting book happened taken stands =
    subst AreCounting (sym stands.opens)
    (All-from_recursion IsCounting (map (open_at happened) (lives_of happened)) (each_counts happened (lives_of happened)))

lives_again : (happened : List Happening) (lives : List ℕ)
    → map (λ (counters : Counters). counters.life) (map (open_at happened) lives) ≡ lives
lives_again happened [] = refl
lives_again happened (life ∷ lives) = ap (λ (others : List ℕ). life ∷ others) (lives_again happened lives)

pub stands_distinct : (book : Accounts) (happened : List Happening) (taken : ℕ) → StandsFor book happened taken
    → AreDistinct (map (λ (counters : Counters). counters.life) book.opens)
stands_distinct book happened taken stands =
    subst (λ (opens : List Counters). AreDistinct (map (λ (counters : Counters). counters.life) opens)) (sym stands.opens)
    (subst AreDistinct (sym (lives_again happened (lives_of happened))) (lives-distinct happened stands.lawful))

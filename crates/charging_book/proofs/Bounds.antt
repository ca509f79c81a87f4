-- No count of a book is above the number of happenings.
use Rattle.std.proofs.Common.{ℕ, ◌+◌, ◌≤◌, ◌==◌, Bool, true, false, not, List, [], ◌∷◌, ◌++◌, length, fold, All, get_or, sym, subst, arith, cond, if◌then◌else◌, length-append}
use Rattle.std.proofs.lemmas.List.{get_or-map, length-map}
use Rattle.std.proofs.lemmas.List.Sums.{sum_by-append}
use Rattle.charging_book.specs.declared.records.Why.TheVariants.{Volume}
use Rattle.charging_book.specs.Pieces.{Forwarded, Item, packet, mark, Finished, is_full, finishes, piece_after, finished_from, last_piece, up_packets, down_packets}
use Rattle.charging_book.specs.Happenings.{Happening, started, forwarded, closed, Story, with_item, story_step, story_of, lives_of, open_at}
use Rattle.charging_book.specs.Accounts.{AreBounded, IsBounded}

-- a story has no more items than there were happenings
with_item-size : (b : Bool) (story : Story) (item : Item)
    → length (if b then with_item story item else story).items ≤ length story.items + 1
with_item-size true story item = omega (arith, length-append story.items (item ∷ []))
with_item-size false story item = omega arith

fresh-size : (b : Bool) (ebi qci : ℕ) (story : Story)
    → length (if b then record { ebi = ebi; qci = qci; items = [] } else story).items ≤ length story.items + 1
fresh-size true ebi qci story = omega arith
fresh-size false ebi qci story = omega arith

step-size : (life : ℕ) (story : Story) (now : Happening)
    → length (story_step life story now).items ≤ length story.items + 1
step-size life story (started other ebi qci) = fresh-size (other == life) ebi qci story
step-size life story (forwarded other p) = with_item-size (other == life) story (packet p)
step-size life story (closed other why) = with_item-size (other == life) story (mark why)

steps-size : (life : ℕ) (story : Story) (happened : List Happening)
    → length (fold (story_step life) story happened).items ≤ length story.items + length happened
steps-size life story [] = omega arith
steps-size life story (now ∷ later) =
    omega (arith, step-size life story now, steps-size life (story_step life story now) later)

-- a story has no more pieces than items, and a piece no more packets
finishes-size : (piece : List Forwarded) (item : Item) → length (finishes piece item) ≤ 1
finishes-size piece (mark why) = omega arith
finishes-size piece (packet p) =
    let done : Finished = record { piece = piece ++ p ∷ []; why = Volume } in
    elim (is_full (piece ++ p ∷ [])) as (λ b. length (cond b (done ∷ []) []) ≤ 1) [
      | true ↦ omega arith
      | false ↦ omega arith
    ]

finished-size : (piece : List Forwarded) (items : List Item) → length (finished_from piece items) ≤ length items
finished-size piece [] = omega arith
finished-size piece (item ∷ items) =
    omega (
      arith,
      length-append (finishes piece item) (finished_from (piece_after piece item) items),
      finishes-size piece item,
      finished-size (piece_after piece item) items,
    )

piece_after-size : (piece : List Forwarded) (item : Item) → length (piece_after piece item) ≤ length piece + 1
piece_after-size piece (mark why) = omega arith
piece_after-size piece (packet p) =
    elim (is_full (piece ++ p ∷ [])) as (λ b. length (cond b [] (piece ++ p ∷ [])) ≤ length piece + 1) [
      | true ↦ omega arith
      | false ↦ omega (arith, length-append piece (p ∷ []))
    ]

last_piece-size : (piece : List Forwarded) (items : List Item)
    → length (fold piece_after piece items) ≤ length piece + length items
last_piece-size piece [] = omega arith
last_piece-size piece (item ∷ items) =
    omega (arith, piece_after-size piece item, last_piece-size (piece_after piece item) items)

at_most_one : (b : Bool) → cond b 1 0 ≤ 1
at_most_one true = omega arith
at_most_one false = omega arith

up_packets-size : (piece : List Forwarded) → up_packets piece ≤ length piece
up_packets-size [] = omega arith
up_packets-size (p ∷ piece) =
    omega (
      arith,
      sum_by-append (λ (q : Forwarded). if q.up then 1 else 0) (p ∷ []) piece,
      at_most_one p.up,
      up_packets-size piece,
    )

down_packets-size : (piece : List Forwarded) → down_packets piece ≤ length piece
down_packets-size [] = omega arith
down_packets-size (p ∷ piece) =
    omega (
      arith,
      sum_by-append (λ (q : Forwarded). if not q.up then 1 else 0) (p ∷ []) piece,
      at_most_one (not p.up),
      down_packets-size piece,
    )

-- so are the counters of each life
open-bounded : (happened : List Happening) (life : ℕ) → IsBounded (length happened) (open_at happened life)
open-bounded happened life =
    let items = (story_of happened life).items in
    let story = steps-size life (record { ebi = 0; qci = 0; items = [] }) happened in
    let piece = last_piece-size [] items in
    record {
      rows = omega (arith, story, finished-size [] items);
      up = omega (arith, story, piece, up_packets-size (last_piece items));
      down = omega (arith, story, piece, down_packets-size (last_piece items));
    }

pub are_bounded : AreBounded
are_bounded book happened taken stands =
    subst (λ opens. All (IsBounded (length happened)) opens) (sym stands.opens)
    (λ k d within.
    let in_lives = length-map (lives_of happened) (open_at happened) in
    subst (IsBounded (length happened)) (sym (get_or-map (open_at happened) (lives_of happened) k 0 d
    (omega (arith, within, in_lives))))
    (open-bounded happened (get_or (lives_of happened) k 0)))

-- The charging records and open counters of what was heard in range are in range.
use Rattle.std.proofs.Common.{◌≡◌, ℕ, ◌+◌, ◌-◌, ◌<◌, ◌≤◌, ◌^◌, ◌==◌, not, Bool, true, false, if◌then◌else◌, Option, None, Some, IfSome, List, [], ◌∷◌, ◌++◌, length, map, fold, refl, arith, length-append}
use Rattle.std.specs.List.{AllByRecursion}
use Rattle.std.proofs.lemmas.Bool.{leb-false}
use Rattle.std.proofs.lemmas.List.Sums.{count_by-le-length, sum_by-append}
use Rattle.charging_book.specs.Happenings.{Happening, Story, closed, forwarded, open_at, rows_at, rows_by, rows_from, rows_of, started, story_of, story_step, with_item}
use Rattle.charging_book.specs.Pieces.{Finished, Forwarded, Item, down_octets, down_packets, finished, finished_from, finishes, first_at, is_full, last_piece, mark, packet, piece_after, row_of, up_octets, up_packets}
use Rattle.charging_book.specs.Rows.{Charged}
use Rattle.charging_book.specs.declared.records.Why.TheVariants.{Volume}
use Rattle.report_lines.specs.Ranges.{AreCounters, IsMoment}
use Rattle.report_lines.specs.Text.{counters_of}
use Rattle.demux.specs.Ranges.{IsOctet}
use Rattle.lawful_run.specs.RangeLaws.{OpenPiecesAreInRange}
use Rattle.lawful_run.specs.Ranges.{HappeningIn}
use Rattle.demux.proofs.Small.{each_append}

pub record PartIn (p : Forwarded) : Type 0 where
  pub octets : p.octets < 2 ^ 16
  pub at : p.at < 2 ^ 50

abbrev ItemIn : Item → Type 0
ItemIn (packet p) = PartIn p
ItemIn (mark why) = Unit {0}

-- a piece that isn't full, of so many packets
record PieceIn (most : ℕ) (piece : List Forwarded) : Type 0 where
  each : AllByRecursion PartIn piece
  open_still : up_octets piece + down_octets piece < 1000000
  few : length piece ≤ most

-- one that is finished
record WholeIn (most : ℕ) (piece : List Forwarded) : Type 0 where
  each : AllByRecursion PartIn piece
  octets : up_octets piece + down_octets piece < 1100000
  few : length piece ≤ most

octets_push : (piece : List Forwarded) (p : Forwarded)
    → up_octets (piece ++ p ∷ []) + down_octets (piece ++ p ∷ []) ≡ up_octets piece + down_octets piece + p.octets
octets_push piece p =
    let ups : up_octets (piece ++ p ∷ []) ≡ up_octets piece + up_octets (p ∷ []) =
    sum_by-append (λ (q : Forwarded). if q.up then q.octets else 0) piece (p ∷ []) in
    let downs : down_octets (piece ++ p ∷ []) ≡ down_octets piece + down_octets (p ∷ []) =
    sum_by-append (λ (q : Forwarded). if q.up then 0 else q.octets) piece (p ∷ []) in
    let own : up_octets (p ∷ []) + down_octets (p ∷ []) ≡ p.octets = one_way p.up p.octets in
    omega (arith, ups, downs, own)
  where
    one_way : (up : Bool) (many : ℕ) → 0 + (if up then many else 0) + (0 + (if up then 0 else many)) ≡ many
    one_way true many = omega arith
    one_way false many = omega arith

pushed : (most : ℕ) (piece : List Forwarded) (p : Forwarded) → PieceIn most piece → PartIn p
    → WholeIn (most + 1) (piece ++ p ∷ [])
pushed most piece p is own = record {
  each = each_append PartIn piece (p ∷ []) is.each (own, tt);
  octets = omega (arith, octets_push piece p, is.open_still, own.octets);
  few = omega (arith, is.few, length-append piece (p ∷ []));
}

after_packet : (most : ℕ) (piece : List Forwarded) (full : Bool) → is_full piece ≡ full → WholeIn most piece
    → PieceIn most (if full then [] else piece)
after_packet most piece true same is = record { each = tt; open_still = omega arith; few = omega arith }
after_packet most piece false same is = record {
  each = is.each;
  open_still = leb-false 1000000 (up_octets piece + down_octets piece) same;
  few = is.few;
}

piece_next : (most : ℕ) (piece : List Forwarded) (item : Item) → PieceIn most piece → ItemIn item
    → PieceIn (most + 1) (piece_after piece item)
piece_next most piece (packet p) is own =
    after_packet (most + 1) (piece ++ p ∷ []) (is_full (piece ++ p ∷ [])) refl (pushed most piece p is own)
piece_next most piece (mark why) is own = record { each = tt; open_still = omega arith; few = omega arith }

last_in : (most : ℕ) (piece : List Forwarded) (items : List Item) → PieceIn most piece → AllByRecursion ItemIn items
    → PieceIn (most + length items) (fold piece_after piece items)
last_in most piece [] is all = record { each = is.each; open_still = is.open_still; few = omega (arith, is.few) }
last_in most piece (item ∷ items) is all =
    let rest = last_in (most + 1) (piece_after piece item) items (piece_next most piece item is all.0) all.1 in
    record { each = rest.each; open_still = rest.open_still; few = omega (arith, rest.few) }

-- how many are finished
by_full : (full : Bool) (done : Finished) → length (if full then done ∷ [] else []) ≤ 1
by_full true done = omega arith
by_full false done = omega arith

one_most : (before : List Forwarded) (now : Item) → length (finishes before now) ≤ 1
one_most before (packet p) =
    by_full (is_full (before ++ p ∷ [])) (record { piece = before ++ p ∷ []; why = Volume })
one_most before (mark why) = omega arith

finished_few : (piece : List Forwarded) (items : List Item) → length (finished_from piece items) ≤ length items
finished_few piece [] = omega arith
finished_few piece (item ∷ items) =
    let parts = length-append (finishes piece item) (finished_from (piece_after piece item) items) in
    omega (arith, parts, one_most piece item, finished_few (piece_after piece item) items)

-- a story
record StoryIn (most : ℕ) (story : Story) : Type 0 where
  ebi : IsOctet story.ebi
  qci : IsOctet story.qci
  items : AllByRecursion ItemIn story.items
  few : length story.items ≤ most

by_life : (most : ℕ) (test : Bool) (one other : Story) → StoryIn most one → StoryIn most other
    → StoryIn most (if test then one else other)
by_life most true one other first second = first
by_life most false one other first second = second

wider : (most : ℕ) (story : Story) → StoryIn most story → StoryIn (most + 1) story
wider most story is = record { ebi = is.ebi; qci = is.qci; items = is.items; few = omega (arith, is.few) }

item_more : (most : ℕ) (story : Story) (item : Item) → StoryIn most story → ItemIn item
    → StoryIn (most + 1) (with_item story item)
item_more most story item is own = record {
  ebi = is.ebi;
  qci = is.qci;
  items = each_append ItemIn story.items (item ∷ []) is.items (own, tt);
  few = omega (arith, is.few, length-append story.items (item ∷ []));
}

step_in : (most life : ℕ) (story : Story) (now : Happening) → StoryIn most story → HappeningIn now
    → StoryIn (most + 1) (story_step life story now)
step_in most life story (started other ebi qci) is own =
    by_life (most + 1) (other == life) (record { ebi = ebi; qci = qci; items = [] }) story
    (record { ebi = own.1; qci = own.2; items = tt; few = omega arith }) (wider most story is)
step_in most life story (forwarded other p) is own =
    by_life (most + 1) (other == life) (with_item story (packet p)) story
    (item_more most story (packet p) is (record { octets = own.1; at = own.2 })) (wider most story is)
step_in most life story (closed other why) is own =
    by_life (most + 1) (other == life) (with_item story (mark why)) story (item_more most story (mark why) is tt)
    (wider most story is)

steps_in : (most life : ℕ) (story : Story) (happened : List Happening) → StoryIn most story
    → AllByRecursion HappeningIn happened
    → StoryIn (most + length happened) (fold (story_step life) story happened)
steps_in most life story [] is all =
    record { ebi = is.ebi; qci = is.qci; items = is.items; few = omega (arith, is.few) }
steps_in most life story (now ∷ happened) is all =
    let rest = steps_in (most + 1) life (story_step life story now) happened (step_in most life story now is all.0)
    all.1 in
    record { ebi = rest.ebi; qci = rest.qci; items = rest.items; few = omega (arith, rest.few) }

story_in : (happened : List Happening) (life : ℕ) → AllByRecursion HappeningIn happened
    → StoryIn (length happened) (story_of happened life)
story_in happened life all =
    let is = steps_in 0 life (record { ebi = 0; qci = 0; items = [] }) happened
    (record { ebi = omega arith; qci = omega arith; items = tt; few = omega arith }) all in
    record { ebi = is.ebi; qci = is.qci; items = is.items; few = omega (arith, is.few) }

piece_of_story : (most : ℕ) (story : Story) → StoryIn most story → PieceIn most (last_piece story.items)
piece_of_story most story is =
    let piece = last_in 0 [] story.items (record { each = tt; open_still = omega arith; few = omega arith }) is.items in
    record { each = piece.each; open_still = piece.open_still; few = omega (arith, piece.few, is.few) }

-- counters
counted_in : (most life seq : ℕ) (story : Story) (piece : List Forwarded) → most ≤ 2 ^ 61 - 20 → life < 2 ^ 40
    → seq ≤ most → StoryIn most story → up_octets piece + down_octets piece < 1100000 → length piece ≤ most + 1
    → AreCounters (record {
      life = life;
      ebi = story.ebi;
      qci = story.qci;
      seq = seq;
      up_octets = up_octets piece;
      down_octets = down_octets piece;
      up_packets = up_packets piece;
      down_packets = down_packets piece;
    })
counted_in most life seq story piece wide known counted is octets few = record {
  life = omega (arith, known);
  ebi = omega (arith, is.ebi);
  qci = omega (arith, is.qci);
  seq = omega (arith, counted, wide);
  up_octets = omega (arith, octets);
  down_octets = omega (arith, octets);
  up_packets = omega (arith, count_by-le-length (λ (p : Forwarded). p.up) piece, few, wide);
  down_packets = omega (arith, count_by-le-length (λ (p : Forwarded). not p.up) piece, few, wide);
}

pub open_in : (happened : List Happening) (life : ℕ) → length happened ≤ 2 ^ 61 - 20 → life < 2 ^ 40
    → AllByRecursion HappeningIn happened → AreCounters (open_at happened life)
open_in happened life wide known all =
    let story = story_of happened life in
    let is = story_in happened life all in
    let piece = piece_of_story (length happened) story is in
    let seq : length (finished story.items) ≤ length happened = omega (arith, finished_few [] story.items, is.few) in
    counted_in (length happened) life (length (finished story.items)) story (last_piece story.items) wide known seq is
    (omega (arith, piece.open_still)) (omega (arith, piece.few))

-- moments
first_in : (piece : List Forwarded) → AllByRecursion PartIn piece → IfSome (first_at piece) IsMoment
first_in [] all = tt
first_in (p ∷ piece) all = let own : PartIn p = all.0 in own.at

last_from : (at : Option ℕ) (piece : List Forwarded) → IfSome at IsMoment → AllByRecursion PartIn piece
    → IfSome (fold (λ (other : Option ℕ) (p : Forwarded). Some p.at) at piece) IsMoment
last_from at [] is all = is
last_from at (p ∷ piece) is all = let own : PartIn p = all.0 in last_from (Some p.at) piece own.at all.1

-- an open piece
pub open_piece_in : OpenPiecesAreInRange
open_piece_in happened life all =
    let story = story_of happened life in
    let is = story_in happened life all in
    let piece = piece_of_story (length happened) story is in
    record {
      seq = omega (arith, finished_few [] story.items, is.few);
      up_packets = omega (arith, count_by-le-length (λ (p : Forwarded). p.up) (last_piece story.items), piece.few);
      down_packets =
          omega (arith, count_by-le-length (λ (p : Forwarded). not p.up) (last_piece story.items), piece.few);
      first = first_in (last_piece story.items) piece.each;
      last = last_from None (last_piece story.items) tt piece.each;
    }

-- records
pub record RowIn (row : Charged) : Type 0 where
  pub counters : AreCounters (counters_of row)
  pub first : IfSome row.first IsMoment
  pub last : IfSome row.last IsMoment

row_is : (most life seq : ℕ) (story : Story) (done : Finished) → most ≤ 2 ^ 61 - 20 → life < 2 ^ 40 → seq ≤ most
    → StoryIn most story → WholeIn (most + 1) done.piece → RowIn (row_of life story.ebi story.qci seq done)
row_is most life seq story done wide known counted is whole = record {
  counters = counted_in most life seq story done.piece wide known counted is whole.octets whole.few;
  first = first_in done.piece whole.each;
  last = last_from None done.piece tt whole.each;
}

by_item : (happened : List Happening) (life : ℕ) (item : Item) → length happened ≤ 2 ^ 61 - 20 → life < 2 ^ 40
    → AllByRecursion HappeningIn happened → ItemIn item
    → AllByRecursion RowIn (rows_by life (story_of happened life) item)
by_item happened life item wide known all own =
    let story = story_of happened life in
    let is = story_in happened life all in
    let seq : length (finished story.items) ≤ length happened = omega (arith, finished_few [] story.items, is.few) in
    of_item item own (last_piece story.items) (piece_of_story (length happened) story is)
    (λ done whole. row_is (length happened) life (length (finished story.items)) story done wide known seq is whole)
  where
    of_full : (row : Finished → Charged) (full : Bool) (piece : List Forwarded)
        → ((done : Finished) → WholeIn (length happened + 1) done.piece → RowIn (row done))
        → WholeIn (length happened + 1) piece
        → AllByRecursion RowIn (map row (if full then record { piece = piece; why = Volume } ∷ [] else []))
    of_full row true piece step whole = (step (record { piece = piece; why = Volume }) whole, tt)
    of_full row false piece step whole = tt

    of_item : (now : Item) → ItemIn now → (piece : List Forwarded) → PieceIn (length happened) piece
        → ((done : Finished) → WholeIn (length happened + 1) done.piece
        → RowIn (row_of life (story_of happened life).ebi (story_of happened life).qci
        (length (finished (story_of happened life).items)) done))
        → AllByRecursion RowIn (map (row_of life (story_of happened life).ebi (story_of happened life).qci
        (length (finished (story_of happened life).items))) (finishes piece now))
    of_item (packet p) in_range piece held step =
        of_full (row_of life (story_of happened life).ebi (story_of happened life).qci
        (length (finished (story_of happened life).items))) (is_full (piece ++ p ∷ [])) (piece ++ p ∷ []) step
        (pushed (length happened) piece p held in_range)
    of_item (mark why) in_range piece held step = (
      step (record { piece = piece; why = why })
          (record { each = held.each; octets = omega (arith, held.open_still); few = omega (arith, held.few) }),
      tt,
    )

rows_now : (happened : List Happening) (now : Happening) → length happened ≤ 2 ^ 61 - 20
    → AllByRecursion HappeningIn happened → HappeningIn now → AllByRecursion RowIn (rows_at happened now)
rows_now happened (started life ebi qci) wide all own = tt
rows_now happened (forwarded life p) wide all own =
    by_item happened life (packet p) wide own.0 all (record { octets = own.1; at = own.2 })
rows_now happened (closed life why) wide all own = by_item happened life (mark why) wide own all tt

rows_in_from : (before later : List Happening) → length before + length later ≤ 2 ^ 61 - 20
    → AllByRecursion HappeningIn before → AllByRecursion HappeningIn later
    → AllByRecursion RowIn (rows_from before later)
rows_in_from before [] wide first second = tt
rows_in_from before (now ∷ later) wide first second =
    each_append RowIn (rows_at before now) (rows_from (before ++ now ∷ []) later)
    (rows_now before now (omega (arith, wide)) first second.0)
    (rows_in_from (before ++ now ∷ []) later (omega (arith, wide, length-append before (now ∷ [])))
    (each_append HappeningIn before (now ∷ []) first (second.0, tt)) second.1)

pub rows_in : (happened : List Happening) → length happened ≤ 2 ^ 61 - 20 → AllByRecursion HappeningIn happened
    → AllByRecursion RowIn (rows_of happened)
rows_in happened wide all = rows_in_from [] happened (omega (arith, wide)) tt all

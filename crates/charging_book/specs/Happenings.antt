-- What happens to a book, and the rows and open counters that this makes.
use Rattle.std.specs.Prelude.{
  ◌≢◌,
  ℕ,
  ◌==◌,
  not,
  List,
  [],
  ◌∷◌,
  ◌++◌,
  length,
  map,
  filter,
  fold,
  All,
  Contains,
  if◌then◌else◌,
}
use Rattle.charging_book.specs.declared.records.Why.{Why}
use Rattle.charging_book.specs.declared.records.Why.TheVariants.{Volume, Qos, Gone}
use Rattle.charging_book.specs.Rows.{Counters, Moments, Charged}
use Rattle.charging_book.specs.Pieces.{
  Forwarded,
  Item,
  packet,
  mark,
  finishes,
  finished,
  last_piece,
  open_of,
  moments_of,
  row_of,
}

-- a life starts, a packet is forwarded for it, a piece of it is closed
pub data Happening : Type 0 where
  started : (life ebi qci : ℕ) → Happening
  forwarded : (life : ℕ) → Forwarded → Happening
  closed : (life : ℕ) → Why → Happening

-- a life since its start: its identity and class of service, its packets and marks
pub record Story : Type 0 where
  pub ebi : ℕ
  pub qci : ℕ
  pub items : List Item

abbrev pub with_item : Story → Item → Story
with_item story item = record { ebi = story.ebi; qci = story.qci; items = story.items ++ item ∷ [] }

-- a life's story behind a happening
abbrev pub story_step : ℕ → Story → Happening → Story
story_step life story (started other ebi qci) =
    if other == life then record { ebi = ebi; qci = qci; items = [] } else story
story_step life story (forwarded other p) = if other == life then with_item story (packet p) else story
story_step life story (closed other why) = if other == life then with_item story (mark why) else story

abbrev pub story_of : List Happening → ℕ → Story
story_of happened life = fold (story_step life) (record { ebi = 0; qci = 0; items = [] }) happened

-- the lives that have started and aren't over, in the order of their starts
abbrev pub lives_step : List ℕ → Happening → List ℕ
lives_step lives (started life ebi qci) = lives ++ life ∷ []
lives_step lives (forwarded life p) = lives
lives_step lives (closed life Volume) = lives
lives_step lives (closed life Qos) = lives
lives_step lives (closed life Gone) = filter (λ other. not (other == life)) lives

abbrev pub lives_of : List Happening → List ℕ
lives_of happened = fold lives_step [] happened

-- the open counters and the moments of a life's last piece
abbrev pub open_at : List Happening → ℕ → Counters
open_at happened life =
    let story = story_of happened life in
    open_of life story.ebi story.qci (length (finished story.items)) (last_piece story.items)

abbrev pub moments_at : List Happening → ℕ → Moments
moments_at happened life = moments_of (last_piece (story_of happened life).items)

abbrev pub opens_of : List Happening → List Counters
opens_of happened = map (open_at happened) (lives_of happened)

-- the rows of a life that an item of its story makes
abbrev pub rows_by : ℕ → Story → Item → List Charged
rows_by life story item =
    map (row_of life story.ebi story.qci (length (finished story.items))) (finishes (last_piece story.items) item)

-- the rows that a happening makes
abbrev pub rows_at : List Happening → Happening → List Charged
rows_at before (started life ebi qci) = []
rows_at before (forwarded life p) = rows_by life (story_of before life) (packet p)
rows_at before (closed life why) = rows_by life (story_of before life) (mark why)

abbrev pub rows_from : List Happening → List Happening → List Charged
rows_from before [] = []
rows_from before (now ∷ later) = rows_at before now ++ rows_from (before ++ now ∷ []) later

-- all rows, in the order of what made them
abbrev pub rows_of : List Happening → List Charged
rows_of happened = rows_from [] happened

-- a life starts only where it isn't open, and the rest happens to open ones
abbrev pub MayHappen : List Happening → Happening → Type 0
MayHappen before (started life ebi qci) = All (λ other. other ≢ life) (lives_of before)
MayHappen before (forwarded life p) = Contains (lives_of before) life
MayHappen before (closed life why) = Contains (lives_of before) life

abbrev pub AllMay : List Happening → List Happening → Type 0
AllMay before [] = Unit {0}
AllMay before (now ∷ later) = MayHappen before now × AllMay (before ++ now ∷ []) later

abbrev pub IsLawful : List Happening → Type 0
IsLawful happened = AllMay [] happened

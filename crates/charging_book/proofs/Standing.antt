-- The book represents one happening more.
use Rattle.std.proofs.Common.{◌≡◌, ◌≢◌, ℕ, ◌+◌, ◌<◌, Bool, true, false, not, nat_le, List, [], ◌∷◌, ◌++◌, length, map, drop, if◌then◌else◌, All, Contains, Option, None, Some, get_or, set, sym, ◌∙◌, ap, refl, subst, arith, cond, eq-eqb, length-append}
use Rattle.std.specs.List.{remove}
use Rattle.std.proofs.lemmas.Bool.{ne_eqb}
use Rattle.std.proofs.lemmas.List.{append-nil, drop-append-le, get_or_default, get_or-map, map_push, length-map}
use Rattle.std.proofs.lemmas.List.Sums.{sum_by-append, fold-append}
use Rattle.charging_book.specs.declared.records.Why.{Why}
use Rattle.charging_book.specs.declared.records.Why.TheVariants.{Volume, Qos, Gone}
use Rattle.charging_book.specs.Rows.{Counters, Moments}
use Rattle.charging_book.specs.Pieces.{volume, Forwarded, Item, packet, mark, is_full, finishes, piece_after, finished, last_piece, last_at, up_octets, down_octets, up_packets, down_packets, open_of, moments_of, row_of}
use Rattle.charging_book.specs.Counters.{with_packet, next_piece, no_moments, with_moment, row_from}
use Rattle.charging_book.specs.Happenings.{Happening, started, forwarded, closed, Story, with_item, story_step, story_of, lives_step, lives_of, open_at, moments_at, rows_at, rows_of, MayHappen}
use Rattle.charging_book.specs.Accounts.{Accounts, lives_in, StandsFor}
use Rattle.charging_book.proofs.Places.{none_of_all, map-others, map-at, without, map-without}
use Rattle.charging_book.proofs.Steps.{finished-push, last_piece-push, story-push, lives-push, rows-push, lawful-push, lives-distinct}

counters-by_way : (up : Bool) (life ebi qci seq a b c d octets : ℕ)
    → with_packet (record {
      life = life;
      ebi = ebi;
      qci = qci;
      seq = seq;
      up_octets = a;
      down_octets = b;
      up_packets = c;
      down_packets = d;
    }) up octets
    ≡ record {
      life = life;
      ebi = ebi;
      qci = qci;
      seq = seq;
      up_octets = a + (0 + (if up then octets else 0));
      down_octets = b + (0 + (if up then 0 else octets));
      up_packets = c + (0 + (if up then 1 else 0));
      down_packets = d + (0 + (if not up then 1 else 0));
    }
counters-by_way true life ebi qci seq a b c d octets =
    let one : a + octets ≡ a + (0 + octets) = omega arith in
    let two : b ≡ b + (0 + 0) = omega arith in
    let three : c + 1 ≡ c + (0 + 1) = omega arith in
    let four : d ≡ d + (0 + 0) = omega arith in cc
counters-by_way false life ebi qci seq a b c d octets =
    let one : a ≡ a + (0 + 0) = omega arith in
    let two : b + octets ≡ b + (0 + octets) = omega arith in
    let three : c ≡ c + (0 + 0) = omega arith in
    let four : d + 1 ≡ d + (0 + 1) = omega arith in cc

-- the counters of a packet more
pub counters-push : (life ebi qci seq : ℕ) (piece : List Forwarded) (p : Forwarded)
    → with_packet (open_of life ebi qci seq piece) p.up p.octets ≡ open_of life ebi qci seq (piece ++ p ∷ [])
counters-push life ebi qci seq piece p =
    rw (
      sum_by-append (λ q. if q.up then q.octets else 0) piece (p ∷ []),
      sum_by-append (λ q. if q.up then 0 else q.octets) piece (p ∷ []),
      sum_by-append (λ q. if q.up then 1 else 0) piece (p ∷ []),
      sum_by-append (λ q. if not q.up then 1 else 0) piece (p ∷ []),
    )
    (counters-by_way p.up life ebi qci seq (up_octets piece) (down_octets piece) (up_packets piece)
    (down_packets piece) p.octets)

last_at-push : (piece : List Forwarded) (p : Forwarded) → Some p.at ≡ last_at (piece ++ p ∷ [])
last_at-push piece p = sym (fold-append (λ _ q. Some q.at) None piece (p ∷ []))

-- and its moments
pub moments-push : (piece : List Forwarded) (p : Forwarded)
    → with_moment (moments_of piece) p.at ≡ moments_of (piece ++ p ∷ [])
moments-push [] p = refl
moments-push (q ∷ piece) p =
    let with_last : Option ℕ → Moments = λ last. record { first = Some q.at; last = last } in
    ap with_last (last_at-push (q ∷ piece) p)

-- the lives of a book are those of what happened
pub lives-opens : (happened : List Happening) (lives : List ℕ)
    → map (λ counters. counters.life) (map (open_at happened) lives) ≡ lives
lives-opens happened [] = refl
lives-opens happened (x ∷ xs) = ap (λ ys. x ∷ ys) (lives-opens happened xs)

pub lives-stand : (book : Accounts) (happened : List Happening) (taken : ℕ) → StandsFor book happened taken
    → lives_in book ≡ lives_of happened
lives-stand book happened taken stands =
    ap (λ opens. map (λ counters. counters.life) opens) stands.opens ∙ lives-opens happened (lives_of happened)

-- a life that stands at a place is one of them
pub life_there : (book : Accounts) (place life : ℕ) → place < length book.opens → get_or (lives_in book) place 0 ≡ life
    → Contains (lives_in book) life
life_there book place life within found =
    let inside : place < length (lives_in book) =
    subst (λ n. place < n) (sym (length-map book.opens (λ counters. counters.life))) within in
    (place, inside, get_or_default (lives_in book) place life 0 inside ∙ found)

-- where a life stands, its counters stand
pub record IsAt (book : Accounts) (place life : ℕ) (counters : Counters) (moments : Moments) : Type 0 where
  pub within : place < length book.opens
  pub found : get_or (lives_in book) place 0 ≡ life
  pub counters_are : counters ≡ get_or book.opens place counters
  pub moments_are : moments ≡ get_or book.moments place moments

pub is-at : (book : Accounts) (opens : List Counters) (spans : List Moments) (place life : ℕ) (counters : Counters)
    (moments : Moments)
    → opens ≡ book.opens → spans ≡ book.moments → place < length opens
    → get_or (map (λ counters. counters.life) opens) place 0 ≡ life
    → counters ≡ get_or opens place counters → moments ≡ get_or spans place moments
    → IsAt book place life counters moments
is-at book opens spans place life counters moments same_opens same_spans within found counters_are moments_are =
    record {
      within = rw (← same_opens) within;
      found = ap (λ xs. get_or (map (λ counters. counters.life) xs) place 0) (sym same_opens) ∙ found;
      counters_are = counters_are ∙ ap (λ xs. get_or xs place counters) same_opens;
      moments_are = moments_are ∙ ap (λ xs. get_or xs place moments) same_spans;
    }

at-lives : (book : Accounts) (happened : List Happening) (taken place life : ℕ) (counters : Counters)
    (moments : Moments)
    → StandsFor book happened taken → IsAt book place life counters moments
    → (place < length (lives_of happened)) × (get_or (lives_of happened) place 0 ≡ life)
    × (counters ≡ open_at happened life) × (moments ≡ moments_at happened life)
at-lives book happened taken place life counters moments stands at =
    let lives = lives-stand book happened taken stands in
    let size : length book.opens ≡ length (lives_of happened) = ap length stands.opens
    ∙ length-map (lives_of happened) (open_at happened) in
    let within : place < length (lives_of happened) = omega (arith, at.within, size) in
    let found : get_or (lives_of happened) place 0 ≡ life = ap (λ xs. get_or xs place 0) (sym lives) ∙ at.found in (
      within,
      found,
      at.counters_are ∙ ap (λ xs. get_or xs place counters) stands.opens
          ∙ get_or-map (open_at happened) (lives_of happened) place 0 counters within ∙ ap (open_at happened) found,
      at.moments_are ∙ ap (λ xs. get_or xs place moments) stands.moments
          ∙ get_or-map (moments_at happened) (lives_of happened) place 0 moments within
          ∙ ap (moments_at happened) found,
    )

-- a happening that changes one life's story, and no lives
stands-at : (book new : Accounts) (happened : List Happening) (taken : ℕ) (now : Happening) (life place : ℕ)
    → StandsFor book happened taken → MayHappen happened now → lives_step (lives_of happened) now ≡ lives_of happened
    → ((other : ℕ) → other ≢ life → story_step other (story_of happened other) now ≡ story_of happened other)
    → place < length (lives_of happened) → get_or (lives_of happened) place 0 ≡ life
    → new.opens ≡ set book.opens place (open_at (happened ++ now ∷ []) life)
    → new.moments ≡ set book.moments place (moments_at (happened ++ now ∷ []) life)
    → new.rows ≡ book.rows ++ rows_at happened now
    → StandsFor new (happened ++ now ∷ []) taken
stands-at book new happened taken now life place stands may lives others within found opens moments rows =
    let later = happened ++ now ∷ [] in
    let distinct = lives-distinct happened stands.lawful in
    let same_lives : lives_of later ≡ lives_of happened = lives-push happened now ∙ lives in
    let same_open : (other : ℕ) → other ≢ life → open_at later other ≡ open_at happened other =
    λ other differs. ap (λ story. open_of other story.ebi story.qci (length (finished story.items))
    (last_piece story.items))
    (story-push happened now other ∙ others other differs) in
    let same_moments : (other : ℕ) → other ≢ life → moments_at later other ≡ moments_at happened other =
    λ other differs. ap (λ story. moments_of (last_piece story.items)) (story-push happened now other
    ∙ others other differs) in
    record {
      lawful = lawful-push happened now stands.lawful may;
      opens = opens ∙ ap (λ xs. set xs place (open_at later life)) stands.opens
          ∙ sym (map-at (open_at happened) (open_at later) life
          (lives_of happened) place distinct within found same_open)
          ∙ ap (map (open_at later)) (sym same_lives);
      moments = moments ∙ ap (λ xs. set xs place (moments_at later life)) stands.moments
          ∙ sym (map-at (moments_at happened) (moments_at later) life
          (lives_of happened) place distinct within found same_moments)
          ∙ ap (map (moments_at later)) (sym same_lives);
      rows = rows ∙ ap (λ xs. xs ++ rows_at happened now) stands.rows
          ∙ sym (drop-append-le taken (rows_of happened) (rows_at happened now) stands.within)
          ∙ ap (drop taken) (sym (rows-push happened now));
      within = omega (
        arith,
        stands.within,
        ap length (rows-push happened now),
        length-append (rows_of happened) (rows_at happened now),
      );
    }

-- an item more in a life's story
open-push : (happened : List Happening) (now : Happening) (life : ℕ) (item : Item)
    → story_step life (story_of happened life) now ≡ with_item (story_of happened life) item
    → open_at (happened ++ now ∷ []) life
    ≡ open_of life (story_of happened life).ebi (story_of happened life).qci
    (length (finished (story_of happened life).items) + length
    (finishes (last_piece (story_of happened life).items) item))
    (piece_after (last_piece (story_of happened life).items) item)
open-push happened now life item step =
    let story = story_of happened life in
    let rows : length (finished (story.items ++ item ∷ [])) ≡ length (finished story.items)
    + length (finishes (last_piece story.items) item) =
    ap length (finished-push story.items item)
    ∙ length-append (finished story.items) (finishes (last_piece story.items) item) in
    ap (λ next. open_of life next.ebi next.qci (length (finished next.items)) (last_piece next.items))
    (story-push happened now life ∙ step)
    ∙ ap (λ seq. open_of life story.ebi story.qci seq (last_piece (story.items ++ item ∷ []))) rows
    ∙ ap (open_of life story.ebi story.qci (length (finished story.items)
    + length (finishes (last_piece story.items) item)))
    (last_piece-push story.items item)

moments_at-push : (happened : List Happening) (now : Happening) (life : ℕ) (item : Item)
    → story_step life (story_of happened life) now ≡ with_item (story_of happened life) item
    → moments_at (happened ++ now ∷ []) life ≡ moments_of (piece_after (last_piece (story_of happened life).items) item)
moments_at-push happened now life item step =
    ap (λ next. moments_of (last_piece next.items)) (story-push happened now life ∙ step)
    ∙ ap moments_of (last_piece-push (story_of happened life).items item)

-- what a packet does to its own life's story, and to others
pub own-forwarded : (life : ℕ) (p : Forwarded) (story : Story)
    → story_step life story (forwarded life p) ≡ with_item story (packet p)
own-forwarded life p story = rw (eq-eqb life life refl)

pub other-forwarded : (life : ℕ) (p : Forwarded) (other : ℕ) (story : Story) → other ≢ life
    → story_step other story (forwarded life p) ≡ story
other-forwarded life p other story differs = rw (ne_eqb life other (λ is. differs (sym is)))

pub own-closed : (life : ℕ) (why : Why) (story : Story)
    → story_step life story (closed life why) ≡ with_item story (mark why)
own-closed life why story = rw (eq-eqb life life refl)

pub other-closed : (life : ℕ) (why : Why) (other : ℕ) (story : Story) → other ≢ life
    → story_step other story (closed life why) ≡ story
other-closed life why other story differs = rw (ne_eqb life other (λ is. differs (sym is)))

-- whether a packet fills its piece
pub unfilled : (piece : List Forwarded) (p : Forwarded) → is_full (piece ++ p ∷ []) ≡ false
    → (finishes piece (packet p) ≡ []) × (piece_after piece (packet p) ≡ piece ++ p ∷ [])
unfilled piece p full = (
  ap (λ b. cond b (record { piece = piece ++ p ∷ []; why = Volume } ∷ []) []) full,
  ap (λ b. cond b [] (piece ++ p ∷ [])) full,
)

pub filled : (piece : List Forwarded) (p : Forwarded) → is_full (piece ++ p ∷ []) ≡ true
    → (finishes piece (packet p) ≡ record { piece = piece ++ p ∷ []; why = Volume } ∷ [])
    × (piece_after piece (packet p) ≡ [])
filled piece p full = (
  ap (λ b. cond b (record { piece = piece ++ p ∷ []; why = Volume } ∷ []) []) full,
  ap (λ b. cond b [] (piece ++ p ∷ [])) full,
)

-- a packet that doesn't fill its piece
pub stands-counted : (book new : Accounts) (happened : List Happening) (taken life place : ℕ) (p : Forwarded)
    (counters : Counters) (moments : Moments)
    → StandsFor book happened taken → IsAt book place life counters moments → Contains (lives_in book) life
    → nat_le volume ((with_packet counters p.up p.octets).up_octets
    + (with_packet counters p.up p.octets).down_octets) ≡ false
    → new.opens ≡ set book.opens place (with_packet counters p.up p.octets)
    → new.moments ≡ set book.moments place (with_moment moments p.at) → new.rows ≡ book.rows
    → StandsFor new (happened ++ forwarded life p ∷ []) taken
stands-counted book new happened taken life place p counters moments stands at is_open room opens spans rows =
    let known = at-lives book happened taken place life counters moments stands at in
    let story = story_of happened life in
    let piece = last_piece story.items in
    let seq = length (finished story.items) in
    let more : with_packet counters p.up p.octets ≡ open_of life story.ebi story.qci seq (piece ++ p ∷ []) =
    ap (λ c. with_packet c p.up p.octets) known.2 ∙ counters-push life story.ebi story.qci seq piece p in
    let not_full : is_full (piece ++ p ∷ []) ≡ false =
    sym (ap (λ c. nat_le volume (c.up_octets + c.down_octets)) more) ∙ room in
    let done = unfilled piece p not_full in
    let step = own-forwarded life p story in
    let now_open : with_packet counters p.up p.octets ≡ open_at (happened ++ forwarded life p ∷ []) life =
    more ∙ ap (λ n. open_of life story.ebi story.qci n (piece ++ p ∷ [])) (omega (arith, ap length done.0))
    ∙ ap (open_of life story.ebi story.qci (seq + length (finishes piece (packet p)))) (sym done.1)
    ∙ sym (open-push happened (forwarded life p) life (packet p) step) in
    let now_moments : with_moment moments p.at ≡ moments_at (happened ++ forwarded life p ∷ []) life =
    ap (λ m. with_moment m p.at) known.3 ∙ moments-push piece p ∙ ap moments_of (sym done.1)
    ∙ sym (moments_at-push happened (forwarded life p) life (packet p) step) in
    stands-at book new happened taken (forwarded life p) life place stands
    (subst (λ lives. Contains lives life) (lives-stand book happened taken stands) is_open) refl
    (λ other differs. other-forwarded life p other (story_of happened other) differs) known.0 known.1
    (opens ∙ ap (set book.opens place) now_open) (spans ∙ ap (set book.moments place) now_moments)
    (rows ∙ sym (append-nil book.rows) ∙ ap (λ xs. book.rows ++ map (row_of life story.ebi story.qci seq) xs)
    (sym done.0))

-- one that fills it
pub stands-filled : (book new : Accounts) (happened : List Happening) (taken life place : ℕ) (p : Forwarded)
    (counters : Counters) (moments : Moments)
    → StandsFor book happened taken → IsAt book place life counters moments → Contains (lives_in book) life
    → nat_le volume ((with_packet counters p.up p.octets).up_octets
    + (with_packet counters p.up p.octets).down_octets) ≡ true
    → new.opens ≡ set book.opens place (next_piece (with_packet counters p.up p.octets))
    → new.moments ≡ set book.moments place no_moments
    → new.rows ≡ book.rows ++ row_from (with_packet counters p.up p.octets) (with_moment moments p.at) Volume ∷ []
    → StandsFor new (happened ++ forwarded life p ∷ []) taken
stands-filled book new happened taken life place p counters moments stands at is_open room opens spans rows =
    let known = at-lives book happened taken place life counters moments stands at in
    let story = story_of happened life in
    let piece = last_piece story.items in
    let seq = length (finished story.items) in
    let more : with_packet counters p.up p.octets ≡ open_of life story.ebi story.qci seq (piece ++ p ∷ []) =
    ap (λ c. with_packet c p.up p.octets) known.2 ∙ counters-push life story.ebi story.qci seq piece p in
    let full : is_full (piece ++ p ∷ []) ≡ true = sym (ap (λ c. nat_le volume (c.up_octets + c.down_octets)) more)
    ∙ room in
    let done = filled piece p full in
    let step = own-forwarded life p story in
    let now_open : next_piece (with_packet counters p.up p.octets) ≡ open_at (happened ++ forwarded life p ∷ []) life =
    ap next_piece more ∙ ap (λ n. open_of life story.ebi story.qci n []) (omega (arith, ap length done.0))
    ∙ ap (open_of life story.ebi story.qci (seq + length (finishes piece (packet p)))) (sym done.1)
    ∙ sym (open-push happened (forwarded life p) life (packet p) step) in
    let now_moments : no_moments ≡ moments_at (happened ++ forwarded life p ∷ []) life =
    ap moments_of (sym done.1) ∙ sym (moments_at-push happened (forwarded life p) life (packet p) step) in
    let row : row_from (with_packet counters p.up p.octets) (with_moment moments p.at) Volume
    ≡ row_of life story.ebi story.qci seq (record { piece = piece ++ p ∷ []; why = Volume }) =
    ap (λ c. row_from c (with_moment moments p.at) Volume) more
    ∙ ap (λ m. row_from (open_of life story.ebi story.qci seq (piece ++ p ∷ [])) m Volume)
    (ap (λ m. with_moment m p.at) known.3 ∙ moments-push piece p) in
    stands-at book new happened taken (forwarded life p) life place stands
    (subst (λ lives. Contains lives life) (lives-stand book happened taken stands) is_open) refl
    (λ other differs. other-forwarded life p other (story_of happened other) differs) known.0 known.1
    (opens ∙ ap (set book.opens place) now_open) (spans ∙ ap (set book.moments place) now_moments)
    (rows ∙ ap (λ r. book.rows ++ r ∷ []) row
    ∙ ap (λ xs. book.rows ++ map (row_of life story.ebi story.qci seq) xs) (sym done.0))

-- a mark after which the next piece begins
pub stands-marked : (book new : Accounts) (happened : List Happening) (taken life place : ℕ) (why : Why)
    (counters : Counters) (moments : Moments)
    → StandsFor book happened taken → IsAt book place life counters moments → Contains (lives_in book) life
    → lives_step (lives_of happened) (closed life why) ≡ lives_of happened
    → new.opens ≡ set book.opens place (next_piece counters) → new.moments ≡ set book.moments place no_moments
    → new.rows ≡ book.rows ++ row_from counters moments why ∷ []
    → StandsFor new (happened ++ closed life why ∷ []) taken
stands-marked book new happened taken life place why counters moments stands at is_open lives opens spans rows =
    let known = at-lives book happened taken place life counters moments stands at in
    let story = story_of happened life in
    let step = own-closed life why story in
    stands-at book new happened taken (closed life why) life place stands
    (subst (λ xs. Contains xs life) (lives-stand book happened taken stands) is_open) lives
    (λ other differs. other-closed life why other (story_of happened other) differs) known.0 known.1
    (opens ∙ ap (set book.opens place) (ap next_piece known.2
    ∙ sym (open-push happened (closed life why) life (mark why) step)))
    (spans ∙ ap (set book.moments place) (sym (moments_at-push happened (closed life why) life (mark why) step)))
    (rows ∙ ap (λ c. book.rows ++ row_from c moments why ∷ []) known.2
    ∙ ap (λ m. book.rows ++ row_from (open_at happened life) m why ∷ []) known.3)

-- the end of a life
pub stands-gone : (book new : Accounts) (happened : List Happening) (taken life place : ℕ) (counters : Counters)
    (moments : Moments)
    → StandsFor book happened taken → IsAt book place life counters moments → Contains (lives_in book) life
    → new.opens ≡ remove book.opens place → new.moments ≡ remove book.moments place
    → new.rows ≡ book.rows ++ row_from counters moments Gone ∷ []
    → StandsFor new (happened ++ closed life Gone ∷ []) taken
stands-gone book new happened taken life place counters moments stands at is_open opens spans rows =
    let known = at-lives book happened taken place life counters moments stands at in
    let now = closed life Gone in
    let later = happened ++ now ∷ [] in
    let distinct = lives-distinct happened stands.lawful in
    let lives : lives_of later ≡ without life (lives_of happened) = lives-push happened now in
    let others : (other : ℕ) → other ≢ life → story_of later other ≡ story_of happened other =
    λ other differs. story-push happened now other ∙ other-closed life Gone other (story_of happened other) differs in
    let same_open : (other : ℕ) → other ≢ life → open_at later other ≡ open_at happened other =
    λ other differs. ap (λ story. open_of other story.ebi story.qci (length (finished story.items))
    (last_piece story.items)) (others other differs) in
    let same_moments : (other : ℕ) → other ≢ life → moments_at later other ≡ moments_at happened other =
    λ other differs. ap (λ story. moments_of (last_piece story.items)) (others other differs) in
    record {
      lawful = lawful-push happened now stands.lawful (subst (λ xs. Contains xs life)
          (lives-stand book happened taken stands) is_open);
      opens = opens ∙ ap (λ xs. remove xs place) stands.opens
          ∙ sym (map-without (open_at happened) (open_at later) life
          (lives_of happened) place distinct known.0 known.1 same_open)
          ∙ ap (map (open_at later)) (sym lives);
      moments = spans ∙ ap (λ xs. remove xs place) stands.moments
          ∙ sym (map-without (moments_at happened) (moments_at later) life
          (lives_of happened) place distinct known.0 known.1 same_moments)
          ∙ ap (map (moments_at later)) (sym lives);
      rows = rows ∙ ap (λ c. book.rows ++ row_from c moments Gone ∷ []) known.2
          ∙ ap (λ m. book.rows ++ row_from (open_at happened life) m Gone ∷ []) known.3
          ∙ ap (λ xs. xs ++ rows_at happened now) stands.rows
          ∙ sym (drop-append-le taken (rows_of happened) (rows_at happened now) stands.within)
          ∙ ap (drop taken) (sym (rows-push happened now));
      within = omega (
        arith,
        stands.within,
        ap length (rows-push happened now),
        length-append (rows_of happened) (rows_at happened now),
      );
    }

-- a life starts
pub stands-started : (book new : Accounts) (happened : List Happening) (taken life ebi qci : ℕ)
    → StandsFor book happened taken → All (λ other. other ≢ life) (lives_in book)
    → new.opens ≡ book.opens ++ open_of life ebi qci 0 [] ∷ [] → new.moments ≡ book.moments ++ no_moments ∷ []
    → new.rows ≡ book.rows
    → StandsFor new (happened ++ started life ebi qci ∷ []) taken
stands-started book new happened taken life ebi qci stands fresh opens spans rows =
    let now = started life ebi qci in
    let later = happened ++ now ∷ [] in
    let may : All (λ other. other ≢ life) (lives_of happened) =
    subst (λ xs. All (λ other. other ≢ life) xs) (lives-stand book happened taken stands) fresh in
    let none = none_of_all life (lives_of happened) may in
    let own : story_of later life ≡ record { ebi = ebi; qci = qci; items = [] } =
    story-push happened now life ∙ ap (λ b. if b then record { ebi = ebi; qci = qci; items = [] }
    else story_of happened life) (eq-eqb life life refl) in
    let others : (other : ℕ) → other ≢ life → story_of later other ≡ story_of happened other =
    λ other differs. story-push happened now other
    ∙ ap (λ b. if b then record { ebi = ebi; qci = qci; items = [] }
    else story_of happened other) (ne_eqb life other (λ is. differs (sym is))) in
    let same_open : (other : ℕ) → other ≢ life → open_at later other ≡ open_at happened other =
    λ other differs. ap (λ story. open_of other story.ebi story.qci (length (finished story.items))
    (last_piece story.items)) (others other differs) in
    let same_moments : (other : ℕ) → other ≢ life → moments_at later other ≡ moments_at happened other =
    λ other differs. ap (λ story. moments_of (last_piece story.items)) (others other differs) in
    let own_open : open_at later life ≡ open_of life ebi qci 0 [] =
    ap (λ story. open_of life story.ebi story.qci (length (finished story.items)) (last_piece story.items)) own in
    let own_moments : moments_at later life ≡ no_moments = ap (λ story. moments_of (last_piece story.items)) own in
    record {
      lawful = lawful-push happened now stands.lawful may;
      opens = opens ∙ ap (λ xs. xs ++ open_of life ebi qci 0 [] ∷ []) (stands.opens
          ∙ sym (map-others (open_at happened) (open_at later) life (lives_of happened) none same_open))
          ∙ ap (λ c. map (open_at later) (lives_of happened) ++ c ∷ []) (sym own_open)
          ∙ sym (map_push (open_at later) (lives_of happened) life)
          ∙ ap (map (open_at later)) (sym (lives-push happened now));
      moments = spans ∙ ap (λ xs. xs ++ no_moments ∷ []) (stands.moments
          ∙ sym (map-others (moments_at happened) (moments_at later) life (lives_of happened) none same_moments))
          ∙ ap (λ c. map (moments_at later) (lives_of happened) ++ c ∷ []) (sym own_moments)
          ∙ sym (map_push (moments_at later) (lives_of happened) life)
          ∙ ap (map (moments_at later)) (sym (lives-push happened now));
      rows = rows ∙ stands.rows ∙ ap (drop taken) (sym (rows-push happened now ∙ append-nil (rows_of happened)));
      within = omega (
        arith,
        stands.within,
        ap length (rows-push happened now),
        length-append (rows_of happened) (rows_at happened now),
      );
    }

-- only `Gone` ends a life
pub lives-marked : (lives : List ℕ) (life : ℕ) (why : Why) → why ≢ Gone → lives_step lives (closed life why) ≡ lives
lives-marked lives life Volume other = refl
lives-marked lives life Qos other = refl
lives-marked lives life Gone other = absurd (other refl)

-- The pieces of a life are its forwarded packets, happening after happening.
use Rattle.std.proofs.Common.{◌≡◌, ◌≢◌, ℕ, zero, suc, ◌<◌, ◌==◌, List, [], ◌∷◌, ◌++◌, length, get_or, Contains, sym, ◌∙◌, ap, refl, subst, arith, eq-eqb, inl, inr, if◌then◌else◌, append_assoc}
use Rattle.std.proofs.lemmas.Bool.{ne_eqb}
use Rattle.std.proofs.lemmas.Bool.Decides.{eqb_tells}
use Rattle.std.proofs.lemmas.Grind.{flat_map-append}
use Rattle.std.proofs.lemmas.List.{append-nil}
use Rattle.std.proofs.lemmas.List.Elements.{filter-append, filter_map-append}
use Rattle.charging_book.specs.declared.records.Why.TheVariants.{Volume, Qos, Gone}
use Rattle.charging_book.specs.Rows.{Charged}
use Rattle.charging_book.specs.Pieces.{Forwarded, Item, packet, mark, Finished, finishes, piece_after, finished, last_piece}
use Rattle.charging_book.specs.Happenings.{Happening, started, forwarded, closed, Story, with_item, story_step, story_of, lives_step, lives_of, rows_by, rows_at, rows_of, MayHappen, AllMay}
use Rattle.charging_book.specs.Ledger.{packet_by, packets_of, rows_for, TellPieces, LedgersArePartitions}
use Rattle.charging_book.proofs.Places.{none_of_all, without, without-other, without-same}
use Rattle.charging_book.specs.Accounts.{IsNone}
use Rattle.charging_book.proofs.Steps.{last_piece-push, story-push, lives-push, rows-push, lives-distinct}
use Rattle.charging_book.proofs.Standing.{own-forwarded, other-forwarded, own-closed, other-closed}
use Rattle.charging_book.proofs.Pieces.{joined, packet_in, item_kept, own_rows, others_rows, rows_tell, tell-append, last_of, opens_tell}

-- so far the rows tell pieces that are, with the last one, the life's packets; and a life that isn't open has no last
-- one
record Holds (life : ℕ) (happened : List Happening) : Type 0 where
  pieces : List Finished
  packets : joined pieces ++ last_of life happened ≡ packets_of life happened
  rows : TellPieces (rows_for life (rows_of happened)) pieces
  over : IsNone life (lives_of happened) → last_of life happened ≡ []

contains-rest : (life x : ℕ) (xs : List ℕ) → x ≢ life → Contains (x ∷ xs) life → Contains xs life
contains-rest life x xs differs at = by_place at.0 at.1 at.2
  where
    by_place : (k : ℕ) → k < length (x ∷ xs) → get_or (x ∷ xs) k life ≡ life → Contains xs life
    by_place zero within is = absurd (differs is)
    by_place (suc k) within is = (k, omega arith, is)

none_contained : (life : ℕ) (xs : List ℕ) → IsNone life xs → Contains xs life → ⊥
none_contained life [] none at = omega (arith, at.1)
none_contained life (x ∷ xs) none at = none_contained life xs none.1 (contains-rest life x xs none.0 at)

none_before : (life other : ℕ) (xs : List ℕ) → IsNone life (xs ++ other ∷ []) → IsNone life xs
none_before life other [] none = tt
none_before life other (x ∷ xs) none = (none.0, none_before life other xs none.1)

none_with : (life other : ℕ) (xs : List ℕ) → other ≢ life → IsNone life (without other xs) → IsNone life xs
none_with life other [] differs none = tt
none_with life other (x ∷ xs) differs none = elim (eqb_tells x other) [
  | inl same ↦
      (λ is. differs (sym same.1 ∙ is), none_with life other xs differs (rw (without-same other x xs same.1) at none))
  | inr apart ↦
      let parts = rw (without-other other x xs apart.1) at none in (parts.0, none_with life other xs differs parts.1)
]

packets-push : (life : ℕ) (before : List Happening) (now : Happening)
    → packets_of life (before ++ now ∷ []) ≡ packets_of life before ++ packets_of life (now ∷ [])
packets-push life before now = filter_map-append (packet_by life) before (now ∷ [])

rows_for-push : (life : ℕ) (before : List Happening) (now : Happening)
    → rows_for life (rows_of (before ++ now ∷ [])) ≡ rows_for life (rows_of before)
    ++ rows_for life (rows_at before now)
rows_for-push life before now =
    ap (rows_for life) (rows-push before now)
    ∙ filter-append (λ (row : Charged). row.life == life) (rows_of before) (rows_at before now)

last-step : (life : ℕ) (before : List Happening) (now : Happening) (story : Story)
    → story_step life (story_of before life) now ≡ story
    → last_of life (before ++ now ∷ []) ≡ last_piece story.items
last-step life before now story step = ap (λ (s : Story). last_piece s.items) (story-push before now life ∙ step)

-- a happening that is nothing to the life
passes : (life : ℕ) (before : List Happening) (now : Happening)
    → story_step life (story_of before life) now ≡ story_of before life
    → packets_of life (now ∷ []) ≡ [] → rows_for life (rows_at before now) ≡ []
    → (IsNone life (lives_step (lives_of before) now) → IsNone life (lives_of before))
    → Holds life before → Holds life (before ++ now ∷ [])
passes life before now step no_packet no_rows fewer holds =
    let last = last-step life before now (story_of before life) step in
    record {
      pieces = holds.pieces;
      packets = ap (λ t. joined holds.pieces ++ t) last ∙ holds.packets
          ∙ sym (packets-push life before now ∙ ap (λ t. packets_of life before ++ t) no_packet
          ∙ append-nil (packets_of life before));
      rows = rw (rows_for-push life before now, no_rows, append-nil (rows_for life (rows_of before))) holds.rows;
      over = λ none. last ∙ holds.over (fewer (subst (IsNone life) (lives-push before now) none));
    }

-- an item of the life itself
adds : (life : ℕ) (before : List Happening) (now : Happening) (item : Item)
    → story_step life (story_of before life) now ≡ with_item (story_of before life) item
    → packets_of life (now ∷ []) ≡ packet_in item → rows_at before now ≡ rows_by life (story_of before life) item
    → (IsNone life (lives_step (lives_of before) now) → piece_after (last_of life before) item ≡ [])
    → Holds life before → Holds life (before ++ now ∷ [])
adds life before now item step own made over holds =
    let story = story_of before life in
    let done = finishes (last_of life before) item in
    let last : last_of life (before ++ now ∷ []) ≡ piece_after (last_of life before) item =
    last-step life before now (with_item story item) step ∙ last_piece-push story.items item in
    let rows : rows_for life (rows_at before now) ≡ rows_by life story item =
    ap (rows_for life) made ∙ own_rows life story.ebi story.qci (length (finished story.items)) done in
    record {
      pieces = holds.pieces ++ done;
      packets =
          ap (λ t. joined (holds.pieces ++ done) ++ t) last
          ∙ ap (λ t. t ++ piece_after (last_of life before) item)
          (flat_map-append (λ (d : Finished). d.piece) holds.pieces done)
          ∙ append_assoc (joined holds.pieces) (joined done) (piece_after (last_of life before) item)
          ∙ ap (λ t. joined holds.pieces ++ t) (item_kept (last_of life before) item)
          ∙ sym (append_assoc (joined holds.pieces) (last_of life before) (packet_in item))
          ∙ ap (λ t. t ++ packet_in item) holds.packets
          ∙ ap (λ t. packets_of life before ++ t) (sym own)
          ∙ sym (packets-push life before now);
      rows = rw (rows_for-push life before now, rows)
          (tell-append (rows_for life (rows_of before)) (rows_by life story item) holds.pieces done holds.rows
          (rows_tell life story.ebi story.qci (length (finished story.items)) done));
      over = λ none. last ∙ over (subst (IsNone life) (lives-push before now) none);
    }

-- the life itself starts
starts : (life ebi qci : ℕ) (before : List Happening) → MayHappen before (started life ebi qci)
    → Holds life before → Holds life (before ++ started life ebi qci ∷ [])
starts life ebi qci before may holds =
    let now = started life ebi qci in
    let last : last_of life (before ++ now ∷ []) ≡ [] =
    last-step life before now (record { ebi = ebi; qci = qci; items = [] })
    (ap (λ b. if b then record { ebi = ebi; qci = qci; items = [] }
    else story_of before life) (eq-eqb life life refl)) in
    let none_left = holds.over (none_of_all life (lives_of before) may) in
    record {
      pieces = holds.pieces;
      packets = ap (λ t. joined holds.pieces ++ t) (last ∙ sym none_left) ∙ holds.packets
          ∙ sym (packets-push life before now ∙ append-nil (packets_of life before));
      rows = rw (rows_for-push life before now, append-nil (rows_for life (rows_of before))) holds.rows;
      over = λ none. last;
    }

-- its own packet, and none of another's
own_packet : (life : ℕ) (p : Forwarded) → packets_of life (forwarded life p ∷ []) ≡ p ∷ []
own_packet life p = rw (eq-eqb life life refl) refl

others_packet : (life other : ℕ) (p : Forwarded) → other ≢ life → packets_of life (forwarded other p ∷ []) ≡ []
others_packet life other p differs = rw (ne_eqb other life differs) refl

rows_of_other : (life other : ℕ) (before : List Happening) (item : Item) → other ≢ life
    → rows_for life (rows_by other (story_of before other) item) ≡ []
rows_of_other life other before item differs =
    let story = story_of before other in
    others_rows life other story.ebi story.qci (length (finished story.items))
    (finishes (last_piece story.items) item) differs

holds-step : (life : ℕ) (before : List Happening) (now : Happening) → MayHappen before now → Holds life before
    → Holds life (before ++ now ∷ [])
holds-step life before (started other ebi qci) may holds = elim (eqb_tells other life) [
  | inl same ↦ subst (λ l. Holds l (before ++ started other ebi qci ∷ [])) same.1
      (starts other ebi qci before may (subst (λ l. Holds l before) (sym same.1) holds))
  | inr apart ↦ passes life before (started other ebi qci)
      (ap (λ b. if b then record { ebi = ebi; qci = qci; items = [] }
      else story_of before life) (ne_eqb other life apart.1))
      refl refl (none_before life other (lives_of before)) holds
]
holds-step life before (forwarded other p) may holds = elim (eqb_tells other life) [
  | inl same ↦ subst (λ l. Holds l (before ++ forwarded other p ∷ [])) same.1
      (adds other before (forwarded other p) (packet p) (own-forwarded other p (story_of before other))
      (own_packet other p) refl
      (λ none. absurd (none_contained other (lives_of before) none may))
      (subst (λ l. Holds l before) (sym same.1) holds))
  | inr apart ↦ passes life before (forwarded other p)
      (other-forwarded other p life (story_of before life) (λ is. apart.1 (sym is)))
      (others_packet life other p apart.1) (rows_of_other life other before (packet p) apart.1) (λ none. none) holds
]
holds-step life before (closed other Volume) may holds = elim (eqb_tells other life) [
  | inl same ↦ subst (λ l. Holds l (before ++ closed other Volume ∷ [])) same.1
      (adds other before (closed other Volume) (mark Volume) (own-closed other Volume (story_of before other)) refl refl
      (λ none. refl) (subst (λ l. Holds l before) (sym same.1) holds))
  | inr apart ↦ passes life before (closed other Volume)
      (other-closed other Volume life (story_of before life) (λ is. apart.1 (sym is)))
      refl (rows_of_other life other before (mark Volume) apart.1) (λ none. none) holds
]
holds-step life before (closed other Qos) may holds = elim (eqb_tells other life) [
  | inl same ↦ subst (λ l. Holds l (before ++ closed other Qos ∷ [])) same.1
      (adds other before (closed other Qos) (mark Qos) (own-closed other Qos (story_of before other)) refl refl
      (λ none. refl) (subst (λ l. Holds l before) (sym same.1) holds))
  | inr apart ↦ passes life before (closed other Qos)
      (other-closed other Qos life (story_of before life) (λ is. apart.1 (sym is)))
      refl (rows_of_other life other before (mark Qos) apart.1) (λ none. none) holds
]
holds-step life before (closed other Gone) may holds = elim (eqb_tells other life) [
  | inl same ↦ subst (λ l. Holds l (before ++ closed other Gone ∷ [])) same.1
      (adds other before (closed other Gone) (mark Gone) (own-closed other Gone (story_of before other)) refl refl
      (λ none. refl) (subst (λ l. Holds l before) (sym same.1) holds))
  | inr apart ↦ passes life before (closed other Gone)
      (other-closed other Gone life (story_of before life) (λ is. apart.1 (sym is)))
      refl (rows_of_other life other before (mark Gone) apart.1) (none_with life other (lives_of before) apart.1) holds
]

holds-from : (life : ℕ) (before later : List Happening) → AllMay before later → Holds life before
    → Holds life (before ++ later)
holds-from life before [] may holds = rw (append-nil before) holds
holds-from life before (now ∷ later) may holds =
    rw (append_assoc before (now ∷ []) later) at (holds-from life (before ++ now ∷ []) later may.1
    (holds-step life before now may.0 holds))

pub ledgers_are_partitions : LedgersArePartitions
ledgers_are_partitions happened life lawful =
    let holds = holds-from life [] happened lawful (record {
      pieces = [];
      packets = refl;
      rows = tt;
      over = λ none. refl;
    }) in
    record {
      pieces = holds.pieces;
      last = last_of life happened;
      packets = holds.packets;
      rows = holds.rows;
      counters = opens_tell life happened (lives_of happened) (lives-distinct happened lawful) holds.over;
    }

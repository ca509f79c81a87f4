-- Pieces that are the same but for their order stay so, and make the same rows.
use Rattle.std.proofs.Common.{◌≡◌, ◌≢◌, ℕ, suc, ◌==◌, not, Bool, true, false, cond, List, [], ◌∷◌, ◌++◌, map, filter, All, Option, Some, None, inl, inr, refl, sym, ap, ◌∙◌, subst, arith, eq-eqb}
use Rattle.std.specs.List.{AllByRecursion, flat_map}
use Rattle.std.specs.Option.{option_map}
use Rattle.std.proofs.lemmas.Bool.{ne_eqb, eqb-true, eqb-false, cases_Bool}
use Rattle.std.proofs.lemmas.List.{append-nil, map_push}
use Rattle.std.proofs.lemmas.List.Elements.{All-from_recursion}
use Rattle.charging_book.specs.declared.records.Piece.{Piece}
use Rattle.charging_book.specs.declared.records.Why.TheVariants.{Volume, Qos, Gone}
use Rattle.charging_book.specs.Rows.{Counters, Charged}
use Rattle.charging_book.specs.Pieces.{Forwarded, open_of}
use Rattle.charging_book.specs.Counters.{HasRoom, no_moments, row_from}
use Rattle.charging_book.specs.Happenings.{Happening, started, forwarded, closed}
use Rattle.charging_book.specs.Accounts.{IsNone, AreDistinct}
use Rattle.charging_book.specs.Parts.{piece_of, moments_in, counts_in, book_with}
use Rattle.charging_book.specs.Postings.{MayGoOn, MayBePosted}
use Rattle.charging_book.specs.Posted.{fill, next_behind, counts_with, moments_with, with_one, row_filled, is_of, pieces_behind, rows_made, rows_after}
use Rattle.charging_book.proofs.Places.{none_of_all, distinct-push}
use Rattle.gate_model.proofs.Members.{In, of_map, in_map, of_find, contains_in, in_contains}
use Rattle.subscriber.specs.Alike.{piece_for, life_of, ArePiecesAlike, AlikePiecesStayAlike}

abbrev pub lives : List Piece → List ℕ
lives pieces = map life_of pieces

-- what is looked up behind a change of pieces
find_mapped : (life : ℕ) (f : Piece → Piece) → ((p : Piece) → (f p).counts.life ≡ p.counts.life) → (pieces : List Piece)
    → piece_for life (map f pieces) ≡ option_map f (piece_for life pieces)
find_mapped life f same [] = refl
find_mapped life f same (p ∷ ps) =
    let rest = find_mapped life f same ps in
    ap (λ l. cond (l == life) (Some (f p)) (piece_for life (map f ps))) (same p)
    ∙ elim (p.counts.life == life) as
    (λ t. cond t (Some (f p)) (piece_for life (map f ps)) ≡ option_map f (cond t (Some p) (piece_for life ps))) [
      | true ↦ refl
      | false ↦ rest
    ]

abbrev or_else : Option Piece → Option Piece → Option Piece
or_else (Some p) other = Some p
or_else None other = other

find_pushed : (life : ℕ) (pieces : List Piece) (new : Piece)
    → piece_for life (pieces ++ new ∷ []) ≡ or_else (piece_for life pieces) (cond (is_of life new) (Some new) None)
find_pushed life [] new = refl
find_pushed life (p ∷ ps) new =
    let rest = find_pushed life ps new in
    elim (is_of life p) as (λ t. cond t (Some p) (piece_for life (ps ++ new ∷ []))
    ≡ or_else (cond t (Some p) (piece_for life ps)) (cond (is_of life new) (Some new) None)) [
      | true ↦ refl
      | false ↦ rest
    ]

abbrev pub left_out : ℕ → Piece → Bool
left_out gone piece = not (is_of gone piece)

find_gone : (life : ℕ) (pieces : List Piece) → piece_for life (filter (left_out life) pieces) ≡ None
find_gone life [] = refl
find_gone life (p ∷ ps) =
    let rest = find_gone life ps in
    elim (cases_Bool (is_of life p)) [
      | inl is ↦ ap (λ t. piece_for life (cond (not t) (p ∷ filter (left_out life) ps) (filter (left_out life) ps))) is
          ∙ rest
      | inr not_it ↦
          ap (λ t. piece_for life (cond (not t) (p ∷ filter (left_out life) ps) (filter (left_out life) ps))) not_it
          ∙ ap (λ t. cond t (Some p) (piece_for life (filter (left_out life) ps))) not_it ∙ rest
    ]

find_left : (life gone : ℕ) (pieces : List Piece) → life ≢ gone
    → piece_for life (filter (left_out gone) pieces) ≡ piece_for life pieces
find_left life gone [] differs = refl
find_left life gone (p ∷ ps) differs =
    let rest = find_left life gone ps differs in
    elim (cases_Bool (is_of gone p)) [
      | inl is ↦
          let other : is_of life p ≡ false =
          ne_eqb p.counts.life life (λ same. differs (sym same ∙ eqb-true p.counts.life gone is)) in
          ap (λ t. piece_for life (cond (not t) (p ∷ filter (left_out gone) ps) (filter (left_out gone) ps))) is
          ∙ rest ∙ ap (λ t. cond t (Some p) (piece_for life ps)) (sym other)
      | inr kept ↦
          ap (λ t. piece_for life (cond (not t) (p ∷ filter (left_out gone) ps) (filter (left_out gone) ps))) kept
          ∙ ap (λ found. cond (is_of life p) (Some p) found) rest
    ]

-- lives behind a change
pub lives_mapped : (f : Piece → Piece) → ((p : Piece) → (f p).counts.life ≡ p.counts.life) → (pieces : List Piece)
    → lives (map f pieces) ≡ lives pieces
lives_mapped f same [] = refl
lives_mapped f same (p ∷ ps) = let here = same p in let rest = lives_mapped f same ps in cc

none_left : (life gone : ℕ) (pieces : List Piece) → IsNone life (lives pieces)
    → IsNone life (lives (filter (left_out gone) pieces))
none_left life gone [] none = tt
none_left life gone (p ∷ ps) none =
    let rest = none_left life gone ps none.1 in
    elim (left_out gone p) as
    (λ t. IsNone life (lives (cond t (p ∷ filter (left_out gone) ps) (filter (left_out gone) ps)))) [
      | true ↦ (none.0, rest)
      | false ↦ rest
    ]

distinct_left : (gone : ℕ) (pieces : List Piece) → AreDistinct (lives pieces)
    → AreDistinct (lives (filter (left_out gone) pieces))
distinct_left gone [] apart = tt
distinct_left gone (p ∷ ps) apart =
    let rest = distinct_left gone ps apart.1 in
    elim (left_out gone p) as
    (λ t. AreDistinct (lives (cond t (p ∷ filter (left_out gone) ps) (filter (left_out gone) ps)))) [
      | true ↦ (none_left p.counts.life gone ps apart.0, rest)
      | false ↦ rest
    ]

-- a piece that is looked up, where no two are of one life
none_found : (life : ℕ) (pieces : List Piece) → IsNone life (lives pieces) → piece_for life pieces ≡ None
none_found life [] none = refl
none_found life (p ∷ ps) none =
    ap (λ t. cond t (Some p) (piece_for life ps)) (ne_eqb p.counts.life life none.0) ∙ none_found life ps none.1

none_by : (t : Bool) (p : Piece) (found : Option Piece) → cond t (Some p) found ≡ None → (t ≡ false) × (found ≡ None)
none_by true p found is = absurd cc
none_by false p found is = (refl, is)

found_none : (life : ℕ) (pieces : List Piece) → piece_for life pieces ≡ None → IsNone life (lives pieces)
found_none life [] is = tt
found_none life (p ∷ ps) is =
    let known = none_by (is_of life p) p (piece_for life ps) is in
    (eqb-false p.counts.life life known.0, found_none life ps known.1)

none_at : (life : ℕ) (pieces : List Piece) (q : Piece) → IsNone life (lives pieces) → In q pieces → q.counts.life ≢ life
none_at life [] q none there = absurd there
none_at life (p ∷ ps) q none (inl here) = λ same. none.0 (ap life_of here ∙ same)
none_at life (p ∷ ps) q none (inr there) = none_at life ps q none.1 there

found_at : (life : ℕ) (pieces : List Piece) (q : Piece) → AreDistinct (lives pieces) → In q pieces
    → q.counts.life ≡ life → piece_for life pieces ≡ Some q
found_at life [] q apart there is = absurd there
found_at life (p ∷ ps) q apart (inl here) is =
    ap (λ t. cond t (Some p) (piece_for life ps)) (eq-eqb p.counts.life life (ap life_of here ∙ is))
    ∙ ap (λ (x : Piece). Some x) here
found_at life (p ∷ ps) q apart (inr there) is =
    ap (λ t. cond t (Some p) (piece_for life ps))
    (ne_eqb p.counts.life life (λ same. none_at p.counts.life ps q apart.0 there (is ∙ sym same)))
    ∙ found_at life ps q apart.1 there is

-- the rows of a life are those of the piece that is looked up
abbrev nothing : Piece → List Charged
nothing piece = []

abbrev one : ℕ → (Piece → List Charged) → Piece → List Charged
one life g piece = cond (is_of life piece) (g piece) []

abbrev of_piece : (Piece → List Charged) → Option Piece → List Charged
of_piece g None = []
of_piece g (Some p) = g p

rows_none : (life : ℕ) (g : Piece → List Charged) (pieces : List Piece) → IsNone life (lives pieces)
    → flat_map (one life g) pieces ≡ []
rows_none life g [] none = refl
rows_none life g (p ∷ ps) none =
    ap (λ t. cond t (g p) [] ++ flat_map (one life g) ps) (ne_eqb p.counts.life life none.0) ∙ rows_none life g ps none.1

rows_found : (life : ℕ) (g : Piece → List Charged) (pieces : List Piece) → AreDistinct (lives pieces)
    → flat_map (one life g) pieces ≡ of_piece g (piece_for life pieces)
rows_found life g [] apart = refl
rows_found life g (p ∷ ps) apart = elim (cases_Bool (is_of life p)) [
  | inl is ↦
      let none : IsNone life (lives ps) = subst (λ l. IsNone l (lives ps)) (eqb-true p.counts.life life is) apart.0 in
      ap (λ t. cond t (g p) [] ++ flat_map (one life g) ps) is
      ∙ ap (λ rows. g p ++ rows) (rows_none life g ps none) ∙ append-nil (g p)
      ∙ ap (λ t. of_piece g (cond t (Some p) (piece_for life ps))) (sym is)
  | inr not_it ↦
      ap (λ t. cond t (g p) [] ++ flat_map (one life g) ps) not_it ∙ rows_found life g ps apart.1
      ∙ ap (λ t. of_piece g (cond t (Some p) (piece_for life ps))) (sym not_it)
]

rows_alike : (life : ℕ) (g : Piece → List Charged) (pieces others : List Piece) → ArePiecesAlike pieces others
    → flat_map (one life g) pieces ≡ flat_map (one life g) others
rows_alike life g pieces others alike =
    rows_found life g pieces alike.apart ∙ ap (of_piece g) (alike.same life)
    ∙ sym (rows_found life g others alike.others_apart)

made_alike : (now : Happening) (pieces others : List Piece) → ArePiecesAlike pieces others
    → rows_made pieces now ≡ rows_made others now
made_alike (started life ebi qci) pieces others alike = refl
made_alike (forwarded life p) pieces others alike = rows_alike life (row_filled p) pieces others alike
made_alike (closed life why) pieces others alike =
    rows_alike life (λ piece. row_from piece.counts (moments_in piece) why ∷ []) pieces others alike

-- what is done to the pieces of a life keeps lives
abbrev pub goes : ℕ → (Piece → Piece) → Piece → Piece
goes life f piece = cond (is_of life piece) (f piece) piece

pub goes_keeps : (life : ℕ) (f : Piece → Piece) → ((p : Piece) → (f p).counts.life ≡ p.counts.life) → (p : Piece)
    → (goes life f p).counts.life ≡ p.counts.life
goes_keeps life f same p =
    let is = same p in
    elim (is_of life p) as (λ t. (cond t (f p) p).counts.life ≡ p.counts.life) [ true ↦ is | false ↦ refl ]

pub one_keeps : (p : Forwarded) (piece : Piece) → (with_one p piece).counts.life ≡ piece.counts.life
one_keeps p piece =
    elim (fill (counts_with p piece)) as
    (λ t. (cond t (next_behind (counts_with p piece)) (piece_of (counts_with p piece) (moments_with p piece))).counts.life
    ≡ piece.counts.life) [
      | true ↦ refl
      | false ↦ refl
    ]

alike_mapped : (f : Piece → Piece) → ((p : Piece) → (f p).counts.life ≡ p.counts.life) → (pieces others : List Piece)
    → ArePiecesAlike pieces others → ArePiecesAlike (map f pieces) (map f others)
alike_mapped f same pieces others alike = record {
  apart = subst AreDistinct (sym (lives_mapped f same pieces)) alike.apart;
  others_apart = subst AreDistinct (sym (lives_mapped f same others)) alike.others_apart;
  same = λ life. find_mapped life f same pieces ∙ ap (option_map f) (alike.same life)
      ∙ sym (find_mapped life f same others);
}

alike_left : (gone : ℕ) (pieces others : List Piece) → ArePiecesAlike pieces others
    → ArePiecesAlike (filter (left_out gone) pieces) (filter (left_out gone) others)
alike_left gone pieces others alike = record {
  apart = distinct_left gone pieces alike.apart;
  others_apart = distinct_left gone others alike.others_apart;
  same = λ life. elim (cases_Bool (life == gone)) [
    | inl is ↦ subst (λ l. piece_for l (filter (left_out gone) pieces) ≡ piece_for l (filter (left_out gone) others))
        (sym (eqb-true life gone is)) (find_gone gone pieces ∙ sym (find_gone gone others))
    | inr differs ↦ find_left life gone pieces (eqb-false life gone differs) ∙ alike.same life
        ∙ sym (find_left life gone others (eqb-false life gone differs))
  ];
}

alike_pushed : (new : Piece) (pieces others : List Piece) → IsNone new.counts.life (lives pieces)
    → ArePiecesAlike pieces others → ArePiecesAlike (pieces ++ new ∷ []) (others ++ new ∷ [])
alike_pushed new pieces others none alike =
    let life = new.counts.life in
    let none_other : IsNone life (lives others) =
    found_none life others (sym (alike.same life) ∙ none_found life pieces none) in
    record {
      apart = subst AreDistinct (sym (map_push life_of pieces new)) (distinct-push (lives pieces) life alike.apart none);
      others_apart = subst AreDistinct (sym (map_push life_of others new))
          (distinct-push (lives others) life alike.others_apart none_other);
      same = λ l. find_pushed l pieces new
          ∙ ap (λ found. or_else found (cond (is_of l new) (Some new) None)) (alike.same l)
          ∙ sym (find_pushed l others new);
    }

-- the lives of the book of pieces are theirs
pub lives_are : (pieces : List Piece) → map (λ (c : Counters). c.life) (map counts_in pieces) ≡ lives pieces
lives_are [] = refl
lives_are (p ∷ ps) = ap (λ ls. p.counts.life ∷ ls) (lives_are ps)

behind_alike : (now : Happening) (pieces others : List Piece) → MayBePosted (book_with pieces) now
    → ArePiecesAlike pieces others → ArePiecesAlike (pieces_behind pieces now) (pieces_behind others now)
behind_alike (started life ebi qci) pieces others may alike =
    alike_pushed (piece_of (open_of life ebi qci 0 []) no_moments) pieces others
    (subst (IsNone life) (lives_are pieces)
    (none_of_all life (map (λ (c : Counters). c.life) (map counts_in pieces)) may.fresh)) alike
behind_alike (forwarded life p) pieces others may alike =
    alike_mapped (goes life (with_one p)) (goes_keeps life (with_one p) (one_keeps p)) pieces others alike
behind_alike (closed life Volume) pieces others may alike =
    alike_mapped (goes life (λ piece. next_behind piece.counts))
    (goes_keeps life (λ piece. next_behind piece.counts) (λ p. refl)) pieces others alike
behind_alike (closed life Qos) pieces others may alike =
    alike_mapped (goes life (λ piece. next_behind piece.counts))
    (goes_keeps life (λ piece. next_behind piece.counts) (λ p. refl)) pieces others alike
behind_alike (closed life Gone) pieces others may alike = alike_left life pieces others alike

-- what may be posted to the one may be posted to the other
all_other : (life : ℕ) (ls : List ℕ) → IsNone life ls → All (λ other. other ≢ life) ls
all_other life ls none = All-from_recursion (λ other. other ≢ life) ls (by life ls none)
  where
    by : (life : ℕ) (ls : List ℕ) → IsNone life ls → AllByRecursion (λ other. other ≢ life) ls
    by life [] none = tt
    by life (l ∷ ls) none = (none.0, by life ls none.1)

all_of : {X : Type 0} (P : X → Type 0) (xs : List X) → ((x : X) → In x xs → P x) → AllByRecursion P xs
all_of P [] each = tt
all_of P (x ∷ xs) each = (each x (inl refl), all_of P xs (λ y there. each y (inr there)))

at_all : {X : Type 0} (P : X → Type 0) (xs : List X) (x : X) → All P xs → In x xs → P x
at_all P [] x all there = absurd there
at_all P (y ∷ ys) x all (inl here) = subst P here (all 0 y (omega arith))
at_all P (y ∷ ys) x all (inr there) = at_all P ys x (λ k d within. all (suc k) d (omega arith)) there

some_found : (life : ℕ) (pieces : List Piece) → In life (lives pieces) → (p : Piece) × (piece_for life pieces ≡ Some p)
some_found life [] there = absurd there
some_found life (p ∷ ps) there = elim (cases_Bool (is_of life p)) [
  | inl is ↦ (p, ap (λ t. cond t (Some p) (piece_for life ps)) is)
  | inr not_it ↦ elim there [
    | inl here ↦ absurd (eqb-false p.counts.life life not_it here)
    | inr behind ↦
        let rest = some_found life ps behind in
        (rest.0, ap (λ t. cond t (Some p) (piece_for life ps)) not_it ∙ rest.1)
  ]
]

may_go_on : (life : ℕ) (pieces others : List Piece) → ArePiecesAlike pieces others → MayGoOn (book_with pieces) life
    → MayGoOn (book_with others) life
may_go_on life pieces others alike may =
    let there : In life (lives pieces) = subst (In life) (lives_are pieces)
    (in_contains life (map (λ (c : Counters). c.life) (map counts_in pieces)) may.is_open) in
    let found = some_found life pieces there in
    let other = of_find (is_of life) found.0 others (sym (alike.same life) ∙ found.1) in
    let is : found.0.counts.life ≡ life = eqb-true found.0.counts.life life other.1 in
    record {
      is_open = contains_in life (map (λ (c : Counters). c.life) (map counts_in others))
          (subst (In life) (sym (lives_are others)) (subst (λ l. In l (lives others)) is (in_map life_of found.0 others other.0)));
      room = All-from_recursion (λ (c : Counters). c.life ≡ life → HasRoom c) (map counts_in others)
          (all_of (λ (c : Counters). c.life ≡ life → HasRoom c) (map counts_in others) (λ c c_there same.
          let q = of_map counts_in c others c_there in
          let q_is : q.0.counts.life ≡ life = ap (λ (x : Counters). x.life) q.2 ∙ same in
          let own = of_find (is_of life) q.0 pieces (alike.same life
          ∙ found_at life others q.0 alike.others_apart q.1 q_is) in
          subst HasRoom q.2 (at_all (λ (x : Counters). x.life ≡ life → HasRoom x) (map counts_in pieces) q.0.counts may.room
          (in_map counts_in q.0 pieces own.0) q_is)));
    }

may_alike : (now : Happening) (pieces others : List Piece) → ArePiecesAlike pieces others
    → MayBePosted (book_with pieces) now → MayBePosted (book_with others) now
may_alike (started life ebi qci) pieces others alike may =
    let none : IsNone life (lives pieces) = subst (IsNone life) (lives_are pieces)
    (none_of_all life (map (λ (c : Counters). c.life) (map counts_in pieces)) may.fresh) in
    let none_other : IsNone life (lives others) =
    found_none life others (sym (alike.same life) ∙ none_found life pieces none) in
    record {
      in_range = may.in_range;
      fresh = all_other life (map (λ (c : Counters). c.life) (map counts_in others))
          (subst (IsNone life) (sym (lives_are others)) none_other);
    }
may_alike (forwarded life p) pieces others alike may = may_go_on life pieces others alike may
may_alike (closed life why) pieces others alike may = may_go_on life pieces others alike may

-- so several happenings leave them alike
pub pieces_stay_alike : AlikePiecesStayAlike
pieces_stay_alike pieces others [] alike may = record { may = tt; rows = refl; alike = alike }
pieces_stay_alike pieces others (now ∷ later) alike may =
    let rest = pieces_stay_alike (pieces_behind pieces now) (pieces_behind others now) later
    (behind_alike now pieces others may.0 alike) may.1 in
    record {
      may = (may_alike now pieces others alike may.0, rest.may);
      rows = ap (λ rows. rows ++ rows_after (pieces_behind pieces now) later) (made_alike now pieces others alike)
          ∙ ap (λ rows. rows_made others now ++ rows) rest.rows;
      alike = rest.alike;
    }

-- The bearer that `chosen` names is the one that the packet takes.
use Rattle.std.proofs.Common.{◌≡◌, ℕ, ◌==◌, ◌&&◌, ◌||◌, ◌⊎◌, inl, inr, Bool, true, false, List, [], ◌∷◌, ◌++◌, length, map, filter, Option, Some, None, refl, sym, ◌∙◌, ap, subst, cond, arith}
use Rattle.std.specs.List.{Contains}
use Rattle.std.proofs.lemmas.Bool.{and_parts, eqb-true}
use Rattle.std.proofs.lemmas.Bool.Decides.{nat_tests}
use Rattle.std.proofs.lemmas.List.Elements.{Contains-append_left, Contains-append_right, Contains-append_cases, Contains-push_cases}
use Rattle.tft_codec.specs.declared.filter.Filter.{Filter}
use Rattle.tft_codec.specs.declared.tft.BearerFilters.{BearerFilters}
use Rattle.tft_match.specs.declared.direction.Direction.TheVariants.{Down}
use Rattle.tft_match.specs.Fit.{fits, Fits}
use Rattle.tft_match.specs.Choice.{Rank, rank_of, IsBefore, HasDefault, Takes, by_default, none}
use Rattle.tft_match.specs.Walk.{HasRank, IsFirstRank}
use Rattle.tft_match.specs.Chosen.{is_before, earlier_of, first_of, candidate_ranks, has_default, bearer_by, chosen, ChosenIsTaken}
use Rattle.tft_match.proofs.FitLemmas.{fits_tested}
use Rattle.tft_match.proofs.RankLemmas.{before_trans, not_before_itself}
use Rattle.tft_match.proofs.WalkLemmas.{none_in_nil}
use Rattle.tft_match.proofs.ChoiceLemmas.{takes_first, no_candidate}

-- the test of the order
before_tested : (a b : Rank) → ((is_before a b ≡ true) × IsBefore a b) ⊎ ((is_before a b ≡ false) × (IsBefore a b → ⊥))
before_tested a b = grind (arith, nat_tests)

before_across : (a b c : Rank) → (IsBefore a b → ⊥) → IsBefore a c → IsBefore b c
before_across a b c not_before before = grind arith

one_of : {X : Type 0} (x y : X) → Contains (x ∷ []) y → x ≡ y
one_of x y there = elim (Contains-push_cases [] x y there) [
  | inl nowhere ↦ absurd
      (none_in_nil y nowhere)
  | inr same ↦ same
]

-- what stands first: there is none in no ranks, and else one of them that none is before
record IsEarliest (ranks : List Rank) (rank : Rank) : Type 0 where
  there : Contains ranks rank
  none_before : (other : Rank) → Contains ranks other → IsBefore other rank → ⊥

abbrev Earliest : List Rank → Option Rank → Type 0
Earliest ranks None = ranks ≡ []
Earliest ranks (Some rank) = IsEarliest ranks rank

earliest_step : (rank : Rank) (ranks : List Rank) (first : Option Rank) → Earliest ranks first
    → Earliest (rank ∷ ranks) (Some (earlier_of rank first))
earliest_step rank ranks None nothing = record {
  there = Contains-append_left (rank ∷ []) ranks rank (0, omega arith, refl);
  none_before = λ other there before. elim (Contains-append_cases (rank ∷ []) ranks other there) [
    | inl here ↦ not_before_itself other (subst (IsBefore other) (one_of rank other here) before)
    | inr behind ↦ none_in_nil other (subst (λ (xs : List Rank). Contains xs other) nothing behind)
  ];
}
earliest_step rank ranks (Some first) earliest =
    elim (before_tested first rank) [
      | inl is ↦ subst (λ b. IsEarliest (rank ∷ ranks) (cond b first rank)) (sym is.0) (record {
        there = Contains-append_right (rank ∷ []) ranks first earliest.there;
        none_before = λ other there before. elim (Contains-append_cases (rank ∷ []) ranks other there) [
          | inl here ↦ not_before_itself first (before_trans first rank first is.1
              (subst (λ (r : Rank). IsBefore r first) (sym (one_of rank other here)) before))
          | inr behind ↦ earliest.none_before other behind before
        ];
      })
      | inr other_way ↦ subst (λ b. IsEarliest (rank ∷ ranks) (cond b first rank)) (sym other_way.0) (record {
        there = Contains-append_left (rank ∷ []) ranks rank (0, omega arith, refl);
        none_before = λ other there before. elim (Contains-append_cases (rank ∷ []) ranks other there) [
          | inl here ↦ not_before_itself other (subst (IsBefore other) (one_of rank other here) before)
          | inr behind ↦ other_way.1 (before_across other first rank (earliest.none_before other behind) before)
        ];
      })
    ]

earliest_of : (ranks : List Rank) → Earliest ranks (first_of ranks)
earliest_of [] = refl
earliest_of (rank ∷ ranks) = earliest_step rank ranks (first_of ranks) (earliest_of ranks)

-- a filter of a row that the packet fits has the rank
record HasFilter (row : BearerFilters) (packet : List ℕ) (filters : List Filter) (rank : Rank) : Type 0 where
  filter : Filter
  in_row : Contains filters filter
  fits : Fits Down packet filter
  ranked : rank_of row filter ≡ rank

more_filters : (row : BearerFilters) (packet : List ℕ) (f : Filter) (fs : List Filter) (rank : Rank)
    → HasFilter row packet fs rank → HasFilter row packet (f ∷ fs) rank
more_filters row packet f fs rank has = record {
  filter = has.filter;
  in_row = Contains-append_right (f ∷ []) fs has.filter has.in_row;
  fits = has.fits;
  ranked = has.ranked;
}

-- the ranks of a row's filters that the packet fits
abbrev ranks_in_row : BearerFilters → List ℕ → List Filter → List Rank
ranks_in_row row packet filters = map (rank_of row) (filter (fits Down packet) filters)

row_step : (row : BearerFilters) (packet : List ℕ) (f : Filter) (fs : List Filter) (rank : Rank) (fit : Bool)
    → fits Down packet f ≡ fit
    → Contains (map (rank_of row) (cond fit (f ∷ filter (fits Down packet) fs) (filter (fits Down packet) fs))) rank
    → (Contains (ranks_in_row row packet fs) rank → HasFilter row packet fs rank) → HasFilter row packet (f ∷ fs) rank
row_step row packet f fs rank false unfit there rest = more_filters row packet f fs rank (rest there)
row_step row packet f fs rank true fit there rest =
    elim (Contains-append_cases (rank_of row f ∷ []) (ranks_in_row row packet fs) rank there) [
      | inl here ↦ record {
        filter = f;
        in_row = Contains-append_left (f ∷ []) fs f (0, omega arith, refl);
        fits = (fits_tested Down packet f).0 fit;
        ranked = one_of (rank_of row f) rank here;
      }
      | inr behind ↦ more_filters row packet f fs rank (rest behind)
    ]

row_found : (row : BearerFilters) (packet : List ℕ) (filters : List Filter) (rank : Rank)
    → Contains (ranks_in_row row packet filters) rank
    → HasFilter row packet filters rank
row_found row packet [] rank there = absurd (none_in_nil rank there)
row_found row packet (f ∷ fs) rank there =
    row_step row packet f fs rank (fits Down packet f) refl there (row_found row packet fs rank)

kept_step : (row : BearerFilters) (packet : List ℕ) (f : Filter) (fs : List Filter) (rank : Rank) (fit : Bool)
    → Contains (ranks_in_row row packet fs) rank
    → Contains (map (rank_of row) (cond fit (f ∷ filter (fits Down packet) fs) (filter (fits Down packet) fs))) rank
kept_step row packet f fs rank true there =
    Contains-append_right (rank_of row f ∷ []) (ranks_in_row row packet fs) rank there
kept_step row packet f fs rank false there = there

row_holds : (row : BearerFilters) (packet : List ℕ) (filters : List Filter) (f : Filter) → Contains filters f
    → Fits Down packet f
    → Contains (ranks_in_row row packet filters) (rank_of row f)
row_holds row packet [] f inside fit = absurd (none_in_nil f inside)
row_holds row packet (g ∷ gs) f inside fit =
    elim (Contains-append_cases (g ∷ []) gs f inside) [
      | inl here ↦
          let same : g ≡ f = one_of g f here in
          let tested : fits Down packet g ≡ true = ap (fits Down packet) same ∙ (fits_tested Down packet f).1 fit in
          subst (λ b. Contains (map (rank_of row) (cond b (g ∷ filter (fits Down packet) gs)
          (filter (fits Down packet) gs))) (rank_of row f)) (sym tested)
          (Contains-append_left (rank_of row g ∷ []) (ranks_in_row row packet gs) (rank_of row f) (
            0,
            omega arith,
            ap (rank_of row) same,
          ))
      | inr behind ↦ kept_step row packet g gs (rank_of row f) (fits Down packet g)
          (row_holds row packet gs f behind fit)
    ]

-- the ranks of candidates are those that candidates have
ranks_found : (rows : List BearerFilters) (packet : List ℕ) (rank : Rank)
    → Contains (candidate_ranks rows packet) rank → HasRank rows packet rank
ranks_found [] packet rank there = absurd (none_in_nil rank there)
ranks_found (row ∷ rows) packet rank there =
    elim (Contains-append_cases (ranks_in_row row packet row.filters) (candidate_ranks rows packet) rank there) [
      | inl here ↦
          let has = row_found row packet row.filters rank here in
          record {
            row = row;
            filter = has.filter;
            candidate = record {
              in_rows = Contains-append_left (row ∷ []) rows row (0, omega arith, refl);
              in_row = has.in_row;
              fits = has.fits;
            };
            ranked = has.ranked;
          }
      | inr behind ↦
          let has = ranks_found rows packet rank behind in
          record {
            row = has.row;
            filter = has.filter;
            candidate = record {
              in_rows = Contains-append_right (row ∷ []) rows has.row has.candidate.in_rows;
              in_row = has.candidate.in_row;
              fits = has.candidate.fits;
            };
            ranked = has.ranked;
          }
    ]

ranks_hold : (rows : List BearerFilters) (packet : List ℕ) (row : BearerFilters) (f : Filter) → Contains rows row
    → Contains row.filters f → Fits Down packet f
    → Contains (candidate_ranks rows packet) (rank_of row f)
ranks_hold [] packet row f in_rows in_row fit = absurd (none_in_nil row in_rows)
ranks_hold (other ∷ rows) packet row f in_rows in_row fit =
    elim (Contains-append_cases (other ∷ []) rows row in_rows) [
      | inl here ↦
          let same : other ≡ row = one_of other row here in
          subst (λ (r : BearerFilters). Contains (ranks_in_row r packet r.filters ++ candidate_ranks rows packet)
          (rank_of row f)) (sym same)
          (Contains-append_left (ranks_in_row row packet row.filters) (candidate_ranks rows packet) (rank_of row f)
          (row_holds row packet row.filters f in_row fit))
      | inr behind ↦ Contains-append_right (ranks_in_row other packet other.filters) (candidate_ranks rows packet)
          (rank_of row f)
          (ranks_hold rows packet row f behind in_row fit)
    ]

ranks_had : (rows : List BearerFilters) (packet : List ℕ) (rank : Rank) → HasRank rows packet rank
    → Contains (candidate_ranks rows packet) rank
ranks_had rows packet rank has =
    subst (Contains (candidate_ranks rows packet)) has.ranked
    (ranks_hold rows packet has.row has.filter has.candidate.in_rows has.candidate.in_row has.candidate.fits)

-- the first of them is the rank of the first candidate
first_from : (rows : List BearerFilters) (packet : List ℕ) (first : Option Rank)
    → Earliest (candidate_ranks rows packet) first → IsFirstRank rows packet first
first_from rows packet None nothing = λ rank has. none_in_nil rank
    (subst (λ (xs : List Rank). Contains xs rank) nothing (ranks_had rows packet rank has))
first_from rows packet (Some first) earliest = record {
  reached = ranks_found rows packet first earliest.there;
  none_before = λ other has. earliest.none_before other (ranks_had rows packet other has);
}

-- the default bearer
none_long : {X : Type 0} (xs : List X) → length xs ≡ 0 → xs ≡ []
none_long [] short = refl
none_long (x ∷ xs) short = absurd (omega arith)

default_is : (index : ℕ) (filters : List Filter) → index ≡ 0 → filters ≡ []
    → ◌≡◌ {A = BearerFilters} (record { index = index; filters = filters }) (record { index = 0; filters = [] })
default_is index filters same none_there =
    let at : List Filter → BearerFilters = λ fs. record { index = 0; filters = fs } in
    let on : ℕ → BearerFilters = λ n. record { index = n; filters = filters } in
    ap on same ∙ ap at none_there

abbrev is_default : BearerFilters → Bool
is_default row = row.index == 0 && (length row.filters == 0)

either_true : (a b : Bool) → (a || b) ≡ true → (a ≡ true) ⊎ (b ≡ true)
either_true true b either = inl refl
either_true false b either = inr either

or_true : (a : Bool) → (a || true) ≡ true
or_true true = refl
or_true false = refl

default_found : (rows : List BearerFilters) → has_default rows ≡ true → HasDefault rows
default_found [] found = absurd (cc)
default_found (row ∷ rows) found =
    elim (either_true (is_default row) (has_default rows) found) [
      | inl here ↦
          let parts = and_parts (row.index == 0) (length row.filters == 0) here in
          let index : row.index ≡ 0 = eqb-true row.index 0 parts.0 in
          let filters : row.filters ≡ [] = none_long row.filters (eqb-true (length row.filters) 0 parts.1) in
          let same : row ≡ record { index = 0; filters = [] } = default_is row.index row.filters index filters in
          Contains-append_left (row ∷ []) rows (record { index = 0; filters = [] }) (0, omega arith, same)
      | inr behind ↦ Contains-append_right (row ∷ []) rows (record { index = 0; filters = [] })
          (default_found rows behind)
    ]

default_had : (rows : List BearerFilters) → HasDefault rows → has_default rows ≡ true
default_had [] has = absurd (none_in_nil _ has)
default_had (row ∷ rows) has =
    elim (Contains-append_cases (row ∷ []) rows (record { index = 0; filters = [] }) has) [
      | inl here ↦
          let same : row ≡ record { index = 0; filters = [] } = one_of row _ here in
          ap (λ b. b || has_default rows) (ap is_default same)
      | inr behind ↦ ap (λ b. is_default row || b) (default_had rows behind) ∙ or_true (is_default row)
    ]

takes_by : (rows : List BearerFilters) (packet : List ℕ) (first : Option Rank) (default : Bool)
    → IsFirstRank rows packet first → has_default rows ≡ default
    → Takes rows packet (bearer_by first default)
takes_by rows packet (Some first) default least is = takes_first rows packet first least
takes_by rows packet None true no_rank is =
    by_default rows packet (no_candidate rows packet no_rank) (default_found rows is)
takes_by rows packet None false no_rank is =
    none rows packet (no_candidate rows packet no_rank) (λ there. absurd (let known = default_had rows there in cc))

pub chosen_taken : ChosenIsTaken
unfolding chosen
chosen_taken rows packet =
    takes_by rows packet (first_of (candidate_ranks rows packet)) (has_default rows)
    (first_from rows packet (first_of (candidate_ranks rows packet)) (earliest_of (candidate_ranks rows packet))) refl

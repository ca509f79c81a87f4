-- The open counters of the active bearers are those of the lives that are open.
use Rattle.std.proofs.Common.{◌≡◌, ◌==◌, ℕ, Bool, true, false, cond, Some, List, [], ◌∷◌, map, find, refl, sym, ap, subst, ◌∙◌, inl, inr, ◌⊎◌}
use Rattle.std.proofs.lemmas.Bool.{cases_eq, eq-eqb, eqb-true, false≢true, ne_eqb}
use Rattle.bearer_state.specs.declared.version.ActiveBearer.{ActiveBearer}
use Rattle.charging_book.specs.Happenings.{Happening, lives_of, open_at, opens_of}
use Rattle.charging_book.specs.Ledger.{opens_for, TellLast}
use Rattle.charging_book.specs.Pieces.{Forwarded}
use Rattle.charging_book.specs.Rows.{Counters}
use Rattle.gate_model.specs.SlotPast.{past_of}
use Rattle.gate_model.specs.declared.event.Event.{Event}
use Rattle.gate_model.proofs.BookSteps.{active_lives}
use Rattle.gate_model.proofs.Members.{In, AreDistinct, other_at}
use Rattle.gate_model.proofs.Sound.{past_sound}
use Rattle.lawful_run.specs.Outcomes.{open_counters}

-- the counters of a life are among those of lives
pub found : (happened : List Happening) (lives : List ℕ) (life : ℕ) → In life lives
    → find (λ (counters : Counters). counters.life == life) (map (open_at happened) lives)
    ≡ Some (open_at happened life)
found happened [] life there = absurd there
found happened (first ∷ lives) life there = by_test (first == life) refl there (found happened lives life)
  where
    by_test : (test : Bool) → (first == life) ≡ test → In life (first ∷ lives)
        → (In life lives → find (λ (counters : Counters). counters.life == life) (map (open_at happened) lives)
        ≡ Some (open_at happened life))
        → cond test (Some (open_at happened first)) (find (λ (counters : Counters). counters.life == life)
        (map (open_at happened) lives))
        ≡ Some (open_at happened life)
    by_test true is at rest = ap (λ l. Some (open_at happened l)) (eqb-true first life is)
    by_test false is (inl here) rest = absurd (false≢true (sym is ∙ eq-eqb first life here))
    by_test false is (inr later) rest = rest later

module _ (life : ℕ) (happened : List Happening) where
  -- the counters of a life that isn't there
  none_there : (xs : List ℕ) → (In life xs → ⊥) → opens_for life (map (open_at happened) xs) ≡ []
  none_there [] none = refl
  none_there (x ∷ xs) none =
      rw (ne_eqb x life (λ same. none (inl same))) (none_there xs (λ there. none (inr there)))

  -- one that is there once has one
  one_there : (xs : List ℕ) → AreDistinct xs → In life xs
      → opens_for life (map (open_at happened) xs) ≡ open_at happened life ∷ []
  one_there [] distinct there = absurd there
  one_there (x ∷ xs) distinct there = elim (cases_eq x life) [
    | inl same ↦
        rw (eq-eqb x life same)
        (ap (λ opens. open_at happened x ∷ opens) (none_there xs
        (λ later. other_at x life xs distinct.0 later same)) ∙ ap (λ y. open_at happened y ∷ []) same)
    | inr other ↦ rw (ne_eqb x life other) (one_there xs distinct.1
        (elim there [ inl here ↦ absurd (other here) | inr later ↦ later ]))
  ]

  -- and so has one that is there at all, where its counters tell a last piece
  first_there : (xs : List ℕ) → In life xs → (rest : List Counters)
      × (opens_for life (map (open_at happened) xs) ≡ open_at happened life ∷ rest)
  first_there [] there = absurd there
  first_there (x ∷ xs) there = elim (cases_eq x life) [
    | inl same ↦ (
      opens_for life (map (open_at happened) xs),
      rw (eq-eqb x life same) (ap (λ y. open_at happened y ∷ opens_for life (map (open_at happened) xs)) same),
    )
    | inr other ↦
        let later = first_there xs (elim there [ inl here ↦ absurd (other here) | inr more ↦ more ]) in
        (later.0, rw (ne_eqb x life other) later.1)
  ]

  only_one : (counters : Counters) (rest : List Counters) (last : List Forwarded) → TellLast (counters ∷ rest) last
      → rest ≡ []
  only_one counters [] last tells = refl
  only_one counters (other ∷ rest) last tells = absurd tells

  there_or_not : (xs : List ℕ) → In life xs ⊎ (In life xs → ⊥)
  there_or_not [] = inr (λ there. there)
  there_or_not (x ∷ xs) = elim (cases_eq x life) [
    | inl same ↦ inl (inl same)
    | inr other ↦ elim (there_or_not xs) [
      | inl later ↦ inl (inr later)
      | inr none ↦ inr (λ there. elim there [ inl here ↦ other here | inr later ↦ none later ])
    ]
  ]

  -- so lists of the same lives have the same counters of it
  pub same_opens : (xs : List ℕ) (last : List Forwarded) → AreDistinct xs → (In life xs → In life (lives_of happened))
      → (In life (lives_of happened) → In life xs) → TellLast (opens_for life (opens_of happened)) last
      → opens_for life (map (open_at happened) xs) ≡ opens_for life (opens_of happened)
  same_opens xs last distinct to from tells = elim (there_or_not xs) [
    | inl there ↦
        let first = first_there (lives_of happened) (to there) in
        let told : TellLast (open_at happened life ∷ first.0) last =
        subst (λ opens. TellLast opens last) first.1 tells in
        one_there xs distinct there
        ∙ sym (first.1 ∙ ap (λ rest. open_at happened life ∷ rest) (only_one (open_at happened life) first.0 last told))
    | inr none ↦ none_there xs none ∙ sym (none_there (lives_of happened) (λ there. none (from there)))
  ]

map_map : (happened : List Happening) (bearers : List ActiveBearer)
    → map (λ (bearer : ActiveBearer). open_at happened bearer.life) bearers
    ≡ map (open_at happened) (active_lives bearers)
map_map happened [] = refl
map_map happened (b ∷ bearers) = ap (λ rest. open_at happened b.life ∷ rest) (map_map happened bearers)

-- the open counters of a slot are those of its open lives, life by life
pub counters_of_life : (slot life : ℕ) (events : List Event) (last : List Forwarded)
    → TellLast (opens_for life (opens_of (past_of slot events).packets.charged)) last
    → opens_for life (open_counters slot events) ≡ opens_for life (opens_of (past_of slot events).packets.charged)
counters_of_life slot life events last tells =
    let sound = (past_sound slot events).packets in
    let happened : List Happening = (past_of slot events).packets.charged in
    let bearers : List ActiveBearer = (past_of slot events).packets.version.bearers in
    ap (opens_for life) (map_map happened bearers)
    ∙ same_opens life happened (active_lives bearers) last sound.apart (sound.opened.opened life)
    (sound.opened.active life) tells

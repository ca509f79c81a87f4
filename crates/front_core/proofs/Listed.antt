-- What a step leaves of the list of slots whose control half may be on its way.
use Rattle.std.proofs.Common.{◌≡◌, ◌≢◌, ℕ, zero, suc, ◌+◌, ◌<◌, ◌≤◌, inl, inr, Bool, true, false, true≢false, not, cond, List, [], ◌∷◌, ◌++◌, length, get_or-set_same, replicate, set, length-set, refl, sym, ap, ◌∙◌, subst, arith}
use Rattle.std.specs.Prelude.{nat_eq, Option, Some, None, filter, is_some}
use Rattle.std.proofs.lemmas.Bool.{cases_eq, cases_lt, eq-eqb, ne_eqb}
use Rattle.std.proofs.lemmas.List.{get_or_past}
use Rattle.migration.specs.declared.place.ControlPlace.{ControlPlace}
use Rattle.migration.specs.declared.place.ControlState.{ControlState}
use Rattle.migration.specs.declared.place.ControlState.TheVariants.{Front, Placed, Recall, Leaving}
use Rattle.migration.specs.Places.{place_at, is_placed, is_placed_at, is_admitted, name_at}
use Rattle.migration.specs.Steps.{Admits, Goes, Moves, MovesAt, PlaceServed, Serves}
use Rattle.migration.specs.Pumps.{CameHome, PumpsBySlot, ServesEach}
use Rattle.worker_core.specs.Desks.{Desk}
use Rattle.front_core.specs.Listing.{ListsMoving, is_moving, one_if, times}
use Rattle.front_core.proofs.SidesAdmitting.{grown_other}
use Rattle.front_core.proofs.SidesSettling.{place_here, place_other}

-- how often a slot stands in a list
one_at : (slot other : ℕ) → one_if (nat_eq other slot) ≤ 1
one_at slot other = elim (nat_eq other slot) as (λ b. one_if b ≤ 1) [
  | true ↦ omega arith
  | false ↦ omega arith
]

here_once : (slot : ℕ) → one_if (nat_eq slot slot) ≡ 1
here_once slot = ap one_if (eq-eqb slot slot refl)

there_never : (slot other : ℕ) → other ≢ slot → one_if (nat_eq other slot) ≡ 0
there_never slot other ne = ap one_if (ne_eqb other slot ne)

times-append : (slot : ℕ) (xs ys : List ℕ) → times slot (xs ++ ys) ≡ times slot xs + times slot ys
times-append slot [] ys = omega arith
times-append slot (x ∷ xs) ys = let rest = times-append slot xs ys in omega (arith, rest)

times-filter : (p : ℕ → Bool) (slot : ℕ) (xs : List ℕ) → times slot (filter p xs) ≡ cond (p slot) (times slot xs) 0
times-filter p slot [] = elim (p slot) as (λ b. ◌≡◌ {A = ℕ} 0 (cond b 0 0)) [
  | true ↦ refl
  | false ↦ refl
]
times-filter p slot (x ∷ xs) =
    let rest = times-filter p slot xs in
    elim (cases_eq x slot) [
      | inl same ↦
          subst (λ (y : ℕ). times slot (filter p (y ∷ xs)) ≡ cond (p slot) (times slot (y ∷ xs)) 0) (sym same)
          (elim (p slot) as (λ b. times slot (filter p xs) ≡ cond b (times slot xs) 0
          → times slot (cond b (slot ∷ filter p xs) (filter p xs)) ≡ cond b (times slot (slot ∷ xs)) 0) [
            | true ↦ λ is. omega (arith, is)
            | false ↦ λ is. is
          ] rest)
      | inr ne ↦
          let none = there_never slot x ne in
          let more : times slot (x ∷ xs) ≡ times slot xs = omega (arith, none) in
          let kept : times slot (filter p (x ∷ xs)) ≡ times slot (filter p xs) =
          elim (p x) as (λ b. times slot (cond b (x ∷ filter p xs) (filter p xs)) ≡ times slot (filter p xs)) [
            | true ↦ omega (arith, none)
            | false ↦ refl
          ] in
          kept ∙ rest ∙ ap (λ n. cond (p slot) n 0) (sym more)
    ]

-- a list without those of a number is shorter by these
without : (n : ℕ) (xs : List ℕ) → length xs ≡ length (filter (λ x. not (nat_eq x n)) xs) + times n xs
without n [] = refl
without n (x ∷ xs) =
    let rest = without n xs in
    elim (nat_eq x n) as (λ b. length (x ∷ xs)
    ≡ length (cond (not b) (x ∷ filter (λ y. not (nat_eq y n)) xs) (filter (λ y. not (nat_eq y n)) xs))
    + (one_if b + times n xs)) [
      | true ↦ omega (arith, rest)
      | false ↦ omega (arith, rest)
    ]

cond_le : (b : Bool) (n m : ℕ) → n ≤ m → cond b n 0 ≤ m
cond_le true n m le = le
cond_le false n m le = omega arith

cond_none : (b : Bool) (n : ℕ) → (b ≡ true → n ≡ 0) → cond b n 0 ≡ 0
cond_none true n none = none refl
cond_none false n none = refl

-- a list of different numbers below an end is no longer than that
few : (end : ℕ) (xs : List ℕ) → ((k : ℕ) → times k xs ≤ 1) → ((k : ℕ) → end ≤ k → times k xs ≡ 0) → length xs ≤ end
few zero [] once none = omega arith
few zero (x ∷ xs) once none =
    let one = here_once x in
    let is = none x (omega arith) in
    absurd (omega (arith, one, is))
few (suc end) xs once none =
    let p : ℕ → Bool = λ x. not (nat_eq x end) in
    let rest = few end (filter p xs)
    (λ k. let is = times-filter p k xs in let le = cond_le (p k) (times k xs) 1 (once k) in omega (arith, is, le))
    (λ k past. times-filter p k xs ∙ cond_none (p k) (times k xs) (λ other. elim (cases_eq k end) [
      | inl same ↦ absurd (true≢false (sym other ∙ ap not (eq-eqb k end same)))
      | inr ne ↦ none k (omega (arith, past, ne))
    ])) in
    let all = without end xs in
    let last = once end in
    omega (arith, rest, all, last)

pub room_more : (end slot : ℕ) (xs : List ℕ) → ((k : ℕ) → times k xs ≤ 1) → ((k : ℕ) → end ≤ k → times k xs ≡ 0)
    → slot < end → times slot xs ≡ 0 → length xs < end
room_more end slot xs once none low absent =
    let more = few end (slot ∷ xs)
    (λ k. elim (cases_eq slot k) [
      | inl same ↦
          let here = ap (λ n. times n xs) (sym same) ∙ absent in
          let one = one_at k slot in
          omega (arith, here, one)
      | inr ne ↦ let never = there_never k slot ne in let rest = once k in omega (arith, never, rest)
    ])
    (λ k past.
    let never = there_never k slot (λ same. omega (arith, same, low, past)) in
    let rest = none k past in
    omega (arith, never, rest)) in
    omega (arith, more)

sums_to : (b c : Bool) → b ≡ not c → one_if b + one_if c ≡ 1
sums_to b true is = ap (λ x. one_if x + 1) is
sums_to b false is = ap (λ x. one_if x + 0) is

cond_one : (b : Bool) → one_if b ≤ 1
cond_one true = omega arith
cond_one false = omega arith

module _ {H : Type 0} where
  no_place : (place : Option (ControlPlace H)) → is_admitted place ≡ false → place ≡ None
  no_place None none = refl
  no_place (Some place) none = absurd (true≢false none)

  moving_admitted : (place : Option (ControlPlace H)) → is_admitted place ≡ false → is_moving place ≡ false
  moving_admitted None none = refl
  moving_admitted (Some place) none = absurd (true≢false none)

  -- of an admitted slot
  moving_or : (place : Option (ControlPlace H)) → is_admitted place ≡ true → is_moving place ≡ not (is_placed_at place)
  moving_or None admitted = absurd (true≢false (sym admitted))
  moving_or (Some place) admitted = refl

  past_none : (places : List (Option (ControlPlace H))) (moving : List ℕ) (room : ℕ) → ListsMoving places moving room
      → (slot : ℕ) → room ≤ slot → is_admitted (place_at places slot) ≡ false
  past_none places moving room lists slot past =
      elim (is_admitted (place_at places slot)) as (λ b. is_admitted (place_at places slot) ≡ b → b ≡ false) [
        | true ↦ λ is. let low = lists.roomy slot is in absurd (omega (arith, low, past))
        | false ↦ λ is. refl
      ] refl

  -- there is room for one more that is admitted and rests
  pub room_for : (places : List (Option (ControlPlace H))) (moving : List ℕ) (room slot : ℕ) → ListsMoving places moving room
      → slot < room → is_moving (place_at places slot) ≡ false → length moving < room
  room_for places moving room slot lists low rests =
      room_more room slot moving
      (λ k. let is = lists.each k in let one = cond_one (is_moving (place_at places k)) in omega (arith, is, one))
      (λ k past. lists.each k ∙ ap (λ b. one_if b)
      (moving_admitted (place_at places k) (past_none places moving room lists k past)))
      low (lists.each slot ∙ ap one_if rests)

  -- no slot is known yet
  pub lists_none : (places : List (Option (ControlPlace H))) (moving : List ℕ) (room : ℕ) → places ≡ [] → moving ≡ []
      → ListsMoving places moving room
  lists_none places moving room no_places none = record {
    each = λ slot.
        ap (times slot) none ∙ ap one_if (sym (ap (λ ps. is_moving (place_at ps slot)) no_places));
    roomy = λ slot admitted.
        absurd (true≢false (sym admitted ∙ ap (λ ps. is_admitted (place_at ps slot)) no_places));
  }

  -- one slot has another place, and joins the list where it wasn't moving and is now
  pub lists_one : (places new : List (Option (ControlPlace H))) (moving later : List ℕ) (room more slot : ℕ) (joins : Bool)
      → ListsMoving places moving room → later ≡ moving ++ cond joins (slot ∷ []) []
      → room ≤ more → slot < more → ((other : ℕ) → other ≢ slot → place_at new other ≡ place_at places other)
      → one_if (is_moving (place_at places slot)) + one_if joins ≡ one_if (is_moving (place_at new slot))
      → ListsMoving new later more
  lists_one places new moving later room more slot joins lists is wider low others here = record {
    each = λ k.
        let parts = ap (times k) is ∙ times-append k moving (cond joins (slot ∷ []) []) in
        let was = lists.each k in
        elim (cases_eq k slot) [
          | inl same ↦
              let added : times k (cond joins (slot ∷ []) []) ≡ one_if joins =
              elim joins as (λ b. times k (cond b (slot ∷ []) []) ≡ one_if b) [
                | true ↦ let one = ap one_if (eq-eqb slot k (sym same)) in omega (arith, one)
                | false ↦ refl
              ] in
              let before = ap (λ n. one_if (is_moving (place_at places n))) same in
              let after = ap (λ n. one_if (is_moving (place_at new n))) same in
              omega (arith, parts, was, added, before, after, here)
          | inr ne ↦
              let added : times k (cond joins (slot ∷ []) []) ≡ 0 =
              elim joins as (λ b. times k (cond b (slot ∷ []) []) ≡ 0) [
                | true ↦ let none = there_never k slot (λ same. ne (sym same)) in omega (arith, none)
                | false ↦ refl
              ] in
              let same = ap (λ p. one_if (is_moving p)) (others k ne) in
              omega (arith, parts, was, added, same)
        ];
    roomy = λ k admitted. elim (cases_eq k slot) [
      | inl same ↦ omega (arith, same, low)
      | inr ne ↦
          let less = lists.roomy k (ap is_admitted (sym (others k ne)) ∙ admitted) in
          omega (arith, less, wider)
    ];
  }

  -- the list is as it was, and so are all places
  pub lists_same : (places new : List (Option (ControlPlace H))) (moving later : List ℕ) (room more : ℕ)
      → ListsMoving places moving room → later ≡ moving → room ≤ more
      → ((slot : ℕ) → place_at new slot ≡ place_at places slot) → ListsMoving new later more
  lists_same places new moving later room more lists is wider same = record {
    each = λ k. ap (times k) is ∙ lists.each k ∙ ap (λ p. one_if (is_moving p)) (sym (same k));
    roomy = λ k admitted.
        let less = lists.roomy k (ap is_admitted (sym (same k)) ∙ admitted) in
        omega (arith, less, wider);
  }

  -- behind a move a half is on its way
  goes_moving : (slot slice until : ℕ) (was is : ControlState H) (old new : List (Desk H)) → Goes slot slice until was is old new
      → is_placed is ≡ false
  goes_moving slot slice until (Front half to) is old new goes = ap is_placed goes.0
  goes_moving slot slice until (Placed at) is old new goes = elim goes [
    | inl given ↦ ap is_placed given.0
    | inr refused ↦ ap is_placed refused.0
  ]
  goes_moving slot slice until (Recall at count to) is old new goes = ap is_placed goes.0
  goes_moving slot slice until (Leaving from to) is old new goes = ap is_placed goes.0

  moves_moving : (slot slice until : ℕ) (was is : Option (ControlPlace H)) (old new : List (Desk H))
      → Moves slot slice until was is old new → is_moving is ≡ true
  moves_moving slot slice until was is old new moves =
      ap is_moving moves.is ∙ ap not (goes_moving slot slice until moves.before.state moves.now.state old new moves.goes)

  pub lists_moved : (places new : List (Option (ControlPlace H))) (moving later : List ℕ) (room more slot slice until : ℕ)
      (placed : Bool) (old desks : List (Desk H)) → ListsMoving places moving room
      → is_admitted (place_at places slot) ≡ true → placed ≡ is_placed_at (place_at places slot)
      → later ≡ moving ++ cond placed (slot ∷ []) [] → more ≡ room → MovesAt slot slice until places new old desks
      → ListsMoving new later more
  lists_moved places new moving later room more slot slice until placed old desks lists admitted is joined same moves =
      let here : place_at new slot ≡ moves.0 =
      ap (λ ps. place_at ps slot) moves.2 ∙ place_here places slot moves.0 moves.1 in
      lists_one places new moving later room more slot placed lists joined (omega (arith, same))
      (let low = lists.roomy slot admitted in omega (arith, low, same))
      (λ other ne. ap (λ ps. place_at ps other) moves.2 ∙ place_other places slot other moves.0 ne)
      (sums_to (is_moving (place_at places slot)) placed
      (moving_or (place_at places slot) admitted ∙ ap not (sym is))
      ∙ ap one_if (sym (ap is_moving here
      ∙ moves_moving slot slice until (place_at places slot) moves.0 old desks moves.3)))

  pub room_moved : (places : List (Option (ControlPlace H))) (moving : List ℕ) (room slot : ℕ) (placed : Bool)
      → ListsMoving places moving room → is_admitted (place_at places slot) ≡ true
      → placed ≡ is_placed_at (place_at places slot) → placed ≡ true → length moving < room
  room_moved places moving room slot placed lists admitted is placed_is =
      room_for places moving room slot lists (lists.roomy slot admitted)
      (moving_or (place_at places slot) admitted ∙ ap not (sym is ∙ placed_is))

  -- there is room for one that is admitted now
  pub room_admits : (places : List (Option (ControlPlace H))) (moving later : List ℕ) (room more slot : ℕ)
      → ListsMoving places moving room → later ≡ moving → room ≤ more → slot < more → place_at places slot ≡ None
      → length later < more
  room_admits places moving later room more slot lists same wider low none =
      room_for places later more slot (lists_same places places moving later room more lists same wider (λ k. refl)) low
      (ap is_moving none)

  moving_placed : (place : Option (ControlPlace H)) (now : ControlPlace H) → place ≡ Some now → is_moving place ≡ not (is_placed_at place)
  moving_placed place now is = ap is_moving is ∙ ap (λ p. not (is_placed_at p)) (sym is)

  pub lists_admitted : {N : Type 0} (name : H → N) (hop_of : H → ℕ) (places new : List (Option (ControlPlace H)))
      (moving mid later : List ℕ) (room wide more slot slice : ℕ) (placed : Bool) (half : H) (old desks : List (Desk H))
      → ListsMoving places moving room → place_at places slot ≡ None
      → Admits name hop_of slot slice 0 half places new old desks → placed ≡ is_placed_at (place_at new slot)
      → mid ≡ moving → later ≡ mid ++ cond (not placed) (slot ∷ []) [] → room ≤ wide → slot < wide → more ≡ wide
      → ListsMoving new later more
  lists_admitted name hop_of places new moving mid later room wide more slot slice placed half old desks lists none admits
      is same joined wider low all =
      let here : place_at new slot ≡ Some admits.now =
      ap (λ ps. place_at ps slot) admits.is
      ∙ get_or-set_same (places ++ replicate admits.more None) slot (Some admits.now) None admits.within in
      let rests : one_if (is_moving (place_at places slot)) ≡ 0 = ap (λ p. one_if (is_moving p)) none in
      let moves : one_if (is_moving (place_at new slot)) ≡ one_if (not placed) =
      ap one_if (moving_placed (place_at new slot) admits.now here ∙ ap not (sym is)) in
      lists_one places new moving later room more slot (not placed) lists
      (joined ∙ ap (λ l. l ++ cond (not placed) (slot ∷ []) []) same) (omega (arith, wider, all)) (omega (arith, low, all))
      (λ other ne.
      ap (λ ps. place_at ps other) admits.is ∙ grown_other places admits.more slot other (Some admits.now) ne)
      (omega (arith, rests, moves))

-- pumping moves no half that rests
module _ {H N : Type 0} (name : H → N) (hop_of : H → ℕ) where
  abbrev Rests : Option (ControlPlace H) → Option (ControlPlace H) → Type 0
  Rests old new = is_moving new ≡ true → is_moving old ≡ true

  came_rests : (old new : Option (ControlPlace H)) → CameHome old new → Rests old new
  came_rests old new (inl same) moving = ap is_moving (sym same) ∙ moving
  came_rests old new (inr came) moving =
      let w = came.1 in
      ap is_moving w.2 ∙ ap (λ s. not (is_placed s)) w.6.2

  state_rests : (slot hop : ℕ) (was is : ControlState H) (old new : List (Desk H))
      → Serves name hop_of slot hop was is old new → not (is_placed is) ≡ true → not (is_placed was) ≡ true
  state_rests slot hop (Front half to) is old new serves moving = refl
  state_rests slot hop (Placed at) is old new serves moving = ap (λ s. not (is_placed s)) (sym serves.0) ∙ moving
  state_rests slot hop (Recall at until to) is old new serves moving = refl
  state_rests slot hop (Leaving from to) is old new serves moving = refl

  place_rests : (slot : ℕ) (was is : Option (ControlPlace H)) (old new : List (Desk H))
      → PlaceServed name hop_of slot was is old new → Rests was is
  place_rests slot None is old new served moving = ap is_moving (sym served.0) ∙ moving
  place_rests slot (Some before) is old new served moving =
      state_rests slot before.hop before.state served.0.state old new served.4
      (ap is_moving (sym served.1) ∙ moving)

  set_rests : (places : List (Option (ControlPlace H))) (slot k : ℕ) (place : Option (ControlPlace H))
      → Rests (place_at places slot) place → Rests (place_at places k) (place_at (set places slot place) k)
  set_rests places slot k place rests moving = elim (cases_eq k slot) [
    | inl same ↦
        elim (cases_lt slot (length places)) [
          | inl low ↦
              let here : place_at (set places slot place) k ≡ place =
              ap (place_at (set places slot place)) same ∙ place_here places slot place low in
              ap (λ n. is_moving (place_at places n)) same ∙ rests (ap is_moving (sym here) ∙ moving)
          | inr past ↦
              let long = length-set places slot place in
              let none : place_at (set places slot place) k ≡ None =
              get_or_past (set places slot place) k None (omega (arith, same, past, long)) in
              absurd (true≢false (sym moving ∙ ap is_moving none))
        ]
    | inr ne ↦ ap is_moving (sym (place_other places slot k place ne)) ∙ moving
  ]

  each_rests : (slots : List ℕ) (places new_places : List (Option (ControlPlace H))) (old new : List (Desk H))
      → ServesEach name hop_of slots places new_places old new
      → (k : ℕ) → Rests (place_at places k) (place_at new_places k)
  each_rests [] places new_places old new each k moving = ap (λ ps. is_moving (place_at ps k)) (sym each.0) ∙ moving
  each_rests (slot ∷ slots) places new_places old new each k moving =
      let served = each.3 in
      let later = each_rests slots each.1 new_places each.2 new each.4 k moving in
      set_rests places slot k served.0 (place_rests slot (place_at places slot) served.0 old each.2 served.3)
      (ap (λ ps. is_moving (place_at ps k)) (sym served.1) ∙ later)

  pumped_rests : (places new_places : List (Option (ControlPlace H))) (old new : List (Desk H))
      → PumpsBySlot name hop_of places new_places old new → (k : ℕ) → Rests (place_at places k) (place_at new_places k)
  pumped_rests places new_places old new pumps k moving =
      came_rests (place_at places k) (place_at pumps.home_places k) (pumps.home.came k)
      (each_rests pumps.slots pumps.home_places new_places pumps.home_desks new pumps.served k moving)

  pub named_none : (old new : Option (ControlPlace H)) → name_at name new ≡ name_at name old → new ≡ None → old ≡ None
  named_none None new same none = refl
  named_none (Some place) new same none =
      absurd (true≢false (ap is_some (sym same ∙ ap (name_at name) none)))

  admitted_still : (old new : Option (ControlPlace H)) → name_at name new ≡ name_at name old → is_admitted new ≡ true
      → is_admitted old ≡ true
  admitted_still (Some place) new same admitted = refl
  admitted_still None None same admitted = admitted
  admitted_still None (Some place) same admitted = absurd (true≢false (ap is_some same))

  kept_one : (old new : Option (ControlPlace H)) → name_at name new ≡ name_at name old → Rests old new
      → cond (not (is_placed_at new)) (one_if (is_moving old)) 0 ≡ one_if (is_moving new)
  kept_one old None same rests = ap (λ p. one_if (is_moving p)) (named_none old None same refl)
  kept_one old (Some place) same rests =
      elim (not (is_placed place.state)) as (λ b. not (is_placed place.state) ≡ b
      → cond b (one_if (is_moving old)) 0 ≡ one_if b) [
        | true ↦ λ is. ap one_if (rests is)
        | false ↦ λ is. refl
      ] refl

  -- those that rest now are dropped
  pub lists_kept : (places new : List (Option (ControlPlace H))) (moving later : List ℕ) (room more : ℕ)
      (old desks : List (Desk H)) → ListsMoving places moving room
      → later ≡ filter (λ slot. not (is_placed_at (place_at new slot))) moving → more ≡ room
      → ((slot : ℕ) → name_at name (place_at new slot) ≡ name_at name (place_at places slot))
      → PumpsBySlot name hop_of places new old desks → ListsMoving new later more
  lists_kept places new moving later room more old desks lists kept same names pumps = record {
    each = λ k.
        ap (times k) kept ∙ times-filter (λ slot. not (is_placed_at (place_at new slot))) k moving
        ∙ ap (λ n. cond (not (is_placed_at (place_at new k))) n 0) (lists.each k)
        ∙ kept_one (place_at places k) (place_at new k) (names k) (pumped_rests places new old desks pumps k);
    roomy = λ k admitted.
        let less = lists.roomy k (admitted_still (place_at places k) (place_at new k) (names k) admitted) in
        omega (arith, less, same);
  }

-- The index of each half by its slot, and those of the ones that may be marked.
use Rattle.std.proofs.Common.{◌≡◌, ℕ, zero, suc, ◌+◌, ◌<◌, ◌≤◌, ◌==◌, ◌||◌, Bool, true, false, not, Option, Some, None, List, [], ◌∷◌, ◌++◌, length, get_or, set, cond, refl, sym, ap, subst, ◌∙◌, inl, inr, arith, true≢false}
use Rattle.std.proofs.lemmas.Bool.{cases_eq, cases_lt, eq-eqb, eqb-true, ne_eqb}
use Rattle.std.proofs.lemmas.List.{length-set, get_or-set_same, get_or-set_other}
use Rattle.epoch_schedule.specs.World.{World, HeldControl, slot_at}
use Rattle.epoch_schedule.specs.ControlTurns.{is_done, stays, place_done, without}
use Rattle.epoch_schedule.specs.DataTurns.{place_of}
use Rattle.epoch_schedule.specs.Waiting.{is_in}
use Rattle.epoch_schedule.specs.Rosters.{present, entry, place_at, Lacks, Indexed, OnlyCalled, Stays, FirstDone}
use Rattle.epoch_schedule.proofs.Places.{none_half, same_half, half_within, place_all, first_at, none_fails}

-- by its slot
pub lacks_by : (halves : List (Option HeldControl)) (index : List ℕ) (slot : ℕ) → Indexed halves index
    → (length index ≤ slot) → Lacks halves slot
lacks_by halves index slot each past j other is =
    let own = (each j other is).0 in
    ne_eqb other.slot slot (λ same. omega (arith, same, own, past))

pub others_differ : (halves : List (Option HeldControl)) (index : List ℕ) (slot i : ℕ) → Indexed halves index
    → (half : HeldControl) → entry halves i ≡ Some half → half.slot ≡ slot
    → (j : ℕ) → (other : HeldControl) → (j ≡ i → ⊥) → entry halves j ≡ Some other → (other.slot == slot) ≡ false
others_differ halves index slot i each half here own j other apart there =
    ne_eqb other.slot slot (λ same.
    apart (sym (each j other there).1 ∙ ap (λ s. get_or index s 0) (same ∙ sym own) ∙ (each i half here).1))

-- one comes
pub present_push : (halves : List (Option HeldControl)) (half : HeldControl)
    → present (halves ++ Some half ∷ []) ≡ present halves ++ half ∷ []
present_push [] half = refl
present_push (None ∷ xs) half = present_push xs half
present_push (Some own ∷ xs) half = ap (λ held. own ∷ held) (present_push xs half)

pub place_push : (halves : List (Option HeldControl)) (more : Option HeldControl) (n : ℕ) → n ≤ length halves
    → place_at (halves ++ more ∷ []) n ≡ place_at halves n
place_push [] more zero few = refl
place_push [] more (suc n) few = absurd (omega (arith, few))
place_push (x ∷ xs) more zero few = refl
place_push (None ∷ xs) more (suc n) few = place_push xs more n (omega (arith, few))
place_push (Some own ∷ xs) more (suc n) few = ap suc (place_push xs more n (omega (arith, few)))

pub data Pushed (halves : List (Option HeldControl)) (half : HeldControl) (i : ℕ) (there : HeldControl) : Type 0 where
  stood : entry halves i ≡ Some there → Pushed halves half i there
  came : i ≡ length halves → there ≡ half → Pushed halves half i there

pub pushed_at : (halves : List (Option HeldControl)) (half : HeldControl) (i : ℕ) (there : HeldControl)
    → entry (halves ++ Some half ∷ []) i ≡ Some there → Pushed halves half i there
pushed_at [] half zero there is = came refl (sym (same_half half there is))
pushed_at [] half (suc zero) there is = none_half is
pushed_at [] half (suc (suc i)) there is = none_half is
pushed_at (x ∷ xs) half zero there is = stood is
pushed_at (x ∷ xs) half (suc i) there is = by (pushed_at xs half i there is)
  where
    by : Pushed xs half i there → Pushed (x ∷ xs) half (suc i) there
    by (stood here) = stood here
    by (came at same) = came (ap suc at) same

pub indexed_push : (halves : List (Option HeldControl)) (index grown : List ℕ) (half : HeldControl)
    → ((s : ℕ) → get_or grown s 0 ≡ get_or index s 0) → length index ≤ length grown → half.slot < length grown
    → Lacks halves half.slot → Indexed halves index
    → Indexed (halves ++ Some half ∷ []) (set grown half.slot (length halves))
indexed_push halves index grown half same more within lacks each i there is =
    by (pushed_at halves half i there is)
  where
    long : length (set grown half.slot (length halves)) ≡ length grown
    long = length-set grown half.slot (length halves)

    by : Pushed halves half i there
        → (there.slot < length (set grown half.slot (length halves)))
        × (get_or (set grown half.slot (length halves)) there.slot 0 ≡ i)
    by (stood here) =
        let own = each i there here in
        let below = own.0 in
        let apart : there.slot ≡ half.slot → ⊥ = λ is.
        true≢false (sym (eq-eqb there.slot half.slot is) ∙ lacks i there here) in (
          omega (arith, below, more, long),
          get_or-set_other grown half.slot there.slot (length halves) 0 apart ∙ same there.slot ∙ own.1,
        )
    by (came at is) =
        let slots = ap (λ (h : HeldControl). h.slot) is in (
          omega (arith, slots, within, long),
          ap (λ s. get_or (set grown half.slot (length halves)) s 0) slots
              ∙ get_or-set_same grown half.slot (length halves) 0 within ∙ sym at,
        )

pub indexed_grown : (halves : List (Option HeldControl)) (index grown : List ℕ)
    → ((s : ℕ) → get_or grown s 0 ≡ get_or index s 0) → length index ≤ length grown
    → Indexed halves index → Indexed halves grown
indexed_grown halves index grown same more each i half is =
    let own = each i half is in
    let below = own.0 in
    (omega (arith, below, more), same half.slot ∙ own.1)

in_more : (xs : List ℕ) (n s : ℕ) → is_in (xs ++ n ∷ []) s ≡ false → (is_in xs s ≡ false) × ((n == s) ≡ false)
in_more [] n s off = (refl, split (n == s) off)
  where
    split : (test : Bool) → (test || false) ≡ false → test ≡ false
    split true is = is
    split false is = is
in_more (x ∷ xs) n s off = split (x == s) (in_more xs n s) off
  where
    split : (test : Bool)
        → (is_in (xs ++ n ∷ []) s ≡ false → (is_in xs s ≡ false) × ((n == s) ≡ false))
        → (test || is_in (xs ++ n ∷ []) s) ≡ false → ((test || is_in xs s) ≡ false) × ((n == s) ≡ false)
    split true more is = absurd (true≢false is)
    split false more is = more is

pub called_more : (halves : List (Option HeldControl)) (called : List ℕ) (n : ℕ) → OnlyCalled halves called
    → OnlyCalled halves (called ++ n ∷ [])
called_more halves called n only i half here off = only i half here (in_more called n i off).0

pub called_set : (halves : List (Option HeldControl)) (called : List ℕ) (n : ℕ) (more : Option HeldControl)
    → OnlyCalled halves called → OnlyCalled (set halves n more) (called ++ n ∷ [])
called_set halves called n more only i half here off =
    let parts = in_more called n i off in
    let apart : i ≡ n → ⊥ = λ is. true≢false (sym (eq-eqb n i (sym is)) ∙ parts.1) in
    only i half (sym (get_or-set_other halves n i more None apart) ∙ here) parts.0

pub called_push : (halves : List (Option HeldControl)) (called : List ℕ) (half : HeldControl)
    → (is_in called (length halves) ≡ false → half.until ≡ None)
    → OnlyCalled halves called → OnlyCalled (halves ++ Some half ∷ []) called
called_push halves called half own only i there is off = by (pushed_at halves half i there is)
  where
    by : Pushed halves half i there → there.until ≡ None
    by (stood here) = only i there here off
    by (came at same) =
        ap (λ (h : HeldControl). h.until) same ∙ own (ap (is_in called) (sym at) ∙ off)

-- the first half that is done
in_each : (P : ℕ → Type 0) (xs : List ℕ) → ((k : ℕ) → k < length xs → P (get_or xs k 0)) → (s : ℕ)
    → is_in xs s ≡ true → P s
in_each P [] each s is = absurd (true≢false (sym is))
in_each P (own ∷ others) each s is = elim (cases_eq own s) [
  | inl same ↦ subst P same (each 0 (omega arith))
  | inr other ↦
      in_each P others (λ k within. each (suc k) (omega (arith, within))) s
      (sym (ap (λ test. test || is_in others s) (ne_eqb own s other)) ∙ is)
]

pub done_first : (world : World) (halves : List (Option HeldControl)) (called : List ℕ) (first : ℕ)
    → OnlyCalled halves called → FirstDone world halves first
    → ((k : ℕ) → k < length called → Stays world halves first (get_or called k 0))
    → place_done world (present halves) ≡ place_at halves first
done_first world halves called first only done each = elim (cases_lt first (length halves)) [
  | inl within ↦
      let own = done.done within in
      first_at (stays world) halves first own.half own.here own.done (λ j other less is. all j other less is)
  | inr past ↦
      none_fails (stays world) halves (λ j other is.
      let below = half_within halves j other is in
      all j other (omega (arith, below, past)) is)
      ∙ sym (place_all halves first past)
]
  where
    all : (j : ℕ) → (other : HeldControl) → j < first → entry halves j ≡ Some other → stays world other ≡ true
    all j other less is = by_mark (is_in called j) refl
      where
        by_mark : (test : Bool) → is_in called j ≡ test → stays world other ≡ true
        by_mark true in_called = in_each (Stays world halves first) called each j in_called other less is
        by_mark false off =
            ap (λ until. not (is_done (slot_at world other.slot) until)) (only j other is off)

-- indices of called halves, without one
pub called_left : (called : List ℕ) (n s : ℕ) → (n == s) ≡ false → is_in (without (place_of n called) called) s ≡ false
    → is_in called s ≡ false
called_left [] n s apart off = refl
called_left (own ∷ others) n s apart off = by_own (called_left others n s apart) (own == n) refl
  where
    split : (test : Bool) → (is_in (without (place_of n others) others) s ≡ false → is_in others s ≡ false)
        → (test || is_in (without (place_of n others) others) s) ≡ false → (test || is_in others s) ≡ false
    split true rest is = is
    split false rest is = rest is

    by_own : (is_in (without (place_of n others) others) s ≡ false → is_in others s ≡ false)
        → (test : Bool) → (own == n) ≡ test → is_in (own ∷ others) s ≡ false
    by_own rest true same =
        let here : place_of n (own ∷ others) ≡ 0 =
        ap (λ test. cond (not test) (1 + place_of n others) 0) same in
        let own_apart : (own == s) ≡ false = ap (λ k. k == s) (eqb-true own n same) ∙ apart in
        ap (λ test. test || is_in others s) own_apart
        ∙ sym (ap (λ p. is_in (without p (own ∷ others)) s) here) ∙ off
    by_own rest false other =
        let next : 1 + place_of n others ≡ suc (place_of n others) = omega arith in
        let there : place_of n (own ∷ others) ≡ suc (place_of n others) =
        ap (λ test. cond (not test) (1 + place_of n others) 0) other ∙ next in
        split (own == s) rest (sym (ap (λ p. is_in (without p (own ∷ others)) s) there) ∙ off)

-- the same lists by other names
pub indexed_same : (halves other : List (Option HeldControl)) (index another : List ℕ) → other ≡ halves
    → another ≡ index → Indexed halves index → Indexed other another
indexed_same halves other index another is same each =
    subst (Indexed other) (sym same) (subst (λ (hs : List (Option HeldControl)). Indexed hs index) (sym is) each)

-- what is left behind a hole
pub left_there : (halves : List (Option HeldControl)) (n i : ℕ) (half : HeldControl)
    → entry (set halves n None) i ≡ Some half → entry halves i ≡ Some half
left_there [] zero i half is = is
left_there [] (suc n) i half is = is
left_there (x ∷ xs) zero zero half is = none_half is
left_there (x ∷ xs) zero (suc i) half is = is
left_there (x ∷ xs) (suc n) zero half is = is
left_there (x ∷ xs) (suc n) (suc i) half is = left_there xs n i half is

left_apart : (halves : List (Option HeldControl)) (n i : ℕ) (half : HeldControl)
    → entry (set halves n None) i ≡ Some half → i ≡ n → ⊥
left_apart [] zero zero half is same = none_half is
left_apart [] zero (suc i) half is same = none_half is
left_apart [] (suc n) zero half is same = none_half is
left_apart [] (suc n) (suc i) half is same = none_half is
left_apart (x ∷ xs) zero zero half is same = none_half is
left_apart (x ∷ xs) zero (suc i) half is same = absurd (omega (arith, same))
left_apart (x ∷ xs) (suc n) zero half is same = absurd (omega (arith, same))
left_apart (x ∷ xs) (suc n) (suc i) half is same = left_apart xs n i half is (omega (arith, same))

pub still_called : (halves : List (Option HeldControl)) (n : ℕ) (called : List ℕ) → OnlyCalled halves called
    → OnlyCalled (set halves n None) called
still_called halves n called only i half is off = only i half (left_there halves n i half is) off

pub less_called : (halves : List (Option HeldControl)) (n : ℕ) (called : List ℕ) → OnlyCalled halves called
    → OnlyCalled (set halves n None) (without (place_of n called) called)
less_called halves n called only i half is off =
    only i half (left_there halves n i half is)
    (called_left called n i (ne_eqb n i (λ same. left_apart halves n i half is (sym same))) off)

-- numbers of a list that grows
pub in_pushed : (xs : List ℕ) (n i : ℕ) → i < n + 1 → (i < n → is_in xs i ≡ true) → is_in (xs ++ n ∷ []) i ≡ true
in_pushed [] n i below old = elim (cases_eq n i) [
  | inl same ↦ ap (λ test. test || false) (eq-eqb n i same)
  | inr other ↦ absurd (true≢false (sym (old (omega (arith, below, other)))))
]
in_pushed (x ∷ xs) n i below old = by_own (in_pushed xs n i below) (x == i) old
  where
    by_own : ((i < n → is_in xs i ≡ true) → is_in (xs ++ n ∷ []) i ≡ true) → (test : Bool)
        → (i < n → (test || is_in xs i) ≡ true) → (test || is_in (xs ++ n ∷ []) i) ≡ true
    by_own rest true before = refl
    by_own rest false before = rest before

pub in_own : (xs : List ℕ) (n : ℕ) → is_in (xs ++ n ∷ []) n ≡ true
in_own [] n = ap (λ test. test || false) (eq-eqb n n refl)
in_own (x ∷ xs) n = later (x == n) (in_own xs n)
  where
    later : (test : Bool) {more : Bool} → more ≡ true → (test || more) ≡ true
    later true is = refl
    later false is = is

pub all_called : (halves : List (Option HeldControl)) (all : List ℕ) (count : ℕ) → length halves ≤ count
    → ((i : ℕ) → i < count → is_in all i ≡ true) → OnlyCalled halves all
all_called halves all count few each i half here off =
    let below = half_within halves i half here in
    absurd (true≢false (sym (each i (omega (arith, below, few))) ∙ off))

pub lacks_same : (halves other : List (Option HeldControl)) (slot own : ℕ) → other ≡ halves → slot ≡ own
    → Lacks other slot → Lacks halves own
lacks_same halves other slot own is same lacks =
    subst (Lacks halves) same (subst (λ (hs : List (Option HeldControl)). Lacks hs slot) is lacks)

-- Halves in the order of their turns, each of a slot of its own, and their slots alone.
use Rattle.std.proofs.Common.{◌≡◌, ℕ, zero, suc, ◌+◌, ◌<◌, ◌≤◌, ◌==◌, ◌||◌, true, false, not, nat_lt, Option, Some, None, is_some, List, [], ◌∷◌, ◌++◌, length, get_or, cond, refl, sym, ap, ◌∙◌, inl, inr, arith}
use Rattle.std.proofs.lemmas.Bool.{cases_lt, ne_eqb, lt-ltb, le-ltb}
use Rattle.std.proofs.lemmas.List.{length-map}
use Rattle.epoch_schedule.specs.World.{World, HeldControl, cursor_behind}
use Rattle.epoch_schedule.specs.ControlTurns.{place_done, without, held_at}
use Rattle.epoch_schedule.specs.DataTurns.{place_of}
use Rattle.epoch_schedule.specs.Waiting.{is_in}
use Rattle.epoch_schedule.specs.Rosters.{present, entry, place_at, Lacks, Indexed, FirstDone}
use Rattle.epoch_schedule.specs.Rounds.{slots_held, EachOnce, IsOrderly, place_held}
use Rattle.epoch_schedule.proofs.Places.{is_half, place_all, place_below, place_rises, place_less}

-- each of a slot of its own
lacks_in : (halves : List (Option HeldControl)) (slot : ℕ) → Lacks halves slot
    → is_in (slots_held (present halves)) slot ≡ false
lacks_in [] slot lacks = refl
lacks_in (None ∷ xs) slot lacks = lacks_in xs slot (λ j. lacks (suc j))
lacks_in (Some own ∷ xs) slot lacks =
    ap (λ test. test || is_in (slots_held (present xs)) slot) (lacks 0 own refl)
    ∙ lacks_in xs slot (λ j. lacks (suc j))

once_from : (offset last : ℕ) (halves : List (Option HeldControl)) (index : List ℕ) → length index ≤ last
    → ((i : ℕ) → (half : HeldControl) → entry halves i ≡ Some half
    → (half.slot < length index) × (get_or index half.slot 0 ≡ offset + i))
    → EachOnce last (slots_held (present halves))
once_from offset last [] index few each = tt
once_from offset last (None ∷ xs) index few each =
    once_from (suc offset) last xs index few (λ i half is.
    let one = each (suc i) half is in
    let at = one.1 in
    (one.0, omega (arith, at)))
once_from offset last (Some own ∷ xs) index few each =
    let here = each 0 own refl in
    let below = here.0 in (
      omega (arith, below, few),
      lacks_in xs own.slot (λ j other is.
          ne_eqb other.slot own.slot (λ same.
          let there = (each (suc j) other is).1 in
          let at = here.1 in
          let both = ap (λ s. get_or index s 0) same in
          omega (arith, there, at, both))),
      once_from (suc offset) last xs index few (λ i half is.
          let one = each (suc i) half is in
          let at = one.1 in
          (one.0, omega (arith, at))),
    )

pub once_by : (last : ℕ) (halves : List (Option HeldControl)) (index : List ℕ) → length index ≤ last
    → Indexed halves index → EachOnce last (slots_held (present halves))
once_by last halves index few each =
    once_from 0 last halves index few (λ i half is.
    let one = each i half is in
    let at = one.1 in
    (one.0, omega (arith, at)))

-- indices and places are in one order
pub order_same : (halves : List (Option HeldControl)) (i j : ℕ) → is_some (entry halves i) ≡ true
    → is_some (entry halves j) ≡ true → nat_lt i j ≡ nat_lt (place_at halves i) (place_at halves j)
order_same halves i j here there = elim (cases_lt i j) [
  | inl less ↦
      let own = is_half halves i here in
      lt-ltb i j less ∙ sym (lt-ltb (place_at halves i) (place_at halves j)
      (place_less halves i j own.half own.here less))
  | inr more ↦
      le-ltb i j more ∙ sym (le-ltb (place_at halves i) (place_at halves j) (place_rises halves j i more))
]

pub half_there : (halves : List (Option HeldControl)) (i : ℕ) (half : HeldControl) → entry halves i ≡ Some half
    → is_some (entry halves i) ≡ true
half_there halves i half here = ap is_some here

pub order_next : (halves : List (Option HeldControl)) (i next : ℕ) → is_some (entry halves i) ≡ true
    → nat_lt i next ≡ nat_lt (place_at halves i) (place_at halves next)
order_next halves i next here = elim (cases_lt i next) [
  | inl less ↦
      let own = is_half halves i here in
      lt-ltb i next less ∙ sym (lt-ltb (place_at halves i) (place_at halves next)
      (place_less halves i next own.half own.here less))
  | inr more ↦
      le-ltb i next more ∙ sym (le-ltb (place_at halves i) (place_at halves next) (place_rises halves next i more))
]

pub orderly_by : (last : ℕ) (halves : List (Option HeldControl)) (index : List ℕ) (at next : ℕ)
    → Indexed halves index → length index ≤ last → is_some (entry halves at) ≡ true
    → place_at halves at ≡ place_at halves next
    → IsOrderly last (record { held = present halves; cursor = place_at halves next })
orderly_by last halves index at next each few is same =
    let own = is_half halves at is in
    let less = place_below halves at own.half own.here in
    record { next = omega (arith, less, same); once = once_by last halves index few each }

-- slots alone
pub slots_count : (held : List HeldControl) → length (slots_held held) ≡ length held
slots_count held = length-map held (λ (half : HeldControl). half.slot)

pub slots_at : (held : List HeldControl) (n : ℕ) → get_or (slots_held held) n 0 ≡ (held_at held n).slot
slots_at [] zero = refl
slots_at [] (suc n) = refl
slots_at (x ∷ xs) zero = refl
slots_at (x ∷ xs) (suc n) = slots_at xs n

pub slots_pushed : (held : List HeldControl) (half : HeldControl)
    → slots_held (held ++ half ∷ []) ≡ slots_held held ++ half.slot ∷ []
slots_pushed [] half = refl
slots_pushed (own ∷ others) half = ap (λ (ss : List ℕ). own.slot ∷ ss) (slots_pushed others half)

slots_without : (held : List HeldControl) (n : ℕ) → slots_held (without n held) ≡ without n (slots_held held)
slots_without [] n = refl
slots_without (x ∷ xs) zero = refl
slots_without (x ∷ xs) (suc n) = ap (λ (ss : List ℕ). x.slot ∷ ss) (slots_without xs n)

slots_place : (slot : ℕ) (held : List HeldControl) → place_of slot (slots_held held) ≡ place_held slot held
slots_place slot [] = refl
slots_place slot (x ∷ xs) = ap (λ n. cond (not (x.slot == slot)) (1 + n) 0) (slots_place slot xs)

pub slots_left : (held : List HeldControl) (slot : ℕ)
    → slots_held (without (place_held slot held) held) ≡ without (place_of slot (slots_held held)) (slots_held held)
slots_left held slot =
    slots_without held (place_held slot held)
    ∙ ap (λ n. without n (slots_held held)) (sym (slots_place slot held))

pub cursor_slots : (held : List HeldControl) (slot cursor : ℕ)
    → cursor_behind (place_held slot held) cursor (length (without (place_held slot held) held))
    ≡ cursor_behind (place_of slot (slots_held held)) cursor
    (length (without (place_of slot (slots_held held)) (slots_held held)))
cursor_slots held slot cursor =
    ap (cursor_behind (place_held slot held) cursor)
    (sym (slots_count (without (place_held slot held) held)) ∙ ap length (slots_left held slot))
    ∙ ap (λ n. cursor_behind n cursor (length (without (place_of slot (slots_held held)) (slots_held held))))
    (sym (slots_place slot held))

pub any_done : (world : World) (halves : List (Option HeldControl)) (first : ℕ) → FirstDone world halves first
    → place_done world (present halves) ≡ place_at halves first
    → nat_lt first (length halves) ≡ nat_lt (place_done world (present halves)) (length (present halves))
any_done world halves first done is = elim (cases_lt first (length halves)) [
  | inl within ↦
      let own = done.done within in
      let below = place_below halves first own.half own.here in
      lt-ltb first (length halves) within
      ∙ sym (lt-ltb (place_done world (present halves)) (length (present halves)) (omega (arith, below, is)))
  | inr past ↦
      let all = place_all halves first past in
      le-ltb first (length halves) past
      ∙ sym (le-ltb (place_done world (present halves)) (length (present halves)) (omega (arith, all, is)))
]

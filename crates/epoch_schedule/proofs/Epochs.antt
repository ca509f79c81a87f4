-- Line by line.
use Rattle.std.proofs.Common.{◌≡◌, ℕ, zero, suc, ◌+◌, ◌-◌, ◌<◌, List, [], ◌∷◌, ◌++◌, length, get_or, drop, map, fold, refl, sym, ap, ◌∙◌, arith, append_assoc}
use Rattle.epoch_schedule.specs.Slots.{SlotNow, fresh_slot}
use Rattle.epoch_schedule.specs.Halves.{closed}
use Rattle.epoch_schedule.specs.Numbers.{value_at}
use Rattle.epoch_schedule.specs.World.{World, Rooms}
use Rattle.epoch_schedule.specs.Front.{Outcome}
use Rattle.epoch_schedule.specs.Turns.{draws, drawn_of, next_state, state_behind}
use Rattle.epoch_schedule.specs.Schedule.{Driven, line_of, behind_line, behind_lines, outcomes, turned}
use Rattle.epoch_schedule.specs.Lines.{asked, driven_by}
use Rattle.epoch_schedule.specs.TurnsTold.{AreWorkers, turns_told, turns_behind, told_first, turns_after, lines_of}
use Rattle.epoch_schedule.specs.declared.ask.LineAsk.{LineAsk}
use Rattle.epoch_schedule.specs.declared.turns.Turns.{Turns}
use Rattle.epoch_schedule.specs.declared.turns.Turns.TheVariants as turns
use Rattle.epoch_schedule.proofs.Loops.{drop_at}

told_more : (turns : Turns) (slices n : ℕ)
    → turns_told turns slices (suc n) ≡ told_first turns slices ∷ turns_told (turns_after turns) slices n
told_more (turns.List listed) slices n = refl
told_more (turns.Drawn state per) slices n = refl

behind_more : (turns : Turns) (n : ℕ) → turns_behind turns (suc n) ≡ turns_behind (turns_after turns) n
behind_more (turns.List listed) n = refl
behind_more (turns.Drawn state per) n = refl

pub workers_after : (slices : ℕ) (turns : Turns) → AreWorkers slices turns → AreWorkers slices (turns_after turns)
workers_after slices (turns.List listed) are = are
workers_after slices (turns.Drawn state per) are = are

-- the lines from a place on
abbrev pub rest : Turns → (slices : ℕ) → List LineAsk → ℕ → List Driven
rest turns slices asks i = driven_by (map asked (drop i asks)) (turns_told turns slices (length asks - i))

abbrev pub next_line : Turns → (slices : ℕ) → LineAsk → Driven
next_line turns slices ask = record { asks = asked ask; turns = told_first turns slices }

pub rest_all : (turns : Turns) (slices : ℕ) (asks : List LineAsk) → rest turns slices asks 0 ≡ lines_of turns slices asks
rest_all turns slices asks =
    let none : length asks - 0 ≡ length asks = omega arith in
    ap (λ n. driven_by (map asked asks) (turns_told turns slices n)) none

rest_more : (turns : Turns) (slices : ℕ) (asks : List LineAsk) (i : ℕ) (d : LineAsk) → i < length asks
    → rest turns slices asks i
    ≡ next_line turns slices (get_or asks i d) ∷ rest (turns_after turns) slices asks (i + 1)
rest_more turns slices asks i d below =
    let one : length asks - i ≡ suc (length asks - (i + 1)) = omega (arith, below) in
    ap (λ xs. driven_by (map asked xs) (turns_told turns slices (length asks - i))) (drop_at asks i d below)
    ∙ ap (λ n. driven_by (asked (get_or asks i d) ∷ map asked (drop (i + 1) asks)) (turns_told turns slices n)) one
    ∙ ap (driven_by (asked (get_or asks i d) ∷ map asked (drop (i + 1) asks)))
    (told_more turns slices (length asks - (i + 1)))

-- so far: these outcomes, this world, and these turns
pub record SoFar (rooms : Rooms) (bounds : ℕ → ℕ) (slices : ℕ) (asks : List LineAsk) (from behind : World)
    (first turns : Turns) (told : List Outcome) (i : ℕ) : Type 0 where
  pub outcomes_are : told ++ outcomes rooms bounds behind (rest turns slices asks i)
      ≡ outcomes rooms bounds from (lines_of first slices asks)
  pub world : behind_lines rooms bounds behind (rest turns slices asks i)
      ≡ behind_lines rooms bounds from (lines_of first slices asks)
  pub turns_are : turns_behind turns (length asks - i) ≡ turns_behind first (length asks)
  pub workers : AreWorkers slices turns

pub so_far_more : (rooms : Rooms) (bounds : ℕ → ℕ) (slices : ℕ) (asks : List LineAsk) (from behind new : World)
    (first turns after : Turns) (told more : List Outcome) (outcome : Outcome) (i : ℕ) (d : LineAsk) → i < length asks
    → outcome ≡ (line_of rooms bounds behind (next_line turns slices (get_or asks i d))).outcome
    → new ≡ behind_line rooms bounds behind (next_line turns slices (get_or asks i d))
    → after ≡ turns_after turns → more ≡ told ++ outcome ∷ []
    → SoFar rooms bounds slices asks from behind first turns told i
    → SoFar rooms bounds slices asks from new first after more (i + 1)
so_far_more rooms bounds slices asks from behind new first turns after told more outcome i d below outcome_is new_is
    after_is more_is so_far =
    let line = next_line turns slices (get_or asks i d) in
    let left = rest (turns_after turns) slices asks (i + 1) in
    let ahead = rest_more turns slices asks i d below in
    let one : length asks - i ≡ suc (length asks - (i + 1)) = omega (arith, below) in
    rw (after_is, new_is, more_is) (record {
      outcomes_are = append_assoc told (outcome ∷ [])
          (outcomes rooms bounds (behind_line rooms bounds behind line) left)
          ∙ ap (λ o. told ++ o ∷ outcomes rooms bounds (behind_line rooms bounds behind line) left) outcome_is
          ∙ sym (ap (λ ls. told ++ outcomes rooms bounds behind ls) ahead) ∙ so_far.outcomes_are;
      world = sym (ap (behind_lines rooms bounds behind) ahead) ∙ so_far.world;
      turns_are = sym (behind_more turns (length asks - (i + 1))) ∙ sym (ap (turns_behind turns) one)
          ∙ so_far.turns_are;
      workers = workers_after slices turns so_far.workers;
    })

pub record AllDone (rooms : Rooms) (bounds : ℕ → ℕ) (slices : ℕ) (asks : List LineAsk) (from behind : World)
    (first turns : Turns) (told : List Outcome) : Type 0 where
  pub outcomes_are : told ≡ outcomes rooms bounds from (lines_of first slices asks)
  pub world : behind ≡ behind_lines rooms bounds from (lines_of first slices asks)
  pub turns_are : turns ≡ turns_behind first (length asks)

-- draws
pub record Drawing (rooms : Rooms) (limit count : ℕ) (from now : World) (first state i : ℕ) : Type 0 where
  pub world : fold (turned rooms) now (draws limit state (count - i))
      ≡ fold (turned rooms) from (draws limit first count)
  pub behind : state_behind state (count - i) ≡ state_behind first count

pub drawing_more : (rooms : Rooms) (limit count : ℕ) (from now new : World) (first state after worker i : ℕ)
    → i < count → after ≡ next_state state → worker ≡ drawn_of limit after → new ≡ turned rooms now worker
    → Drawing rooms limit count from now first state i → Drawing rooms limit count from new first after (i + 1)
drawing_more rooms limit count from now new first state after worker i below after_is worker_is new_is drawing =
    let one : count - i ≡ suc (count - (i + 1)) = omega (arith, below) in
    rw (new_is, worker_is, after_is) (record {
      world = sym (ap (λ n. fold (turned rooms) now (draws limit state n)) one) ∙ drawing.world;
      behind = sym (ap (state_behind state) one) ∙ drawing.behind;
    })

pub record Drawn (rooms : Rooms) (limit count : ℕ) (from now : World) (first state : ℕ) : Type 0 where
  pub world : now ≡ fold (turned rooms) from (draws limit first count)
  pub behind : state ≡ state_behind first count

-- what a slot's packets met, of all slots
pub met_of_slot : (slots : List SlotNow) (s : ℕ)
    → get_or (map (λ (slot : SlotNow). (closed slot).met) slots) s [] ≡ (closed (value_at fresh_slot slots s)).met
met_of_slot [] s = refl
met_of_slot (slot ∷ slots) zero = refl
met_of_slot (slot ∷ slots) (suc s) = met_of_slot slots s

-- A pass over all slots, of which only those are visited that it may change.
use Rattle.std.proofs.Common.{◌≡◌, ℕ, zero, suc, ◌+◌, ◌-◌, ◌<◌, ◌≤◌, true, Option, Some, List, [], length, get_or, refl, sym, ap, subst, ◌∙◌, inl, inr, arith, true≢false}
use Rattle.std.specs.Prelude.{IfSome}
use Rattle.std.proofs.lemmas.Bool.{cases_lt}
use Rattle.epoch_schedule.specs.Numbers.{for_each}
use Rattle.epoch_schedule.specs.World.{World, Rooms, slot_at}
use Rattle.epoch_schedule.specs.Front.{controls_home, datas_home, pumped}
use Rattle.epoch_schedule.specs.Listed.{AreWithin}
use Rattle.epoch_schedule.specs.Waiting.{is_in, step_by, passed_by, calls_of, wanted, IsFull, IsPassed, Stands, AreWaiting, IsBelow, NoneBefore, slot_of}
use Rattle.epoch_schedule.specs.declared.passing.NextVisit.{NextVisit}
use Rattle.epoch_schedule.specs.declared.waiting.Pass.{Pass}
use Rattle.epoch_schedule.specs.declared.waiting.Pass.TheVariants as pass
use Rattle.epoch_schedule.specs.declared.waiting.PassWaits.{PassWaits}
use Rattle.epoch_schedule.specs.declared.waiting.Want.{Want}
use Rattle.epoch_schedule.specs.declared.waiting.Want.TheVariants as want
use Rattle.epoch_schedule.proofs.Touched.{step_touches}
use Rattle.epoch_schedule.proofs.Settled.{passed_same}
use Rattle.epoch_schedule.proofs.SlotSets.{lane_within}

-- steps
each_split : {X : Type 0} (step : X → ℕ → X) (x : X) (first n m : ℕ)
    → for_each step x first (n + m) ≡ for_each step (for_each step x first n) (first + n) m
each_split step x first zero m =
    let none : 0 + m ≡ m = omega arith in
    let same : first ≡ first + 0 = omega arith in
    ap (λ k. for_each step x first k) none ∙ ap (λ from. for_each step x from m) same
each_split step x first (suc n) m =
    let one : suc n + m ≡ suc (n + m) = omega arith in
    let next : first + 1 + n ≡ first + suc n = omega arith in
    ap (λ k. for_each step x first k) one ∙ each_split step (step x first) (first + 1) n m
    ∙ ap (λ from. for_each step (for_each step (step x first) (first + 1) n) from m) next

module _ (of : Pass) (rooms : Rooms) (bounds : ℕ → ℕ) where
  abbrev step : World → ℕ → World
  step = step_by of rooms bounds

  -- a slot is passed by what it wants
  abbrev PassedAt : World → ℕ → Type 0
  PassedAt world t = IsPassed of rooms world (wanted of bounds t (calls_of (slot_at world t)))

  passed_all : (world : World) (from count : ℕ) → AreWithin world → from + count ≤ length world.slots
      → ((t : ℕ) → from ≤ t → t < from + count → PassedAt world t) → for_each step world from count ≡ world
  passed_all world from zero within few passed = refl
  passed_all world from (suc n) within few passed =
      ap (λ w. for_each step w (from + 1) n)
      (passed_same bounds world from of rooms within (omega (arith, few)) (passed from (omega arith) (omega arith)))
      ∙ passed_all world (from + 1) n within (omega (arith, few))
      (λ t above below. passed t (omega (arith, above)) (omega (arith, below)))

  -- where none wants anything a pass changes nothing
  none_stands : (world : World) (waits : PassWaits) (t : ℕ) → waits.visits ≡ [] → waits.lanes.items ≡ [] → (kind : Want)
      → Stands kind waits t → IsPassed of rooms world kind
  none_stands world waits t visits lanes want.Nothing stands = tt
  none_stands world waits t visits lanes want.Visit stands =
      true≢false (sym stands ∙ ap (λ (xs : List ℕ). is_in xs t) visits)
  none_stands world waits t visits lanes (want.Room lane) stands =
      absurd (true≢false (sym stands ∙ ap (λ (ls : List (List ℕ)). is_in (get_or ls lane []) t) lanes))

  pub idle_passed : (world : World) (waits : PassWaits) → waits.visits ≡ [] → waits.lanes.items ≡ [] → AreWithin world
      → AreWaiting of bounds [] waits world → world ≡ passed_by of rooms bounds world
  idle_passed world waits visits lanes within waiting =
      sym (passed_all world 0 (length world.slots) within (omega arith)
      (λ t above below. none_stands world waits t visits lanes _ (waiting t refl)))

  -- how far a pass has come
  pub record Passing (first all : World) (from : ℕ) (world : World) : Type 0 where
    pub many : length first.slots ≡ length world.slots
    pub ahead : for_each step world from (length first.slots - from) ≡ all
    pub few : from ≤ length first.slots

  pub begins : (world : World) → Passing world (passed_by of rooms bounds world) 0 world
  begins world = record {
    many = refl;
    ahead =
        let none : length world.slots - 0 ≡ length world.slots = omega arith in
        ap (λ n. for_each step world 0 n) none;
    few = omega arith;
  }

  module _ (first all world : World) (from : ℕ) (waits : PassWaits) (next : Option ℕ) (within : AreWithin world)
      (waiting : AreWaiting of bounds [] waits world) (none : NoneBefore of rooms world waits from next)
      (passing : Passing first all from world) where
    passed_at : (t : ℕ) → from ≤ t → IsBelow t next → PassedAt world t
    passed_at t above below = none t above below _ (waiting t refl)

    -- none is left
    pub ends : ((t : ℕ) → t < length first.slots → IsBelow t next) → world ≡ all
    ends past =
        let count = length first.slots in
        let few = passing.few in
        let many = passing.many in
        sym (passed_all world from (count - from) within (omega (arith, few, many))
        (λ t above below. passed_at t above (past t (omega (arith, few, below)))))
        ∙ passing.ahead

    -- a slot is visited, and those before it are passed
    pub visits : (s : ℕ) (after : World) → next ≡ Some s → after ≡ step world s → from ≤ s → s < length first.slots
        → Passing first all (s + 1) after
    visits s after is stepped above below =
        let touches = step_touches s of rooms bounds world in
        let count = length first.slots in
        let many = passing.many in
        let parts : count - from ≡ s - from + (count - s) = omega (arith, above, below) in
        let there : from + (s - from) ≡ s = omega (arith, above) in
        let one : count - s ≡ suc (count - (s + 1)) = omega (arith, below) in
        let before : (t : ℕ) → from ≤ t → t < from + (s - from) → PassedAt world t =
        λ t over under.
        let less : t < s = omega (arith, under, there) in
        passed_at t over (subst (IsBelow t) (sym is) less) in
        subst (Passing first all (s + 1)) (sym stepped) (record {
          many =
              let most = touches.few (omega (arith, below, many)) in
              let least = touches.many in
              omega (arith, many, most, least);
          ahead =
              sym (ap (λ n. for_each step world s n) one)
              ∙ sym (ap (λ m. for_each step world m (count - s)) there)
              ∙ sym (ap (λ w. for_each step w (from + (s - from)) (count - s))
              (passed_all world from (s - from) within (omega (arith, above, below, many)) before))
              ∙ sym (each_split step world from (s - from) (count - s))
              ∙ sym (ap (λ n. for_each step world from n) parts)
              ∙ passing.ahead;
          few = omega (arith, below);
        })

-- three passes, behind halves that come home
pub pumped_by : (rooms : Rooms) (bounds : ℕ → ℕ) (world one two three four all : World) → one ≡ controls_home world
    → two ≡ passed_by pass.Controls rooms bounds one → three ≡ datas_home two
    → four ≡ passed_by pass.Datas rooms bounds three → all ≡ passed_by pass.Queues rooms bounds four
    → all ≡ pumped rooms bounds world
pumped_by rooms bounds world one two three four all first second third fourth last =
    last
    ∙ ap (passed_by pass.Queues rooms bounds)
    (fourth ∙ ap (passed_by pass.Datas rooms bounds)
    (third ∙ ap datas_home (second ∙ ap (passed_by pass.Controls rooms bounds) first)))

-- the next slot to visit from one on, lane by lane
module _ (of : Pass) (rooms : Rooms) (world : World) (waits : PassWaits) (from : ℕ) where
  pub record Found (next : Option NextVisit) (lane : ℕ) : Type 0 where
    pub from_on : IfSome next (λ (own : NextVisit). from ≤ own.slot)
    pub visits : (t : ℕ) → from ≤ t → IsBelow t (slot_of next) → is_in waits.visits t ≡ true → ⊥
    pub full : (t own : ℕ) → from ≤ t → IsBelow t (slot_of next) → own < lane
        → is_in (get_or waits.lanes.items own []) t ≡ true → IsFull of rooms world own

  -- those that want a visit come first
  pub found_visits : (next : Option NextVisit) → IfSome next (λ (own : NextVisit). from ≤ own.slot)
      → ((t : ℕ) → IsBelow t (slot_of next) → (from ≤ t → is_in waits.visits t ≡ true → ⊥)) → Found next 0
  found_visits next from_on none = record {
    from_on = from_on;
    visits = λ t above below stands. none t below above stands;
    full = λ t own above below under stands. absurd (omega (arith, under));
  }

  module _ (lane : ℕ) (slots : List ℕ) (here : slots ≡ get_or waits.lanes.items lane []) where
    stands_here : (t own : ℕ) → own < lane + 1 → (own < lane → ⊥) → is_in (get_or waits.lanes.items own []) t ≡ true
        → is_in slots t ≡ true
    stands_here t own under past stands =
        let same : lane ≡ own = omega (arith, under, past) in
        ap (λ (xs : List ℕ). is_in xs t) here ∙ ap (λ m. is_in (get_or waits.lanes.items m []) t) same ∙ stands

    pub found_lane : (old new : Option NextVisit)
        → (IfSome old (λ (own : NextVisit). from ≤ own.slot) → IfSome new (λ (own : NextVisit). from ≤ own.slot))
        → ((t : ℕ) → IsBelow t (slot_of new)
        → IsBelow t (slot_of old) × (from ≤ t → is_in slots t ≡ true → IsFull of rooms world lane))
        → Found old lane → Found new (lane + 1)
    found_lane old new from_on less found = record {
      from_on = from_on found.from_on;
      visits = λ t above below stands. found.visits t above (less t below).0 stands;
      full = λ t own above below under stands. elim (cases_lt own lane) [
        | inl before ↦ found.full t own above (less t below).0 before stands
        | inr more ↦
            let same : lane ≡ own = omega (arith, under, more) in
            subst (IsFull of rooms world) same
            ((less t below).1 above (stands_here t own under (λ sooner. omega (arith, sooner, more)) stands))
      ];
    }

  pub found_all : (next : Option NextVisit) (lane : ℕ) → length waits.lanes.items ≤ lane → Found next lane
      → NoneBefore of rooms world waits from (slot_of next)
  found_all next lane whole found t above below want.Nothing stands = tt
  found_all next lane whole found t above below want.Visit stands = found.visits t above below stands
  found_all next lane whole found t above below (want.Room own) stands =
      let within = lane_within waits.lanes.items own t stands in
      found.full t own above below (omega (arith, within, whole)) stands

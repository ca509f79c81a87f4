-- Which halves were turned, step by step.
use Rattle.std.proofs.Common.{◌≡◌, ◌≢◌, ℕ, zero, suc, ◌+◌, ◌-◌, ◌<◌, ◌≤◌, inl, inr, true, false, List, [], ◌∷◌}
use Rattle.std.proofs.Common.{length, map, set, get_or, refl, sym, ap, ◌∙◌, subst, arith}
use Rattle.std.specs.Prelude.{nat_eq, nat_lt, if◌then◌else◌, Result, Ok, Err, Option, Some, None, IsNone, IfOk, IfSome}
use Rattle.std.proofs.lemmas.Result.{IfOk-weaker}
use Rattle.std.proofs.lemmas.Option.{IfSome_then}
use Rattle.std.proofs.lemmas.List.{length-map, map-set, get_or-map, get_or-set_same, get_or-set_other}
use Rattle.std.proofs.Math.Seq.{map-set_same}
use Rattle.std.proofs.lemmas.Bool.{le-leb, lt-leb}
use borrow.Author.Tests.{eqb-true, eqb-false, ltb-true, ltb-false}
use Rattle.lane_core.specs.Ends.{raised}
use Rattle.lane_core.specs.declared.did.Did.{Did}
use Rattle.lane_core.specs.declared.did.Did.TheVariants.{Idle, Held, Worked}
use Rattle.worker_core.specs.Answered.{AnswersAt, RestsAt, AllRest, AnswersRound}
use Rattle.worker_core.specs.Turns.{count_at, AreTurned, AllTurned, NoneWorked, WorkedAlone, WorkedRound, steps_to}
use Rattle.worker_core.specs.Turns.{works_after}

module _ {H : Type 0} (count : H → ℕ) where
  -- a write elsewhere leaves a count
  count-set_other : (held : List H) (i k : ℕ) (half : H) → k ≢ i
      → count_at count (set held i half) k ≡ count_at count held k
  count-set_other held i k half apart =
      ap (λ l. get_or l k 0) (map-set count held i half) ∙ get_or-set_other (map count held) i k (count half) 0 apart

  count-set_same : (held : List H) (i : ℕ) (half : H) → i < length held
      → count_at count (set held i half) i ≡ count half
  count-set_same held i half within =
      let there : i < length (map count held) = rw length-map within in
      ap (λ l. get_or l i 0) (map-set count held i half) ∙ get_or-set_same (map count held) i (count half) 0 there

  -- the count of the half at an index
  count_here : (held : List H) (i : ℕ) (half : H) → i < length held → half ≡ get_or held i half
      → count_at count held i ≡ count half
  count_here held i half within is = get_or-map count held i half 0 within ∙ ap count (sym is)

  -- lists with one half at an index have one count there
  count_same : (old new : List H) (k : ℕ) → length new ≡ length old
      → ((none : H) → get_or new k none ≡ get_or old k none)
      → count_at count new k ≡ count_at count old k
  count_same [] [] k long same = refl
  count_same [] (y ∷ ys) k long same = absurd (omega arith)
  count_same (x ∷ xs) [] k long same = absurd (omega arith)
  count_same (x ∷ xs) (y ∷ ys) zero long same = ap count (same x)
  count_same (x ∷ xs) (y ∷ ys) (suc k) long same = count_same xs ys k (omega arith) same

module _ {H : Type 0} (turns : H → ℕ) (turned_at : H → ℕ → Type 0) (place : ℕ) where
  pub turned_none : (from : ℕ) (held : List H) → AreTurned turns turned_at place from from held held
  turned_none from held = record {
    turned = λ k after before. absurd (omega arith);
    placed = λ k none after before. absurd (omega arith);
    others = λ k none outside. refl;
  }

  -- the half at i is turned
  pub turned_more : (from i : ℕ) (first old : List H) (half turned : H)
      → AreTurned turns turned_at place from i first old → from ≤ i
      → length old ≡ length first → i < length old → half ≡ get_or old i half → turns turned ≡ raised (turns half)
      → turned_at turned place
      → AreTurned turns turned_at place from (i + 1) first (set old i turned)
  turned_more from i first old half turned so_far after long within is turn at_place =
      let new : List H = set old i turned in
      let here : count_at turns new i ≡ raised (count_at turns first i) =
      count-set_same turns old i turned within ∙ turn
      ∙ ap raised (sym (count_here turns old i half within is)
      ∙ count_same turns first old i long (λ none. so_far.others i none (inr (omega arith)))) in
      let placed_here : (none : H) → turned_at (get_or new i none) place =
      λ none. subst (λ (x : H). turned_at x place) (sym (get_or-set_same old i turned none within)) at_place in
      record {
        turned = λ k low high. elim (nat_eq k i) as (λ b. nat_eq k i ≡ b
            → count_at turns new k ≡ raised (count_at turns first k)) [
              | true ↦ λ e. subst (λ (n : ℕ). count_at turns new n ≡ raised (count_at turns first n))
                  (sym (eqb-true k i e)) here
              | false ↦ λ e. let apart : k ≢ i = eqb-false k i e in count-set_other turns old i k turned apart
                  ∙ so_far.turned k low (omega arith)
            ] refl;
        placed = λ k none low high. elim (nat_eq k i) as (λ b. nat_eq k i ≡ b → turned_at (get_or new k none) place) [
          | true ↦ λ e. subst (λ (n : ℕ). turned_at (get_or new n none) place) (sym (eqb-true k i e)) (placed_here none)
          | false ↦ λ e. let apart : k ≢ i = eqb-false k i e in
              subst (λ (x : H). turned_at x place) (sym (get_or-set_other old i k turned none apart))
              (so_far.placed k none low (omega arith))
        ] refl;
        others = λ k none outside. elim outside [
          | inl low ↦ get_or-set_other old i k turned none (λ e. absurd (omega arith)) ∙ so_far.others k none (inl low)
          | inr high ↦ get_or-set_other old i k turned none (λ e. absurd (omega arith))
              ∙ so_far.others k none (inr (omega arith))
        ];
      }

  -- from the cursor to the last, and from the first to the cursor
  pub turned_round : (cursor : ℕ) (first mid new : List H) → length mid ≡ length first → length new ≡ length first
      → cursor ≤ length first
      → AreTurned turns turned_at place cursor (length first) first mid
      → AreTurned turns turned_at place 0 cursor mid new
      → AreTurned turns turned_at place 0 (length first) first new
  turned_round cursor first mid new long longer within before after = record {
    turned = λ k low high. elim (nat_lt k cursor) as (λ b. nat_lt k cursor ≡ b
        → count_at turns new k ≡ raised (count_at turns first k)) [
          | true ↦ λ e. let below : k < cursor = ltb-true k cursor e in
              after.turned k low below ∙ ap raised (count_same turns first mid k long
              (λ none. before.others k none (inl below)))
          | false ↦ λ e. let above : cursor ≤ k = ltb-false k cursor e in
              count_same turns mid new k (omega arith) (λ none. after.others k none (inr above))
              ∙ before.turned k above high
        ] refl;
    placed = λ k none low high. elim (nat_lt k cursor) as (λ b. nat_lt k cursor ≡ b
        → turned_at (get_or new k none) place) [
          | true ↦ λ e. after.placed k none low (ltb-true k cursor e)
          | false ↦ λ e. let above : cursor ≤ k = ltb-false k cursor e in
              subst (λ (x : H). turned_at x place) (sym (after.others k none (inr above)))
              (before.placed k none above high)
        ] refl;
    others = λ k none outside. elim outside [
      | inl low ↦ absurd (omega arith)
      | inr high ↦ after.others k none (inr (omega arith)) ∙ before.others k none (inr high)
    ];
  }

module _ {H : Type 0} (works : H → ℕ) where
  -- the half at i doesn't work
  pub idle_more : (i : ℕ) (first old : List H) (half turned : H) → NoneWorked works first old → i < length old
      → half ≡ get_or old i half
      → works turned ≡ works half → NoneWorked works first (set old i turned)
  idle_more i first old half turned so_far within is idle =
      let new : List H = set old i turned in
      let idle_here : count_at works new i ≡ count_at works first i =
      count-set_same works old i turned within ∙ idle ∙ sym (count_here works old i half within is) ∙ so_far i in
      λ k. elim (nat_eq k i) as (λ b. nat_eq k i ≡ b → count_at works new k ≡ count_at works first k) [
        | true ↦ λ e. subst (λ (n : ℕ). count_at works new n ≡ count_at works first n) (sym (eqb-true k i e)) idle_here
        | false ↦ λ e. count-set_other works old i k turned (eqb-false k i e) ∙ so_far k
      ] refl

  -- the half at i works
  pub worked_alone : (i : ℕ) (first old : List H) (half turned : H) → NoneWorked works first old
      → length old ≡ length first
      → i < length old → half ≡ get_or old i half → works turned ≡ raised (works half)
      → WorkedAlone works i first (set old i turned)
  worked_alone i first old half turned so_far long within is work = record {
    within = omega arith;
    here = count-set_same works old i turned within ∙ work
        ∙ ap raised (sym (count_here works old i half within is) ∙ so_far i);
    others = λ k apart. count-set_other works old i k turned apart ∙ so_far k;
  }

  -- the half at i counts its turn, whatever it came to
  pub counts_here : (after : ℕ → ℕ) (i : ℕ) (held : List H) (half turned : H) → i < length held
      → half ≡ get_or held i half → works turned ≡ after (works half)
      → count_at works (set held i turned) i ≡ after (count_at works held i)
  counts_here after i held half turned within is work =
      count-set_same works held i turned within ∙ work ∙ ap after (sym (count_here works held i half within is))

  -- a half works after others that didn't
  pub worked_later : (at : ℕ) (first mid new : List H) → NoneWorked works first mid → length mid ≡ length first
      → WorkedAlone works at mid new
      → WorkedAlone works at first new
  worked_later at first mid new idle long worked = record {
    within = let w = worked.within in omega arith;
    here = worked.here ∙ ap raised (idle at);
    others = λ k apart. worked.others k apart ∙ idle k;
  }

  pub idle_both : (first mid new : List H) → NoneWorked works first mid → NoneWorked works mid new
      → NoneWorked works first new
  idle_both first mid new before after k = after k ∙ before k

steps_high : (cursor len k : ℕ) → cursor ≤ k → steps_to cursor len k ≡ k - cursor
steps_high cursor len k high = ap (λ b. if b then k - cursor else k + (len - cursor)) (le-leb cursor k high)

steps_low : (cursor len k : ℕ) → k < cursor → steps_to cursor len k ≡ k + (len - cursor)
steps_low cursor len k low = ap (λ b. if b then k - cursor else k + (len - cursor)) (lt-leb cursor k low)

module _ {H : Type 0} (turns works : H → ℕ) (turned_at : H → ℕ → Type 0) (place : ℕ) where
  -- a half before the cursor worked
  pub round_second : (cursor at : ℕ) (first mid new : List H) → at < cursor → cursor ≤ length first
      → length mid ≡ length first
      → length new ≡ length first → AreTurned turns turned_at place cursor (length first) first mid
      → NoneWorked works first mid
      → AreTurned turns turned_at place 0 (at + 1) mid new → WorkedAlone works at mid new
      → WorkedRound turns works turned_at place cursor at first new
  round_second cursor at first mid new before within long longer turned idle turned_again worked =
      let len : ℕ = length first in
      let there = steps_low cursor len at before in
      record {
        worked = worked_later works at first mid new idle long worked;
        turned = λ k low near. elim (nat_lt k cursor) as (λ b. nat_lt k cursor ≡ b
            → count_at turns new k ≡ raised (count_at turns first k)) [
              | true ↦ λ e. let below : k < cursor = ltb-true k cursor e in let s = steps_low cursor len k below in
                  turned_again.turned k (omega arith) (omega arith)
                  ∙ ap raised (count_same turns first mid k long (λ none. turned.others k none (inl below)))
              | false ↦ λ e. let above : cursor ≤ k = ltb-false k cursor e in
                  count_same turns mid new k (omega arith) (λ none. turned_again.others k none (inr (omega arith)))
                  ∙ turned.turned k above low
            ] refl;
        placed = λ k none low near. elim (nat_lt k cursor) as (λ b. nat_lt k cursor ≡ b
            → turned_at (get_or new k none) place) [
              | true ↦ λ e. let below : k < cursor = ltb-true k cursor e in let s = steps_low cursor len k below in
                  turned_again.placed k none (omega arith) (omega arith)
              | false ↦ λ e. let above : cursor ≤ k = ltb-false k cursor e in
                  subst (λ (x : H). turned_at x place) (sym (turned_again.others k none (inr (omega arith))))
                  (turned.placed k none above low)
            ] refl;
        behind = λ k none low far. elim (nat_lt k cursor) as (λ b. nat_lt k cursor ≡ b
            → get_or new k none ≡ get_or first k none) [
              | true ↦ λ e. let below : k < cursor = ltb-true k cursor e in let s = steps_low cursor len k below in
                  turned_again.others k none (inr (omega arith)) ∙ turned.others k none (inl below)
              | false ↦ λ e. let above : cursor ≤ k = ltb-false k cursor e in let s =
                  steps_high cursor len k above in absurd (omega arith)
            ] refl;
      }

-- the second part of a round, whatever it came to
module _ {H : Type 0} (turns works : H → ℕ) (turned_at : H → ℕ
    → Type 0) (place cursor end : ℕ) (first mid new : List H) (ends : end ≡ length first)
    (within : cursor ≤ length first) (long : length mid ≡ length first) (longer : length new ≡ length first)
    (before : AreTurned turns turned_at place cursor end first mid × NoneWorked works first mid) where
  all_before : AreTurned turns turned_at place cursor (length first) first mid
  all_before = subst (λ (n : ℕ). AreTurned turns turned_at place cursor n first mid) ends before.0

  pub then_idle : {E : Type 0} (result : Result (Option ℕ) E)
      → IfOk result (λ at. IsNone at → AreTurned turns turned_at place 0 cursor mid new × NoneWorked works mid new)
      → IfOk result (λ at. IsNone at → AllTurned turns works turned_at place first new)
  then_idle result idle = IfOk-weaker result _ _ (λ at after none. let more = after none in record {
    turned = turned_round turns turned_at place cursor first mid new long longer within all_before more.0;
    idle = idle_both works first mid new before.1 more.1;
  }) idle

  pub then_worked : {E : Type 0} (result : Result (Option ℕ) E)
      → IfOk result (λ at. IfSome at (λ k. (0 ≤ k) × (k < cursor)
      × AreTurned turns turned_at place 0 (k + 1) mid new × WorkedAlone works k mid new))
      → IfOk result (λ at. IfSome at (λ k. WorkedRound turns works turned_at place cursor k first new))
  then_worked result worked = IfOk-weaker result _ _ (λ at some. IfSome_then at some (λ k more.
      round_second turns works turned_at place cursor k first mid new more.1 within long longer all_before before.1
      more.2 more.3)) worked

pub idle_after : (E : Type 0) (did : Did) (n : ℕ) → (did ≡ Worked → ⊥) → works_after {E = E} (Ok did) n ≡ n
idle_after E Idle n other = refl
idle_after E Held n other = refl
idle_after E Worked n other = absurd (other refl)

-- a half that keeps its name leaves the names
pub names_kept : {H N : Type 0} (name : H → N) (held : List H) (i : ℕ) (old new : H) → old ≡ get_or held i old
    → name new ≡ name old
    → map name (set held i new) ≡ map name held
names_kept name held i old new is same = map-set_same name held i new old (same ∙ ap name is)

-- one value of a list, whatever the default
get_any : {H : Type 0} (xs : List H) (k : ℕ) (a b : H) → k < length xs → get_or xs k a ≡ get_or xs k b
get_any [] k a b within = absurd (omega arith)
get_any (x ∷ xs) zero a b within = refl
get_any (x ∷ xs) (suc k) a b within = get_any xs k a b (omega arith)

module _ {H : Type 0} (came_to : Did → H → H → Type 0) where
  answers_same : (did : Did) (k : ℕ) (first old new last : List H)
      → ((none : H) → get_or old k none ≡ get_or first k none) → ((none : H) → get_or last k none ≡ get_or new k none)
      → AnswersAt came_to did k old new → AnswersAt came_to did k first last
  answers_same did k first old new last same still came none =
      subst (λ (p : H × H). came_to did p.0 p.1) (λ i. (same none i, sym (still none) i)) (came none)

  rests_same : (k : ℕ) (first old new last : List H)
      → ((none : H) → get_or old k none ≡ get_or first k none) → ((none : H) → get_or last k none ≡ get_or new k none)
      → RestsAt came_to k old new → RestsAt came_to k first last
  rests_same k first old new last same still came = elim came [
    | inl idle ↦ inl (answers_same Idle k first old new last same still idle)
    | inr held ↦ inr (answers_same Held k first old new last same still held)
  ]

  -- the half at i answered
  pub answers_here : (did : Did) (i : ℕ) (first old : List H) (half turned : H)
      → ((none : H) → get_or old i none ≡ get_or first i none) → i < length old → half ≡ get_or old i half
      → came_to did half turned → AnswersAt came_to did i first (set old i turned)
  answers_here did i first old half turned same within is came none =
      let was : half ≡ get_or first i none = is ∙ get_any old i half none within ∙ same none in
      let now : turned ≡ get_or (set old i turned) i none = sym (get_or-set_same old i turned none within) in
      subst (λ (p : H × H). came_to did p.0 p.1) (λ j. (was j, now j)) came

  -- and so it did, whatever its turn came to
  pub answers_so : {E : Type 0} (result : Result Did E) (i : ℕ) (held : List H) (half turned : H) → i < length held
      → half ≡ get_or held i half → IfOk result (λ did. came_to did half turned)
      → IfOk result (λ did. AnswersAt came_to did i held (set held i turned))
  answers_so (Ok did) i held half turned within is came =
      answers_here did i held held half turned (λ none. refl) within is came
  answers_so (Err e) i held half turned within is came = tt

  -- those before it rest as they did
  pub rest_still : (from i : ℕ) (first old : List H) (turned : H) → AllRest came_to from i first old
      → AllRest came_to from i first (set old i turned)
  rest_still from i first old turned rest = record {
    rests = λ k low high. rests_same k first first old (set old i turned) (λ none. refl)
        (λ none. get_or-set_other old i k turned none (λ e. absurd (omega arith))) (rest.rests k low high);
  }

  rests_by : (did : Did) (i : ℕ) (first new : List H) → (did ≡ Worked → ⊥)
      → AnswersAt came_to did i first new → RestsAt came_to i first new
  rests_by Idle i first new other came = inl came
  rests_by Held i first new other came = inr came
  rests_by Worked i first new other came = absurd (other refl)

  -- and it rests
  pub rest_more : (did : Did) (from i : ℕ) (first old : List H) (half turned : H) → AllRest came_to from i first old
      → ((none : H) → get_or old i none ≡ get_or first i none) → i < length old → half ≡ get_or old i half
      → (did ≡ Worked → ⊥) → came_to did half turned → AllRest came_to from (i + 1) first (set old i turned)
  rest_more did from i first old half turned rest same within is other came =
      let here : RestsAt came_to i first (set old i turned) =
      rests_by did i first (set old i turned) other (answers_here did i first old half turned same within is came) in
      record {
        rests = λ k low high. elim (nat_eq k i) as (λ b. nat_eq k i ≡ b → RestsAt came_to k first (set old i turned)) [
          | true ↦ λ e. subst (λ (n : ℕ). RestsAt came_to n first (set old i turned)) (sym (eqb-true k i e)) here
          | false ↦ λ e. let apart : k ≢ i = eqb-false k i e in
              (rest_still from i first old turned rest).rests k low (omega arith)
        ] refl;
      }

  -- all halves rest, those from the cursor on and then those before it
  pub rest_round : (turns : H → ℕ) (turned_at : H → ℕ → Type 0) (place cursor : ℕ) (first mid new : List H)
      → AreTurned turns turned_at place cursor (length first) first mid
      → AreTurned turns turned_at place 0 cursor mid new
      → AllRest came_to cursor (length first) first mid → AllRest came_to 0 cursor mid new
      → AllRest came_to 0 (length first) first new
  rest_round turns turned_at place cursor first mid new before after rest again = record {
    rests = λ k low high. elim (nat_lt k cursor) as (λ b. nat_lt k cursor ≡ b → RestsAt came_to k first new) [
      | true ↦ λ e. let below : k < cursor = ltb-true k cursor e in
          rests_same k first mid new new (λ none. before.others k none (inl below)) (λ none. refl)
          (again.rests k low below)
      | false ↦ λ e. let above : cursor ≤ k = ltb-false k cursor e in
          rests_same k first first mid new (λ none. refl) (λ none. after.others k none (inr above))
          (rest.rests k above high)
    ] refl;
  }

  pub answers_first : (cursor at : ℕ) (first new : List H) → cursor ≤ at → at < length first
      → AllRest came_to cursor at first new → AnswersAt came_to Worked at first new
      → AnswersRound came_to cursor at first new
  answers_first cursor at first new after within rest worked =
      let len : ℕ = length first in
      let there = steps_high cursor len at after in
      record {
        worked = worked;
        before = λ k low near. elim (nat_lt k cursor) as (λ b. nat_lt k cursor ≡ b → RestsAt came_to k first new) [
          | true ↦ λ e. let below : k < cursor = ltb-true k cursor e in
              let s = steps_low cursor len k below in absurd (omega arith)
          | false ↦ λ e. let above : cursor ≤ k = ltb-false k cursor e in
              let s = steps_high cursor len k above in rest.rests k above (omega arith)
        ] refl;
      }

  pub first_answers : (turns works : H → ℕ) (turned_at : H → ℕ → Type 0) (place cursor end : ℕ) (first new : List H)
      (at : Option ℕ) (k : ℕ) → end ≡ length first → at ≡ Some k
      → IfSome at (λ k. (cursor ≤ k) × (k < end)
      × AreTurned turns turned_at place cursor (k + 1) first new × WorkedAlone works k first new)
      → IfSome at (λ k. AllRest came_to cursor k first new × AnswersAt came_to Worked k first new)
      → AnswersRound came_to cursor k first new
  first_answers turns works turned_at place cursor end first new None k ends is turned came =
      absurd (let no : ⊥ = cc in no)
  first_answers turns works turned_at place cursor end first new (Some j) k ends is turned came =
      subst (λ (n : ℕ). AnswersRound came_to cursor n first new) (some_is j k is)
      (answers_first cursor j first new turned.0 (let t = turned.1 in omega arith) came.0 came.1) where
        some_is : (a b : ℕ) → ◌≡◌ {A = Option ℕ} (Some a) (Some b) → a ≡ b
        some_is a b e = ap out e where
          out : Option ℕ → ℕ
          out None = 0
          out (Some n) = n

  pub answers_second : (turns : H → ℕ) (turned_at : H → ℕ → Type 0) (place cursor at : ℕ) (first mid new : List H)
      → at < cursor → cursor ≤ length first
      → AreTurned turns turned_at place cursor (length first) first mid
      → AreTurned turns turned_at place 0 (at + 1) mid new
      → AllRest came_to cursor (length first) first mid → AllRest came_to 0 at mid new
      → AnswersAt came_to Worked at mid new
      → AnswersRound came_to cursor at first new
  answers_second turns turned_at place cursor at first mid new before within turned again rest more worked =
      let len : ℕ = length first in
      let there = steps_low cursor len at before in
      record {
        worked = answers_same Worked at first mid new new (λ none. turned.others at none (inl before)) (λ none. refl)
            worked;
        before = λ k low near. elim (nat_lt k cursor) as (λ b. nat_lt k cursor ≡ b → RestsAt came_to k first new) [
          | true ↦ λ e. let below : k < cursor = ltb-true k cursor e in
              let s = steps_low cursor len k below in
              rests_same k first mid new new (λ none. turned.others k none (inl below)) (λ none. refl)
              (more.rests k (omega arith) (omega arith))
          | false ↦ λ e. let above : cursor ≤ k = ltb-false k cursor e in
              rests_same k first first mid new (λ none. refl) (λ none. again.others k none (inr (omega arith)))
              (rest.rests k above low)
        ] refl;
      }

  -- the second part of a round, whatever it came to
  module _ (turns : H → ℕ) (turned_at : H → ℕ → Type 0) (works : H → ℕ) (place cursor end : ℕ)
      (first mid new : List H) (ends : end ≡ length first) (within : cursor ≤ length first)
      (before : AreTurned turns turned_at place cursor end first mid × NoneWorked works first mid)
      (rest : AllRest came_to cursor end first mid) where
    turned_before : AreTurned turns turned_at place cursor (length first) first mid
    turned_before = subst (λ (n : ℕ). AreTurned turns turned_at place cursor n first mid) ends before.0

    rest_before : AllRest came_to cursor (length first) first mid
    rest_before = subst (λ (n : ℕ). AllRest came_to cursor n first mid) ends rest

    pub then_rests : {E : Type 0} (result : Result (Option ℕ) E)
        → IfOk result (λ at. IsNone at → AreTurned turns turned_at place 0 cursor mid new × NoneWorked works mid new)
        → IfOk result (λ at. IsNone at → AllRest came_to 0 cursor mid new)
        → IfOk result (λ at. IsNone at → AllRest came_to 0 (length first) first new)
    then_rests (Ok at) turned again = λ none. rest_round turns turned_at place cursor first mid new turned_before
        (turned none).0 rest_before (again none)
    then_rests (Err e) turned again = tt

    pub then_answers : {E : Type 0} (result : Result (Option ℕ) E)
        → IfOk result (λ at. IfSome at (λ k. (0 ≤ k) × (k < cursor)
        × AreTurned turns turned_at place 0 (k + 1) mid new × WorkedAlone works k mid new))
        → IfOk result (λ at. IfSome at (λ k. AllRest came_to 0 k mid new × AnswersAt came_to Worked k mid new))
        → IfOk result (λ at. IfSome at (λ k. AnswersRound came_to cursor k first new))
    then_answers (Ok (Some k)) turned again =
        answers_second turns turned_at place cursor k first mid new turned.1 within
        turned_before turned.2 rest_before again.0 again.1
    then_answers (Ok None) turned again = tt
    then_answers (Err e) turned again = tt

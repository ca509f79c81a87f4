-- What a worker holds as a half leaves, comes, is marked or copied.
use Rattle.std.proofs.Common.{◌≡◌, ℕ, zero, suc, ◌+◌, ◌<◌, ◌≤◌, ◌==◌, Bool, true, false, Option, Some, None, List, [], ◌∷◌, ◌++◌, length, map, take, get_or, set, cond, refl, sym, ap, subst, ◌∙◌, arith, add-one}
use Rattle.std.proofs.lemmas.List.{length-set, length-map}
use Rattle.epoch_schedule.specs.World.{HeldControl, cursor_within, cursor_behind}
use Rattle.epoch_schedule.specs.ControlTurns.{marked, without}
use Rattle.epoch_schedule.specs.Waiting.{is_in}
use Rattle.epoch_schedule.specs.Rosters.{RosterNow, left, present, entry, place_at, Lacks, Indexed, OnlyCalled, IsRoster, mark_entry}
use Rattle.epoch_schedule.specs.Rounds.{place_held}
use Rattle.epoch_schedule.proofs.Places.{none_half, same_half, present_next, present_still, length_more, place_few, none_left, cursor_stays, lacks_place}
use Rattle.epoch_schedule.proofs.Indices.{present_push, place_push, indexed_push, indexed_grown, called_push, left_there}

-- marks
slot_marked : (slot until : ℕ) (half : HeldControl) → (marked slot until half).slot ≡ half.slot
slot_marked slot until half = by_test (half.slot == slot)
  where
    by_test : (test : Bool) → (cond test (record half { until = Some until }) half).slot ≡ half.slot
    by_test true = refl
    by_test false = refl

pub entry_marked : (slot until : ℕ) (halves : List (Option HeldControl)) (i : ℕ)
    → entry (map (mark_entry slot until) halves) i ≡ mark_entry slot until (entry halves i)
entry_marked slot until [] zero = refl
entry_marked slot until [] (suc i) = refl
entry_marked slot until (x ∷ xs) zero = refl
entry_marked slot until (x ∷ xs) (suc i) = entry_marked slot until xs i

pub present_marked : (slot until : ℕ) (halves : List (Option HeldControl))
    → present (map (mark_entry slot until) halves) ≡ map (marked slot until) (present halves)
present_marked slot until [] = refl
present_marked slot until (None ∷ xs) = present_marked slot until xs
present_marked slot until (Some own ∷ xs) = ap (λ held. marked slot until own ∷ held) (present_marked slot until xs)

pub place_marked : (slot until : ℕ) (halves : List (Option HeldControl)) (n : ℕ)
    → place_at (map (mark_entry slot until) halves) n ≡ place_at halves n
place_marked slot until [] zero = refl
place_marked slot until [] (suc n) = refl
place_marked slot until (x ∷ xs) zero = refl
place_marked slot until (None ∷ xs) (suc n) = place_marked slot until xs n
place_marked slot until (Some own ∷ xs) (suc n) = ap suc (place_marked slot until xs n)

entry_same : (slot until : ℕ) (x : Option HeldControl)
    → ((half : HeldControl) → x ≡ Some half → (half.slot == slot) ≡ false) → mark_entry slot until x ≡ x
entry_same slot until None off = refl
entry_same slot until (Some half) off =
    ap (λ test. Some (cond test (record half { until = Some until }) half)) (off half refl)

pub none_marked : (slot until : ℕ) (halves : List (Option HeldControl)) → Lacks halves slot
    → map (mark_entry slot until) halves ≡ halves
none_marked slot until [] lacks = refl
none_marked slot until (x ∷ xs) lacks =
    ap (λ y. y ∷ map (mark_entry slot until) xs) (entry_same slot until x (lacks 0))
    ∙ ap (λ ys. x ∷ ys) (none_marked slot until xs (λ j. lacks (suc j)))

pub one_marked : (slot until : ℕ) (halves : List (Option HeldControl)) (i : ℕ)
    → ((j : ℕ) → (other : HeldControl) → (j ≡ i → ⊥) → entry halves j ≡ Some other → (other.slot == slot) ≡ false)
    → set halves i (mark_entry slot until (entry halves i)) ≡ map (mark_entry slot until) halves
one_marked slot until [] zero others = refl
one_marked slot until [] (suc i) others = refl
one_marked slot until (x ∷ xs) zero others =
    ap (λ ys. mark_entry slot until x ∷ ys)
    (sym (none_marked slot until xs (λ j other. others (suc j) other (λ is. omega (arith, is)))))
one_marked slot until (x ∷ xs) (suc i) others =
    ap (λ y. y ∷ set xs i (mark_entry slot until (entry xs i)))
    (sym (entry_same slot until x (λ half. others 0 half (λ is. omega (arith, is)))))
    ∙ ap (λ ys. mark_entry slot until x ∷ ys)
    (one_marked slot until xs i (λ j other apart. others (suc j) other (λ is. apart (omega (arith, is)))))

pub roster_left : (halves new : List (Option HeldControl)) (index : List ℕ) (once : Bool) (holes next last n : ℕ)
    (called fewer : List ℕ) → IsRoster halves index once holes last called → new ≡ set halves n None
    → length (present new) + 1 ≡ length (present halves) → next ≤ length new
    → OnlyCalled (set halves n None) fewer → IsRoster new index once (holes + 1) next fewer
roster_left halves new index once holes next last n called fewer roster is less few only =
    let counted = roster.counted in
    let long = ap length is ∙ length-set halves n None in
    record {
      counted = omega (arith, counted, less, long);
      few = few;
      indexed = λ known i half here.
          roster.indexed known i half (left_there halves n i half (ap (λ hs. entry hs i) (sym is) ∙ here));
      only = subst (λ hs. OnlyCalled hs fewer) (sym is) only;
    }

abbrev pub now_of : List HeldControl → ℕ → RosterNow
now_of held cursor = record { held = held; cursor = cursor }

roster_is : (held other : List HeldControl) (cursor at : ℕ) → held ≡ other → cursor ≡ at
    → now_of held cursor ≡ now_of other at
roster_is held other cursor at is same = ap (λ hs. now_of hs cursor) is ∙ ap (now_of other) same

pub left_is : (halves new : List (Option HeldControl)) (i place next at : ℕ) → place ≡ place_at halves i
    → present new ≡ without (place_at halves i) (present halves)
    → place_at new at ≡ cursor_behind (place_at halves i) (place_at halves next)
    (length (without (place_at halves i) (present halves)))
    → now_of (present new) (place_at new at)
    ≡ left (now_of (present halves) (place_at halves next)) place
left_is halves new i place next at is held cursor =
    roster_is (present new) (without (place_at halves i) (present halves)) (place_at new at)
    (cursor_behind (place_at halves i) (place_at halves next) (length (without (place_at halves i) (present halves))))
    held cursor
    ∙ ap (left (now_of (present halves) (place_at halves next))) (sym is)

pub none_left_is : (halves : List (Option HeldControl)) (slot next at : ℕ) → Lacks halves slot
    → place_at halves at ≡ cursor_within (place_at halves next) (length (present halves))
    → now_of (present halves) (place_at halves at)
    ≡ left (now_of (present halves) (place_at halves next)) (place_held slot (present halves))
none_left_is halves slot next at lacks cursor =
    let held = present halves in
    let place = place_held slot held in
    let all = lacks_place halves slot lacks in
    roster_is held (without place held) (place_at halves at)
    (cursor_behind place (place_at halves next) (length (without place held)))
    (sym (none_left held place (omega (arith, all))))
    (cursor ∙ cursor_stays held place (place_at halves next) (omega (arith, all)) (place_few halves next))

-- one comes
pub roster_push : (halves new : List (Option HeldControl)) (index grown indices : List ℕ) (once still : Bool)
    (holes next : ℕ) (called more : List ℕ) (half : HeldControl)
    → IsRoster halves index once holes next called → new ≡ halves ++ Some half ∷ []
    → ((s : ℕ) → get_or grown s 0 ≡ get_or index s 0) → length index ≤ length grown → half.slot < length grown
    → (still ≡ true → indices ≡ set grown half.slot (length halves))
    → (still ≡ true → (once ≡ true) × Lacks halves half.slot)
    → OnlyCalled halves more → (is_in more (length halves) ≡ false → half.until ≡ None)
    → IsRoster new indices still holes next more
roster_push halves new index grown indices once still holes next called more half roster is same long within set_is
    known only own =
    let counted = roster.counted in
    let few = roster.few in
    let total = ap length is ∙ pushed_length halves (Some half) in
    let held = ap (λ hs. length (present hs)) is ∙ ap length (present_push halves half) ∙ length_more (present halves) half in
    record {
      counted = omega (arith, counted, total, held);
      few = omega (arith, few, total);
      indexed = λ yes.
          subst (λ hs. Indexed hs indices) (sym is)
          (subst (Indexed (halves ++ Some half ∷ [])) (sym (set_is yes))
          (indexed_push halves index grown half same long within (known yes).1 (roster.indexed (known yes).0)));
      only = subst (λ hs. OnlyCalled hs more) (sym is) (called_push halves more half own only);
    }
  where
    pushed_length : (xs : List (Option HeldControl)) (x : Option HeldControl) → length (xs ++ x ∷ []) ≡ suc (length xs)
    pushed_length [] x = refl
    pushed_length (y ∷ ys) x = ap suc (pushed_length ys x)

pub push_is : (halves new : List (Option HeldControl)) (next : ℕ) (half : HeldControl) → new ≡ halves ++ Some half ∷ []
    → next ≤ length halves
    → now_of (present new) (place_at new next)
    ≡ now_of (present halves ++ half ∷ []) (place_at halves next)
push_is halves new next half is few =
    roster_is (present new) (present halves ++ half ∷ []) (place_at new next) (place_at halves next)
    (ap present is ∙ present_push halves half)
    (ap (λ hs. place_at hs next) is ∙ place_push halves (Some half) next few)

-- marks
pub roster_marked : (slot until : ℕ) (halves new : List (Option HeldControl)) (index : List ℕ) (once : Bool)
    (holes next : ℕ) (called more : List ℕ) → IsRoster halves index once holes next called
    → new ≡ map (mark_entry slot until) halves → OnlyCalled new more → IsRoster new index once holes next more
roster_marked slot until halves new index once holes next called more roster is only =
    let counted = roster.counted in
    let few = roster.few in
    let total = ap length is ∙ length-map halves (mark_entry slot until) in
    let held = ap (λ hs. length (present hs)) is ∙ ap length (present_marked slot until halves)
    ∙ length-map (present halves) (marked slot until) in
    record {
      counted = omega (arith, counted, total, held);
      few = omega (arith, few, total);
      indexed = λ known. subst (λ hs. Indexed hs index) (sym is) (each known);
      only = only;
    }
  where
    each : once ≡ true → Indexed (map (mark_entry slot until) halves) index
    each known i half here = by (entry halves i) refl
      where
        by : (x : Option HeldControl) → entry halves i ≡ x → (half.slot < length index) × (get_or index half.slot 0 ≡ i)
        by None there = none_half (sym (entry_marked slot until halves i ∙ ap (mark_entry slot until) there) ∙ here)
        by (Some own) there =
            let marks = same_half (marked slot until own) half
            (sym (entry_marked slot until halves i ∙ ap (mark_entry slot until) there) ∙ here) in
            let slots : own.slot ≡ half.slot =
            sym (slot_marked slot until own) ∙ ap (λ (h : HeldControl). h.slot) marks in
            subst (λ s. (s < length index) × (get_or index s 0 ≡ i)) slots (roster.indexed known i own there)

pub marked_is : (slot until : ℕ) (halves new : List (Option HeldControl)) (next : ℕ)
    → new ≡ map (mark_entry slot until) halves
    → now_of (present new) (place_at new next)
    ≡ now_of (map (marked slot until) (present halves)) (place_at halves next)
marked_is slot until halves new next is =
    roster_is (present new) (map (marked slot until) (present halves)) (place_at new next) (place_at halves next)
    (ap present is ∙ present_marked slot until halves)
    (ap (λ hs. place_at hs next) is ∙ place_marked slot until halves next)

-- a list of indices that grows
pub roster_grown : (halves : List (Option HeldControl)) (index grown : List ℕ) (once : Bool) (holes next : ℕ)
    (called more : List ℕ) → IsRoster halves index once holes next called
    → ((s : ℕ) → get_or grown s 0 ≡ get_or index s 0) → length index ≤ length grown → OnlyCalled halves more
    → IsRoster halves grown once holes next more
roster_grown halves index grown once holes next called more roster same long only = record {
  counted = roster.counted;
  few = roster.few;
  indexed = λ known. indexed_grown halves index grown same long (roster.indexed known);
  only = only;
}

-- one more is copied
pub copied_none : (halves : List (Option HeldControl)) (i : ℕ) (now : RosterNow) → now.held ≡ present (take i halves)
    → entry halves i ≡ None → now ≡ now_of (present (take (i + 1) halves)) now.cursor
copied_none halves i now is none =
    ap (λ hs. now_of hs now.cursor)
    (is ∙ sym (present_still halves i none) ∙ ap (λ n. present (take n halves)) (sym (add-one i)))

pub copied_some : (halves : List (Option HeldControl)) (i : ℕ) (now : RosterNow) (half : HeldControl)
    → now.held ≡ present (take i halves) → entry halves i ≡ Some half
    → now_of (now.held ++ half ∷ []) now.cursor ≡ now_of (present (take (i + 1) halves)) now.cursor
copied_some halves i now half is here =
    ap (λ hs. now_of hs now.cursor)
    (ap (λ hs. hs ++ half ∷ []) is ∙ sym (present_next halves i half here)
    ∙ ap (λ n. present (take n halves)) (sym (add-one i)))

-- Packets between their bounds.
use Rattle.std.proofs.Common.{◌≡◌, ℕ, ◌+◌, ◌<◌, ◌≤◌, ◌↔◌, max, Bool, true, false, Option, Some, None, IfSome, List, [], ◌∷◌, ◌++◌, length, take, drop, cond, if◌then◌else◌, refl, sym, ap, ◌∙◌, subst, arith, append-nil, append_assoc, get_or, length-append, map}
use Rattle.std.specs.List.{cons_option, filter_map}
use Rattle.std.specs.Prelude.{codes, decimal}
use Rattle.std.proofs.lemmas.List.{take-append-drop}
use Rattle.std.proofs.lemmas.List.Elements.{filter_map-append}
use Rattle.lawful_run.specs.Accepted.{accepted_command, command_count, command_for, commands_accepted, is_refused}
use Rattle.lawful_run.specs.Answers.{Answers}
use Rattle.lawful_run.specs.Bounds.{Rises}
use Rattle.lawful_run.specs.LinesTold.{LineTold, EachFrom}
use Rattle.lawful_run.specs.Moves.{before_last_move, before_next_move, moves, moves_by}
use Rattle.lawful_run.specs.Telling.{commands_told}
use Rattle.demux.specs.Trace.{Meaning, command, packet, move, note}
use Rattle.audit_core.proofs.LineKinds.{other, moved, answered, judged, refused, kind_of}
use Rattle.audit_core.proofs.RestLemmas.{drop_mapped}
use Rattle.audit_core.proofs.MoveLemmas.{before_same_move, before_this_move}
use Rattle.audit_core.specs.OfSlot.{CountsRise, LiesWithin, Within, told_of}
use Rattle.audit_core.specs.Bounds.{FirstCount, LiesBetween, last_before, last_count, least, most}
use Rattle.audit_core.specs.Passing.{IsPassed, LiesIn, last_behind}
use Rattle.audit_core.specs.Places.{EachUpTo}
use Rattle.audit_core.specs.Telling.{at_line}
use Rattle.audit_core.specs.declared.counts.Passed.{Passed}
use Rattle.audit_core.specs.declared.telling.Break.{Break}

-- how many commands lines bring
pub commands_both : (slot : ℕ) (prefix later : List LineTold)
    → command_count slot (prefix ++ later) ≡ command_count slot prefix + command_count slot later
commands_both slot prefix later =
    ap length (filter_map-append (accepted_command slot) prefix later)
    ∙ length-append (commands_accepted slot prefix) (commands_accepted slot later)

pub commands_push : (slot : ℕ) (prefix : List LineTold) (now : LineTold)
    → command_count slot (prefix ++ now ∷ []) ≡ command_count slot prefix + command_count slot (now ∷ [])
commands_push slot prefix now = commands_both slot prefix (now ∷ [])

pub some_most : {X Y : Type 0} (f : X → Option Y) (xs : List X) → length (filter_map f xs) ≤ length xs
some_most f [] = omega arith
some_most f (x ∷ xs) = some_by (f x) (filter_map f xs) (some_most f xs)
  where
    some_by : {Y : Type 0} (y : Option Y) (ys : List Y) → length ys ≤ length xs → length (cons_option y ys) ≤ length (x ∷ xs)
    some_by None ys most = omega (arith, most)
    some_by (Some y) ys most = omega (arith, most)

pub commands_most : (slot : ℕ) (lines : List LineTold) → command_count slot lines ≤ length lines
commands_most slot lines = some_most (accepted_command slot) lines

-- the counts that a slot's packets tell, with a line more
pub counts_push : (slot : ℕ) (prefix : List LineTold) (now : LineTold)
    → told_of commands_told slot (prefix ++ now ∷ [])
    ≡ told_of commands_told slot prefix ++ cons_option (commands_told slot now.entry) []
counts_push slot prefix now = simp filter_map-append

pub last_push : (start : ℕ) (counts : List ℕ) (count : ℕ) → last_count start (counts ++ count ∷ []) ≡ count
last_push start [] count = refl
last_push start (first ∷ counts) count = last_push first counts count

-- one line more up to a place
pub up_to_more : (P : List LineTold → LineTold → List LineTold → Type 0) (before lines : List LineTold) (now : LineTold)
    (behind : List LineTold) → EachUpTo P before lines (now ∷ behind) → P (before ++ lines) now behind
    → EachUpTo P before (lines ++ now ∷ []) behind
up_to_more P before [] now behind each here = (subst (λ prefix. P prefix now behind) (append-nil before) here, tt)
up_to_more P before (first ∷ lines) now behind each here = (
  subst (P before first) (sym (append_assoc lines (now ∷ []) behind)) each.0,
  up_to_more P (before ++ first ∷ []) lines now behind each.1
      (subst (λ prefix. P prefix now behind) (sym (append_assoc before (first ∷ []) lines)) here),
)

-- where all packets lie between, counts rise, each within its bounds
module _ (slot start : ℕ) where
  abbrev Told : List LineTold → List ℕ
  Told lines = told_of commands_told slot lines

  within_by : (told : Option ℕ) (prefix later : List LineTold)
      → IfSome told (λ count. (least slot start prefix ≤ count) × (count ≤ most slot start prefix later))
      → IfSome told (Within slot start prefix later)
  within_by None prefix later lies = tt
  within_by (Some count) prefix later lies = (omega (arith, lies.0), lies.1)

  rises_by : (told : Option ℕ) (prefix later : List LineTold) (counts : List ℕ)
      → IfSome told (λ count. (least slot start prefix ≤ count) × (count ≤ most slot start prefix later))
      → Rises (last_count start (Told prefix ++ cons_option told [])) counts
      → Rises (last_count start (Told prefix)) (cons_option told counts)
  rises_by None prefix later counts lies rises =
      subst (λ xs. Rises (last_count start xs) counts) (append-nil (Told prefix)) rises
  rises_by (Some count) prefix later counts lies rises = (
    omega (arith, lies.0),
    subst (λ k. Rises k counts) (last_push start (Told prefix) count) rises,
  )

  rises_from : (prefix lines : List LineTold) → EachUpTo (LiesBetween slot start) prefix lines []
      → Rises (last_count start (Told prefix)) (Told lines)
  rises_from prefix [] each = tt
  rises_from prefix (now ∷ later) each =
      rises_by (commands_told slot now.entry) prefix (later ++ []) (Told later) each.0
      (subst (λ xs. Rises (last_count start xs) (Told later)) (counts_push slot prefix now)
      (rises_from (prefix ++ now ∷ []) later each.1))

  within_from : (prefix lines : List LineTold) → EachUpTo (LiesBetween slot start) prefix lines []
      → EachFrom (LiesWithin slot start) prefix lines
  within_from prefix [] each = tt
  within_from prefix (now ∷ later) each = (
    subst (λ rest. IfSome (commands_told slot now.entry) (Within slot start prefix rest)) (append-nil later)
        (within_by (commands_told slot now.entry) prefix (later ++ []) each.0),
    within_from (prefix ++ now ∷ []) later each.1,
  )

  pub counts_from : (lines : List LineTold) → EachUpTo (LiesBetween slot start) [] lines [] → CountsRise slot start lines
  counts_from lines each = record { rises = rises_from [] lines each; within = within_from [] lines each }

-- the last count, with a line more
last_more : (slot start : ℕ) (prefix : List LineTold) (now : LineTold)
    → last_behind (last_before slot start prefix) (commands_told slot now.entry)
    ≡ last_before slot start (prefix ++ now ∷ [])
last_more slot start prefix now =
    last_by (told_of commands_told slot prefix) (commands_told slot now.entry)
    ∙ ap (last_count start) (sym (counts_push slot prefix now))
  where
    last_by : (counts : List ℕ) (told : Option ℕ)
        → last_behind (last_count start counts) told ≡ last_count start (counts ++ cons_option told [])
    last_by counts None = ap (last_count start) (sym (append-nil counts))
    last_by counts (Some count) = sym (last_push start counts count)

-- a line that moves the slot brings no command
moved_by : (slot : ℕ) (test : Bool) (meaning : Meaning) → moves_by slot meaning ≡ true
    → (if test then None else command_for slot meaning) ≡ None
moved_by slot true meaning moved_ = refl
moved_by slot false (command own c) moved_ = cc
moved_by slot false (packet own p) moved_ = refl
moved_by slot false (move own slice text) moved_ = refl
moved_by slot false (note text) moved_ = refl

moved_none : (slot : ℕ) (now : LineTold) → moves slot now ≡ true → command_count slot (now ∷ []) ≡ 0
moved_none slot now moved_ =
    ap (λ c. length (cons_option c [])) (moved_by slot (is_refused now.entry) now.meaning moved_)

-- a line whose packet tells a count neither moves the slot nor brings a command
tells_count : (n slot : ℕ) (now : LineTold) (count : ℕ) → Answers n now.meaning now.entry
    → commands_told slot now.entry ≡ Some count
    → (moves slot now ≡ false) × (accepted_command slot now ≡ None)
tells_count n slot now count answers told = elim (kind_of n slot now answers) [
  | other tells ↦ let no = sym tells.commands_is ∙ told in cc
  | moved noted is moves_ tells ↦ let no = sym tells.commands_is ∙ told in cc
  | answered a c is stays tells ↦ let no = sym tells.commands_is ∙ told in cc
  | judged j p is stays tells ↦ (tells.moves_is, tells.accepted_is)
  | refused r is stays tells ↦ let no = sym tells.commands_is ∙ told in cc
]

-- the commands before the next move, line by line
pub count_moves : (slot : ℕ) (lines : List LineTold) (i : ℕ) (now : LineTold) → drop i lines ≡ now ∷ drop (i + 1) lines
    → moves slot now ≡ true → command_count slot (before_next_move slot (drop i lines)) ≡ 0
count_moves slot lines i now parts moved_ =
    ap (λ rest. command_count slot (before_next_move slot rest)) parts
    ∙ ap (λ m. command_count slot (cond m [] (now ∷ before_next_move slot (drop (i + 1) lines)))) moved_

pub count_stays : (slot : ℕ) (lines : List LineTold) (i : ℕ) (now : LineTold) → drop i lines ≡ now ∷ drop (i + 1) lines
    → moves slot now ≡ false
    → command_count slot (before_next_move slot (drop i lines))
    ≡ command_count slot (now ∷ []) + command_count slot (before_next_move slot (drop (i + 1) lines))
count_stays slot lines i now parts stays =
    ap (λ rest. command_count slot (before_next_move slot rest)) parts
    ∙ ap (λ m. command_count slot (cond m [] (now ∷ before_next_move slot (drop (i + 1) lines)))) stays
    ∙ commands_both slot (now ∷ []) (before_next_move slot (drop (i + 1) lines))

-- what is kept of the lines before one
pub passed_none : (slot start : ℕ) (lines : List LineTold) (passed : Passed) → passed.commands ≡ start
    → passed.least ≡ start → passed.most ≡ start + command_count slot (before_next_move slot lines)
    → passed.last ≡ start → IsPassed slot start lines 0 passed
passed_none slot start lines passed commands least most last = record {
  commands_are = omega (arith, commands);
  least_is = omega (arith, least);
  most_is = most;
  last_is = last;
}

module _ (slot start : ℕ) (lines : List LineTold) (at : ℕ) (now : LineTold) (passed next : Passed)
    (so : IsPassed slot start lines at passed) (more : take (at + 1) lines ≡ take at lines ++ now ∷ [])
    (last : next.last ≡ last_behind passed.last (commands_told slot now.entry)) where
  last_next : next.last ≡ last_before slot start (take (at + 1) lines)
  last_next =
      last ∙ ap (λ k. last_behind k (commands_told slot now.entry)) so.last_is
      ∙ last_more slot start (take at lines) now ∙ ap (last_before slot start) (sym more)

  pub passed_moves : moves slot now ≡ true → next.commands ≡ passed.commands → next.least ≡ passed.commands
      → next.most ≡ passed.commands + command_count slot (before_next_move slot (drop (at + 1) lines))
      → IsPassed slot start lines (at + 1) next
  passed_moves moved_ commands least most =
      let one = ap (command_count slot) more in
      let push = commands_push slot (take at lines) now in
      let none = moved_none slot now moved_ in
      record {
        commands_are = omega (arith, commands, so.commands_are, one, push, none);
        least_is = least ∙ so.commands_are
            ∙ ap (λ xs. start + command_count slot xs)
            (sym (before_this_move slot (take at lines) now moved_) ∙ ap (before_last_move slot) (sym more));
        most_is = omega (
          arith,
          most,
          so.commands_are,
          one,
          push,
          none,
          commands_both slot (take (at + 1) lines) (before_next_move slot (drop (at + 1) lines)),
        );
        last_is = last_next;
      }

  pub passed_stays : drop at lines ≡ now ∷ drop (at + 1) lines → moves slot now ≡ false
      → next.commands ≡ passed.commands + command_count slot (now ∷ []) → next.least ≡ passed.least
      → next.most ≡ passed.most → IsPassed slot start lines (at + 1) next
  passed_stays parts stays commands least most =
      let one = ap (command_count slot) more in
      let push = commands_push slot (take at lines) now in
      record {
        commands_are = omega (arith, commands, so.commands_are, one, push);
        least_is = least ∙ so.least_is
            ∙ ap (λ xs. start + command_count slot xs)
            (sym (before_same_move slot (take at lines) now stays) ∙ ap (before_last_move slot) (sym more));
        most_is = omega (
          arith,
          most,
          so.most_is,
          one,
          push,
          count_stays slot lines at now parts stays,
          commands_both slot (take at lines) (before_next_move slot (drop at lines)),
          commands_both slot (take (at + 1) lines) (before_next_move slot (drop (at + 1) lines)),
        );
        last_is = last_next;
      }

-- a list at a place, mapped
pub mapped_parts : {X Y : Type 0} (f : X → Y) (xs : List X) (i : ℕ) (x : X) → i < length xs → x ≡ get_or xs i x
    → map f xs ≡ take i (map f xs) ++ f x ∷ drop (i + 1) (map f xs)
mapped_parts f xs i x within is =
    sym (take-append-drop i (map f xs)) ∙ ap (λ rest. take i (map f xs) ++ rest) (drop_mapped f xs i x within is)

-- the first packet that doesn't lie between its bounds, and one more that does
module _ (n slot start : ℕ) (lines : List LineTold) (at : ℕ) (now : LineTold) (passed : Passed)
    (so : IsPassed slot start lines at passed) (parts : drop at lines ≡ now ∷ drop (at + 1) lines)
    (answers : Answers n now.meaning now.entry) where
  most_here : (count : ℕ) → commands_told slot now.entry ≡ Some count
      → passed.most ≡ most slot start (take at lines) (drop (at + 1) lines)
  most_here count told =
      let tells = tells_count n slot now count answers told in
      let none : command_count slot (now ∷ []) ≡ 0 = ap (λ c. length (cons_option c [])) tells.1 in
      omega (
        arith,
        so.most_is,
        none,
        count_stays slot lines at now parts tells.0,
        commands_both slot (take at lines) (before_next_move slot (drop at lines)),
        commands_both slot (take at lines) (before_next_move slot (drop (at + 1) lines)),
      )

  lies_by : (told : Option ℕ) → commands_told slot now.entry ≡ told
      → IfSome told (λ count. (passed.least ≤ count) × (passed.last ≤ count) × (count ≤ passed.most))
      ↔ IfSome told (λ count. (least slot start (take at lines) ≤ count)
      × (count ≤ most slot start (take at lines) (drop (at + 1) lines)))
  lies_by None is = ((λ yes. tt), (λ yes. tt))
  lies_by (Some count) is =
      let most_is = most_here count is in (
        (λ lies. (omega (arith, lies.0, lies.1, so.least_is, so.last_is), omega (arith, lies.2, most_is))),
        (λ lies. (
          omega (arith, lies.0, so.least_is),
          omega (arith, lies.0, so.last_is),
          omega (arith, lies.1, most_is),
        )),
      )

  lies_same : LiesIn slot passed now.entry ↔ LiesBetween slot start (take at lines) now (drop (at + 1) lines)
  lies_same = lies_by (commands_told slot now.entry) refl

  most_by : (told : Option ℕ) → commands_told slot now.entry ≡ told
      → (IfSome told (λ count. (passed.least ≤ count) × (passed.last ≤ count) × (count ≤ passed.most)) → ⊥)
      → passed.most ≡ most slot start (take at lines) (drop (at + 1) lines)
  most_by None is outside = absurd (outside tt)
  most_by (Some count) is outside = most_here count is

  pub first_here : (found : Break) → EachUpTo (LiesBetween slot start) [] (take at lines) (drop at lines)
      → (LiesIn slot passed now.entry → ⊥)
      → found ≡ at_line now.entry (decimal (max passed.least passed.last) ++ (codes " to " ++ decimal passed.most))
      → FirstCount slot start lines found
  first_here found each outside is =
      let most_is = most_by (commands_told slot now.entry) refl outside in
      record {
        prefix = take at lines;
        now = now;
        later = drop (at + 1) lines;
        parts = sym (take-append-drop at lines) ∙ ap (λ rest. take at lines ++ rest) parts;
        holds = subst (EachUpTo (LiesBetween slot start) [] (take at lines)) parts each;
        broken = λ lies. outside (lies_same.1 lies);
        is = is
            ∙ (λ i. at_line now.entry (decimal (max (so.least_is i) (so.last_is i))
            ++ (codes " to " ++ decimal (most_is i))));
      }

  pub lies_next : take (at + 1) lines ≡ take at lines ++ now ∷ [] → LiesIn slot passed now.entry
      → EachUpTo (LiesBetween slot start) [] (take at lines) (drop at lines)
      → EachUpTo (LiesBetween slot start) [] (take (at + 1) lines) (drop (at + 1) lines)
  lies_next more lies each =
      subst (λ prefix. EachUpTo (LiesBetween slot start) [] prefix (drop (at + 1) lines)) (sym more)
      (up_to_more (LiesBetween slot start) [] (take at lines) now (drop (at + 1) lines)
      (subst (EachUpTo (LiesBetween slot start) [] (take at lines)) parts each) (lies_same.0 lies))

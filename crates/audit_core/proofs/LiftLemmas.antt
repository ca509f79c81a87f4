-- What holds of the counts among the lines about a slot holds among all lines.
use Rattle.std.proofs.Common.{◌≡◌, ℕ, ◌+◌, ◌≤◌, max, Bool, true, false, Option, Some, None, IfSome, List, [], ◌∷◌, ◌++◌, length, cond, refl, sym, ap, ◌∙◌, subst, arith, append-nil, append_assoc, length-append}
use Rattle.std.specs.List.{cons_option}
use Rattle.std.specs.Prelude.{codes, decimal}
use Rattle.lawful_run.specs.Accepted.{accepted_command, command_count}
use Rattle.lawful_run.specs.Bounds.{Rises}
use Rattle.lawful_run.specs.LinesTold.{LineTold, EachFrom}
use Rattle.lawful_run.specs.Moves.{before_last_move, before_next_move, moves}
use Rattle.lawful_run.specs.Telling.{commands_told}
use Rattle.audit_core.specs.Bounds.{FirstCount, LiesBetween, last_count, least, most}
use Rattle.audit_core.specs.Meant.{command_taken, is_about, share}
use Rattle.audit_core.specs.OfSlot.{AreAnswered, CountsRise, LiesWithin, Within, told_of}
use Rattle.audit_core.specs.Places.{EachUpTo}
use Rattle.audit_core.specs.Telling.{at_line}
use Rattle.audit_core.specs.declared.telling.Break.{Break}
use Rattle.audit_core.proofs.CountLemmas.{commands_both, commands_push, counts_push}
use Rattle.audit_core.proofs.LineKinds.{KindOf, other, moved, answered, judged, refused, kind_of}
use Rattle.audit_core.proofs.MoveLemmas.{before_same_move, before_this_move, count_first, some_count}
use Rattle.audit_core.proofs.ShareLemmas.{command_about, counts_shared, moves_about}

-- lines tell of a slot, and bring it, what others do
pub record Alike (slot : ℕ) (prefix own : List LineTold) : Type 0 where
  pub commands : command_count slot prefix ≡ command_count slot own
  pub moved : command_count slot (before_last_move slot prefix) ≡ command_count slot (before_last_move slot own)
  pub told : told_of commands_told slot prefix ≡ told_of commands_told slot own

-- a line that isn't about the slot
pub record Silent (slot : ℕ) (now : LineTold) : Type 0 where
  pub stays : moves slot now ≡ false
  pub brings : accepted_command slot now ≡ None
  pub tells : commands_told slot now.entry ≡ None

silent_kind : (slot : ℕ) (now : LineTold) → KindOf slot now → is_about slot now ≡ false → Silent slot now
silent_kind slot now (other tells) away = record {
  stays = tells.moves_is;
  brings = tells.accepted_is;
  tells = tells.commands_is;
}
silent_kind slot now (moved noted is m tells) away = let no : true ≡ false = sym tells.about_is ∙ away in cc
silent_kind slot now (answered a c is m tells) away = let no : true ≡ false = sym tells.about_is ∙ away in cc
silent_kind slot now (judged j p is m tells) away = let no : true ≡ false = sym tells.about_is ∙ away in cc
silent_kind slot now (refused r is m tells) away = let no : true ≡ false = sym tells.about_is ∙ away in cc

none_brought : (slot : ℕ) (now : LineTold) → accepted_command slot now ≡ None → command_count slot (now ∷ []) ≡ 0
none_brought slot now none = ap (λ c. length (cons_option c [])) none

module _ (slot : ℕ) (prefix own : List LineTold) (now : LineTold) (alike : Alike slot prefix own) where
  alike_moved : (test : Bool) → moves slot now ≡ test
      → command_count slot (before_last_move slot (prefix ++ now ∷ []))
      ≡ command_count slot (before_last_move slot (own ++ now ∷ []))
  alike_moved true moves_ =
      ap (command_count slot) (before_this_move slot prefix now moves_) ∙ alike.commands
      ∙ ap (command_count slot) (sym (before_this_move slot own now moves_))
  alike_moved false stays =
      ap (command_count slot) (before_same_move slot prefix now stays) ∙ alike.moved
      ∙ ap (command_count slot) (sym (before_same_move slot own now stays))

  pub alike_both : Alike slot (prefix ++ now ∷ []) (own ++ now ∷ [])
  alike_both = record {
    commands = commands_push slot prefix now ∙ ap (λ n. n + command_count slot (now ∷ [])) alike.commands
        ∙ sym (commands_push slot own now);
    moved = alike_moved (moves slot now) refl;
    told = counts_push slot prefix now ∙ ap (λ counts. counts ++ cons_option (commands_told slot now.entry) []) alike.told
        ∙ sym (counts_push slot own now);
  }

  pub alike_one : Silent slot now → Alike slot (prefix ++ now ∷ []) own
  alike_one silent = record {
    commands = omega (arith, commands_push slot prefix now, none_brought slot now silent.brings, alike.commands);
    moved = ap (command_count slot) (before_same_move slot prefix now silent.stays) ∙ alike.moved;
    told = counts_push slot prefix now
        ∙ ap (λ told. told_of commands_told slot prefix ++ cons_option told []) silent.tells
        ∙ append-nil (told_of commands_told slot prefix) ∙ alike.told;
  }

-- the commands before the next move are those of lines about the slot
next_step : (slot : ℕ) (now : LineTold) (xs ys : List LineTold) (move : Bool)
    → command_count slot xs ≡ command_count slot ys
    → command_count slot (cond move [] (now ∷ xs)) ≡ command_count slot (cond move [] (now ∷ ys))
next_step slot now xs ys true same = refl
next_step slot now xs ys false same =
    count_first slot now xs ∙ ap (λ n. some_count (accepted_command slot now) + n) same ∙ sym (count_first slot now ys)

next_by : (slot : ℕ) (now : LineTold) (later : List LineTold) (test : Bool) → is_about slot now ≡ test
    → command_count slot (before_next_move slot later) ≡ command_count slot (before_next_move slot (share slot later))
    → command_count slot (before_next_move slot (now ∷ later))
    ≡ command_count slot (before_next_move slot (cond test (now ∷ share slot later) (share slot later)))
next_by slot now later true about same =
    next_step slot now (before_next_move slot later) (before_next_move slot (share slot later)) (moves slot now) same
next_by slot now later false away same =
    let none : accepted_command slot now ≡ None =
    command_about slot now.meaning now.entry ∙ ap (λ t. cond t (command_taken now) None) away in
    let zero_ : some_count (accepted_command slot now) ≡ 0 = ap some_count none in
    ap (λ m. command_count slot (cond m [] (now ∷ before_next_move slot later))) (moves_about slot now.meaning away)
    ∙ omega (arith, count_first slot now (before_next_move slot later), zero_, same)

pub next_alike : (slot : ℕ) (later : List LineTold)
    → command_count slot (before_next_move slot later) ≡ command_count slot (before_next_move slot (share slot later))
next_alike slot [] = refl
next_alike slot (now ∷ later) = next_by slot now later (is_about slot now) refl (next_alike slot later)

module _ (slot start : ℕ) (prefix own : List LineTold) (later : List LineTold) (alike : Alike slot prefix own) where
  pub least_alike : least slot start own ≡ least slot start prefix
  least_alike = (λ i. max (start + sym alike.moved i) (last_count start (sym alike.told i)))

  pub most_alike : most slot start own (share slot later) ≡ most slot start prefix later
  most_alike =
      omega (
        arith,
        commands_both slot own (before_next_move slot (share slot later)),
        commands_both slot prefix (before_next_move slot later),
        next_alike slot later,
        alike.commands,
      )

  pub lies_there : (told : Option ℕ)
      → IfSome told (λ count. (least slot start own ≤ count) × (count ≤ most slot start own (share slot later)))
      → IfSome told (λ count. (least slot start prefix ≤ count) × (count ≤ most slot start prefix later))
  lies_there None lies = tt
  lies_there (Some count) lies =
      (omega (arith, lies.0, least_alike), omega (arith, lies.1, most_alike))

  pub lies_back : (told : Option ℕ)
      → IfSome told (λ count. (least slot start prefix ≤ count) × (count ≤ most slot start prefix later))
      → IfSome told (λ count. (least slot start own ≤ count) × (count ≤ most slot start own (share slot later)))
  lies_back None lies = tt
  lies_back (Some count) lies =
      (omega (arith, lies.0, least_alike), omega (arith, lies.1, most_alike))

  pub within_there : (told : Option ℕ) → IfSome told (Within slot start own (share slot later))
      → IfSome told (Within slot start prefix later)
  within_there None lies = tt
  within_there (Some count) lies =
      (omega (arith, lies.0, alike.moved), omega (arith, lies.1, most_alike))

-- each within its bounds
abbrev Lifts : (slot start : ℕ) → List LineTold → Type 0
Lifts slot start rest = (n : ℕ) (prefix own : List LineTold) → AreAnswered n rest → Alike slot prefix own
    → EachFrom (LiesWithin slot start) own (share slot rest) → EachFrom (LiesWithin slot start) prefix rest

within_by : (slot start : ℕ) (now : LineTold) (rest : List LineTold) (test : Bool) → is_about slot now ≡ test
    → Lifts slot start rest → (n : ℕ) (prefix own : List LineTold) → AreAnswered n (now ∷ rest) → Alike slot prefix own
    → EachFrom (LiesWithin slot start) own (cond test (now ∷ share slot rest) (share slot rest))
    → EachFrom (LiesWithin slot start) prefix (now ∷ rest)
within_by slot start now rest true about again n prefix own are alike each = (
  within_there slot start prefix own rest alike (commands_told slot now.entry) each.0,
  again (n + 1) (prefix ++ now ∷ []) (own ++ now ∷ []) are.1 (alike_both slot prefix own now alike) each.1,
)
within_by slot start now rest false away again n prefix own are alike each =
    let silent = silent_kind slot now (kind_of n slot now are.0) away in (
      subst (λ told. IfSome told (Within slot start prefix rest)) (sym silent.tells) tt,
      again (n + 1) (prefix ++ now ∷ []) own are.1 (alike_one slot prefix own now alike silent) each,
    )

within_all : (slot start : ℕ) (rest : List LineTold) → Lifts slot start rest
within_all slot start [] = λ n prefix own are alike each. tt
within_all slot start (now ∷ rest) =
    within_by slot start now rest (is_about slot now) refl (within_all slot start rest)

pub counts_all : (n slot start : ℕ) (all : List LineTold) → AreAnswered n all
    → CountsRise slot start (share slot all) → CountsRise slot start all
counts_all n slot start all are rise = record {
  rises = subst (Rises start) (sym (counts_shared n slot all are)) rise.rises;
  within = within_all slot start all n [] [] are (record { commands = refl; moved = refl; told = refl }) rise.within;
}

-- the first that isn't, behind some lines
pub record FirstBehind (slot start : ℕ) (prefix lines : List LineTold) (told : Break) : Type 0 where
  pub same : List LineTold
  pub now : LineTold
  pub later : List LineTold
  pub parts : lines ≡ same ++ now ∷ later
  pub holds : EachUpTo (LiesBetween slot start) prefix same (now ∷ later)
  pub broken : ¬ LiesBetween slot start (prefix ++ same) now later
  pub is : told ≡ at_line now.entry
      (decimal (least slot start (prefix ++ same)) ++ (codes " to " ++ decimal (most slot start (prefix ++ same) later)))

abbrev BreaksAt : (slot start : ℕ) (told : Break) (prefix : List LineTold) (now : LineTold) (later : List LineTold) → Type 0
BreaksAt slot start told prefix now later =
    (¬ LiesBetween slot start prefix now later)
    × (told ≡ at_line now.entry (decimal (least slot start prefix) ++ (codes " to " ++ decimal (most slot start prefix later))))

breaks_there : (slot start : ℕ) (told : Break) (prefix own : List LineTold) (now : LineTold) (later : List LineTold)
    → Alike slot prefix own → BreaksAt slot start told own now (share slot later)
    → BreaksAt slot start told prefix now later
breaks_there slot start told prefix own now later alike breaks = (
  (λ lies. breaks.0 (lies_back slot start prefix own later alike (commands_told slot now.entry) lies)),
  breaks.1 ∙ (λ i. at_line now.entry (decimal (least_alike slot start prefix own later alike i)
      ++ (codes " to " ++ decimal (most_alike slot start prefix own later alike i)))),
)

module _ (slot start : ℕ) (told : Break) where
  -- a line more before them
  longer : (prefix : List LineTold) (first : LineTold) (rest : List LineTold)
      → (behind : FirstBehind slot start (prefix ++ first ∷ []) rest told)
      → LiesBetween slot start prefix first (behind.same ++ behind.now ∷ behind.later)
      → FirstBehind slot start prefix (first ∷ rest) told
  longer prefix first rest behind lies =
      let apart : (prefix ++ first ∷ []) ++ behind.same ≡ prefix ++ (first ∷ behind.same) =
      append_assoc prefix (first ∷ []) behind.same in
      let breaks : BreaksAt slot start told (prefix ++ (first ∷ behind.same)) behind.now behind.later =
      subst (λ xs. BreaksAt slot start told xs behind.now behind.later) apart (behind.broken, behind.is) in
      record {
        same = first ∷ behind.same;
        now = behind.now;
        later = behind.later;
        parts = ap (λ xs. first ∷ xs) behind.parts;
        holds = (lies, behind.holds);
        broken = breaks.0;
        is = breaks.1;
      }

  abbrev pub Breaks : List LineTold → Type 0
  Breaks rest = (n : ℕ) (prefix own same : List LineTold) (now : LineTold) (later : List LineTold)
      → AreAnswered n rest → Alike slot prefix own → share slot rest ≡ same ++ now ∷ later
      → EachUpTo (LiesBetween slot start) own same (now ∷ later)
      → BreaksAt slot start told (own ++ same) now later → FirstBehind slot start prefix rest told

  -- at this line
  breaks_here : (prefix own : List LineTold) (x : LineTold) (rest : List LineTold) (now : LineTold) (later : List LineTold)
      → Alike slot prefix own → x ∷ share slot rest ≡ now ∷ later → BreaksAt slot start told own now later
      → FirstBehind slot start prefix (x ∷ rest) told
  breaks_here prefix own x rest now later alike is it =
      let first : now ≡ x = cc in
      let others : later ≡ share slot rest = cc in
      let own_breaks : BreaksAt slot start told own x (share slot rest) =
      subst (λ y. BreaksAt slot start told own y (share slot rest)) first
      (subst (λ ys. BreaksAt slot start told own now ys) others it) in
      let at : BreaksAt slot start told (prefix ++ []) x rest =
      subst (λ xs. BreaksAt slot start told xs x rest) (sym (append-nil prefix))
      (breaks_there slot start told prefix own x rest alike own_breaks) in
      record {
        same = [];
        now = x;
        later = rest;
        parts = refl;
        holds = tt;
        broken = at.0;
        is = at.1;
      }

  -- or behind it
  first_by : (x : LineTold) (rest : List LineTold) (test : Bool) → is_about slot x ≡ test → Breaks rest
      → (n : ℕ) (prefix own same : List LineTold) (now : LineTold) (later : List LineTold)
      → AreAnswered n (x ∷ rest) → Alike slot prefix own
      → cond test (x ∷ share slot rest) (share slot rest) ≡ same ++ now ∷ later
      → EachUpTo (LiesBetween slot start) own same (now ∷ later)
      → BreaksAt slot start told (own ++ same) now later → FirstBehind slot start prefix (x ∷ rest) told
  first_by x rest false away again n prefix own same now later are alike is holds breaks =
      let silent = silent_kind slot x (kind_of n slot x are.0) away in
      let behind = again (n + 1) (prefix ++ x ∷ []) own same now later are.1 (alike_one slot prefix own x alike silent) is
      holds breaks in
      longer prefix x rest behind
      (subst (λ count. IfSome count (λ k. (least slot start prefix ≤ k)
      × (k ≤ most slot start prefix (behind.same ++ behind.now ∷ behind.later)))) (sym silent.tells) tt)
  first_by x rest true about again n prefix own [] now later are alike is holds breaks =
      breaks_here prefix own x rest now later alike is
      (subst (λ xs. BreaksAt slot start told xs now later) (append-nil own) breaks)
  first_by x rest true about again n prefix own (y ∷ same) now later are alike is holds breaks =
      let first : y ≡ x = cc in
      let others : share slot rest ≡ same ++ now ∷ later = cc in
      let lies : LiesBetween slot start own x (same ++ now ∷ later) =
      subst (λ z. LiesBetween slot start own z (same ++ now ∷ later)) first holds.0 in
      let each : EachUpTo (LiesBetween slot start) (own ++ x ∷ []) same (now ∷ later) =
      subst (λ z. EachUpTo (LiesBetween slot start) (own ++ z ∷ []) same (now ∷ later)) first holds.1 in
      let breaks_at : BreaksAt slot start told ((own ++ x ∷ []) ++ same) now later =
      subst (λ xs. BreaksAt slot start told xs now later) (sym (append_assoc own (x ∷ []) same))
      (subst (λ z. BreaksAt slot start told (own ++ (z ∷ same)) now later) first breaks) in
      let behind = again (n + 1) (prefix ++ x ∷ []) (own ++ x ∷ []) same now later are.1
      (alike_both slot prefix own x alike) others each breaks_at in
      longer prefix x rest behind
      (subst (λ xs. LiesBetween slot start prefix x xs) behind.parts
      (lies_there slot start prefix own rest alike (commands_told slot x.entry)
      (subst (λ xs. LiesBetween slot start own x xs) (sym others) lies)))

  pub first_all : (rest : List LineTold) → Breaks rest
  first_all [] = λ n prefix own same now later are alike parts holds breaks.
      absurd (omega (arith, ap length parts, length-append same (now ∷ later)))
  first_all (x ∷ rest) = first_by x rest (is_about slot x) refl (first_all rest)

pub first_count : (n slot start : ℕ) (all : List LineTold) (told : Break) → AreAnswered n all
    → FirstCount slot start (share slot all) told → FirstCount slot start all told
first_count n slot start all told are first =
    let behind = first_all slot start told all n [] [] first.prefix first.now first.later are
    (record { commands = refl; moved = refl; told = refl }) first.parts first.holds (first.broken, first.is) in
    record {
      prefix = behind.same;
      now = behind.now;
      later = behind.later;
      parts = behind.parts;
      holds = behind.holds;
      broken = behind.broken;
      is = behind.is;
    }

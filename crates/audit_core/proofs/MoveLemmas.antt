-- Moves of a slot, with one line more.
use Rattle.std.proofs.Common.{◌≡◌, ℕ, ◌+◌, ◌||◌, Bool, true, false, Option, Some, None, List, [], ◌∷◌, ◌++◌, length, cond, refl, ap, ◌∙◌, arith}
use Rattle.std.specs.List.{cons_option}
use Rattle.lawful_run.specs.Accepted.{accepted_command, commands_accepted, command_count}
use Rattle.lawful_run.specs.LinesTold.{LineTold}
use Rattle.lawful_run.specs.Moves.{moves, is_moved, before_last_move}

-- whether it is moved
pub still_unmoved : (slot : ℕ) (lines : List LineTold) (now : LineTold) → moves slot now ≡ false
    → is_moved slot (lines ++ now ∷ []) ≡ is_moved slot lines
still_unmoved slot [] now stays = ap (λ m. m || false) stays
still_unmoved slot (first ∷ lines) now stays = ap (λ m. moves slot first || m) (still_unmoved slot lines now stays)

or_true : (m : Bool) → (m || true) ≡ true
or_true true = refl
or_true false = refl

pub now_moved : (slot : ℕ) (lines : List LineTold) (now : LineTold) → moves slot now ≡ true
    → is_moved slot (lines ++ now ∷ []) ≡ true
now_moved slot [] now moved = ap (λ m. m || false) moved
now_moved slot (first ∷ lines) now moved = ap (λ m. moves slot first || m) (now_moved slot lines now moved)
    ∙ or_true (moves slot first)

-- the lines before the last move
pub before_same_move : (slot : ℕ) (lines : List LineTold) (now : LineTold) → moves slot now ≡ false
    → before_last_move slot (lines ++ now ∷ []) ≡ before_last_move slot lines
before_same_move slot [] now stays = refl
before_same_move slot (first ∷ lines) now stays =
    λ i. cond (still_unmoved slot lines now stays i) (first ∷ before_same_move slot lines now stays i) []

pub before_this_move : (slot : ℕ) (lines : List LineTold) (now : LineTold) → moves slot now ≡ true
    → before_last_move slot (lines ++ now ∷ []) ≡ lines
before_this_move slot [] now moved = refl
before_this_move slot (first ∷ lines) now moved =
    (λ i. cond (now_moved slot lines now moved i) (first ∷ before_this_move slot lines now moved i) [])

-- how many commands a line adds
abbrev pub some_count : {X : Type 0} → Option X → ℕ
some_count x = length (cons_option x [])

count_cons : {X : Type 0} (x : Option X) (xs : List X) → length (cons_option x xs) ≡ some_count x + length xs
count_cons None xs = omega arith
count_cons (Some x) xs = omega arith

pub count_first : (slot : ℕ) (now : LineTold) (later : List LineTold)
    → command_count slot (now ∷ later) ≡ some_count (accepted_command slot now) + command_count slot later
count_first slot now later = count_cons (accepted_command slot now) (commands_accepted slot later)

-- A slot's last move, behind one line more.
use Rattle.std.proofs.Common.{◌≡◌, ℕ, ◌||◌, Bool, true, false, List, [], ◌∷◌, ◌++◌, cond, refl, ap, ◌∙◌}
use Rattle.std.proofs.lemmas.Bool.{or_right}
use Rattle.lawful_run.specs.LinesTold.{LineTold}
use Rattle.lawful_run.specs.Moves.{moves, is_moved, before_last_move, behind_last_move}
use Rattle.lawful_run.proofs.Ceilings.{is_moved-behind}

-- before it
pub is_moved-last : (slot : ℕ) (prefix : List LineTold) (now : LineTold) → moves slot now ≡ false
    → is_moved slot (prefix ++ now ∷ []) ≡ is_moved slot prefix
is_moved-last slot [] now none = ap (λ test. test || false) none
is_moved-last slot (first ∷ prefix) now none =
    ap (λ rest. moves slot first || rest) (is_moved-last slot prefix now none)

pub last_move-push : (slot : ℕ) (prefix : List LineTold) (now : LineTold) (test : Bool) → moves slot now ≡ test
    → before_last_move slot (prefix ++ now ∷ []) ≡ cond test prefix (before_last_move slot prefix)
last_move-push slot [] now true is = refl
last_move-push slot [] now false is = refl
last_move-push slot (first ∷ prefix) now true is =
    ap (λ moved. cond moved (first ∷ before_last_move slot (prefix ++ now ∷ [])) [])
    (is_moved-behind slot prefix (now ∷ []) (ap (λ test. test || false) is))
    ∙ ap (λ rest. first ∷ rest) (last_move-push slot prefix now true is)
last_move-push slot (first ∷ prefix) now false is =
    let moved = is_moved-last slot prefix now is in
    let rest = last_move-push slot prefix now false is in
    λ i. cond (moved i) (first ∷ rest i) []

-- the lines since the last move, with one more
cond-push : (test : Bool) (some others : List LineTold) (now : LineTold)
    → cond test (some ++ now ∷ []) (others ++ now ∷ []) ≡ cond test some others ++ now ∷ []
cond-push true some others now = refl
cond-push false some others now = refl

pub since-move : (slot : ℕ) (prefix : List LineTold) (now : LineTold) → moves slot now ≡ true
    → behind_last_move slot (prefix ++ now ∷ []) ≡ []
since-move slot [] now is = ap (λ test. cond (test || false) [] (now ∷ [])) is
since-move slot (first ∷ prefix) now is =
    ap (λ moved. cond (moves slot first || moved) (behind_last_move slot (prefix ++ now ∷ []))
    (first ∷ prefix ++ now ∷ [])) (is_moved-behind slot prefix (now ∷ []) (ap (λ test. test || false) is))
    ∙ ap (λ test. cond test (behind_last_move slot (prefix ++ now ∷ [])) (first ∷ prefix ++ now ∷ []))
    (or_right (moves slot first) true refl)
    ∙ since-move slot prefix now is

pub since-other : (slot : ℕ) (prefix : List LineTold) (now : LineTold) → moves slot now ≡ false
    → behind_last_move slot (prefix ++ now ∷ []) ≡ behind_last_move slot prefix ++ now ∷ []
since-other slot [] now is = ap (λ test. cond (test || false) [] (now ∷ [])) is
since-other slot (first ∷ prefix) now is =
    let moved = is_moved-last slot prefix now is in
    let rest = since-other slot prefix now is in
    (λ i. cond (moves slot first || moved i) (rest i) (first ∷ prefix ++ now ∷ []))
    ∙ cond-push (is_moved slot (first ∷ prefix)) (behind_last_move slot prefix) (first ∷ prefix) now

-- The third sentence: the first packet of a slot in an epoch whose count of commands falls, or passes its bounds.
use Rattle.std.specs.Prelude.{◌≡◌, ℕ, ◌+◌, ◌<◌, ◌≤◌, max, IfSome, List, [], ◌∷◌, ◌++◌, codes, decimal}
use Rattle.lawful_run.specs.Accepted.{command_count}
use Rattle.lawful_run.specs.LinesTold.{LineTold}
use Rattle.lawful_run.specs.Merging.{Histories}
use Rattle.lawful_run.specs.Moves.{before_last_move, before_next_move}
use Rattle.lawful_run.specs.Bounds.{count_before}
use Rattle.lawful_run.specs.Telling.{commands_told}
use Rattle.audit_core.specs.OfSlot.{told_of, CountsRise}
use Rattle.audit_core.specs.Places.{EachUpTo}
use Rattle.audit_core.specs.Telling.{at_line}
use Rattle.audit_core.specs.declared.telling.Break.{Break}

-- the last of some counts, or the first where there is none
abbrev pub last_count : ℕ → List ℕ → ℕ
last_count start [] = start
last_count start (count ∷ counts) = last_count count counts

abbrev pub last_before : (slot start : ℕ) → List LineTold → ℕ
last_before slot start before = last_count start (told_of commands_told slot before)

-- The least and the most commands that a packet of a slot may have before it, where the slot had so many before the
-- epoch: at least those before the slot's last move, and as many as the packet before it; at most those before the next
-- move.
abbrev pub least : (slot start : ℕ) → List LineTold → ℕ
least slot start before =
    max (start + command_count slot (before_last_move slot before)) (last_before slot start before)

abbrev pub most : (slot start : ℕ) → List LineTold → List LineTold → ℕ
most slot start before later = start + command_count slot (before ++ before_next_move slot later)

abbrev pub LiesBetween : (slot start : ℕ) → List LineTold → LineTold → List LineTold → Type 0
LiesBetween slot start before now later =
    IfSome (commands_told slot now.entry) (λ count.
    (least slot start before ≤ count) × (count ≤ most slot start before later))

-- The first packet of the slot that doesn't lie so.
pub record FirstCount (slot start : ℕ) (lines : List LineTold) (told : Break) : Type 0 where
  pub prefix : List LineTold
  pub now : LineTold
  pub later : List LineTold
  pub parts : lines ≡ prefix ++ now ∷ later
  pub holds : EachUpTo (LiesBetween slot start) [] prefix (now ∷ later)
  pub broken : ¬ LiesBetween slot start prefix now later
  pub is : told ≡ at_line now.entry
      (decimal (least slot start prefix) ++ (codes " to " ++ decimal (most slot start prefix later)))

-- in the lowest slot of an epoch
pub record IsCountBreak (before : Histories) (lines : List LineTold) (told : Break) : Type 0 where
  pub slot : ℕ
  pub below : (other : ℕ) → other < slot → CountsRise other (count_before before other) lines
  pub first : FirstCount slot (count_before before slot) lines told

-- The first place at which something that holds of what stands before it doesn't hold.
use Rattle.std.specs.Prelude.{◌≡◌, ◌≢◌, List, [], ◌∷◌, ◌++◌, Option, Some, None}
use Rattle.lawful_run.specs.LinesTold.{LineTold}
use Rattle.lawful_run.specs.Merging.{Histories}
use Rattle.lawful_run.specs.Run.{no_events}
use Rattle.audit_core.specs.Sentences.{EachEpoch, behind_epochs}

-- The first epoch: something holds of those before it, each behind the events before it, and not of this one.
pub record FirstEpoch (P : Histories → List LineTold → Type 0) (epochs prefix : List (List LineTold))
    (lines : List LineTold) : Type 0 where
  pub later : List (List LineTold)
  pub parts : epochs ≡ prefix ++ lines ∷ later
  pub holds : EachEpoch P no_events prefix
  pub broken : ¬ P (behind_epochs no_events prefix) lines

-- The first line: something holds of the lines before it, and not with it.
pub record FirstLine (P : List LineTold → Type 0) (lines prefix : List LineTold) (now : LineTold) : Type 0 where
  pub later : List LineTold
  pub parts : lines ≡ prefix ++ now ∷ later
  pub holds : P prefix
  pub broken : ¬ P (prefix ++ now ∷ [])

-- the first item, where there is one
abbrev pub first_of : {X : Type 0} → List X → Option X
first_of [] = None
first_of (first ∷ later) = Some first

-- The first place at which two lists differ: what one has there, and what the other has.
pub record FirstDifference {X : Type 0} (told made : List X) (stands due : Option X) : Type 0 where
  pub same : List X
  pub told_left : List X
  pub made_left : List X
  pub told_parts : told ≡ same ++ told_left
  pub made_parts : made ≡ same ++ made_left
  pub stands_there : stands ≡ first_of told_left
  pub due_there : due ≡ first_of made_left
  pub differ : stands ≢ due

-- something holds of each line up to a place, with all that is behind it
abbrev pub EachUpTo : (List LineTold → LineTold → List LineTold → Type 0) → (before lines behind : List LineTold)
    → Type 0
EachUpTo P before [] behind = Unit {0}
EachUpTo P before (now ∷ lines) behind =
    P before now (lines ++ behind) × EachUpTo P (before ++ now ∷ []) lines behind

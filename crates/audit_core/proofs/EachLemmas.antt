-- What holds of each epoch.
use Rattle.std.proofs.Common.{List, [], ◌∷◌, ◌++◌}
use Rattle.lawful_run.specs.LinesTold.{LineTold}
use Rattle.lawful_run.specs.Merging.{Histories, behind}
use Rattle.audit_core.specs.Sentences.{EachEpoch, behind_epochs}

-- what holds of each epoch holds of one of them, behind those before it; and what holds of these and of it
pub each_at : (P : Histories → List LineTold → Type 0) (before : Histories) (prefix : List (List LineTold))
    (lines : List LineTold) (later : List (List LineTold)) → EachEpoch P before (prefix ++ lines ∷ later)
    → P (behind_epochs before prefix) lines
each_at P before [] lines later each = each.0
each_at P before (first ∷ prefix) lines later each = each_at P (behind before first) prefix lines later each.1

pub each_more : (P : Histories → List LineTold → Type 0) (before : Histories) (prefix : List (List LineTold))
    (lines : List LineTold) → EachEpoch P before prefix → P (behind_epochs before prefix) lines
    → EachEpoch P before (prefix ++ lines ∷ [])
each_more P before [] lines each here = (here, tt)
each_more P before (first ∷ prefix) lines each here = (each.0, each_more P (behind before first) prefix lines each.1 here)

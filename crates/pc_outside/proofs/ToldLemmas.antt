-- What is said where a source tells its octets, step after step.
use Rattle.std.proofs.Common.{ℕ, List, Option, None, Some}
use Rattle.pc_outside.specs.WhereTold.{WhereTold}

-- what follows from what is said
pub told_map : (start left : Option (List ℕ)) (P Q : List ℕ → List ℕ → Type 0)
    → ((octets rest : List ℕ) → P octets rest → Q octets rest)
    → WhereTold start left P → WhereTold start left Q
told_map None left P Q follows said = tt
told_map (Some octets) None P Q follows said = absurd said
told_map (Some octets) (Some rest) P Q follows said = follows octets rest said

-- one step after the other
pub told_then : (start mid left : Option (List ℕ)) (P Q R : List ℕ → List ℕ → Type 0)
    → ((octets ahead rest : List ℕ) → P octets ahead → Q ahead rest → R octets rest)
    → WhereTold start mid P → WhereTold mid left Q → WhereTold start left R
told_then None mid left P Q R follows first second = tt
told_then (Some octets) None left P Q R follows first second = absurd first
told_then (Some octets) (Some ahead) None P Q R follows first second = absurd second
told_then (Some octets) (Some ahead) (Some rest) P Q R follows first second = follows octets ahead rest first second

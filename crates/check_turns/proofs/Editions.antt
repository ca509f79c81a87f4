-- What an edition behind the last one meets.
use Rattle.std.proofs.Common.{◌≡◌, ◌+◌, List, [], ◌∷◌, ◌++◌}
use Rattle.control_half.specs.Consecutive.{IsNext}
use Rattle.control_half.proofs.Runs.{next_after}
use Rattle.check_turns.specs.declared.batching.Edition.{Edition}

pub edition_after : (editions : List Edition) (last next : Edition) → next.0 ≡ last.0 + 1
    → IsNext (λ (e : Edition). e.0) (editions ++ last ∷ []) next
edition_after editions last next is = next_after (λ (e : Edition). e.0) editions last next is

pub second_edition : (first next : Edition) → next.0 ≡ first.0 + 1
    → IsNext (λ (e : Edition). e.0) (first ∷ []) next
second_edition first next is = next_after (λ (e : Edition). e.0) [] first next is

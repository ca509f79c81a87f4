-- Lines are answered one behind another.
use Rattle.std.proofs.Common.{[], ◌∷◌, refl, subst}
use Rattle.solo_command.specs.Gateway.{AnswersLines, Gateway}
use Rattle.solo_command.specs.GatewayLaws.{LinesGoOn, NextLineGoesOn}

pub lines_then : LinesGoOn
lines_then slices [] more old between new [] others first second =
    subst (λ (x : Gateway). AnswersLines slices more x others new) first second
lines_then slices [] more old between new (one ∷ told) others first second = absurd first
lines_then slices (line ∷ lines) more old between new [] others first second = absurd first
lines_then slices (line ∷ lines) more old between new (one ∷ told) others first second =
    (first.0, first.1, lines_then slices lines more first.0 between new told others first.2 second)

pub line_then : NextLineGoesOn
line_then slices lines line old between new told one first next =
    lines_then slices lines (line ∷ []) old between new told (one ∷ []) first (new, next, refl)

-- The written trace without the planned moves.
use Rattle.std.proofs.Common.{◌≡◌, ℕ, List, [], ◌∷◌, ◌++◌, map, refl, sym, ap, ◌∙◌, append_assoc, append-nil}
use Rattle.std.specs.Prelude.{fold}
use Rattle.std.proofs.lemmas.List.Elements.{filter_map-append}
use Rattle.report_lines.specs.declared.entry.Entry.{Entry}
use Rattle.trace_lines.specs.Line.{Line}
use Rattle.balance_plan.specs.Balance.{Balance, balance_of, balanced, nothing, planned_at, with_given, with_line}
use Rattle.balance_plan.specs.Written.{given, given_in, planned, without_planned}

planned_are_none : (moves : List Line) → without_planned (map planned moves) ≡ []
planned_are_none [] = refl
planned_are_none (move ∷ moves) = planned_are_none moves

line_apart : (slices most : ℕ) (entries : List Entry) (so_far : Balance) (line : Line)
    → without_planned (with_line slices most entries so_far line).written
    ≡ without_planned so_far.written ++ line ∷ []
line_apart slices most entries so_far line =
    filter_map-append given_in (with_given so_far line) (map planned (planned_at slices most entries so_far line))
    ∙ (λ i. filter_map-append given_in so_far.written (given line ∷ []) i
    ++ planned_are_none (planned_at slices most entries so_far line) i)
    ∙ append-nil (without_planned so_far.written ++ line ∷ [])

apart_from : (slices most : ℕ) (entries : List Entry) (so_far : Balance) (lines : List Line)
    → without_planned (fold (with_line slices most entries) so_far lines).written
    ≡ without_planned so_far.written ++ lines
apart_from slices most entries so_far [] = sym (append-nil (without_planned so_far.written))
apart_from slices most entries so_far (line ∷ lines) =
    apart_from slices most entries (with_line slices most entries so_far line) lines
    ∙ ap (λ t. t ++ lines) (line_apart slices most entries so_far line)
    ∙ append_assoc (without_planned so_far.written) (line ∷ []) lines

pub apart : (slices most : ℕ) (entries : List Entry) (lines : List Line)
    → without_planned (balanced slices most entries lines) ≡ lines
unfolding balance_of
apart slices most entries lines = apart_from slices most entries nothing lines

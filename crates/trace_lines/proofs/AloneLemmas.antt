-- A line means the same under each least moment, but for the moment itself.
use Rattle.std.proofs.Common.{◌≡◌, ℕ, ◌-◌, ◌^◌, Bool, true, false, List, [], ◌∷◌, refl, arith, Result, Ok, Err, cond}
use Rattle.std.proofs.lemmas.Bool.{le-ltb}
use Rattle.text_fields.specs.Fields.{fields_of, has_empty_field}
use Rattle.trace_lines.specs.declared.bad.LineBad.{LineBad}
use Rattle.trace_lines.specs.declared.bad.LineBad.TheVariants.{Field}
use Rattle.trace_lines.specs.Kind.{LineKind}
use Rattle.trace_lines.specs.Line.{Line}
use Rattle.trace_lines.specs.Refused.{◌>>=◌}
use Rattle.trace_lines.specs.Meaning.{number_meaning, kind_meaning, moment_meaning, line_of_fields, line_meaning, not_before}

-- no moment is below 0
of_moment : (least number at : ℕ) (said : LineKind)
    → moment_meaning least number at said ≡ not_before least (moment_meaning 0 number at said)
of_moment least number at said = rw (le-ltb at 0 (omega arith)) refl

of_parts : (least number : ℕ) (moment : Result ℕ LineBad) (kind : Result LineKind LineBad)
    → (moment >>= (λ at. kind >>= (λ said. moment_meaning least number at said)))
    ≡ not_before least (moment >>= (λ at. kind >>= (λ said. moment_meaning 0 number at said)))
of_parts least number (Ok at) (Ok said) = of_moment least number at said
of_parts least number (Ok at) (Err why) = refl
of_parts least number (Err why) kind = refl

of_fields : (least number : ℕ) (fields : List (List ℕ))
    → line_of_fields least number fields ≡ not_before least (line_of_fields 0 number fields)
of_fields least number [] = refl
of_fields least number (moment ∷ []) = refl
of_fields least number (moment ∷ word ∷ arguments) =
    of_parts least number (number_meaning 0 (2 ^ 50 - 1) moment) (kind_meaning word arguments)

of_text : (least : ℕ) (empty : Bool) (read alone : Result Line LineBad) → read ≡ not_before least alone
    → cond empty (Err Field) read ≡ not_before least (cond empty (Err Field) alone)
of_text least true read alone same = refl
of_text least false read alone same = same

pub meant_alone : (least number : ℕ) (text : List ℕ)
    → line_meaning least number text ≡ not_before least (line_meaning 0 number text)
meant_alone least number text =
    of_text least (has_empty_field text) (line_of_fields least number (fields_of text))
    (line_of_fields 0 number (fields_of text)) (of_fields least number (fields_of text))

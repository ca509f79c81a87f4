-- What a line means among others, by what it means apart from them.
use Rattle.std.proofs.Common.{◌≡◌, ℕ, ◌-◌, ◌^◌, ◌⊎◌, inl, inr, Bool, true, false, List, [], ◌∷◌, refl, ap, sym, ◌∙◌, arith, cond, Result, Ok, Err}
use Rattle.std.proofs.lemmas.Bool.{le-ltb}
use Rattle.text_fields.specs.Fields.{fields_of, has_empty_field}
use Rattle.trace_lines.specs.declared.bad.LineBad.{LineBad}
use Rattle.trace_lines.specs.declared.bad.LineBad.TheVariants.{Field, NoMemory}
use Rattle.trace_lines.specs.Kind.{LineKind}
use Rattle.trace_lines.specs.Line.{Line}
use Rattle.trace_lines.specs.Refused.{◌>>=◌}
use Rattle.trace_lines.specs.Meaning.{number_meaning, kind_meaning, moment_meaning, line_of_fields, line_meaning, not_before}
use Rattle.trace_lines.proofs.AloneLemmas.{meant_alone}
use Rattle.replay_command.specs.Apart.{MeansApart, numbered}

-- ---- the number is no part of what the text says

of_moment : (number at : ℕ) (said : LineKind)
    → moment_meaning 0 number at said ≡ numbered number (moment_meaning 0 0 at said)
of_moment number at said = rw (le-ltb at 0 (omega arith)) refl

of_parts : (number : ℕ) (moment : Result ℕ LineBad) (kind : Result LineKind LineBad)
    → (moment >>= (λ at. kind >>= (λ said. moment_meaning 0 number at said)))
    ≡ numbered number (moment >>= (λ at. kind >>= (λ said. moment_meaning 0 0 at said)))
of_parts number (Ok at) (Ok said) = of_moment number at said
of_parts number (Ok at) (Err why) = refl
of_parts number (Err why) kind = refl

of_fields : (number : ℕ) (fields : List (List ℕ))
    → line_of_fields 0 number fields ≡ numbered number (line_of_fields 0 0 fields)
of_fields number [] = refl
of_fields number (moment ∷ []) = refl
of_fields number (moment ∷ word ∷ arguments) =
    of_parts number (number_meaning 0 (2 ^ 50 - 1) moment) (kind_meaning word arguments)

of_text : (number : ℕ) (empty : Bool) (read apart : Result Line LineBad) → read ≡ numbered number apart
    → cond empty (Err Field) read ≡ numbered number (cond empty (Err Field) apart)
of_text number true read apart same = refl
of_text number false read apart same = same

meant_numbered : (number : ℕ) (text : List ℕ) → line_meaning 0 number text ≡ numbered number (line_meaning 0 0 text)
meant_numbered number text =
    of_text number (has_empty_field text) (line_of_fields 0 number (fields_of text)) (line_of_fields 0 0 (fields_of text))
    (of_fields number (fields_of text))

-- ---- what was read apart, told in its place

meant_among : (least number : ℕ) (text : List ℕ) (apart : Result Line LineBad) → line_meaning 0 0 text ≡ apart
    → line_meaning least number text ≡ not_before least (numbered number apart)
meant_among least number text apart is =
    meant_alone least number text ∙ ap (not_before least) (meant_numbered number text ∙ ap (numbered number) is)

pub told_line : (least number : ℕ) (text : List ℕ) (apart : Result Line LineBad) (line : Line) → MeansApart apart text
    → Ok line ≡ not_before least (numbered number apart) → line_meaning least number text ≡ Ok line
told_line least number text (Ok read) line means told = meant_among least number text (Ok read) means ∙ sym told
told_line least number text (Err why) line means told = cc

pub told_bad : (least number : ℕ) (text : List ℕ) (apart : Result Line LineBad) (why : LineBad) → MeansApart apart text
    → Err why ≡ not_before least (numbered number apart)
    → (why ≡ NoMemory) ⊎ (line_meaning least number text ≡ Err why)
told_bad least number text (Ok read) why means told =
    inr (meant_among least number text (Ok read) means ∙ sym told)
told_bad least number text (Err bad) why (inl none) told =
    let same : why ≡ bad = cc in inl (same ∙ none)
told_bad least number text (Err bad) why (inr means) told =
    inr (meant_among least number text (Err bad) means ∙ sym told)

-- ---- where memory ran out behind a line

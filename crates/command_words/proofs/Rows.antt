-- Rows for options that are given.
use Rattle.std.proofs.Common.{◌≡◌, ◌||◌, ◌∙◌, Bool, true, false, cond, refl, ap, List, [], ◌∷◌, ◌++◌, map, append-nil, codes}
use Rattle.std.specs.Str.{bytes_eq}
use Rattle.clap.specs.Walk.{Row, at_row, has_row, more_values, used, with_values, without}
use Rattle.clap.specs.declared.parser.matches.ValueSource.TheVariants.{CommandLine}
use Rattle.clap.specs.declared.builder.value_parser.Reading.TheVariants.{AsWritten}
use Rattle.command_words.specs.Options.{Given, flag, value, is_given, name_of, with_value, without_value}
use Rattle.command_words.specs.Program.{built_rule, given_row, row_with}
use Rattle.command_words.specs.Words.{Text}

-- a row that isn't there is added at the end
pub at_new_row : (id : Text) (change : Row → List Row) (missing rows : List Row) → has_row id rows ≡ false
    → at_row id change missing rows ≡ rows ++ missing
at_new_row id change missing [] new = refl
at_new_row id change missing (row ∷ rows) new = go (bytes_eq row.id id) (at_new_row id change missing rows) new
  where
    go : (b : Bool) → (has_row id rows ≡ false → at_row id change missing rows ≡ rows ++ missing)
        → (b || has_row id rows) ≡ false
        → cond b (change row ++ rows) (row ∷ at_row id change missing rows) ≡ row ∷ (rows ++ missing)
    go true more e = absurd (cc)
    go false more e = ap (λ behind. row ∷ behind) (more e)

without_new : (id : Text) (rows : List Row) → has_row id rows ≡ false → without id rows ≡ rows
without_new id rows new = at_new_row id (λ _. []) [] rows new ∙ append-nil rows

added : (name text : Text) (rows : List Row) → has_row name rows ≡ false
    → with_values name AsWritten CommandLine (text ∷ []) (without name rows) ≡ rows ++ row_with name text ∷ []
added name text rows new = ap (with_values name AsWritten CommandLine (text ∷ [])) (without_new name rows new)
    ∙ at_new_row name (more_values CommandLine (text ∷ [])) (row_with name text ∷ []) rows new

pub used_value : (name text : Text) (rows : List Row) → has_row name rows ≡ false
    → used (built_rule (with_value name)) (text ∷ []) rows ≡ rows ++ given_row (value name text) ∷ []
used_value name text rows new = added name text rows new

pub used_flag : (name : Text) (rows : List Row) → has_row name rows ≡ false
    → used (built_rule (without_value name)) [] rows ≡ rows ++ given_row (flag name) ∷ []
used_flag name rows new = added name (codes "true") rows new

row_name : (given : Given) → (given_row given).id ≡ name_of given
row_name (flag name) = refl
row_name (value name text) = refl

pub given_rows : (name : Text) (given : List Given) → has_row name (map given_row given) ≡ is_given name given
given_rows name [] = refl
given_rows name (first ∷ rest) =
    ap (λ id. bytes_eq id name || has_row name (map given_row rest)) (row_name first)
    ∙ ap (λ b. bytes_eq (name_of first) name || b) (given_rows name rest)

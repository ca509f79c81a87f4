-- What a word of a command line is.
use Rattle.std.specs.Prelude.{ℕ, ◌==◌, Bool, true, false, List, [], ◌∷◌, if◌then◌else◌}
use Rattle.std.specs.List.{list_any, before_first, after_first}

abbrev pub Text : Type 0
Text = List ℕ

abbrev pub is_hyphen : ℕ → Bool
is_hyphen octet = octet == 45

abbrev pub is_equals : ℕ → Bool
is_equals octet = octet == 61

-- `--name`; `--name=value`; a text that begins with no hyphen; and what is none of these: `-`, `--`, `-h`, `-5`
pub data Word : Type 0 where
  named : Text → Word
  paired : Text → Text → Word
  plain : Text → Word
  stray : Word

-- a name, which the first `=` ends, and what stands behind that
abbrev pub name_word : Text → Word
name_word text =
    if list_any is_equals text then paired (before_first is_equals text) (after_first is_equals text)
    else named (before_first is_equals text)

-- behind two hyphens
abbrev pub long_word : Text → Word
long_word [] = stray
long_word (octet ∷ rest) = name_word (octet ∷ rest)

-- behind one hyphen
abbrev pub hyphen_word : Text → Word
hyphen_word [] = stray
hyphen_word (octet ∷ rest) = if is_hyphen octet then long_word rest else stray

abbrev pub word_of : Text → Word
word_of [] = plain []
word_of (octet ∷ rest) = if is_hyphen octet then hyphen_word rest else plain (octet ∷ rest)

abbrev pub is_stray : Word → Bool
is_stray stray = true
is_stray (named name) = false
is_stray (paired name text) = false
is_stray (plain text) = false

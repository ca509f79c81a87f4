-- The options that words give to a command.
use Rattle.std.specs.Prelude.{◌&&◌, ◌||◌, not, Bool, true, false, List, [], ◌∷◌, ◌++◌, map, find, Option}
use Rattle.std.specs.Prelude.{Some, None, option_map, option_and_then, if◌then◌else◌}
use Rattle.std.specs.List.{list_any}
use Rattle.std.specs.Option.{option_map_or}
use Rattle.std.specs.Str.{bytes_eq}
use Rattle.command_words.specs.Words.{Text, Word, named, paired, plain, stray, word_of}

-- An option of a command: its name, and whether it has a value.
pub record Form : Type 0 where
  pub name : Text
  pub has_value : Bool

abbrev pub with_value : Text → Form
with_value name = record { name = name; has_value = true }

abbrev pub without_value : Text → Form
without_value name = record { name = name; has_value = false }

-- the option of this name
abbrev pub form_named : Text → List Form → Option Form
form_named name = find (λ form. bytes_eq form.name name)

abbrev pub takes_value : List Form → Text → Bool
takes_value forms name = option_map_or (λ form. form.has_value) (form_named name forms) false

abbrev pub takes_none : List Form → Text → Bool
takes_none forms name = option_map_or (λ form. not form.has_value) (form_named name forms) false

-- An option as words give it.
pub data Given : Type 0 where
  flag : Text → Given
  value : Text → Text → Given

abbrev pub name_of : Given → Text
name_of (flag name) = name
name_of (value name text) = name

-- with this option before, where it is one that the command takes
abbrev pub with_option : Bool → Given → Option (List Given) → Option (List Given)
with_option taken given rest = if taken then option_map (λ more. given ∷ more) rest else None

-- The options that words give, in their order: one without a value is `--name`, one with a value `--name value` or
-- `--name=value`.
abbrev pub options : List Form → List Word → Option (List Given)
options forms [] = Some []
options forms (named name ∷ plain text ∷ rest) = with_option (takes_value forms name) (value name text)
    (options forms rest)
options forms (named name ∷ rest) = with_option (takes_none forms name) (flag name) (options forms rest)
options forms (paired name text ∷ rest) = with_option (takes_value forms name) (value name text) (options forms rest)
options forms (plain text ∷ rest) = None
options forms (stray ∷ rest) = None

-- an option of this name is among them
abbrev pub is_given : Text → List Given → Bool
is_given name = list_any (λ given. bytes_eq (name_of given) name)

-- each stands once, and none of them among those before
abbrev pub are_new : List Given → List Given → Bool
are_new before [] = true
are_new before (given ∷ rest) = not (is_given (name_of given) before) && are_new (before ++ given ∷ []) rest

-- the same, each at most once
abbrev pub given_once : List Form → List Text → Option (List Given)
given_once forms words = option_and_then (λ given. if are_new [] given then Some given else None)
    (options forms (map word_of words))

-- whether a flag is given, and the text of a value
abbrev pub has_flag : Text → List Given → Bool
has_flag name [] = false
has_flag name (flag other ∷ rest) = bytes_eq other name || has_flag name rest
has_flag name (value other text ∷ rest) = has_flag name rest

abbrev pub value_of : Text → List Given → Option Text
value_of name [] = None
value_of name (flag other ∷ rest) = value_of name rest
value_of name (value other text ∷ rest) = if bytes_eq other name then Some text else value_of name rest

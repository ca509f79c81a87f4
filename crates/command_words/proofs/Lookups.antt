-- What is found of an option: its value, or whether a flag is given.
use Rattle.std.proofs.Common.{◌≡◌, ◌||◌, ◌∙◌, not, ℕ, Bool, true, false, cond, refl, sym, ap, subst, List, [], ◌∷◌, ◌++◌, map, fold, find, Option, Some, None, option_and_then, slice_get, codes}
use Rattle.std.specs.List.{list_all, list_any}
use Rattle.std.specs.Option.{option_map_or}
use Rattle.std.specs.Str.{bytes_eq}
use Rattle.text_fields.specs.Number.{number_in}
use Rattle.command_words.specs.Job.{lanes_by, lanes_of, number_of}
use Rattle.std.proofs.lemmas.Slice.Eq.{bytes_eq-Decides}
use Rattle.clap.proofs.WalkLemmas.{first_value-rows, one_text-rows}
use Rattle.clap.specs.Matches.{first_value, found_of, one_text}
use Rattle.clap.specs.Walk.{Row, first_of, has_row, more_values, one_of, with_default}
use Rattle.clap.specs.declared.builder.value_parser.Reading.TheVariants.{AsWritten}
use Rattle.clap.specs.declared.parser.matches.ArgMatches.{ArgMatches}
use Rattle.clap.specs.declared.parser.matches.ValueSource.TheVariants.{DefaultValue}
use Rattle.command_words.specs.Options.{Form, Given, flag, value, has_flag, takes_none, takes_value, value_of}
use Rattle.command_words.specs.Program.{Gives, built_rule, fits, found_rows, given_row, row_with}
use Rattle.command_words.specs.Words.{Text}
use Rattle.command_words.proofs.Emptiness.{both}
use Rattle.command_words.proofs.Forms.{Formed, unknown, valued, flagged, formed}
use Rattle.command_words.proofs.Rows.{at_new_row}

abbrev is : Text → Row → Bool
is name row = bytes_eq row.id name

abbrev default_row : Text → Row
default_row name = record {
  id = name;
  values = codes "false" ∷ [];
  count = None;
  source = Some DefaultValue;
  reading =
      AsWritten;
}

-- ---- finding behind a list

find_other : (p : Row → Bool) (rows : List Row) (row : Row) → p row ≡ false → find p (rows ++ row ∷ []) ≡ find p rows
find_other p [] row other = rw other refl
find_other p (first ∷ rest) row other = ap (cond (p first) (Some first)) (find_other p rest row other)

find_before : (p : Row → Bool) (rows more : List Row) (row : Row) → find p rows ≡ Some row
    → find p (rows ++ more) ≡ Some row
find_before p [] more row there = absurd (cc)
find_before p (first ∷ rest) more row there = go (p first) (find_before p rest more row) there
  where
    go : (b : Bool) → (find p rest ≡ Some row → find p (rest ++ more) ≡ Some row)
        → cond b (Some first) (find p rest) ≡ Some row
        → cond b (Some first) (find p (rest ++ more)) ≡ Some row
    go true further e = e
    go false further e = further e

find_last : (p : Row → Bool) (rows : List Row) (row : Row) → find p rows ≡ None → p row ≡ true
    → find p (rows ++ row ∷ []) ≡ Some row
find_last p [] row none hit = rw hit refl
find_last p (first ∷ rest) row none hit = go (p first) (λ e. find_last p rest row e hit) none
  where
    go : (b : Bool) → (find p rest ≡ None → find p (rest ++ row ∷ []) ≡ Some row)
        → cond b (Some first) (find p rest) ≡ None
        → cond b (Some first) (find p (rest ++ row ∷ [])) ≡ Some row
    go true further e = absurd (cc)
    go false further e = further e

none_there : (name : Text) (rows : List Row) → find (is name) rows ≡ None → has_row name rows ≡ false
none_there name [] none = refl
none_there name (first ∷ rest) none = go (bytes_eq first.id name) (none_there name rest) none
  where
    go : (b : Bool) → (find (is name) rest ≡ None → has_row name rest ≡ false)
        → cond b (Some first) (find (is name) rest) ≡ None
        → (b || has_row name rest) ≡ false
    go true further e = absurd (cc)
    go false further e = further e

-- ---- a default is a row at the end, of a flag that isn't there

value_default : (rows : List Row) (form : Form) → form.has_value ≡ true → with_default rows (built_rule form) ≡ rows
value_default rows form has = go (has_row form.name rows) refl
  where
    go : (b : Bool) → has_row form.name rows ≡ b → with_default rows (built_rule form) ≡ rows
    go true there = rw there refl
    go false there = rw (there, has) refl

there_default : (rows : List Row) (form : Form) → has_row form.name rows ≡ true
    → with_default rows (built_rule form) ≡ rows
there_default rows form there = rw there refl

flag_default : (rows : List Row) (form : Form) → form.has_value ≡ false → has_row form.name rows ≡ false
    → with_default rows (built_rule form) ≡ rows ++ default_row form.name ∷ []
flag_default rows form has there =
    rw (there, has) (at_new_row form.name (more_values DefaultValue (codes "false" ∷ [])) (default_row form.name ∷ [])
    rows there)

-- three ways of a default
pub data Defaulted : List Row → Form → Type 0 where
  kept : (rows : List Row) (form : Form) → with_default rows (built_rule form) ≡ rows → Defaulted rows form
  at_end : (rows : List Row) (form : Form) → with_default rows (built_rule form) ≡ rows ++ default_row form.name ∷ []
      → Defaulted rows form

defaulted : (rows : List Row) (form : Form) → Defaulted rows form
defaulted rows form = go form.has_value (has_row form.name rows) refl refl
  where
    go : (has there : Bool) → form.has_value ≡ has → has_row form.name rows ≡ there → Defaulted rows form
    go true there is_value is_there = kept rows form (value_default rows form is_value)
    go false true is_value is_there = kept rows form (there_default rows form is_there)
    go false false is_value is_there = at_end rows form (flag_default rows form is_value is_there)

other_default : (name : Text) (rows : List Row) (form : Form) → bytes_eq form.name name ≡ false
    → find (is name) (with_default rows (built_rule form)) ≡ find (is name) rows
other_default name rows form other = go (defaulted rows form)
  where
    go : Defaulted rows form → find (is name) (with_default rows (built_rule form)) ≡ find (is name) rows
    go (kept _ _ same) = ap (find (is name)) same
    go (at_end _ _ same) = ap (find (is name)) same ∙ find_other (is name) rows (default_row form.name) other

some_default : (name : Text) (rows : List Row) (row : Row) (form : Form) → find (is name) rows ≡ Some row
    → find (is name) (with_default rows (built_rule form)) ≡ Some row
some_default name rows row form there = go (defaulted rows form)
  where
    go : Defaulted rows form → find (is name) (with_default rows (built_rule form)) ≡ Some row
    go (kept _ _ same) = ap (find (is name)) same ∙ there
    go (at_end _ _ same) = ap (find (is name)) same ∙ find_before (is name) rows (default_row form.name ∷ []) row there

some_defaults : (name : Text) (forms : List Form) (rows : List Row) (row : Row) → find (is name) rows ≡ Some row
    → find (is name) (fold with_default rows (map built_rule forms)) ≡ Some row
some_defaults name [] rows row there = there
some_defaults name (form ∷ rest) rows row there =
    some_defaults name rest (with_default rows (built_rule form)) row (some_default name rows row form there)

-- each option of the name has a value, or none has
abbrev pub all_values : Text → List Form → Bool
all_values name = list_all (λ form. not (bytes_eq form.name name) || form.has_value)

abbrev pub all_flags : Text → List Form → Bool
all_flags name = list_all (λ form. not (bytes_eq form.name name) || not form.has_value)

abbrev pub is_option : Text → List Form → Bool
is_option name = list_any (λ form. bytes_eq form.name name)

value_defaults : (name : Text) (forms : List Form) (rows : List Row) → all_values name forms ≡ true
    → find (is name) (fold with_default rows (map built_rule forms)) ≡ find (is name) rows
value_defaults name [] rows all = refl
value_defaults name (form ∷ rest) rows all =
    value_defaults name rest (with_default rows (built_rule form))
    (both (not (bytes_eq form.name name) || form.has_value) _ all).1
    ∙ go (bytes_eq form.name name) refl (both (not (bytes_eq form.name name) || form.has_value) _ all).0
  where
    go : (b : Bool) → bytes_eq form.name name ≡ b → (not b || form.has_value) ≡ true
        → find (is name) (with_default rows (built_rule form)) ≡ find (is name) rows
    go true same has = ap (find (is name)) (value_default rows form has)
    go false other has = other_default name rows form other

flag_defaults : (name : Text) (forms : List Form) (rows : List Row) → all_flags name forms ≡ true
    → is_option name forms ≡ true
    → find (is name) rows ≡ None
    → find (is name) (fold with_default rows (map built_rule forms)) ≡ Some (default_row name)
flag_defaults name [] rows all some none = absurd (cc)
flag_defaults name (form ∷ rest) rows all some none =
    go (bytes_eq form.name name) refl (both (not (bytes_eq form.name name) || not form.has_value) _ all).0 some
    (λ more still. flag_defaults name rest (with_default rows (built_rule form))
    (both (not (bytes_eq form.name name) || not form.has_value) _ all).1 more still)
  where
    no_value : (b : Bool) → not b ≡ true → b ≡ false
    no_value true e = absurd (cc)
    no_value false e = refl

    go : (b : Bool) → bytes_eq form.name name ≡ b → (not b || not form.has_value) ≡ true
        → (b || is_option name rest) ≡ true
        → (is_option name rest ≡ true → find (is name) (with_default rows (built_rule form)) ≡ None
        → find (is name) (fold with_default (with_default rows (built_rule form)) (map built_rule rest)) ≡ Some
        (default_row name))
        → find (is name) (fold with_default (with_default rows (built_rule form)) (map built_rule rest)) ≡ Some
        (default_row name)
    go true same has one further =
        let its : form.name ≡ name = (bytes_eq-Decides form.name name).0 same in
        let there : has_row form.name rows ≡ false = ap (λ id. has_row id rows) its ∙ none_there name rows none in
        let end = flag_default rows form (no_value form.has_value has) there in
        some_defaults name rest (with_default rows (built_rule form)) (default_row name)
        (ap (find (is name)) end ∙ find_last (is name) rows (default_row form.name) none same
        ∙ ap (λ id. Some (default_row id)) its)
    go false other has one further = further one (other_default name rows form other ∙ none)

-- ---- what was given

not_both : (forms : List Form) (name : Text) → takes_none forms name ≡ true → takes_value forms name ≡ true → ⊥
not_both forms name none some = go (formed forms name)
  where
    go : Formed forms name → ⊥
    go (unknown _ _ is) = let bad : false ≡ true = rw is at some in absurd (cc)
    go (valued _ _ is) = let bad : false ≡ true = rw is at none in absurd (cc)
    go (flagged _ _ is) = let bad : false ≡ true = rw is at some in absurd (cc)

first_given : (forms : List Form) (name : Text) (given : List Given) → takes_value forms name ≡ true
    → list_all (fits forms) given ≡ true
    → first_of name (map given_row given) ≡ value_of name given
first_given forms name [] takes all = refl
first_given forms name (flag other ∷ rest) takes all =
    go (bytes_eq other name) refl (first_given forms name rest takes (both (takes_none forms other) _ all).1)
  where
    go : (b : Bool) → bytes_eq other name ≡ b → first_of name (map given_row rest) ≡ value_of name rest
        → option_and_then (λ (row : Row). slice_get row.values 0)
        (cond b (Some (given_row (flag other))) (find (is name) (map given_row rest))) ≡ value_of name rest
    go true same more =
        let its : other ≡ name = (bytes_eq-Decides other name).0 same in
        absurd (not_both forms name (subst (λ id. takes_none forms id ≡ true) its
        (both (takes_none forms other) _ all).0) takes)
    go false same more = more
first_given forms name (value other text ∷ rest) takes all =
    go (bytes_eq other name) (first_given forms name rest takes (both (takes_value forms other) _ all).1)
  where
    go : (b : Bool) → first_of name (map given_row rest) ≡ value_of name rest
        → option_and_then (λ (row : Row). slice_get row.values 0) (cond b (Some (given_row (value other text)))
        (find (is name) (map given_row rest)))
        ≡ cond b (Some text) (value_of name rest)
    go true more = refl
    go false more = more

flag_given : (forms : List Form) (name : Text) (given : List Given) → takes_none forms name ≡ true
    → list_all (fits forms) given ≡ true
    → find (is name) (map given_row given) ≡ cond (has_flag name given) (Some (row_with name (codes "true"))) None
flag_given forms name [] takes all = refl
flag_given forms name (flag other ∷ rest) takes all =
    go (bytes_eq other name) refl (flag_given forms name rest takes (both (takes_none forms other) _ all).1)
  where
    go : (b : Bool) → bytes_eq other name ≡ b
        → find (is name) (map given_row rest) ≡ cond (has_flag name rest) (Some (row_with name (codes "true"))) None
        → cond b (Some (given_row (flag other))) (find (is name) (map given_row rest))
        ≡ cond (b || has_flag name rest) (Some (row_with name (codes "true"))) None
    go true same more = ap (λ id. Some (row_with id (codes "true"))) ((bytes_eq-Decides other name).0 same)
    go false same more = more
flag_given forms name (value other text ∷ rest) takes all =
    go (bytes_eq other name) refl (flag_given forms name rest takes (both (takes_value forms other) _ all).1)
  where
    go : (b : Bool) → bytes_eq other name ≡ b
        → find (is name) (map given_row rest) ≡ cond (has_flag name rest) (Some (row_with name (codes "true"))) None
        → cond b (Some (given_row (value other text))) (find (is name) (map given_row rest)) ≡ cond (has_flag name rest)
        (Some (row_with name (codes "true"))) None
    go true same more =
        let its : other ≡ name = (bytes_eq-Decides other name).0 same in
        absurd (not_both forms name takes (subst (λ id. takes_value forms id ≡ true) its
        (both (takes_value forms other) _ all).0))
    go false same more = more

-- ---- what clap finds

pub value_found : (matches : ArgMatches) (forms : List Form) (given : List Given) (name : Text)
    → Gives matches forms given
    → takes_value forms name ≡ true → all_values name forms ≡ true
    → first_value (found_of matches) name ≡ value_of name given
value_found matches forms given name gives takes all =
    first_value-rows (found_of matches) name ∙ ap (first_of name) gives.rows
    ∙ ap (option_and_then (λ (row : Row). slice_get row.values 0)) (value_defaults name forms (map given_row given) all)
    ∙ first_given forms name given takes gives.fit

flag_row : (forms : List Form) (given : List Given) (name : Text) (b : Bool) → has_flag name given ≡ b
    → takes_none forms name ≡ true
    → all_flags name forms ≡ true → is_option name forms ≡ true → list_all (fits forms) given ≡ true
    → one_of name (found_rows forms given) ≡ Some (cond b (codes "true") (codes "false"))
flag_row forms given name true has takes all some fit =
    let there = flag_given forms name given takes fit ∙ ap (λ b. cond b (Some (row_with name (codes "true"))) None) has
    in
    rw (some_defaults name forms (map given_row given) (row_with name (codes "true")) there) refl
flag_row forms given name false has takes all some fit =
    let none = flag_given forms name given takes fit ∙ ap (λ b. cond b (Some (row_with name (codes "true"))) None) has
    in
    rw (flag_defaults name forms (map given_row given) all some none) refl

pub flag_found : (matches : ArgMatches) (forms : List Form) (given : List Given) (name : Text)
    → Gives matches forms given
    → takes_none forms name ≡ true → all_flags name forms ≡ true → is_option name forms ≡ true
    → one_text (found_of matches) name ≡ Some (cond (has_flag name given) (codes "true") (codes "false"))
flag_found matches forms given name gives takes all some =
    one_text-rows (found_of matches) name ∙ ap (one_of name) gives.rows
    ∙ flag_row forms given name (has_flag name given) refl takes all some gives.fit

pub number_is : (matches : ArgMatches) (forms : List Form) (given : List Given) (name : Text) (least last default : ℕ)
    (read : Option ℕ)
    → Gives matches forms given → takes_value forms name ≡ true → all_values name forms ≡ true
    → read ≡ option_map_or (number_in least last) (first_value (found_of matches) name) (Some default)
    → number_of name least last default given ≡ read
number_is matches forms given name least last default read gives takes all is =
    ap (λ text. option_map_or (number_in least last) text (Some default))
    (sym (value_found matches forms given name gives takes all)) ∙ sym is

pub flag_is : (matches : ArgMatches) (forms : List Form) (given : List Given) (name : Text) (read : Bool)
    → Gives matches forms given → takes_none forms name ≡ true → all_flags name forms ≡ true
    → is_option name forms ≡ true
    → (one_text (found_of matches) name ≡ Some (codes "true") → read ≡ true)
    → (one_text (found_of matches) name ≡ Some (codes "false") → read ≡ false)
    → has_flag name given ≡ read
flag_is matches forms given name read gives takes all some on off =
    go (has_flag name given) (flag_found matches forms given name gives takes all some)
  where
    go : (b : Bool) → one_text (found_of matches) name ≡ Some (cond b (codes "true") (codes "false")) → b ≡ read
    go true found = sym (on found)
    go false found = sym (off found)

pub lanes_are : (matches : ArgMatches) (forms : List Form) (given : List Given) → Gives matches forms given
    → takes_value forms (codes "slices") ≡ true → all_values (codes "slices") forms ≡ true
    → takes_value forms (codes "room") ≡ true → all_values (codes "room") forms ≡ true
    → takes_value forms (codes "lane") ≡ true → all_values (codes "lane") forms ≡ true
    → lanes_by (first_value (found_of matches) (codes "slices")) (first_value (found_of matches) (codes "room"))
    (first_value (found_of matches) (codes "lane")) ≡ lanes_of given
lanes_are matches forms given gives slices slices_all room room_all lane lane_all =
    λ i. lanes_by (value_found matches forms given (codes "slices") gives slices slices_all i)
    (value_found matches forms given (codes "room") gives room room_all i)
    (value_found matches forms given (codes "lane") gives lane lane_all i)

-- The table of options, a name at a time.
use Rattle.std.proofs.Common.{◌≡◌, ◌&&◌, ◌∙◌, not, Bool, true, false, cond, refl, sym, ap, ap₂, subst, List, [], ◌∷◌, ◌++◌, map, Option, Some, None, option_map, option_and_then, append_assoc}
use Rattle.std.specs.List.{list_all, list_any}
use Rattle.command_words.specs.Options.{Form, Given, flag, value, are_new, form_named, is_given, name_of, options, with_option, with_value, without_value}
use Rattle.command_words.specs.Program.{fits, given_row}
use Rattle.command_words.specs.Words.{Text, Word, named, paired, plain, stray, is_stray}
use Rattle.command_words.proofs.Forms.{Formed, unknown, valued, flagged, formed}
use Rattle.command_words.proofs.Emptiness.{guard, guard-none}
use Rattle.clap.specs.Walk.{Row}

pub options_unknown : (forms : List Form) (name : Text) (rest : List Word) → form_named name forms ≡ None
    → options forms (named name ∷ rest) ≡ None
options_unknown forms name [] is = rw is refl
options_unknown forms name (named other ∷ rest) is = rw is refl
options_unknown forms name (paired other text ∷ rest) is = rw is refl
options_unknown forms name (plain text ∷ rest) is = rw is refl
options_unknown forms name (stray ∷ rest) is = rw is refl

pub options_flag : (forms : List Form) (name : Text) (rest : List Word)
    → form_named name forms ≡ Some (without_value name)
    → options forms (named name ∷ rest) ≡ with_option true (flag name) (options forms rest)
options_flag forms name [] is = rw is refl
options_flag forms name (named other ∷ rest) is = rw is refl
options_flag forms name (paired other text ∷ rest) is = rw is refl
options_flag forms name (plain text ∷ rest) is = rw is refl
options_flag forms name (stray ∷ rest) is = rw is refl

pub options_value : (forms : List Form) (name text : Text) (rest : List Word)
    → form_named name forms ≡ Some (with_value name)
    → options forms (named name ∷ plain text ∷ rest) ≡ with_option true (value name text) (options forms rest)
options_value forms name text rest is = rw is refl

-- what isn't followed by a value
abbrev pub is_plain : List Word → Bool
is_plain [] = false
is_plain (named name ∷ rest) = false
is_plain (paired name text ∷ rest) = false
is_plain (plain text ∷ rest) = true
is_plain (stray ∷ rest) = false

pub options_missing : (forms : List Form) (name : Text) (rest : List Word)
    → form_named name forms ≡ Some (with_value name) → is_plain rest ≡ false
    → options forms (named name ∷ rest) ≡ None
options_missing forms name [] is lacks = rw is refl
options_missing forms name (named other ∷ rest) is lacks = rw is refl
options_missing forms name (paired other text ∷ rest) is lacks = rw is refl
options_missing forms name (plain text ∷ rest) is lacks = absurd (cc)
options_missing forms name (stray ∷ rest) is lacks = rw is refl

pub options_pair : (forms : List Form) (name text : Text) (rest : List Word)
    → form_named name forms ≡ Some (with_value name)
    → options forms (paired name text ∷ rest) ≡ with_option true (value name text) (options forms rest)
options_pair forms name text rest is = rw is refl

pub options_pair_unknown : (forms : List Form) (name text : Text) (rest : List Word) → form_named name forms ≡ None
    → options forms (paired name text ∷ rest) ≡ None
options_pair_unknown forms name text rest is = rw is refl

pub options_pair_flag : (forms : List Form) (name text : Text) (rest : List Word)
    → form_named name forms ≡ Some (without_value name)
    → options forms (paired name text ∷ rest) ≡ None
options_pair_flag forms name text rest is = rw is refl

-- options that are new behind those before
abbrev pub fresh : List Given → Option (List Given) → Option (List Given)
fresh before = option_and_then (λ given. cond (are_new before given) (Some given) None)

-- the rows for options before, and for these
abbrev pub rows_behind : List Given → Option (List Given) → Option (List Row)
rows_behind before = option_map (λ given. map given_row (before ++ given))

pub fresh_with : (before : List Given) (given : Given) (rest : Option (List Given))
    → rows_behind before (fresh before (with_option true given rest))
    ≡ guard (not (is_given (name_of given) before))
    (rows_behind (before ++ given ∷ []) (fresh (before ++ given ∷ []) rest))
fresh_with before given None = sym (guard-none (not (is_given (name_of given) before)) None refl)
fresh_with before given (Some rest) = go (not (is_given (name_of given) before)) (are_new (before ++ given ∷ []) rest)
  where
    go : (a b : Bool) → rows_behind before (cond (a && b) (Some (given ∷ rest)) None)
        ≡ guard a (rows_behind (before ++ given ∷ []) (cond b (Some rest) None))
    go true true = ap (λ all. Some (map given_row all)) (sym (append_assoc before (given ∷ []) rest))
    go true false = refl
    go false b = refl

-- ---- an option at a time

abbrev pub any_stray : List Word → Bool
any_stray words = list_any is_stray words

pub data Reads : List Form → List Word → Type 0 where
  refused : (forms : List Form) (words : List Word) → options forms words ≡ None → Reads forms words
  no_more : (forms : List Form) → Reads forms []
  one_more : (forms : List Form) (words : List Word) (given : Given) (rest : List Word) → fits forms given ≡ true
      → any_stray words ≡ any_stray rest
      → options forms words ≡ with_option true given (options forms rest) → Reads forms rest → Reads forms words

abbrev behind_first : List Word → List Word
behind_first [] = []
behind_first (word ∷ rest) = rest

reads_named : (forms : List Form) (name : Text) (rest : List Word) → Formed forms name → Reads forms rest
    → Reads forms (behind_first rest)
    → Reads forms (named name ∷ rest)
reads_named forms name rest (unknown _ _ is) more behind = refused forms (named name ∷ rest)
    (options_unknown forms name rest is)
reads_named forms name rest (flagged _ _ is) more behind =
    one_more forms (named name ∷ rest) (flag name) rest (rw is refl) refl (options_flag forms name rest is) more
reads_named forms name [] (valued _ _ is) more behind =
    refused forms (named name ∷ []) (options_missing forms name [] is refl)
reads_named forms name (named other ∷ rest) (valued _ _ is) more behind =
    refused forms (named name ∷ named other ∷ rest) (options_missing forms name (named other ∷ rest) is refl)
reads_named forms name (paired other text ∷ rest) (valued _ _ is) more behind =
    refused forms (named name ∷ paired other text ∷ rest) (options_missing forms name (paired other text ∷ rest) is
    refl)
reads_named forms name (plain text ∷ rest) (valued _ _ is) more behind =
    one_more forms (named name ∷ plain text ∷ rest) (value name text) rest (rw is refl) refl
    (options_value forms name text rest is) behind
reads_named forms name (stray ∷ rest) (valued _ _ is) more behind =
    refused forms (named name ∷ stray ∷ rest) (options_missing forms name (stray ∷ rest) is refl)

reads_paired : (forms : List Form) (name text : Text) (rest : List Word) → Formed forms name → Reads forms rest
    → Reads forms (paired name text ∷ rest)
reads_paired forms name text rest (unknown _ _ is) more = refused forms (paired name text ∷ rest)
    (options_pair_unknown forms name text rest is)
reads_paired forms name text rest (flagged _ _ is) more = refused forms (paired name text ∷ rest)
    (options_pair_flag forms name text rest is)
reads_paired forms name text rest (valued _ _ is) more =
    one_more forms (paired name text ∷ rest) (value name text) rest (rw is refl) refl
    (options_pair forms name text rest is) more

reads_both : (forms : List Form) (words : List Word) → Reads forms words × Reads forms (behind_first words)
reads_both forms [] = (no_more forms, no_more forms)
reads_both forms (named name ∷ rest) = let more = reads_both forms rest in
    (reads_named forms name rest (formed forms name) more.0 more.1, more.0)
reads_both forms (paired name text ∷ rest) = let more = reads_both forms rest in
    (reads_paired forms name text rest (formed forms name) more.0, more.0)
reads_both forms (plain text ∷ rest) = (refused forms (plain text ∷ rest) refl, (reads_both forms rest).0)
reads_both forms (stray ∷ rest) = (refused forms (stray ∷ rest) refl, (reads_both forms rest).0)

-- a stray word gives no options
stray_refused : (forms : List Form) (words : List Word) → Reads forms words → any_stray words ≡ true
    → options forms words ≡ None
stray_refused forms words (refused _ _ is) stray_in = is
stray_refused forms [] (no_more _) stray_in = absurd (cc)
stray_refused forms words (one_more _ _ given rest fit same is more) stray_in =
    is ∙ ap (with_option true given) (stray_refused forms rest more (sym same ∙ stray_in))

pub options_stray : (forms : List Form) (words : List Word) → any_stray words ≡ true → options forms words ≡ None
options_stray forms words = stray_refused forms words (reads_both forms words).0

-- what is given are options of the command
fit_given : (forms : List Form) (words : List Word) (given : List Given) → Reads forms words
    → options forms words ≡ Some given → list_all (fits forms) given ≡ true
fit_given forms words given (refused _ _ is) said = let bad : None ≡ Some given = sym is ∙ said in absurd (cc)
fit_given forms [] given (no_more _) said = let none : [] ≡ given = cc in
    subst (λ all. list_all (fits forms) all ≡ true) none refl
fit_given forms words given (one_more _ _ first rest fit same is more) said =
    go (options forms rest) (λ others e. fit_given forms rest others more e) (sym is ∙ said)
  where
    go : (o : Option (List Given)) → ((others : List Given) → o ≡ Some others → list_all (fits forms) others ≡ true)
        → with_option true first o ≡ Some given → list_all (fits forms) given ≡ true
    go None further all = absurd (cc)
    go (Some others) further all =
        let parts : first ∷ others ≡ given = cc in
        subst (λ g. list_all (fits forms) g ≡ true) parts (ap₂ (λ a b. a && b) fit (further others refl))

pub options_fit : (forms : List Form) (words : List Word) (given : List Given) → options forms words ≡ Some given
    → list_all (fits forms) given ≡ true
options_fit forms words given = fit_given forms words given (reads_both forms words).0

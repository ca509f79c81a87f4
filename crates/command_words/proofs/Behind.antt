-- The words behind a command's name: clap finds just the options that the table gives.
use Rattle.std.proofs.Common.{◌≡◌, ◌∙◌, ◌||◌, not, Bool, true, false, refl, sym, ap, ap₂, List, [], ◌∷◌, ◌++◌, map, append-nil, Option, Some, None}
use Rattle.std.proofs.lemmas.List.{map-append}
use Rattle.std.specs.List.{list_any}
use Rattle.std.specs.Str.{bytes_eq}
use Rattle.clap.specs.Lexer.{long_of, short_of}
use Rattle.clap.specs.Walk.{Row, has_row, walked}
use Rattle.command_words.specs.Options.{Form, Given, flag, value, form_named, name_of, options, with_option, with_value, without_value}
use Rattle.command_words.specs.Program.{given_row}
use Rattle.command_words.specs.Words.{Text, Word, named, paired, plain, stray, is_stray as stray_word, word_of}
use Rattle.command_words.proofs.Emptiness.{guard, guard-none}
use Rattle.command_words.proofs.Forms.{Formed, unknown, valued, flagged, formed, no_index}
use Rattle.command_words.proofs.Looks.{Look, dashes, is_named, is_paired, is_plain, is_stray, look}
use Rattle.command_words.proofs.Options.{fresh, fresh_with, options_flag, options_missing, options_pair, options_pair_flag, options_pair_unknown, options_unknown, options_value, rows_behind, is_plain as is_plain_next}
use Rattle.command_words.proofs.Rows.{given_rows, used_value}
use Rattle.command_words.proofs.Walks.{at_rest, expect_end, expect_option, expect_plain, expecting, flag_turn, holding, id_some, leaf, long_none, long_some, outcome, pair_flag, pair_turn, plain_turn, unknown_turn, value_turn}

abbrev pub has_stray : List Text → Bool
has_stray words = list_any (λ word. stray_word (word_of word)) words

pub no_stray : (word : Text) (rest : List Text) → word_of word ≡ stray → has_stray (word ∷ rest) ≡ false → ⊥
no_stray word rest is none = let here : has_stray (word ∷ rest) ≡ true = rw is refl in let bad : true ≡ false = sym here
    ∙ none in absurd (cc)

-- the other words have none either
pub rest_strays : (word : Text) (rest : List Text) → has_stray (word ∷ rest) ≡ false → has_stray rest ≡ false
rest_strays word rest none = go (stray_word (word_of word)) none
  where
    go : (b : Bool) → (b || has_stray rest) ≡ false → has_stray rest ≡ false
    go true e = absurd (cc)
    go false e = e

-- an option that has its value is used before the next word, or at the end
module _ (own : Text) (forms : List Form) (rows : List Row) (name text : Text)
    (takes : form_named name forms ≡ Some (with_value name)) where
  abbrev now : List Text → Option (List Row)
  now words = outcome (leaf own forms) (holding name text rows) words

  abbrev then : List Text → Option (List Row)
  then words = outcome (leaf own forms) (at_rest (rows ++ given_row (value name text) ∷ [])) words

  hold_end : (b : Bool) → has_row name rows ≡ b → now [] ≡ guard (not (has_row name rows)) (then [])
  hold_end true e = let rule = id_some forms name (with_value name) takes in rw (rule, e) refl
  hold_end false e = let rule = id_some forms name (with_value name) takes in rw (rule, e, used_value name text rows e)
      refl

  hold_unknown : (word : Text) (rest : List Text) (other : Text) (v : Option Text) → bytes_eq word dashes ≡ false
      → long_of word ≡ Some (other, v)
      → form_named other forms ≡ None → now (word ∷ rest) ≡ None
  unfolding walked
  hold_unknown word rest other v not_dashes long is = let found = long_none forms other is in
      rw (not_dashes, long, found) refl

  hold_pair_flag : (word : Text) (rest : List Text) (other given : Text) → bytes_eq word dashes ≡ false
      → long_of word ≡ Some (other, Some given)
      → form_named other forms ≡ Some (without_value other) → now (word ∷ rest) ≡ None
  unfolding walked
  hold_pair_flag word rest other given not_dashes long is = let found = long_some forms other (without_value other) is
      in rw (not_dashes, long, found) refl

  hold_plain : (word : Text) (rest : List Text) → bytes_eq word dashes ≡ false → long_of word ≡ None
      → short_of word ≡ None → now (word ∷ rest) ≡ None
  unfolding walked
  hold_plain word rest not_dashes long short = let none_at = no_index forms 1 in rw (not_dashes, long, short, none_at)
      refl

  hold_value : (word : Text) (rest : List Text) (other : Text) (b : Bool) → bytes_eq word dashes ≡ false
      → long_of word ≡ Some (other, None)
      → form_named other forms ≡ Some (with_value other) → has_row name rows ≡ b
      → now (word ∷ rest) ≡ guard (not (has_row name rows)) (then (word ∷ rest))
  unfolding walked
  hold_value word rest other true not_dashes long is e =
      let found = long_some forms other (with_value other) is in
      let rule = id_some forms name (with_value name) takes in
      rw (not_dashes, long, found, rule, e) refl
  hold_value word rest other false not_dashes long is e =
      let found = long_some forms other (with_value other) is in
      let rule = id_some forms name (with_value name) takes in
      rw (not_dashes, long, found, rule, e, used_value name text rows e) refl

  hold_flag : (word : Text) (rest : List Text) (other : Text) (b : Bool) → bytes_eq word dashes ≡ false
      → long_of word ≡ Some (other, None)
      → form_named other forms ≡ Some (without_value other) → has_row name rows ≡ b
      → now (word ∷ rest) ≡ guard (not (has_row name rows)) (then (word ∷ rest))
  unfolding walked
  hold_flag word rest other true not_dashes long is e =
      let found = long_some forms other (without_value other) is in
      let rule = id_some forms name (with_value name) takes in
      rw (not_dashes, long, found, rule, e) refl
  hold_flag word rest other false not_dashes long is e =
      let found = long_some forms other (without_value other) is in
      let rule = id_some forms name (with_value name) takes in
      rw (not_dashes, long, found, rule, e, used_value name text rows e) refl

  hold_pair : (word : Text) (rest : List Text) (other given : Text) (b : Bool) → bytes_eq word dashes ≡ false
      → long_of word ≡ Some (other, Some given)
      → form_named other forms ≡ Some (with_value other) → has_row name rows ≡ b
      → now (word ∷ rest) ≡ guard (not (has_row name rows)) (then (word ∷ rest))
  unfolding walked
  hold_pair word rest other given true not_dashes long is e =
      let found = long_some forms other (with_value other) is in
      let rule = id_some forms name (with_value name) takes in
      rw (not_dashes, long, found, rule, e) refl
  hold_pair word rest other given false not_dashes long is e =
      let found = long_some forms other (with_value other) is in
      let rule = id_some forms name (with_value name) takes in
      rw (not_dashes, long, found, rule, e, used_value name text rows e) refl

  hold_long : (word : Text) (rest : List Text) (other : Text) (v : Option Text) → bytes_eq word dashes ≡ false
      → long_of word ≡ Some (other, v)
      → Formed forms other → now (word ∷ rest) ≡ guard (not (has_row name rows)) (then (word ∷ rest))
  hold_long word rest other v not_dashes long (unknown _ _ is) =
      hold_unknown word rest other v not_dashes long is
      ∙ sym (guard-none (not (has_row name rows)) (then (word ∷ rest))
      (unknown_turn own forms (rows ++ given_row (value name text) ∷ []) word rest not_dashes other v long is))
  hold_long word rest other None not_dashes long (valued _ _ is) = hold_value word rest other (has_row name rows)
      not_dashes long is refl
  hold_long word rest other (Some given) not_dashes long (valued _ _ is) =
      hold_pair word rest other given (has_row name rows) not_dashes long is refl
  hold_long word rest other None not_dashes long (flagged _ _ is) = hold_flag word rest other (has_row name rows)
      not_dashes long is refl
  hold_long word rest other (Some given) not_dashes long (flagged _ _ is) =
      hold_pair_flag word rest other given not_dashes long is
      ∙ sym (guard-none (not (has_row name rows)) (then (word ∷ rest))
      (pair_flag own forms (rows ++ given_row (value name text) ∷ []) word rest not_dashes other given long is))

  hold_word : (word : Text) (rest : List Text) → Look word → has_stray (word ∷ rest) ≡ false
      → now (word ∷ rest) ≡ guard (not (has_row name rows)) (then (word ∷ rest))
  hold_word word rest (is_named _ other is not_dashes long) none = hold_long word rest other None not_dashes long
      (formed forms other)
  hold_word word rest (is_paired _ other given is not_dashes long) none = hold_long word rest other (Some given)
      not_dashes long (formed forms other)
  hold_word word rest (is_plain _ is not_dashes long short) none =
      hold_plain word rest not_dashes long short
      ∙ sym (guard-none (not (has_row name rows)) (then (word ∷ rest))
      (plain_turn own forms (rows ++ given_row (value name text) ∷ []) word rest not_dashes long short))
  hold_word word rest (is_stray _ is) none = absurd (no_stray word rest is none)

  pub hold : (words : List Text) → has_stray words ≡ false → now words ≡ guard (not (has_row name rows)) (then words)
  hold [] none = hold_end (has_row name rows) refl
  hold (word ∷ rest) none = hold_word word rest (look word) none

-- ---- the words give just the rows of the table

abbrev pub rows_of_table : List Form → List Given → List Text → Option (List Row)
rows_of_table forms before words = rows_behind before (fresh before (options forms (map word_of words)))

abbrev pub found : Text → List Form → List Given → List Text → Option (List Row)
found own forms before words = outcome (leaf own forms) (at_rest (map given_row before)) words

-- one more option, and then the rest
join : (own : Text) (forms : List Form) (before : List Given) (given : Given) (rest : List Text)
    → found own forms (before ++ given ∷ []) rest ≡ rows_of_table forms (before ++ given ∷ []) rest
    → guard (not (has_row (name_of given) (map given_row before)))
    (outcome (leaf own forms) (at_rest (map given_row before ++ given_row given ∷ [])) rest)
    ≡ rows_behind before (fresh before (with_option true given (options forms (map word_of rest))))
join own forms before given rest more =
    ap₂ guard (ap not (given_rows (name_of given) before))
    (ap (λ rows. outcome (leaf own forms) (at_rest rows) rest) (sym (map-append given_row before (given ∷ []))) ∙ more)
    ∙ sym (fresh_with before given (options forms (map word_of rest)))

-- the table at a word
table_at : (forms : List Form) (before : List Given) (words : List Word) (given : Option (List Given))
    → options forms words ≡ given
    → rows_behind before (fresh before given) ≡ rows_behind before (fresh before (options forms words))
table_at forms before words given is = ap (λ o. rows_behind before (fresh before o)) (sym is)

-- the words give just those rows, whichever options stand before
abbrev Finds : Text → List Form → List Text → Type 0
Finds own forms words = (before : List Given) → has_stray words ≡ false
    → found own forms before words ≡ rows_of_table forms before words

abbrev behind_first : List Text → List Text
behind_first [] = []
behind_first (word ∷ rest) = rest

finds_end : (own : Text) (forms : List Form) → Finds own forms []
finds_end own forms before none = ap (λ given. Some (map given_row given)) (sym (append-nil before))

-- the table at a word of this look
at_word : (forms : List Form) (before : List Given) (word : Text) (rest : List Text) (is : Word)
    (given : Option (List Given)) → word_of word ≡ is
    → options forms (is ∷ map word_of rest) ≡ given
    → rows_behind before (fresh before given) ≡ rows_of_table forms before (word ∷ rest)
at_word forms before word rest is given look said =
    table_at forms before (map word_of (word ∷ rest)) given (ap (λ w. options forms (w ∷ map word_of rest)) look ∙ said)

-- behind the name of an option with a value
module _ (own : Text) (forms : List Form) (name : Text) (takes : form_named name forms ≡ Some (with_value name))
    (before : List Given) (word : Text)
    (is : word_of word ≡ named name) where
  missing : (rest : List Text) → is_plain_next (map word_of rest) ≡ false
      → None ≡ rows_of_table forms before (word ∷ rest)
  missing rest lacks = at_word forms before word rest (named name) None is
      (options_missing forms name (map word_of rest) takes lacks)

  value_behind : (next : Text) (more : List Text) → Look next → has_stray (next ∷ more) ≡ false → Finds own forms more
      → outcome (leaf own forms) (expecting name (map given_row before)) (next ∷ more) ≡ rows_of_table forms before
      (word ∷ next ∷ more)
  value_behind next more (is_named _ other look not_dashes long) none behind =
      expect_option own forms (map given_row before) next more not_dashes name takes other None long
      ∙ missing (next ∷ more) (ap (λ w. is_plain_next (w ∷ map word_of more)) look)
  value_behind next more (is_paired _ other text look not_dashes long) none behind =
      expect_option own forms (map given_row before) next more not_dashes name takes other (Some text) long
      ∙ missing (next ∷ more) (ap (λ w. is_plain_next (w ∷ map word_of more)) look)
  value_behind next more (is_plain _ look not_dashes long short) none behind =
      let later = rest_strays next more none in
      expect_plain own forms (map given_row before) next more not_dashes name takes long short
      ∙ hold own forms (map given_row before) name next takes more later
      ∙ join own forms before (value name next) more (behind (before ++ value name next ∷ []) later)
      ∙ at_word forms before word (next ∷ more) (named name) _ is
      (ap (λ w. options forms (named name ∷ w ∷ map word_of more)) look
      ∙ options_value forms name next (map word_of more) takes)
  value_behind next more (is_stray _ look) none behind = absurd (no_stray next more look none)

  value_first : (rest : List Text) → has_stray rest ≡ false → Finds own forms (behind_first rest)
      → outcome (leaf own forms) (expecting name (map given_row before)) rest ≡ rows_of_table forms before (word ∷ rest)
  value_first [] none behind = expect_end own forms (map given_row before) name takes ∙ missing [] refl
  value_first (next ∷ more) none behind = value_behind next more (look next) none behind

module _ (own : Text) (forms : List Form) (word : Text) (rest : List Text) (behind : Finds own forms rest)
    (further : Finds own forms (behind_first rest))
    (before : List Given) (none : has_stray (word ∷ rest) ≡ false) where
  abbrev here : Type 0
  here = found own forms before (word ∷ rest) ≡ rows_of_table forms before (word ∷ rest)

  finds_named : (name : Text) → word_of word ≡ named name → bytes_eq word dashes ≡ false
      → long_of word ≡ Some (name, None) → Formed forms name → here
  finds_named name is not_dashes long (unknown _ _ such) =
      unknown_turn own forms (map given_row before) word rest not_dashes name None long such
      ∙ at_word forms before word rest (named name) None is (options_unknown forms name (map word_of rest) such)
  finds_named name is not_dashes long (valued _ _ such) =
      value_turn own forms (map given_row before) word rest not_dashes name long such
      ∙ value_first own forms name such before word is rest (rest_strays word rest none) further
  finds_named name is not_dashes long (flagged _ _ such) =
      flag_turn own forms (map given_row before) word rest not_dashes name (has_row name (map given_row before)) refl
      long such
      ∙ join own forms before (flag name) rest (behind (before ++ flag name ∷ []) (rest_strays word rest none))
      ∙ at_word forms before word rest (named name) _ is (options_flag forms name (map word_of rest) such)

  finds_paired : (name text : Text) → word_of word ≡ paired name text → bytes_eq word dashes ≡ false
      → long_of word ≡ Some (name, Some text)
      → Formed forms name → here
  finds_paired name text is not_dashes long (unknown _ _ such) =
      unknown_turn own forms (map given_row before) word rest not_dashes name (Some text) long such
      ∙ at_word forms before word rest (paired name text) None is
      (options_pair_unknown forms name text (map word_of rest) such)
  finds_paired name text is not_dashes long (valued _ _ such) =
      pair_turn own forms (map given_row before) word rest not_dashes name text (has_row name (map given_row before))
      refl long such
      ∙ join own forms before (value name text) rest
      (behind (before ++ value name text ∷ []) (rest_strays word rest none))
      ∙ at_word forms before word rest (paired name text) _ is (options_pair forms name text (map word_of rest) such)
  finds_paired name text is not_dashes long (flagged _ _ such) =
      pair_flag own forms (map given_row before) word rest not_dashes name text long such
      ∙ at_word forms before word rest (paired name text) None is (options_pair_flag forms name text (map word_of rest)
      such)

  finds_word : Look word → here
  finds_word (is_named _ name is not_dashes long) = finds_named name is not_dashes long (formed forms name)
  finds_word (is_paired _ name text is not_dashes long) = finds_paired name text is not_dashes long (formed forms name)
  finds_word (is_plain _ is not_dashes long short) =
      plain_turn own forms (map given_row before) word rest not_dashes long short
      ∙ at_word forms before word rest (plain word) None is refl
  finds_word (is_stray _ is) = absurd (no_stray word rest is none)

finds_both : (own : Text) (forms : List Form) (words : List Text)
    → Finds own forms words × Finds own forms (behind_first words)
finds_both own forms [] = (finds_end own forms, finds_end own forms)
finds_both own forms (word ∷ rest) =
    let more = finds_both own forms rest in
    (λ before none. finds_word own forms word rest more.0 more.1 before none (look word), more.0)

pub finds : (own : Text) (forms : List Form) (words : List Text) → Finds own forms words
finds own forms words = (finds_both own forms words).0

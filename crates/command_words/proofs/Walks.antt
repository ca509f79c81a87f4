-- The walk of clap over the words behind a command's name, word by word.
use Rattle.std.proofs.Common.{◌≡◌, ◌&&◌, ◌∙◌, not, Bool, true, false, refl, sym, ap, List, [], ◌∷◌, ◌++◌, map, fold, Option, Some, None, option_map}
use Rattle.std.specs.Str.{bytes_eq}
use Rattle.clap.specs.Faults.{settle_fault, turn_fault, walk_fault}
use Rattle.clap.specs.Lexer.{long_of, short_of}
use Rattle.clap.specs.Simple.{Shape, new_shape}
use Rattle.clap.specs.Walk.{Held, Row, Walk, arg_by_id, arg_by_long, has_row, option, settled, walk_from, walked}
use Rattle.command_words.specs.Options.{Form, flag, value, form_named, with_value, without_value}
use Rattle.command_words.specs.Program.{built_rule, given_row}
use Rattle.command_words.specs.Words.{Text}
use Rattle.command_words.proofs.Emptiness.{guard, guard-three, none, none-or_else}
use Rattle.command_words.proofs.Forms.{Formed, unknown, valued, flagged, by_id, by_long, formed, no_index, same_text}
use Rattle.command_words.proofs.Looks.{dashes}
use Rattle.command_words.proofs.Rows.{used_flag, used_value}

-- a command as clap builds it
abbrev pub leaf : Text → List Form → Shape
leaf name forms = record (new_shape name) {
  rules = map built_rule forms;
  no_binary_name = true;
  disable_help_flag = true;
  disable_help_subcommand = true;
  disable_version_flag = true;
  is_built = true;
}

-- the rows at the end of a walk over words, where nothing fails
abbrev pub outcome : Shape → Walk → List Text → Option (List Row)
outcome s w [] = guard (none (settle_fault s.rules s.args_override_self w.held)) (Some (settled s.rules w.held).rows)
outcome s w (word ∷ rest) = guard (none (turn_fault s [] w word)) (outcome s (walked s.rules [] w word) rest)

abbrev pub end_of : Shape → Walk → List Text → Held
end_of s w words = (fold (walked s.rules []) w words).held

pub outcome_is : (s : Shape) (w : Walk) (words : List Text)
    → outcome s w words ≡ guard
    (none (walk_fault s [] w words) && none (settle_fault s.rules s.args_override_self (end_of s w words)))
    (Some (settled s.rules (end_of s w words)).rows)
unfolding walk_fault
outcome_is s w [] = refl
outcome_is s w (word ∷ rest) =
    let now = turn_fault s [] w word in
    let next = walked s.rules [] w word in
    let settles = none (settle_fault s.rules s.args_override_self (end_of s next rest)) in
    let end = Some (settled s.rules (end_of s next rest)).rows in
    ap (guard (none now)) (outcome_is s next rest) ∙ guard-three (none now) (none (walk_fault s [] next rest)) settles
    end
    ∙ sym (ap (λ b. guard (b && settles) end) (none-or_else now (walk_fault s [] next rest)))

-- ---- where the walk stands between two words: nothing waits; an option has no value yet; it has one

abbrev pub held_with : List Row → Option (Text × List Text) → Held
held_with rows pending = record { rows = rows; pending = pending; skip = 0 }

abbrev pub at_rest : List Row → Walk
at_rest rows = walk_from (held_with rows None)

abbrev pub expecting : Text → List Row → Walk
expecting name rows = record (walk_from (held_with rows (Some (name, [])))) { waiting = option name }

abbrev pub holding : Text → Text → List Row → Walk
holding name text rows = walk_from (held_with rows (Some (name, text ∷ [])))

pub long_none : (forms : List Form) (name : Text) → form_named name forms ≡ None
    → arg_by_long (map built_rule forms) name ≡ None
long_none forms name e = by_long forms name ∙ ap (option_map built_rule) e

pub long_some : (forms : List Form) (name : Text) (form : Form) → form_named name forms ≡ Some form
    → arg_by_long (map built_rule forms) name ≡ Some (built_rule form)
long_some forms name form e = by_long forms name ∙ ap (option_map built_rule) e

pub id_some : (forms : List Form) (name : Text) (form : Form) → form_named name forms ≡ Some form
    → arg_by_id (map built_rule forms) name ≡ Some (built_rule form)
id_some forms name form e = by_id forms name ∙ ap (option_map built_rule) e

module _ (own : Text) (forms : List Form) (rows : List Row) (word : Text) (rest : List Text)
    (not_dashes : bytes_eq word dashes ≡ false) where
  pub unknown_turn : (name : Text) (v : Option Text) → long_of word ≡ Some (name, v) → form_named name forms ≡ None
      → outcome (leaf own forms) (at_rest rows) (word ∷ rest) ≡ None
  unfolding walked
  unknown_turn name v long is = let found = long_none forms name is in rw (not_dashes, long, found) refl

  pub flag_turn : (name : Text) (b : Bool) → has_row name rows ≡ b → long_of word ≡ Some (name, None)
      → form_named name forms ≡ Some (without_value name)
      → outcome (leaf own forms) (at_rest rows) (word ∷ rest)
      ≡ guard (not (has_row name rows)) (outcome (leaf own forms) (at_rest (rows ++ given_row (flag name) ∷ [])) rest)
  unfolding walked
  flag_turn name true e long is = let found = long_some forms name (without_value name) is in
      rw (not_dashes, long, found, e) refl
  flag_turn name false e long is =
      let found = long_some forms name (without_value name) is in
      rw (not_dashes, long, found, e, used_flag name rows e) refl

  pub value_turn : (name : Text) → long_of word ≡ Some (name, None) → form_named name forms ≡ Some (with_value name)
      → outcome (leaf own forms) (at_rest rows) (word ∷ rest) ≡ outcome (leaf own forms) (expecting name rows) rest
  unfolding walked
  value_turn name long is = let found = long_some forms name (with_value name) is in rw (not_dashes, long, found) refl

  pub pair_turn : (name text : Text) (b : Bool) → has_row name rows ≡ b → long_of word ≡ Some (name, Some text)
      → form_named name forms ≡ Some (with_value name)
      → outcome (leaf own forms) (at_rest rows) (word ∷ rest)
      ≡ guard (not (has_row name rows)) (outcome (leaf own forms) (at_rest (rows ++ given_row (value name text) ∷ []))
      rest)
  unfolding walked
  pair_turn name text true e long is = let found = long_some forms name (with_value name) is in
      rw (not_dashes, long, found, e) refl
  pair_turn name text false e long is =
      let found = long_some forms name (with_value name) is in
      rw (not_dashes, long, found, e, used_value name text rows e) refl

  pub pair_flag : (name text : Text) → long_of word ≡ Some (name, Some text)
      → form_named name forms ≡ Some (without_value name)
      → outcome (leaf own forms) (at_rest rows) (word ∷ rest) ≡ None
  unfolding walked
  pair_flag name text long is = let found = long_some forms name (without_value name) is in
      rw (not_dashes, long, found) refl

  pub plain_turn : long_of word ≡ None → short_of word ≡ None
      → outcome (leaf own forms) (at_rest rows) (word ∷ rest) ≡ None
  unfolding walked
  plain_turn long short = let none_at = no_index forms 1 in rw (not_dashes, long, short, none_at) refl

  -- an option that expects a value
  module _ (name : Text) (takes : form_named name forms ≡ Some (with_value name)) where
    expect_long : (other : Text) (v : Option Text) → long_of word ≡ Some (other, v) → Formed forms other
        → outcome (leaf own forms) (expecting name rows) (word ∷ rest) ≡ None
    unfolding walked
    expect_long other v long (unknown _ _ is) = let found = long_none forms other is in
        rw (not_dashes, long, found) refl
    expect_long other None long (valued _ _ is) =
        let found = long_some forms other (with_value other) is in
        let own_rule = id_some forms name (with_value name) takes in
        rw (not_dashes, long, found, own_rule) refl
    expect_long other (Some text) long (valued _ _ is) =
        let found = long_some forms other (with_value other) is in
        let own_rule = id_some forms name (with_value name) takes in
        rw (not_dashes, long, found, own_rule) refl
    expect_long other None long (flagged _ _ is) =
        let found = long_some forms other (without_value other) is in
        let own_rule = id_some forms name (with_value name) takes in
        rw (not_dashes, long, found, own_rule) refl
    expect_long other (Some text) long (flagged _ _ is) = let found = long_some forms other (without_value other) is in
        rw (not_dashes, long, found) refl

    pub expect_option : (other : Text) (v : Option Text) → long_of word ≡ Some (other, v)
        → outcome (leaf own forms) (expecting name rows) (word ∷ rest) ≡ None
    expect_option other v long = expect_long other v long (formed forms other)

    pub expect_plain : long_of word ≡ None → short_of word ≡ None
        → outcome (leaf own forms) (expecting name rows) (word ∷ rest) ≡ outcome (leaf own forms)
        (holding name word rows) rest
    unfolding walked
    expect_plain long short =
        let own_rule = id_some forms name (with_value name) takes in
        let same = same_text name in
        rw (not_dashes, long, short, own_rule, same) refl

pub expect_end : (own : Text) (forms : List Form) (rows : List Row) (name : Text)
    → form_named name forms ≡ Some (with_value name)
    → outcome (leaf own forms) (expecting name rows) [] ≡ None
expect_end own forms rows name takes = let own_rule = id_some forms name (with_value name) takes in rw own_rule refl

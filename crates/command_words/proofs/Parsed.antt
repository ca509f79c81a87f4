-- The whole command line: clap takes what the table takes, and finds what it gives.
use Rattle.std.proofs.Common.{◌≡◌, ◌&&◌, ◌||◌, ◌∙◌, not, Bool, true, false, cond, refl, sym, ap, ap₂, subst, List, [], ◌∷◌, ◌++◌, map, fold, find, append-nil, append_assoc, Option, Some, None, is_some, option_map, option_and_then, codes}
use Rattle.std.proofs.lemmas.Slice.Eq.{bytes_eq-Decides}
use Rattle.std.specs.List.{list_all, list_any}
use Rattle.std.specs.Str.{bytes_eq}
use Rattle.clap.proofs.FaultLemmas.{stopped_fault}
use Rattle.clap.specs.Faults.{built_fault, check_fault, default_fault, defaults_fault, entered_fault, fault_of, level_fault, settle_fault, turn_fault, walk_fault}
use Rattle.clap.specs.Kinds.{IsAmong, Kinds, or_else}
use Rattle.clap.specs.declared.error.kind.ErrorKind.{ErrorKind}
use Rattle.clap.specs.Lexer.{long_of, short_of}
use Rattle.clap.specs.Simple.{App, Shape, built, entered, label_of, names_of, subcommand_of}
use Rattle.clap.specs.Faults.{is_simple_and_free}
use Rattle.clap.specs.Walk.{Held, Names, Row, Rule, Walk, answers_to, has_row, idle, nothing_held, rows_after, settled, stop_after, subcommand_met, walk, walk_from, walked, with_default}
use Rattle.clap.specs.Takes.{is_given}
use Rattle.clap.specs.Matches.{subcommand_name_of}
use Rattle.clap.specs.Simple.{subcommand_rows_of}
use Rattle.clap.specs.declared.parser.matches.ArgMatches.{ArgMatches}
use Rattle.clap.specs.declared.parser.matches.ArgMatches.TheViews.{out-ArgMatches}
use Rattle.command_words.specs.Job.{Command, asked_of, commands, job_of}
use Rattle.command_words.specs.Options.{Form, Given, are_new, given_once, options}
use Rattle.command_words.specs.Program.{built_rule, fits, found_asked, found_rows, given_row, program_app, program_shape}
use Rattle.command_words.specs.Words.{Text, is_stray as stray_word, word_of}
use Rattle.command_words.proofs.Behind.{finds, found, has_stray, no_stray, rest_strays}
use Rattle.command_words.proofs.Emptiness.{both, and-false, and-nothing, guard, map-guard, none, none-or_else}
use Rattle.command_words.proofs.Looks.{Look, dashes, is_named, is_paired, is_plain, is_stray, look}
use Rattle.command_words.proofs.Options.{fresh, options_fit, options_stray}
use Rattle.command_words.proofs.Walks.{end_of, leaf, outcome_is}

-- ---- behind the walk over a command's options nothing fails

no_default_fault : (rows : List Row) (form : Form) → default_fault rows (built_rule form) ≡ []
no_default_fault rows form = go (has_row form.name rows) form.has_value refl refl
  where
    go : (b has : Bool) → has_row form.name rows ≡ b → form.has_value ≡ has → default_fault rows (built_rule form) ≡ []
    go true has there e = rw there refl
    go false true there e = rw (there, e) refl
    go false false there e = rw (there, e) refl

no_defaults_fault : (rows : List Row) (forms : List Form) → defaults_fault rows (map built_rule forms) ≡ []
unfolding defaults_fault
no_defaults_fault rows [] = refl
no_defaults_fault rows (form ∷ rest) =
    rw (no_default_fault rows form) (no_defaults_fault (with_default rows (built_rule form)) rest)

none_required : (forms : List Form) (p : Rule → Bool)
    → list_any (λ (rule : Rule). rule.required && p rule) (map built_rule forms) ≡ false
none_required [] p = refl
none_required (form ∷ rest) p = none_required rest p

pub simple_program : is_simple_and_free program_app ≡ true
simple_program = refl

-- ---- the program as clap builds it

abbrev built_leaf : Command → Shape
built_leaf command = leaf command.name command.forms

abbrev built_app : List Command → App
built_app of = record { top = record program_shape { is_built = true }; subs = map built_leaf of }

program_built : built program_app ≡ built_app commands
program_built = refl

-- clap's parse of words, where nothing fails
abbrev parsed : App → List Text → Option (Text × List Row)
parsed app words = guard (none (built_fault app nothing_held words))
    (entered app (stop_after app.top.rules (names_of app) words))

abbrev pub named_so : Text → Command → Bool
named_so word command = bytes_eq command.name word

found_label : (of : List Command) (word : Text)
    → find (answers_to word) (map label_of (map built_leaf of)) ≡ option_map (λ (command : Command). (command.name, []))
    (find (named_so word) of)
found_label [] word = refl
found_label (first ∷ rest) word = go (bytes_eq first.name word) (found_label rest word)
  where
    go : (b : Bool)
        → find (answers_to word) (map label_of (map built_leaf rest)) ≡ option_map
        (λ (command : Command). (command.name, [])) (find (named_so word) rest)
        → cond (b || false) (Some (label_of (built_leaf first)))
        (find (answers_to word) (map label_of (map built_leaf rest)))
        ≡ option_map (λ (command : Command). (command.name, [])) (cond b (Some first) (find (named_so word) rest))
    go true more = refl
    go false more = more

found_leaf : (of : List Command) (word : Text)
    → find (λ s. answers_to word (label_of s)) (map built_leaf of) ≡ option_map built_leaf (find (named_so word) of)
found_leaf [] word = refl
found_leaf (first ∷ rest) word = go (bytes_eq first.name word) (found_leaf rest word)
  where
    go : (b : Bool) → find (λ s. answers_to word (label_of s)) (map built_leaf rest) ≡ option_map built_leaf
        (find (named_so word) rest)
        → cond (b || false) (Some (built_leaf first)) (find (λ s. answers_to word (label_of s)) (map built_leaf rest))
        ≡ option_map built_leaf (cond b (Some first) (find (named_so word) rest))
    go true more = refl
    go false more = more

-- ---- a command's own words

map-map : {X Y Z : Type 0} (f : Y → Z) (g : X → Y) (o : Option X)
    → option_map f (option_map g o) ≡ option_map (λ x. f (g x)) o
map-map f g None = refl
map-map f g (Some x) = refl

module _ (command : Command) (words : List Text) where
  abbrev walks : Kinds
  walks = walk_fault (built_leaf command) [] (walk_from nothing_held) words

  abbrev end : Held
  end = end_of (built_leaf command) (walk_from nothing_held) words

  abbrev settles : Kinds
  settles = settle_fault (map built_rule command.forms) false end

  abbrev own_fault : Kinds
  own_fault = level_fault (built_leaf command) [] nothing_held words false []

  no_check_fault : (rows : List Row) → check_fault (built_leaf command) rows false ≡ []
  no_check_fault rows = rw (none_required command.forms (λ rule. not (is_given rule.id rows))) refl

  own_fault_is : own_fault ≡ or_else walks (or_else settles [])
  own_fault_is = ap₂ (λ defaults checks. or_else walks (or_else settles (or_else defaults checks)))
      (no_defaults_fault (settled (map built_rule command.forms) end).rows command.forms)
      (no_check_fault (rows_after (map built_rule command.forms) [] words))

  own_none : none own_fault ≡ (none walks && none settles)
  own_none = ap none own_fault_is ∙ none-or_else walks (or_else settles [])
      ∙ ap (λ b. none walks && b) (none-or_else settles [] ∙ and-nothing (none settles))

  abbrev with_defaults : List Row → List Row
  with_defaults rows = fold with_default rows (map built_rule command.forms)

  own_rows : has_stray words ≡ false
      → guard (none own_fault) (Some (rows_after (map built_rule command.forms) [] words)) ≡ option_map
      (found_rows command.forms) (given_once command.forms words)
  own_rows none_stray =
      ap (λ b. guard b (Some (rows_after (map built_rule command.forms) [] words))) own_none
      ∙ sym (map-guard with_defaults (none walks && none settles)
      (Some (settled (map built_rule command.forms) end).rows))
      ∙ ap (option_map with_defaults) (sym (outcome_is (built_leaf command) (walk_from nothing_held) words)
      ∙ finds command.name command.forms words [] none_stray)
      ∙ map-map with_defaults (map given_row) (given_once command.forms words)

-- ---- the first word

stopped_walk : (names : Names) (w : Walk) (name : Text) (before rest : List Text)
    → fold (walked [] names) (record w { stopped = Some (name, before) }) rest ≡ record w {
      stopped =
          Some (name, before ++ rest);
    }
unfolding walked
stopped_walk names w name before [] = ap (λ words. record w { stopped = Some (name, words) }) (sym (append-nil before))
stopped_walk names w name before (word ∷ rest) =
    stopped_walk names w name (before ++ word ∷ []) rest ∙ ap (λ words. record w { stopped = Some (name, words) })
    (append_assoc before (word ∷ []) rest)

module _ (of : List Command) where
  abbrev names : Names
  names = names_of (built_app of)

  abbrev top : Shape
  top = (built_app of).top

  abbrev by_stop : List Text → Option (Text × List Text) → Option (Text × List Row)
  by_stop words stop =
      guard (none (level_fault top names nothing_held words (is_some (entered (built_app of) stop))
      (entered_fault (built_app of) stop)))
      (entered (built_app of) stop)

  module _ (command : Command) (rest : List Text) (known : find (named_so command.name) of ≡ Some command) where
    met : subcommand_met names idle command.name ≡ Some command.name
    met = ap (option_map (λ (label : Text × List Text). label.0)) (found_label of command.name
        ∙ ap (option_map (λ (c : Command). (c.name, []))) known)

    first_step : walked [] names (walk_from nothing_held) command.name ≡ record (walk_from nothing_held) {
      stopped =
          Some (command.name, []);
    }
    unfolding walked
    first_step = rw met refl

    walk_is : walk [] names nothing_held (command.name ∷ rest) ≡ record (walk_from nothing_held) {
      stopped =
          Some (command.name, rest);
    }
    walk_is = ap (λ w. fold (walked [] names) w rest) first_step
        ∙ stopped_walk names (walk_from nothing_held) command.name [] rest

    leaf_is : find (λ s. answers_to command.name (label_of s)) (map built_leaf of) ≡ Some (built_leaf command)
    leaf_is = found_leaf of command.name ∙ ap (option_map built_leaf) known

    turn_is : turn_fault top names (walk_from nothing_held) command.name ≡ []
    turn_is = let no_help = and-false (bytes_eq command.name (codes "help")) in rw (met, no_help) refl

    top_walk : walk_fault top names (walk_from nothing_held) (command.name ∷ rest) ≡ []
    unfolding walk_fault
    top_walk = rw (turn_is, first_step) (stopped_fault top names (walk_from nothing_held) (command.name, []) rest)

    top_level : (below : Kinds) → level_fault top names nothing_held (command.name ∷ rest) true below ≡ or_else below []
    unfolding defaults_fault
    top_level below = rw (top_walk, walk_is) refl

    known_parsed : has_stray rest ≡ false
        → parsed (built_app of) (command.name ∷ rest) ≡ option_map found_asked (asked_of of (command.name ∷ rest))
    known_parsed none_stray =
        ap (by_stop (command.name ∷ rest)) (ap (λ (w : Walk). w.stopped) walk_is)
        ∙ rw (leaf_is, top_level (own_fault command rest), known) (
        ap (λ b. guard b (Some (command.name, rows_after (map built_rule command.forms) [] rest)))
        (none-or_else (own_fault command rest) [] ∙ and-nothing (none (own_fault command rest)))
        ∙ sym (map-guard (λ rows. (command.name, rows)) (none (own_fault command rest))
        (Some (rows_after (map built_rule command.forms) [] rest)))
        ∙ ap (option_map (λ rows. (command.name, rows))) (own_rows command rest none_stray)
        ∙ map-map (λ rows. (command.name, rows)) (found_rows command.forms) (given_once command.forms rest)
        ∙ sym (map-map found_asked (λ given. (command, given)) (given_once command.forms rest)))

  module _ (word : Text) (rest : List Text) (nothing : find (named_so word) of ≡ None) where
    met_none : subcommand_met names idle word ≡ None
    met_none = ap (option_map (λ (label : Text × List Text). label.0)) (found_label of word
        ∙ ap (option_map (λ (c : Command). (c.name, []))) nothing)

    unknown_long : (name : Text) (v : Option Text) → bytes_eq word dashes ≡ false → long_of word ≡ Some (name, v)
        → parsed (built_app of) (word ∷ rest) ≡ None
    unfolding walk_fault
    unknown_long name v not_dashes long = rw (met_none, not_dashes, long) refl

    unknown_plain : bytes_eq word dashes ≡ false → long_of word ≡ None → short_of word ≡ None
        → parsed (built_app of) (word ∷ rest) ≡ None
    unfolding walk_fault
    unknown_plain not_dashes long short = rw (met_none, not_dashes, long, short) refl

    unknown_parsed : Look word → has_stray (word ∷ rest) ≡ false
        → parsed (built_app of) (word ∷ rest) ≡ option_map found_asked (asked_of of (word ∷ rest))
    unknown_parsed (is_named _ name is not_dashes long) none_stray = unknown_long name None not_dashes long
        ∙ rw nothing refl
    unknown_parsed (is_paired _ name text is not_dashes long) none_stray = unknown_long name (Some text) not_dashes long
        ∙ rw nothing refl
    unknown_parsed (is_plain _ is not_dashes long short) none_stray = unknown_plain not_dashes long short
        ∙ rw nothing refl
    unknown_parsed (is_stray _ is) none_stray = absurd (no_stray word rest is none_stray)

-- ---- all words

pub known_name : (of : List Command) (word : Text) (command : Command) → find (named_so word) of ≡ Some command
    → command.name ≡ word
known_name [] word command e = absurd (cc)
known_name (first ∷ rest) word command e = go (bytes_eq first.name word) refl (known_name rest word command) e
  where
    go : (b : Bool) → bytes_eq first.name word ≡ b → (find (named_so word) rest ≡ Some command → command.name ≡ word)
        → cond b (Some first) (find (named_so word) rest) ≡ Some command → command.name ≡ word
    go true same more is = let one : first ≡ command = cc in ap (λ (c : Command). c.name) (sym one)
        ∙ (bytes_eq-Decides first.name word).0 same
    go false other more is = more is

-- the command that a word names is the one of its own name
pub known_itself : (of : List Command) (word : Text) (command : Command) → find (named_so word) of ≡ Some command
    → find (named_so command.name) of ≡ Some command
known_itself of word command known = subst (λ w. find (named_so w) of ≡ Some command)
    (sym (known_name of word command known)) known

abbrev Parses : List Command → List Text → Type 0
Parses of words = parsed (built_app of) words ≡ option_map found_asked (asked_of of words)

parses_from : (of : List Command) (word : Text) (rest : List Text) (found : Option Command)
    → has_stray (word ∷ rest) ≡ false
    → find (named_so word) of ≡ found → Parses of (word ∷ rest)
parses_from of word rest None none known = unknown_parsed of word rest known (look word) none
parses_from of word rest (Some command) none known =
    subst (λ w. Parses of (w ∷ rest)) (known_name of word command known)
    (known_parsed of command rest (known_itself of word command known) (rest_strays word rest none))

parses_none : (of : List Command) → Parses of []
unfolding walk_fault defaults_fault
parses_none of = refl

parses : (of : List Command) (words : List Text) → has_stray words ≡ false → Parses of words
parses of [] none = parses_none of
parses of (word ∷ rest) none = parses_from of word rest (find (named_so word) of) none refl

program_parses : (words : List Text) → has_stray words ≡ false
    → guard (none (fault_of program_app words)) (subcommand_of program_app words) ≡ option_map found_asked
    (asked_of commands words)
program_parses words none_stray = ap (λ app. parsed app words) program_built ∙ parses commands words none_stray

-- what clap takes is what is asked
pub taken_asked : (words : List Text) → has_stray words ≡ false → fault_of program_app words ≡ []
    → subcommand_of program_app words ≡ option_map found_asked (asked_of commands words)
taken_asked words none_stray taken =
    sym (ap (λ faults. guard (none faults) (subcommand_of program_app words)) taken) ∙ program_parses words none_stray

not_none : (k : ErrorKind) (kinds : Kinds) → IsAmong k kinds → none kinds ≡ false
not_none k [] among = absurd among
not_none k (x ∷ xs) among = refl

no_asking : (asking : Option (Command × List Given)) → None ≡ option_map found_asked asking → asking ≡ None
no_asking None e = refl
no_asking (Some asking) e = absurd (cc)

-- what it refuses asks for no job
pub refused_job : (words : List Text) (k : ErrorKind) → has_stray words ≡ false → IsAmong k (fault_of program_app words)
    → job_of words ≡ None
refused_job words k none_stray among =
    ap (option_and_then (λ (asking : Command × List Given). asking.0.job asking.1)) (no_asking (asked_of commands words)
    (sym (ap (λ b. guard b (subcommand_of program_app words)) (not_none k (fault_of program_app words) among))
    ∙ program_parses words none_stray))

-- ---- stray words

plain_names : (of : List Command) (word : Text)
    → list_all (λ (command : Command). not (stray_word (word_of command.name))) of ≡ true
    → stray_word (word_of word) ≡ true → find (named_so word) of ≡ None
plain_names [] word all stray_in = refl
plain_names (first ∷ rest) word all stray_in =
    go (bytes_eq first.name word) refl (plain_names rest word (both (not (stray_word (word_of first.name))) _ all).1
    stray_in)
  where
    go : (b : Bool) → bytes_eq first.name word ≡ b → find (named_so word) rest ≡ None
        → cond b (Some first) (find (named_so word) rest) ≡ None
    go true same more =
        let name : first.name ≡ word = (bytes_eq-Decides first.name word).0 same in
        let is : stray_word (word_of first.name) ≡ true = ap (λ w. stray_word (word_of w)) name ∙ stray_in in
        let bad : false ≡ true = sym (ap not is) ∙ (both (not (stray_word (word_of first.name))) _ all).0 in
        absurd (cc)
    go false other more = more

strays_in : (words : List Text) → list_any stray_word (map word_of words) ≡ has_stray words
strays_in [] = refl
strays_in (word ∷ rest) = ap (λ b. stray_word (word_of word) || b) (strays_in rest)

no_options : (command : Command) (rest : List Text) → has_stray rest ≡ true → given_once command.forms rest ≡ None
no_options command rest stray_in = ap (fresh []) (options_stray command.forms (map word_of rest) (strays_in rest
    ∙ stray_in))

stray_rest : (word : Text) (rest : List Text) (found : Option Command) → has_stray rest ≡ true
    → option_and_then (λ (asking : Command × List Given). asking.0.job asking.1)
    (option_and_then (λ (command : Command). option_map (λ given. (command, given)) (given_once command.forms rest))
    found) ≡ None
stray_rest word rest None stray_in = refl
stray_rest word rest (Some command) stray_in =
    ap (λ given. option_and_then (λ (asking : Command × List Given). asking.0.job asking.1)
    (option_map (λ g. (command, g)) given))
    (no_options command rest stray_in)

pub stray_job : (words : List Text) → has_stray words ≡ true → job_of words ≡ None
stray_job [] stray_in = absurd (cc)
stray_job (word ∷ rest) stray_in = go (stray_word (word_of word)) refl stray_in
  where
    go : (b : Bool) → stray_word (word_of word) ≡ b → (b || has_stray rest) ≡ true → job_of (word ∷ rest) ≡ None
    go true first is =
        ap (λ found. option_and_then (λ (asking : Command × List Given). asking.0.job asking.1)
        (option_and_then (λ (command : Command). option_map (λ given. (command, given)) (given_once command.forms rest))
        found))
        (plain_names commands word refl first)
    go false first is = stray_rest word rest (find (named_so word) commands) is

-- ---- what is known of what is asked

pub record IsAsked (command : Command) (given : List Given) : Type 0 where
  pub itself : find (named_so command.name) commands ≡ Some command
  pub fit : list_all (fits command.forms) given ≡ true

once_fit : (forms : List Form) (given all : List Given) → cond (are_new [] given) (Some given) None ≡ Some all
    → given ≡ all
once_fit forms given all e = go (are_new [] given) e
  where
    go : (b : Bool) → cond b (Some given) None ≡ Some all → given ≡ all
    go true is = cc
    go false is = absurd (cc)

given_fit : (forms : List Form) (words : List Text) (found : Option (List Given)) (all : List Given)
    → options forms (map word_of words) ≡ found
    → fresh [] found ≡ Some all → list_all (fits forms) all ≡ true
given_fit forms words None all said once = absurd (cc)
given_fit forms words (Some given) all said once =
    let same = once_fit forms given all once in
    options_fit forms (map word_of words) all (said ∙ ap Some same)

asked_from : (word : Text) (rest : List Text) (command : Command) (found : Option (List Given)) (asking : Command
    × List Given)
    → find (named_so word) commands ≡ Some command → given_once command.forms rest ≡ found
    → option_map (λ given. (command, given)) found ≡ Some asking → IsAsked asking.0 asking.1
asked_from word rest command None asking known given is = absurd (cc)
asked_from word rest command (Some all) asking known given is =
    let one : command ≡ asking.0 = cc in
    let two : all ≡ asking.1 = cc in
    subst (λ (pair : Command × List Given). IsAsked pair.0 pair.1) (λ i. (one i, two i)) (record {
      itself = known_itself commands word command known;
      fit = given_fit command.forms rest (options command.forms (map word_of rest)) all refl given;
    })

asked_by : (word : Text) (rest : List Text) (found : Option Command) (asking : Command × List Given)
    → find (named_so word) commands ≡ found
    → option_and_then (λ (command : Command). option_map (λ given. (command, given)) (given_once command.forms rest))
    found ≡ Some asking
    → IsAsked asking.0 asking.1
asked_by word rest None asking known is = absurd (cc)
asked_by word rest (Some command) asking known is = asked_from word rest command (given_once command.forms rest) asking
    known refl is

pub asked_known : (words : List Text) (asking : Command × List Given) → asked_of commands words ≡ Some asking
    → IsAsked asking.0 asking.1
asked_known [] asking is = absurd (cc)
asked_known (word ∷ rest) asking is = asked_by word rest (find (named_so word) commands) asking refl is

pub same_command : (name word : Text) (made command : Command) → name ≡ word → find (named_so word) commands ≡ Some made
    → find (named_so name) commands ≡ Some command → made ≡ command
same_command name word made command is found known =
    let one : Some made ≡ Some command = sym found ∙ subst (λ w. find (named_so w) commands ≡ Some command) is known in
    cc

-- ---- what clap's matches say

name_of_rows : (matches : ArgMatches)
    → subcommand_name_of matches ≡ option_map (λ (found : Text × List Row). found.0) (subcommand_rows_of matches)
name_of_rows matches = sym (map-map (λ (found : Text × List Row). found.0) _ (out-ArgMatches matches).subcommand)

-- the command that is asked for, and what it is given, by the matches' own subcommand
pub record Tells (words : List Text) (name : Text) (rows : List Row) : Type 0 where
  pub command : Command
  pub given : List Given
  pub asked : asked_of commands words ≡ Some (command, given)
  pub known : find (named_so name) commands ≡ Some command
  pub found : rows ≡ found_rows command.forms given
  pub fit : list_all (fits command.forms) given ≡ true

tells_from : (words : List Text) (asking : Option (Command × List Given)) (name : Text) (rows : List Row)
    → asked_of commands words ≡ asking
    → Some name ≡ option_map (λ (found : Text × List Row). found.0) (option_map found_asked asking)
    → Some rows ≡ option_map (λ (found : Text × List Row). found.1) (option_map found_asked asking)
    → Tells words name rows
tells_from words None name rows is its_name its_rows = absurd (cc)
tells_from words (Some asking) name rows is its_name its_rows =
    let facts = asked_known words asking is in
    let same : name ≡ asking.0.name = cc in
    record {
      command = asking.0;
      given = asking.1;
      asked = is;
      known = subst (λ w. find (named_so w) commands ≡ Some asking.0) (sym same) facts.itself;
      found = cc;
      fit = facts.fit;
    }

pub tells : (words : List Text) (matches : ArgMatches) (name : Text) (rows : List Row)
    → subcommand_rows_of matches ≡ option_map found_asked (asked_of commands words)
    → Some name ≡ subcommand_name_of matches
    → Some rows ≡ option_map (λ (found : Text × List Row). found.1) (subcommand_rows_of matches) → Tells words name rows
tells words matches name rows is its_name its_rows =
    tells_from words (asked_of commands words) name rows refl
    (its_name ∙ name_of_rows matches ∙ ap (option_map (λ (found : Text × List Row). found.0)) is)
    (its_rows ∙ ap (option_map (λ (found : Text × List Row). found.1)) is)

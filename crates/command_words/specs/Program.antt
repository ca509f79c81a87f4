-- What clap reads of the program, and what it finds where words give options.
use Rattle.std.specs.Prelude.{◌≡◌, Bool, true, false, List, [], ◌∷◌, map, fold, Some, None, codes, if◌then◌else◌}
use Rattle.std.specs.List.{list_all}
use Rattle.clap.specs.Words.{App, Row, Rule, Shape, found_of, new_rule, rows_of}
use Rattle.clap.specs.Simple.{filled, new_shape}
use Rattle.clap.specs.Walk.{with_default}
use Rattle.clap.specs.declared.builder.action.ArgAction.TheVariants.{Set, SetTrue}
use Rattle.clap.specs.declared.builder.value_parser.Reading.TheVariants.{AsWritten}
use Rattle.clap.specs.declared.parser.matches.ArgMatches.{ArgMatches}
use Rattle.clap.specs.declared.parser.matches.ValueSource.TheVariants.{CommandLine}
use Rattle.command_words.specs.Job.{Command, commands}
use Rattle.command_words.specs.Options.{Form, Given, flag, value, takes_none, takes_value}
use Rattle.command_words.specs.Words.{Text}

-- an option, as the code makes it and as clap builds it
abbrev pub option_rule : Form → Rule
option_rule form = record (new_rule form.name) {
  long = Some form.name;
  action =
      Some (if form.has_value then Set else SetTrue);
}

abbrev pub built_rule : Form → Rule
built_rule form = filled (option_rule form)

abbrev pub command_shape : Command → Shape
command_shape command = record (new_shape command.name) { rules = map option_rule command.forms }

abbrev pub no_commands : App
no_commands = record {
  top = record (new_shape (codes "pepc")) {
    no_binary_name = true;
    disable_help_flag = true;
    disable_help_subcommand = true;
    disable_version_flag = true;
    subcommand_required = true;
  };
  subs = [];
}

abbrev pub program_shape : Shape
program_shape = record no_commands.top { is_leaf = false }

abbrev pub program_app : App
program_app = record { top = program_shape; subs = map command_shape commands }

-- what is found for an option that is given
abbrev pub row_with : Text → Text → Row
row_with name text = record {
  id = name;
  values = text ∷ [];
  count = None;
  source = Some CommandLine;
  reading =
      AsWritten;
}

abbrev pub given_row : Given → Row
given_row (flag name) = row_with name (codes "true")
given_row (value name text) = row_with name text

-- and for all options of a command
abbrev pub found_rows : List Form → List Given → List Row
found_rows forms given = fold with_default (map given_row given) (map built_rule forms)

-- the name and the rows of what is asked
abbrev pub found_asked : Command × List Given → Text × List Row
found_asked asking = (asking.0.name, found_rows asking.0.forms asking.1)

-- the option is one of the command's
abbrev pub fits : List Form → Given → Bool
fits forms (flag name) = takes_none forms name
fits forms (value name text) = takes_value forms name

-- clap found just these options of a command
pub record Gives (matches : ArgMatches) (forms : List Form) (given : List Given) : Type 0 where
  pub rows : rows_of (found_of matches) ≡ found_rows forms given
  pub fit : list_all (fits forms) given ≡ true

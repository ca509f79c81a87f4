use Rattle.std.proofs.Common.{◌≡◌, ◌∙◌, true, ap, codes}
use Rattle.clap.specs.Simple.{App, app_of, app_of_fields, new_app}
use Rattle.command_words.proofs.program.no_commands.Goals as goal

abbrev words_alone : App → App
words_alone app = record app { top = record app.top { no_binary_name = true } }

abbrev no_flag : App → App
no_flag app = record app { top = record app.top { disable_help_flag = true } }

abbrev no_command : App → App
no_command app = record app { top = record app.top { disable_help_subcommand = true } }

abbrev no_version : App → App
no_version app = record app { top = record app.top { disable_version_flag = true } }

abbrev one_wanted : App → App
one_wanted app = record app { top = record app.top { subcommand_required = true } }

pub returns : goal.returns
returns c =
    let first : app_of c.no_binary_name.result ≡ words_alone (new_app (codes "pepc")) =
    ap app_of_fields c.no_binary_name.ensures ∙ ap words_alone c.new.ensures.app in
    let second : app_of c.disable_help_flag.result ≡ no_flag (app_of c.no_binary_name.result) =
    ap app_of_fields c.disable_help_flag.ensures in
    let third : app_of c.disable_help_subcommand.result ≡ no_command (app_of c.disable_help_flag.result) =
    ap app_of_fields c.disable_help_subcommand.ensures in
    let fourth : app_of c.disable_version_flag.result ≡ no_version (app_of c.disable_help_subcommand.result) =
    ap app_of_fields c.disable_version_flag.ensures in
    let fifth : app_of c.subcommand_required.result ≡ one_wanted (app_of c.disable_version_flag.result) =
    ap app_of_fields c.subcommand_required.ensures in
    fifth ∙ ap one_wanted (fourth ∙ ap no_version (third ∙ ap no_command (second ∙ ap no_flag first)))

use Rattle.std.proofs.Common.{◌≡◌, ◌∙◌, List, Option, Some, None, refl, sym, ap, option_and_then, option_map}
use Rattle.std.proofs.lemmas.Result.{IfOk-weaker}
use Rattle.clap.specs.Matches.{found_of}
use Rattle.clap.specs.Simple.{subcommand_rows_of}
use Rattle.clap.specs.Walk.{Row, rows_of}
use Rattle.command_words.specs.Job.{Command, asked_of, commands, job_of}
use Rattle.command_words.specs.Options.{Given}
use Rattle.command_words.specs.Program.{found_asked}
use Rattle.command_words.specs.Words.{Text}
use Rattle.command_words.proofs.Parsed.{tells}
use Rattle.command_words.proofs.words.asked.Goals as goal

none_asked : (words : List Text) (rows : Option (Text × List Row))
    → rows ≡ option_map found_asked (asked_of commands words)
    → None ≡ option_map (λ (found : Text × List Row). found.1) rows → None ≡ job_of words
none_asked words rows is none = go (asked_of commands words) is
  where
    go : (asking : Option (Command × List Given)) → rows ≡ option_map found_asked asking
        → None ≡ option_and_then (λ (asking : Command × List Given). asking.0.job asking.1) asking
    go None same = refl
    go (Some asking) same = absurd (cc (none ∙ ap (option_map (λ (found : Text × List Row). found.1)) same))

pub returns-in_default : goal.returns-in_default
returns-in_default c = λ words is. none_asked words (subcommand_rows_of c.args.matches.now) is c.in_default.ensures.rows

pub returns : goal.returns
returns c = λ words is.
    let told = tells words c.args.matches.now c.in-Some.name.now (rows_of (found_of c.in-Some.inner.now)) is
    c.in-Some.ensures.name c.in-Some.ensures.rows in
    IfOk-weaker c.job_named.result _ _ (λ found is_job. is_job
    ∙ sym (ap (option_and_then (λ (asking : Command × List Given). asking.0.job asking.1)) told.asked))
    (c.job_named.ensures told.command told.given told.known (record { rows = told.found; fit = told.fit }))

use Rattle.std.proofs.Common.{◌∙◌, ap, ap₂}
use Rattle.std.proofs.lemmas.Result.{IfOk-weaker}
use Rattle.clap.specs.Simple.{App, with_subcommand}
use Rattle.command_words.proofs.program.program.Goals as goal

pub returns : goal.returns
returns c =
    let one = c.in_ok-subcommand.ensures.shape c.new.ensures.local
    ∙ ap₂ with_subcommand c.no_commands.ensures (ap (λ (app : App). app.top) c.new.ensures.app) in
    let two = c.in_ok-subcommand-2.ensures.shape c.in_ok-drive.ensures.local
    ∙ ap₂ with_subcommand one c.in_ok-drive.ensures.shape in
    let three = c.in_ok-subcommand-3.ensures.shape c.in_ok-replay.ensures.local
    ∙ ap₂ with_subcommand two c.in_ok-replay.ensures.shape in
    let four = c.in_ok-subcommand-4.ensures.shape c.in_ok-make.ensures.local
    ∙ ap₂ with_subcommand three c.in_ok-make.ensures.shape in
    let five = c.in_ok-subcommand-5.ensures.shape c.new-2.ensures.local
    ∙ ap₂ with_subcommand four (ap (λ (app : App). app.top) c.new-2.ensures.app) in
    let six = c.in_ok-subcommand-6.ensures.shape c.new-3.ensures.local
    ∙ ap₂ with_subcommand five (ap (λ (app : App). app.top) c.new-3.ensures.app) in
    let seven = c.in_ok-subcommand-7.ensures.shape c.in_ok-audit.ensures.local
    ∙ ap₂ with_subcommand six c.in_ok-audit.ensures.shape in
    let eight = c.in_ok-subcommand-8.ensures.shape c.in_ok-balance.ensures.local
    ∙ ap₂ with_subcommand seven c.in_ok-balance.ensures.shape in
    let nine = c.in_ok-subcommand-9.ensures.shape c.new-4.ensures.local
    ∙ ap₂ with_subcommand eight (ap (λ (app : App). app.top) c.new-4.ensures.app) in
    IfOk-weaker c.subcommand-10.result _ _ (λ program adds. adds.shape c.new-5.ensures.local
    ∙ ap₂ with_subcommand nine (ap (λ (app : App). app.top) c.new-5.ensures.app)) c.subcommand-10.ensures

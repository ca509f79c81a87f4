use Rattle.std.proofs.Common.{sym, ◌∙◌}
use Rattle.std.proofs.lemmas.Bool.{false≢true}
use Rattle.tft_match.specs.Choice.{by_default, none}
use Rattle.tft_match.proofs.choice.default_of.Goals as goal

pub returns-then-has_default : goal.returns-then-has_default
returns-then-has_default c = λ packet unfit.
    by_default c.args.rows.now packet unfit (c.has_default.ensures.0 c.if-has_default.true)

pub returns-else-has_default : goal.returns-else-has_default
returns-else-has_default c = λ packet unfit.
    none c.args.rows.now packet unfit
    (λ there. false≢true (sym c.if-has_default.false ∙ c.has_default.ensures.1 there))

use Rattle.std.proofs.Common.{ap, ◌∙◌}
use Rattle.tft_match.specs.Fit.{fits}
use Rattle.gtp_c_base.specs.Filter.{filter_said}
use Rattle.gtp_c.specs.Choice.{direction_said}
use Rattle.gtp_c.proofs.choice.gtp_c_tft_fits.Goals as goal

pub returns-in-Ok-clause-answer : goal.returns-in-Ok-clause-answer
returns-in-Ok-clause-answer c =
    rw c.in-Ok.ensures.faultless
    (c.fit_number.ensures
    ∙ ap (λ packet. fits (direction_said c.args.up) packet (filter_said c.args.filter.now)) c.in-Ok.ensures.packet)

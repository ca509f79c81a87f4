use Rattle.std.proofs.Common.{ap, ◌∙◌}
use Rattle.tft_match.specs.Fit.{fits}
use Rattle.tft_match.proofs.FitLemmas.{fits_told}
use Rattle.tft_match.proofs.fitting.matches.Goals as goal

pub returns-clause-fits : goal.returns-clause-fits
returns-clause-fits c =
    fits_told c.args.direction c.args.packet.now c.args.filter.now c.fits.result
    (c.fits.ensures ∙ ap (λ direction. fits direction c.args.packet.now c.args.filter.now) c.ends_of.ensures.direction)

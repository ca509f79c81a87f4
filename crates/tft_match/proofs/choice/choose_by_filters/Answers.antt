use Rattle.tft_match.proofs.ChoiceLemmas.{takes_first, no_candidate}
use Rattle.tft_match.proofs.choice.choose_by_filters.Goals as goal

pub returns-in-Some : goal.returns-in-Some
returns-in-Some c =
    takes_first c.args.rows.now c.args.packet.now (c.in-Some.field-0-0, c.in-Some.index, c.in-Some.field-0-2)
    c.in-Some.ensures

pub returns-in-None : goal.returns-in-None
returns-in-None c =
    c.default_of.ensures c.args.packet.now (no_candidate c.args.rows.now c.args.packet.now c.in-None.ensures)

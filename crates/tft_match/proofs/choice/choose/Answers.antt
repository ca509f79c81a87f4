use Rattle.tft_match.specs.Chosen.{chosen}
use Rattle.tft_match.proofs.ChoiceLemmas.{no_filters, takes_one}
use Rattle.tft_match.proofs.ChosenLemmas.{chosen_taken}
use Rattle.tft_match.proofs.choice.choose.Goals as goal

pub returns-then-have_filters : goal.returns-then-have_filters
returns-then-have_filters c =
    let rows = c.args.rows.now in
    let packet = c.args.packet.now in
    let taken = c.choose_by_filters.ensures in
    let only = takes_one rows packet c.choose_by_filters.result taken in
    record { taken = taken; only = only; chosen = only (chosen rows packet) (chosen_taken rows packet) }

pub returns-else-have_filters : goal.returns-else-have_filters
returns-else-have_filters c =
    let rows = c.args.rows.now in
    let packet = c.args.packet.now in
    let taken = c.default_of.ensures packet
    (no_filters rows packet (c.have_filters.ensures.0 c.if-have_filters.false)) in
    let only = takes_one rows packet c.default_of.result taken in
    record { taken = taken; only = only; chosen = only (chosen rows packet) (chosen_taken rows packet) }

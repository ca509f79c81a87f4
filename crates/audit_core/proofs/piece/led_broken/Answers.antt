use Rattle.std.proofs.Common.{◌≡◌, ◌∙◌, ap, refl, sym, subst}
use Rattle.audit_core.specs.Dues.{effects_lent}
use Rattle.audit_core.specs.Pieces.{FoundIn, FoundTo, led_by}
use Rattle.slot_execution.specs.Replaying.{effects_told, rows_told}
use Rattle.audit_core.specs.declared.sentence.Sentence.TheVariants as of
use Rattle.audit_core.proofs.PieceSteps.{counts_to, effects_in, entries_so, gateway_to, numbers_to, opens_low, order_to, rows_in, waits_to}
use Rattle.audit_core.proofs.piece.led_broken.Goals as goal

pub effects_found-requires : goal.effects_found-requires
effects_found-requires c =
    let own = c.requires.0 in
    let led = c.requires.2 in
    effects_in own c.args.slots (effects_lent c.as_slice-effects.result.now) led.slots_are
    (ap effects_lent c.as_slice-effects.ensures.value ∙ c.in_ok-caused.ensures
    ∙ ap effects_told c.as_slice.ensures.value ∙ led.plays.effects)

pub rows_found-requires : goal.rows_found-requires
rows_found-requires c =
    let own = c.requires.0 in
    let led = c.requires.2 in
    rows_in own c.args.slots c.as_slice-rows.result.now led.slots_are
    (c.as_slice-rows.ensures.value ∙ c.in_ok-closed.ensures ∙ ap rows_told c.as_slice-2.ensures.value
    ∙ led.plays.rows)

pub opens_found-requires : goal.opens_found-requires
opens_found-requires c =
    let own = c.requires.0 in
    let led = c.requires.2 in
    opens_low own c.args.slots c.args.opens.now led.slots_are led.opens_are

pub returns : goal.returns
returns c = λ own setup led to.
    let effects : effects_lent c.as_slice-effects.result.now ≡ (led_by own).effects =
    ap effects_lent c.as_slice-effects.ensures.value ∙ c.in_ok-caused.ensures
    ∙ ap effects_told c.as_slice.ensures.value ∙ led.plays.effects in
    let rows : c.as_slice-rows.result.now ≡ (led_by own).rows =
    c.as_slice-rows.ensures.value ∙ c.in_ok-closed.ensures ∙ ap rows_told c.as_slice-2.ensures.value
    ∙ led.plays.rows in
    let numbered : FoundTo own 4 c.found_behind-numbered.result =
    subst (FoundTo own 4) (sym c.found_behind-numbered.ensures)
    (numbers_to own c.args.slots setup c.args.lines.now c.args.entries.now c.args.walked c.args.played
    c.args.opens.now led c.args.found to) in
    let counted : FoundTo own 5 c.found_behind-counted.result =
    subst (FoundTo own 5) (sym c.found_behind-counted.ensures)
    (counts_to own c.args.slots setup c.args.lines.now c.args.entries.now c.args.walked c.args.played
    c.args.opens.now led c.found_behind-numbered.result numbered) in
    let answered : FoundTo own 6 c.found_behind-answered.result =
    subst (FoundTo own 6) (sym c.found_behind-answered.ensures)
    (gateway_to own c.args.slots setup c.args.lines.now c.args.entries.now c.args.walked c.args.played
    c.args.opens.now led c.found_behind-counted.result counted) in
    let effected = c.in_ok-effected.ensures own led.slots_are led.entries_are effects answered in
    let recorded = c.in_ok-recorded.ensures own led.slots_are led.entries_are rows effected in
    let opened = c.in_ok-opened.ensures own led.entries_are led.opens_are recorded in
    let waited : FoundTo own 10 c.found_behind-waited.result =
    subst (FoundTo own 10) (sym c.found_behind-waited.ensures)
    (waits_to own c.args.slots setup c.args.lines.now c.args.entries.now c.args.walked c.args.played
    c.args.opens.now led c.in_ok-opened.opened opened) in
    subst (FoundIn own) (sym c.found_behind.ensures)
    (order_to own c.args.slots setup c.args.lines.now c.args.entries.now c.args.walked c.args.played
    c.args.opens.now led c.found_behind-waited.result c.in_ok-place.place _
    (entries_so own _ _ _ _ led.are effects rows led.opens_are)
    c.in_ok-place.ensures.some c.in_ok-place.ensures.none waited)

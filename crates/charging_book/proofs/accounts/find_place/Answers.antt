use Rattle.std.proofs.Common.{sym, ◌∙◌, ap, below_more}
use Rattle.std.proofs.lemmas.List.{get_or-map}
use Rattle.charging_book.specs.Rows.{Counters}
use Rattle.charging_book.proofs.accounts.find_place.Goals as goal

pub loop-place-preserved : goal.loop-place-preserved
loop-place-preserved c = below_more _ _ c.loop-place.invariant (λ is.
    c.if-counted-life-2.false (ap (λ (counters : Counters). counters.life)
    (c.counted-in-loop-place.view_is ∙ c.index-opens-place.is)
    ∙ sym (get_or-map (λ (counters : Counters). counters.life) c.args.opens.now c.loop-place.place
    c.index-opens-place.result 0 c.loop-place-test.true)
    ∙ is))

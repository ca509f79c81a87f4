use Rattle.std.proofs.Common.{◌≡◌, ◌==◌, [], true, length, All, refl, sym, ap, subst, ◌∙◌}
use Rattle.std.proofs.lemmas.List.{take_all}
use Rattle.std.proofs.lemmas.List.Elements.{All-more}
use Rattle.tft_codec.specs.declared.tft.BearerFilters.{BearerFilters}
use Rattle.tft_match.proofs.ChoiceLemmas.{none_left}
use Rattle.tft_match.proofs.choice.have_filters.Goals as goal

pub loop-row-preserved : goal.loop-row-preserved
loop-row-preserved c =
    let item = c.row-item.result in
    let none : item.filters ≡ [] = none_left item.filters
    (ap (λ filters. length filters == 0) (sym c.as_slice.ensures.value) ∙ sym c.is_empty.ensures
    ∙ c.if-not-is_empty.false) in
    All-more (λ (row : BearerFilters). row.filters ≡ []) c.args.rows.now c.loop-row.row-index item c.loop-row-test.true
    c.loop-row.invariant (subst (λ (row : BearerFilters). row.filters ≡ []) c.row-item.is none)

pub returns : goal.returns
returns c = (
  λ never. subst (All (λ (row : BearerFilters). row.filters ≡ []))
      (take_all c.loop-row.row-index c.args.rows.now c.loop-row-test.false) c.loop-row.invariant,
  λ all. refl,
)

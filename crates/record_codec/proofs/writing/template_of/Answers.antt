use Rattle.std.proofs.Common.{◌≡◌, [], ◌∷◌, ◌++◌, ◌∙◌, sym, ap, subst, List}
use Rattle.tft_codec.specs.declared.filter.Filter.{Filter}
use Rattle.tft_codec.specs.Filter.{ArePacketFilters}
use Rattle.record_codec.proofs.FilterCodec.{one_filter}
use Rattle.record_codec.proofs.writing.template_of.Goals as goal

pub unreachable-requires : goal.unreachable-requires
unreachable-requires c =
    let one : c.push.new.self.items ≡ c.args.filter.now ∷ []
    = c.in_ok-push.ensures.items ∙ ap (λ (xs : List Filter). xs ++ c.in_ok-copy.copy ∷ []) c.new-filters.ensures.items
    ∙ ap (λ (f : Filter). f ∷ []) c.in_ok-copy.ensures in
    c.in-None.ensures.none (subst ArePacketFilters (sym one) (one_filter c.args.filter.now c.requires))

use Rattle.std.proofs.Common.{ap, sym, ◌∙◌, append_assoc, ◌∷◌, [], ◌++◌}
use Rattle.gtpv2_ie.specs.Context.{put_in}
use Rattle.gtpv2_ie.proofs.ContextLemmas.{context_with-push}
use Rattle.gtpv2_ie.proofs.ContextValidity.{put_holds}
use Rattle.gtpv2_ie.proofs.context.Context.of.Goals as goal

pub loop-ie-preserved : goal.loop-ie-preserved
loop-ie-preserved c =
    let put = c.in_ok-put_element.ensures.put in
    record {
      value =
          put ∙ ap (λ context. put_in context c.in-Some.ie) c.loop-ie.invariant.value
          ∙ sym (context_with-push c.loop-ie.yielded c.in-Some.ie);
      all =
          c.loop-ie.invariant.all ∙ ap (λ rest. c.loop-ie.yielded ++ rest) c.in-Some.ensures.steps.0
          ∙ sym (append_assoc c.loop-ie.yielded (c.in-Some.ie ∷ []) c.next.new.self.rest.items);
      holds = put_holds _ _ _ c.loop-ie.invariant.holds c.put_element.ensures.valid put;
    }

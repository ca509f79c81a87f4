use Rattle.std.proofs.Common.{◌≤◌, ◌^◌, ◌++◌, [], arith, ap, sym, ◌∙◌, subst}
use Rattle.bearer_state.specs.Version.{VersionState}
use Rattle.subscriber.specs.Standing.{SubscriberState}
use Rattle.control_half.specs.Published.{in_batches}
use Rattle.counter_half.specs.Learnt.{learnt_in}
use Rattle.counter_half.proofs.Begins.{begins_has, begins_tells}
use Rattle.counter_half.proofs.inner.DataInner.start.Goals as goal

pub invariant_of-result : goal.invariant_of-result
invariant_of-result c =
    let start = c.of-started.result in
    let is = sym c.of-started.ensures in
    record {
      handles = begins_has start c.new-3.result.items c.new-4.result.items c.new.result.items c.new-2.result.items
          c.new-3.ensures c.new-4.ensures c.new.ensures.items c.new-2.ensures.items c.version.inside.number
          c.args.packets (ap (λ (v : VersionState). v.number) c.version.view_is
          ∙ ap (λ (s : SubscriberState). s.version.number) is) (ap (λ (s : SubscriberState). s.packets) is);
      tells = begins_tells start c.new-3.result.items c.new-4.result.items c.new.result.items c.new-2.result.items
          c.new-3.ensures c.new-4.ensures c.new.ensures.items c.new-2.ensures.items c.args.version c.args.counters
          (ap (λ (s : SubscriberState). s.version) is) (ap (λ (s : SubscriberState). s.counters) is);
    }

pub invariant_of-result-2 : goal.invariant_of-result-2
invariant_of-result-2 c =
    let start = c.of-started.result in
    let is = sym c.of-started.ensures in
    record {
      in_order = ap in_batches c.requires.new ∙ ap (λ l. learnt_in l ++ []) (sym c.new-3.ensures);
      came = omega arith;
      few = subst (λ (s : SubscriberState). (s.version.number ≤ 2 ^ 60) × (s.packets ≤ 2 ^ 60)) is c.requires.few;
    }

use Rattle.std.proofs.Common.{arith, ap, ◌∙◌, true≢false}
use Rattle.lane_core.specs.Ends.{taken, empty_answers}
use Rattle.control_half.specs.Turns.{size}
use Rattle.control_half.proofs.Turned.{same_more, grew_more, grew_none, not_fewer}
use Rattle.control_half.proofs.inner.ControlInner.apply_all.Goals as goal

pub loop-self-preserved : goal.loop-self-preserved
loop-self-preserved g c =
    let fn = c.args.self.now in
    let now = c.loop-self.self in
    let next = c.has_next.new.self in
    let done = c.apply.new.self in
    let new = c.publish-in-loop-self.new.self in
    let kept = c.loop-self.invariant in
    let commands = c.publish-in-loop-self.ensures.commands ∙ c.apply.ensures.commands in
    let count = not_fewer c.loop-self.applied fn.control.number now.control.number kept.some kept.none in
    record {
      same = same_more fn done new
          (same_more fn next done (same_more fn now next kept.same c.has_next.ensures.same) c.apply.ensures.same)
          c.publish-in-loop-self.ensures.same;
      versions = c.publish-in-loop-self.ensures.versions ∙ c.apply.ensures.versions ∙ c.has_next.ensures.versions
          ∙ kept.versions;
      came = grew_more (taken fn.commands) (taken next.commands) (taken new.commands)
          (grew_more (taken fn.commands) (taken now.commands) (taken next.commands) kept.came c.has_next.ensures.taken)
          (grew_none (taken next.commands) (taken new.commands) (ap (λ r. taken r) commands));
      noted = grew_more fn.control.notes.items next.control.notes.items new.control.notes.items
          (grew_more fn.control.notes.items now.control.notes.items next.control.notes.items kept.noted
          (grew_none now.control.notes.items next.control.notes.items
          (ap (λ k. k.notes.items) c.has_next.ensures.control)))
          (grew_more next.control.notes.items done.control.notes.items new.control.notes.items c.apply.ensures.noted
          (grew_none done.control.notes.items new.control.notes.items
          (ap (λ k. k.notes.items) c.publish-in-loop-self.ensures.control)));
      asked = ap (λ r. empty_answers r) commands ∙ c.has_next.ensures.asked c.loop-self-test.true ∙ kept.asked;
      done = c.in_ok-publish-2.ensures.due;
      few = omega (
        arith,
        kept.few,
        c.in_ok-apply.ensures.number,
        ap (λ k. k.number) c.has_next.ensures.control,
        ap (λ k. k.number) c.publish-in-loop-self.ensures.control,
        c.in_ok-publish-2.ensures.more c.in_ok-apply.ensures.due,
        ap (λ b. size b) c.apply.ensures.batch,
        ap (λ b. size b) c.has_next.ensures.batch,
      );
      some = λ is. omega (
        arith,
        count,
        c.in_ok-apply.ensures.number,
        ap (λ k. k.number) c.has_next.ensures.control,
        ap (λ k. k.number) c.publish-in-loop-self.ensures.control,
      );
      none = λ no. absurd (true≢false no);
    }

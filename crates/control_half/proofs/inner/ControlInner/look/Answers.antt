use Rattle.std.proofs.Common.{◌≡◌, ◌++◌, List, not, None, ap, ◌∙◌, subst}
use Rattle.lane_core.specs.Ends.{sent, taken}
use Rattle.control_half.specs.declared.items.CommandItem.{CommandItem}
use Rattle.control_half.specs.Applied.{before_head, in_due}
use Rattle.control_half.specs.Controlled.{HasApplied}
use Rattle.control_half.specs.Published.{in_batches, in_kept}
use Rattle.control_half.proofs.Heads.{looked, none_of}
use Rattle.control_half.proofs.inner.ControlInner.look.Goals as goal

pub invariant_of-self-clause-in_order : goal.invariant_of-self-clause-in_order
invariant_of-self-clause-in_order g c =
    (looked _ _ c.take.result (taken c.args.self.now.commands) (taken c.take.new.self) c.take.ensures.next).1

pub invariant_of-self-clause-applies : goal.invariant_of-self-clause-applies
invariant_of-self-clause-applies g c =
    let old = c.args.self.now in
    let none : old.head ≡ None = none_of old.head (c.is_none.ensures ∙ ap not c.if-is_none.true) in
    let prefix = (looked _ _ c.take.result (taken old.commands) (taken c.take.new.self) c.take.ensures.next).0 in
    subst (λ (l : List CommandItem). HasApplied old.first old.started l old.control.session old.control.number
    old.control.notes.items
    (in_batches (sent old.versions) ++ (in_kept old.batch ++ in_due old.due old.control.session old.control.number)))
    (ap (λ h. before_head h (taken old.commands)) none ∙ prefix) old.applies

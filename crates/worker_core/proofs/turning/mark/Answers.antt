use Rattle.std.proofs.Common.{refl, subst, sym}
use Rattle.std.proofs.lemmas.List.Elements.{All-same, All-push}
use Rattle.worker_core.specs.Leaves.{IsTold}
use Rattle.std.specs.Prelude.{not, nat_eq}
use Rattle.worker_core.specs.declared.worker.Leaving.{Leaving}
use Rattle.worker_core.proofs.Leavings.{noted_none, noted_last, picked_all}
use Rattle.worker_core.proofs.Seeks.{held_there}
use Rattle.std.specs.List.{All}
use Rattle.worker_core.proofs.turning.mark.Goals as goal

pub returns-in_default-clause-noted : goal.returns-in_default-clause-noted
returns-in_default-clause-noted g c =
    noted_none (λ half. g.H.Traveller.slot_of (g.H.Traveller.name half)) c.args.held.now c.args.slot c.args.until
    c.args.leaving.now.items (c.in_default.ensures.none refl)

pub returns-clause-told : goal.returns-clause-told
returns-clause-told g c = λ came told ordered.
    All-same (IsTold came) _ _ c.push_reserved.ensures.items (All-push (IsTold came) _ _
    (subst (All (IsTold came)) (sym c.forget.ensures.kept) (picked_all (IsTold came)
    (λ (x : Leaving). not (nat_eq x.slot c.args.slot)) c.args.leaving.now.items told)) ordered)

pub returns-clause-noted : goal.returns-clause-noted
returns-clause-noted g c =
    noted_last (λ half. g.H.Traveller.slot_of (g.H.Traveller.name half)) c.args.held.now c.args.slot c.args.until
    c.args.leaving.now.items c.forget.new.leaving.items _
    (held_there (λ half. g.H.Traveller.slot_of (g.H.Traveller.name half)) c.args.slot c.args.held.now
    c.in-Some._at c.in-Some.ensures.found.0 c.in-Some.ensures.found.1) c.forget.ensures.kept
    c.push_reserved.ensures.items

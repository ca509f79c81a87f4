use Rattle.std.proofs.Common.{rules, ◌≡◌, ℕ, true, inr, List, refl, subst, sym, ap, ◌∙◌, arith}
use Rattle.std.specs.Prelude.{not, nat_eq}
use Rattle.std.specs.List.{All, filter}
use Rattle.std.proofs.lemmas.Option.{slice_get_read}
use Rattle.lane_core.specs.Ends.{sent, taken, full_answers}
use Rattle.worker_core.specs.declared.worker.Leaving.{Leaving}
use Rattle.worker_core.specs.Names.{Kept}
use Rattle.worker_core.specs.Leaves.{IsTold, SameElsewhere}
use Rattle.worker_core.proofs.Arrivals.{home_few, kept_home}
use Rattle.worker_core.specs.Seeing.{AllSeen}
use Rattle.worker_core.specs.Steps.{fulls_after}
use Rattle.worker_core.specs.Workers.{view_of}
use Rattle.worker_core.proofs.Seeing.{seen_less, stands_again}
use Rattle.worker_core.proofs.Views.{cursor_within, none_was_due}
use Rattle.worker_core.proofs.Leavings.{none_here, due_here, due_within, goes_home, picked_all, forgotten}
use Rattle.worker_core.proofs.worker.Worker.send_home.Goals as goal

pub find_due-requires-after_bounds : goal.find_due-requires-after_bounds
find_due-requires-after_bounds g c κs within =
    let slot_at = λ (half : g.row.H.Denot). g.H.Traveller.slot_of (g.H.Traveller.name half) in
    let seen : c.args.self.now.known ≡ true → AllSeen slot_at c.deref.result.now c.args.self.now.seen =
    λ known. subst (λ (l : List g.row.H.Denot). AllSeen slot_at l c.args.self.now.seen) (sym c.deref.ensures.value)
    (c.args.self.now.all_seen known) in
    seen

pub returns-in_default-clause-went : goal.returns-in_default-clause-went
returns-in_default-clause-went g c =
    none_was_due (λ half. g.H.Traveller.slot_of (g.H.Traveller.name half)) g.H.Traveller.done_of
    (view_of c.args.self.now) (none_here g.H.Traveller.name g.H.Traveller.slot_of g.H.Traveller.done_of _ _ _ _
    c.deref.ensures.value c.deref-2.ensures.value c.in_default.ensures)

pub offer-requires-clause-few : goal.offer-requires-clause-few
offer-requires-clause-few g c κs within =
    let found = due_here g.H.Traveller.name g.H.Traveller.slot_of g.H.Traveller.done_of _ _ _ _ c.in-Some.at
    c.deref.ensures.value c.deref-2.ensures.value c.in-Some.ensures in
    let here = due_within g.H.Traveller.name g.H.Traveller.slot_of g.H.Traveller.done_of _ _ _ c.remove-half.result
    found in
    home_few g.H.Traveller.name (taken c.args.self.now.orders) c.args.self.now.held.items (sent c.args.self.now.home)
    (omega arith) c.args.self.now.orders.few c.args.self.now.kept

pub invariant_of-self-in-Ok : goal.invariant_of-self-in-Ok
invariant_of-self-in-Ok g c =
    let found = due_here g.H.Traveller.name g.H.Traveller.slot_of g.H.Traveller.done_of _ _ _ _ c.in-Some.at
    c.deref.ensures.value c.deref-2.ensures.value c.in-Some.ensures in
    let here = due_within g.H.Traveller.name g.H.Traveller.slot_of g.H.Traveller.done_of _ _ _ c.remove-half.result
    found in
    let more = c.in-Ok.ensures.ok.0 in
    record {
      kept = subst (λ (p : List g.row.H.Denot × List g.row.H.Denot). Kept g.H.Traveller.name
          (taken c.args.self.now.orders) p.0 p.1)
          (λ i. (sym c.remove-half.ensures.items i, sym more i))
          (kept_home g.H.Traveller.name (taken c.args.self.now.orders) c.args.self.now.held.items
          (sent c.args.self.now.home) c.in-Some.at c.remove-half.result
          here c.remove-half.ensures.value c.args.self.now.kept);
      told = subst (All (IsTold (taken c.args.self.now.orders))) (sym c.forget.ensures.kept)
          (picked_all (IsTold (taken c.args.self.now.orders))
          (λ (x : Leaving). not (nat_eq x.slot c.slot-slot.result)) c.args.self.now.leaving.items
          c.args.self.now.told);
      within =
          let w = cursor_within c.args.self.now.cursor c.in-Some.at c.len.result in
          let e = c.cursor_left-self.ensures in omega arith;
      all_seen = λ known.
          let slot_at = λ (half : g.row.H.Denot). g.H.Traveller.slot_of (g.H.Traveller.name half) in
          subst (λ (l : List g.row.H.Denot). AllSeen slot_at l c.moved_up.new.seen) c.deref-in-Ok.ensures.value
          (c.moved_up.ensures (seen_less slot_at c.args.self.now.held.items c.args.self.now.seen
          (c.args.self.now.all_seen known) c.in-Some.at c.deref-in-Ok.result.now
          (c.deref-in-Ok.ensures.value ∙ c.remove-half.ensures.items) here));
    }

pub returns-in-Ok-clause-home : goal.returns-in-Ok-clause-home
returns-in-Ok-clause-home g c =
    let found = due_here g.H.Traveller.name g.H.Traveller.slot_of g.H.Traveller.done_of _ _ _ _ c.in-Some.at
    c.deref.ensures.value c.deref-2.ensures.value c.in-Some.ensures in
    inr (goes_home g.H.Traveller.name g.H.Traveller.slot_of g.H.Traveller.done_of _ _ _ c.in-Some.at
    c.remove-half.result _ _ found c.remove-half.ensures.value c.args.self.now.told c.in-Ok.ensures.ok.0)

pub returns-in-Ok-clause-went : goal.returns-in-Ok-clause-went
returns-in-Ok-clause-went g c =
    let found = due_here g.H.Traveller.name g.H.Traveller.slot_of g.H.Traveller.done_of _ _ _ _ c.in-Some.at
    c.deref.ensures.value c.deref-2.ensures.value c.in-Some.ensures in
    let here = due_within g.H.Traveller.name g.H.Traveller.slot_of g.H.Traveller.done_of _ _ _ c.remove-half.result
    found in
    record {
      at = c.in-Some.at;
      half = c.remove-half.result;
      first = found;
      there = slice_get_read _ _ _ _ refl here c.remove-half.ensures.value;
      took = search rules;
      gone = c.in-Ok.ensures.ok.0;
      held = c.remove-half.ensures.items;
      noted = subst (λ (l : List Leaving). SameElsewhere
          (g.H.Traveller.slot_of (g.H.Traveller.name c.remove-half.result)) c.args.self.now.leaving.items l)
          (sym c.forget.ensures.kept)
          (subst (λ (slot : ℕ). SameElsewhere slot c.args.self.now.leaving.items
          (filter (λ (x : Leaving). not (nat_eq x.slot c.slot-slot.result)) c.args.self.now.leaving.items))
          c.slot-slot.ensures
          (forgotten c.slot-slot.result c.args.self.now.leaving.items));
      forgotten = c.forget.ensures.kept ∙ ap (λ (slot : ℕ). filter (λ (x : Leaving). not (nat_eq x.slot slot))
          c.args.self.now.leaving.items) c.slot-slot.ensures;
      cursor = search rules;
      counts = (c.in-Ok.ensures.ok.1, refl);
    }

pub invariant_of-self-in-Err-clause-all_seen : goal.invariant_of-self-in-Err-clause-all_seen
invariant_of-self-in-Err-clause-all_seen g c = λ known.
    let found = due_here g.H.Traveller.name g.H.Traveller.slot_of g.H.Traveller.done_of _ _ _ _ c.in-Some.at
    c.deref.ensures.value c.deref-2.ensures.value c.in-Some.ensures in
    let here = due_within g.H.Traveller.name g.H.Traveller.slot_of g.H.Traveller.done_of _ _ _ c.remove-half.result
    found in
    let same : c.put_back.new.held.items ≡ c.args.self.now.held.items =
    stands_again c.args.self.now.held.items _ _ c.in-Some.at c.remove-half.result _ c.put_back.ensures.items
    c.remove-half.ensures.items c.in-Err.ensures.full.0 c.remove-half.ensures.value here in
    subst (λ (l : List g.row.H.Denot). AllSeen (λ half. g.H.Traveller.slot_of (g.H.Traveller.name half)) l
    c.args.self.now.seen) (sym same) (c.args.self.now.all_seen known)

pub returns-in-Err-clause-went : goal.returns-in-Err-clause-went
returns-in-Err-clause-went g c =
    let found = due_here g.H.Traveller.name g.H.Traveller.slot_of g.H.Traveller.done_of _ _ _ _ c.in-Some.at
    c.deref.ensures.value c.deref-2.ensures.value c.in-Some.ensures in
    let here = due_within g.H.Traveller.name g.H.Traveller.slot_of g.H.Traveller.done_of _ _ _ c.remove-half.result
    found in
    let same : c.put_back.new.held.items ≡ c.args.self.now.held.items =
    stands_again c.args.self.now.held.items _ _ c.in-Some.at c.remove-half.result _ c.put_back.ensures.items
    c.remove-half.ensures.items c.in-Err.ensures.full.0 c.remove-half.ensures.value here in
    let full = c.in-Err.ensures.full in
    record {
      took = refl;
      gone = full.1;
      held = same;
      leaving = refl;
      cursor = refl;
      fulls = full.2 ∙ sym (ap (λ due. fulls_after due (full_answers c.args.self.now.home)) found);
      empties = refl;
    }

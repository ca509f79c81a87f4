use Rattle.std.proofs.Common.{rules, true, ◌≡◌, ◌++◌, ◌∷◌, [], List, inl, refl, subst, sym, ap, ◌∙◌}
use Rattle.std.specs.List.{All}
use Rattle.lane_core.specs.Ends.{sent, taken, full_answers}
use Rattle.worker_core.specs.declared.order.Order.{Order}
use Rattle.worker_core.specs.declared.order.Order.TheVariants.{Arrive, Leave}
use Rattle.worker_core.specs.Names.{Kept}
use Rattle.worker_core.specs.Leaves.{IsOrdered, IsTold, IsNoted}
use Rattle.worker_core.specs.Seeing.{AllSeen}
use Rattle.worker_core.proofs.Arrivals.{kept_arrive, kept_leave}
use Rattle.worker_core.proofs.Leavings.{told_more, ordered_last}
use Rattle.worker_core.proofs.Views.{view}
use Rattle.worker_core.proofs.worker.Worker.take_order.Goals as goal

pub invariant_of-self : goal.invariant_of-self
invariant_of-self g c =
    let same = c.in_default.ensures.next.0 in
    record {
      kept = subst (λ (l : List (Order g.row.H.Denot)).
          Kept g.H.Traveller.name l c.args.self.now.held.items (sent c.args.self.now.home))
          (sym same) c.args.self.now.kept;
      told = subst (λ (l : List (Order g.row.H.Denot)). All (IsTold l) c.args.self.now.leaving.items)
          (sym same) c.args.self.now.told;
      within = search rules;
      all_seen = c.args.self.now.all_seen;
    }

pub invariant_of-self-in-Arrive : goal.invariant_of-self-in-Arrive
invariant_of-self-in-Arrive g c =
    let old = taken c.args.self.now.orders in
    let came : taken c.take.new.self ≡ old ++ Arrive c.in-Arrive.half ∷ [] =
    c.in-Some.ensures.next.0 ∙ ap (λ (o : Order g.row.H.Denot). old ++ o ∷ []) c.in-Arrive.is in
    record {
      kept = subst (λ (p : List (Order g.row.H.Denot) × List g.row.H.Denot). Kept g.H.Traveller.name p.0 p.1
          (sent c.args.self.now.home))
          (λ i. (sym came i, sym c.push_reserved.ensures.items i))
          (kept_arrive g.H.Traveller.name old c.args.self.now.held.items
          (sent c.args.self.now.home) c.in-Arrive.half c.args.self.now.kept);
      told = subst (λ (l : List (Order g.row.H.Denot)). All (IsTold l) c.args.self.now.leaving.items) (sym came)
          (told_more old (Arrive c.in-Arrive.half) c.args.self.now.leaving.items c.args.self.now.told);
      within = search rules;
      all_seen = λ known.
          let slot_at = λ (half : g.row.H.Denot). g.H.Traveller.slot_of (g.H.Traveller.name half) in
          subst (λ (l : List g.row.H.Denot). AllSeen slot_at l c.came-self.new.seen) (sym c.push_reserved.ensures.items)
          (subst (λ (l : List g.row.H.Denot). AllSeen slot_at (l ++ c.in-Arrive.half ∷ []) c.came-self.new.seen)
          c.deref.ensures.value (c.came-self.ensures known c.in-Arrive.half (sym c.slot-slot.ensures)));
    }

pub came-self-requires-after_bounds : goal.came-self-requires-after_bounds
came-self-requires-after_bounds g c κs within =
    let slot_at = λ (half : g.row.H.Denot). g.H.Traveller.slot_of (g.H.Traveller.name half) in
    let seen : c.args.self.now.known ≡ true → AllSeen slot_at c.deref.result.now c.args.self.now.seen =
    λ known. subst (λ (l : List g.row.H.Denot). AllSeen slot_at l c.args.self.now.seen) (sym c.deref.ensures.value)
    (c.args.self.now.all_seen known) in
    seen

pub invariant_of-self-in-Leave : goal.invariant_of-self-in-Leave
invariant_of-self-in-Leave g c =
    let old = taken c.args.self.now.orders in
    let came : taken c.take.new.self ≡ old ++ Leave c.in-Leave.slot c.in-Leave.until ∷ [] =
    c.in-Some.ensures.next.0 ∙ ap (λ (o : Order g.row.H.Denot). old ++ o ∷ []) c.in-Leave.is in
    record {
      kept = subst (λ (l : List (Order g.row.H.Denot)).
          Kept g.H.Traveller.name l c.args.self.now.held.items (sent c.args.self.now.home)) (sym came)
          (kept_leave g.H.Traveller.name old c.args.self.now.held.items
          (sent c.args.self.now.home) c.in-Leave.slot c.in-Leave.until c.args.self.now.kept);
      told = c.mark.ensures.told (taken c.take.new.self)
          (subst (λ (l : List (Order g.row.H.Denot)). All (IsTold l) c.args.self.now.leaving.items) (sym came)
          (told_more old (Leave c.in-Leave.slot c.in-Leave.until) c.args.self.now.leaving.items c.args.self.now.told))
          (subst (λ (l : List (Order g.row.H.Denot)). IsOrdered l c.in-Leave.slot c.in-Leave.until) (sym came)
          (ordered_last old c.in-Leave.slot c.in-Leave.until));
      within = search rules;
      all_seen = c.args.self.now.all_seen;
    }

pub returns-in_default-clause-took : goal.returns-in_default-clause-took
returns-in_default-clause-took g c =
    let self = c.args.self.now in
    (λ i. view (c.in_default.ensures.next.0 i) (sent self.home) self.held.items self.leaving.items self.cursor
    (full_answers self.home) (c.in_default.ensures.next.1 i))

pub returns-in-Arrive-clause-took : goal.returns-in-Arrive-clause-took
returns-in-Arrive-clause-took g c = (
  record {
    order = Arrive c.in-Arrive.half;
    took = c.in-Some.ensures.next.0
        ∙ ap (λ (o : Order g.row.H.Denot). taken c.args.self.now.orders ++ o ∷ []) c.in-Arrive.is;
    gone = search rules;
    held = c.push_reserved.ensures.items;
    noted = search rules;
    cursor = search rules;
    counts = (refl, c.in-Some.ensures.next.1);
  },
  c.in-Arrive.half,
  refl,
  sym c.slot-slot.ensures,
)

pub returns-in-Leave-clause-took : goal.returns-in-Leave-clause-took
returns-in-Leave-clause-took g c = inl (
  record {
    order = Leave c.in-Leave.slot c.in-Leave.until;
    took = c.in-Some.ensures.next.0
        ∙ ap (λ (o : Order g.row.H.Denot). taken c.args.self.now.orders ++ o ∷ []) c.in-Leave.is;
    gone = search rules;
    held = search rules;
    noted = subst (λ (l : List g.row.H.Denot). IsNoted (λ half. g.H.Traveller.slot_of (g.H.Traveller.name half)) l
        (Leave c.in-Leave.slot c.in-Leave.until) c.args.self.now.leaving.items c.mark.new.leaving.items)
        c.deref-in-Leave.ensures.value c.mark.ensures.noted;
    cursor = search rules;
    counts = (refl, c.in-Some.ensures.next.1);
  },
  c.in-Leave.slot,
  c.in-Leave.until,
  refl,
)

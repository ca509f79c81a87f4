use Rattle.std.proofs.Common.{rules, ◌≡◌, List, false, true≢false, refl, subst, sym, ◌∙◌}
use Rattle.lane_core.specs.Ends.{sent, taken}
use Rattle.worker_core.specs.Leaves.{is_held}
use Rattle.worker_core.proofs.Arrivals.{kept_names}
use Rattle.worker_core.proofs.Seeing.{seen_still}
use Rattle.worker_core.proofs.Seeks.{held_there}
use Rattle.worker_core.proofs.worker.Worker.turn_one.Goals as goal

pub returns-in_default-clause-one : goal.returns-in_default-clause-one
returns-in_default-clause-one g c = λ held.
    let none = subst (λ (l : List g.row.H.Denot).
    is_held (λ half. g.H.Traveller.slot_of (g.H.Traveller.name half)) c.args.slot l ≡ false) c.deref.ensures.value
    (c.in_default.ensures.none refl) in
    absurd (true≢false (sym held ∙ none))

pub invariant_of-self-2 : goal.invariant_of-self-2
invariant_of-self-2 g c = record {
  kept = kept_names g.H.Traveller.name (taken c.args.self.now.orders) c.args.self.now.held.items _
      (sent c.args.self.now.home) c.turn_at.ensures.names c.args.self.now.kept;
  told = c.args.self.now.told;
  within = search rules;
  all_seen = λ known.
      seen_still (λ half. g.H.Traveller.slot_of (g.H.Traveller.name half)) c.args.self.now.held.items
      c.args.self.now.seen (c.args.self.now.all_seen known) g.H.Traveller.name g.H.Traveller.slot_of _ (λ half. refl)
      c.turn_at.ensures.names;
}

pub returns-clause-none : goal.returns-clause-none
returns-clause-none g c = λ none.
    let gone = subst (λ (l : List g.row.H.Denot).
    is_held (λ half. g.H.Traveller.slot_of (g.H.Traveller.name half)) c.args.slot l ≡ false)
    (sym c.deref.ensures.value) none in
    let there = held_there (λ half. g.H.Traveller.slot_of (g.H.Traveller.name half)) c.args.slot c.deref.result.now
    c.in-Some.at c.in-Some.ensures.found.0 c.in-Some.ensures.found.1 in
    absurd (true≢false (sym there ∙ gone))

use Rattle.std.proofs.Common.{rules, refl}
use Rattle.lane_core.specs.Ends.{sent, taken}
use Rattle.worker_core.proofs.Arrivals.{kept_names}
use Rattle.worker_core.proofs.Seeing.{seen_still}
use Rattle.worker_core.proofs.worker.Worker.turn_halves.Goals as goal

pub invariant_of-self : goal.invariant_of-self
invariant_of-self g c = record {
  kept = kept_names g.H.Traveller.name (taken c.args.self.now.orders) c.args.self.now.held.items _
      (sent c.args.self.now.home) c.turn_round.ensures.names c.args.self.now.kept;
  told = c.args.self.now.told;
  within = search rules;
  all_seen = λ known.
      seen_still (λ half. g.H.Traveller.slot_of (g.H.Traveller.name half)) c.args.self.now.held.items
      c.args.self.now.seen (c.args.self.now.all_seen known) g.H.Traveller.name g.H.Traveller.slot_of _ (λ half. refl)
      c.turn_round.ensures.names;
}

pub invariant_of-self-in_default : goal.invariant_of-self-in_default
invariant_of-self-in_default g c = record {
  kept = kept_names g.H.Traveller.name (taken c.args.self.now.orders) c.args.self.now.held.items _
      (sent c.args.self.now.home) c.turn_round.ensures.names c.args.self.now.kept;
  told = c.args.self.now.told;
  within = search rules;
  all_seen = λ known.
      seen_still (λ half. g.H.Traveller.slot_of (g.H.Traveller.name half)) c.args.self.now.held.items
      c.args.self.now.seen (c.args.self.now.all_seen known) g.H.Traveller.name g.H.Traveller.slot_of _ (λ half. refl)
      c.turn_round.ensures.names;
}

pub invariant_of-self-2 : goal.invariant_of-self-2
invariant_of-self-2 g c = record {
  kept = kept_names g.H.Traveller.name (taken c.args.self.now.orders) c.args.self.now.held.items _
      (sent c.args.self.now.home) c.turn_round.ensures.names c.args.self.now.kept;
  told = c.args.self.now.told;
  within = search rules;
  all_seen = λ known.
      seen_still (λ half. g.H.Traveller.slot_of (g.H.Traveller.name half)) c.args.self.now.held.items
      c.args.self.now.seen (c.args.self.now.all_seen known) g.H.Traveller.name g.H.Traveller.slot_of _ (λ half. refl)
      c.turn_round.ensures.names;
}

use Rattle.std.proofs.Common.{rules, sym, ap}
use Rattle.std.specs.List.{sum_by}
use Rattle.lane_core.specs.Ends.{sent, taken}
use Rattle.worker_core.specs.Names.{weight}
use Rattle.migration.specs.Places.{front_at, weight_at, names_of}
use Rattle.worker_core.specs.Workers.{desk_lanes, end_lanes}
use Rattle.gather_home.proofs.Wholes.{lasts_same, closed_orders}
use Rattle.gather_home.proofs.parts.HomeParts.close_orders.Goals as goal

pub close-requires-after_bounds : goal.close-requires-after_bounds
close-requires-after_bounds g c κs within =
    sym (ap (λ l. l.0) (lasts_same end_lanes desk_lanes c.args.self.now.ends.items c.pop-2.new.self.items
    c.in-Some-pop.end c.args.self.now.desks.items c.pop.new.self.items
    c.in-Some.desk (search rules) (search rules) c.args.self.now.ends_of).1)

pub invariant_of-self : goal.invariant_of-self
invariant_of-self g c =
    record {
      whole = λ h. closed_orders g.H.Traveller.name h (sum_by
          (front_at g.H.Traveller.name h) c.args.self.now.places.items)
          (weight g.H.Traveller.name h c.args.self.now.found.items)
          (sum_by (weight_at h) (names_of g.H.Traveller.name c.args.self.now.admitted.value.items))
          c.args.self.now.left.items c.args.self.now.held.items c.args.self.now.opened
          c.args.self.now.desks.items c.pop.new.self.items c.in-Some.desk
          (taken c.in-Some-pop.end.orders) c.in-Ok.left.items c.in-Some-pop.end.held.items
          (sent c.in-Some-pop.end.home) (c.args.self.now.whole h) c.requires.empty.0 c.requires.empty.1
          c.requires.empty.2 (search rules)
          c.in-Ok.ensures.rest (c.in-Some-pop.end.kept h);
      slots = search rules;
      ends_of = (lasts_same end_lanes desk_lanes c.args.self.now.ends.items c.pop-2.new.self.items
          c.in-Some-pop.end c.args.self.now.desks.items c.pop.new.self.items
          c.in-Some.desk (search rules) (search rules) c.args.self.now.ends_of).0;
    }

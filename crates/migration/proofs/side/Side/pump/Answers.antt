use Rattle.std.proofs.Common.{◌∙◌, [], reverse, refl, ap, arith}
use Rattle.std.specs.List.{sum_by}
use Rattle.worker_core.specs.Desks.{fulls_at, homes_of}
use Rattle.migration.specs.Words.{Roll}
use Rattle.migration.proofs.Servings.{met_full_since, serving_all, serving_none}
use Rattle.worker_core.proofs.Homes.{ended_since}
use Rattle.migration.proofs.Passes.{passes_then}
use Rattle.migration.proofs.Pumps.{takes_same, lined_up}
use Rattle.migration.proofs.side.Side.pump.Goals as goal

pub returns-clause-full : goal.returns-clause-full
returns-clause-full g c =
    met_full_since _ _ _ _ (λ slice. ap (λ l. fulls_at l slice) c.line_up.ensures.desks
    ∙ c.take_all.ensures.fulls slice) c.serve_all.ensures.full

pub returns-clause-home : goal.returns-clause-home
returns-clause-home g c = λ slice within.
    let homes = c.serve_all.ensures.homes ∙ ap homes_of c.line_up.ensures.desks in
    let aside = c.serve_all.ensures.aside ∙ c.line_up.ensures.aside in
    let admitted = ap (λ (r : Roll _). r.admitted) (c.serve_all.ensures.roll ∙ c.line_up.ensures.roll) in
    ended_since _ _ _ _ slice _ _ _ homes aside admitted (c.take_all.ensures.home slice within)

pub returns-clause-passed : goal.returns-clause-passed
returns-clause-passed g c =
    passes_then (λ half. g.H.Traveller.slot_of (g.H.Traveller.name half)) g.H.Traveller.hop_of _ _ _ _ _ _ _ _ _
    c.take_all.ensures.passed
    (passes_then (λ half. g.H.Traveller.slot_of (g.H.Traveller.name half)) g.H.Traveller.hop_of _ _ _ _ _ _ _ _ _
    c.line_up.ensures.passed c.serve_all.ensures.passed)

pub returns-clause-by_slot : goal.returns-clause-by_slot
returns-clause-by_slot g c = record {
  home_places = c.line_up.new.self.places.items;
  home_desks = c.line_up.new.self.desks.items;
  slots = reverse c.line_up.new.self.serving.items;
  home = takes_same _ _ _ _ _ _ c.take_all.ensures.takes c.line_up.ensures.places c.line_up.ensures.desks;
  lined = c.line_up.ensures.lined;
  served = c.serve_all.ensures.each;
}

pub returns-then-rests-clause-full : goal.returns-then-rests-clause-full
returns-then-rests-clause-full g c =
    let none = c.rests.ensures c.if-rests.true in
    met_full_since _ _ _ _ c.take_all.ensures.fulls
    (serving_none _ _ _ _ none.1 (serving_all g.H.Traveller.name g.H.Traveller.slot_of _ _ _ _ _ _ _
    c.take_all.new.self.laid none.0))

pub returns-then-rests-clause-by_slot : goal.returns-then-rests-clause-by_slot
returns-then-rests-clause-by_slot g c =
    let none = c.rests.ensures c.if-rests.true in record {
      home_places = c.take_all.new.self.places.items;
      home_desks = c.take_all.new.self.desks.items;
      slots = [];
      home = c.take_all.ensures.takes;
      lined = lined_up g.H.Traveller.name g.H.Traveller.slot_of _ _ _ _ _ [] _ _ c.take_all.new.self.laid
          (λ w. let a = ap (sum_by w) none.0 in let b = ap (sum_by w) none.1 in omega arith)
          (λ i j d low within. absurd (omega (arith, within)));
      served = (refl, refl);
    }

pub returns-then-rests-clause-still : goal.returns-then-rests-clause-still
returns-then-rests-clause-still g c = λ no. (c.take_all.ensures.still (c.rests.ensures c.if-rests.true).0).1

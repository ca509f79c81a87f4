use Rattle.std.proofs.Common.{None, inl, vec_capacity, sym, subst, ap}
use Rattle.front_core.specs.Listing.{ListsMoving}
use Rattle.migration.specs.Places.{name_at}
use Rattle.migration.specs.Words.{Roll}
use Rattle.front_core.proofs.Listed.{lists_kept}
use Rattle.front_core.proofs.Lists.{same_at}
use Rattle.front_core.proofs.both.pump_controls.Goals as goal

pub returns-clause-listed : goal.returns-clause-listed
returns-clause-listed g c =
    lists_kept g.H.Traveller.name g.H.Traveller.hop_of c.args.controls.now.places.items c.pump.new.self.places.items
    c.args.moving.now.items c.settle.new.moving.items _ _ c.args.controls.now.desks.items c.pump.new.self.desks.items
    c.requires.listed c.settle.ensures.kept c.settle.ensures.room
    (λ slot. same_at (name_at g.H.Traveller.name) c.args.controls.now.places.items c.pump.new.self.places.items slot None
    (ap (λ (r : Roll _). r.names) c.pump.ensures.roll)) c.pump.ensures.by_slot

pub returns-then-not-pump-clause-listed : goal.returns-then-not-pump-clause-listed
returns-then-not-pump-clause-listed g c =
    subst (λ places. ListsMoving places c.args.moving.now.items (vec_capacity c.args.moving.now))
    (sym (c.pump.ensures.still c.if-not-pump.true)) c.requires.listed

pub returns-then-not-pump-clause-pumps : goal.returns-then-not-pump-clause-pumps
returns-then-not-pump-clause-pumps g c = record {
  by_slot = c.pump.ensures.by_slot;
  full = c.pump.ensures.full;
  home = λ slice low. inl (c.pump.ensures.home slice low);
}

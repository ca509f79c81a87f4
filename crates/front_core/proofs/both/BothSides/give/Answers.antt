use Rattle.std.proofs.Common.{refl}
use Rattle.migration.specs.DataPlaces.{place_at}
use Rattle.front_core.specs.Sides.{both_of}
use Rattle.front_core.proofs.SidesMoving.{is_admitted}
use Rattle.front_core.proofs.Refusing.{given, came_back, found_full}
use Rattle.front_core.proofs.both.BothSides.give.Goals as goal

pub returns-clause-given : goal.returns-clause-given
returns-clause-given g c =
    given g.H.Traveller.name g.F.DataTraveller.name g.F.DataTraveller.slot_at g.F.DataTraveller.item_slot g.F.DataTraveller.handled
    (both_of c.args.self.now.controls c.args.self.now.datas) (both_of c.args.self.now.controls c.give.new.self)
    (g.F.DataTraveller.item_slot c.args.item) c.args.self.now.datas.room c.args.item
    (is_admitted g.F.DataTraveller.name (place_at c.args.self.now.datas.places.items (g.F.DataTraveller.item_slot c.args.item))
    c.requires.admitted)
    c.give.ensures.names c.give.ensures.lanes c.give.ensures.room refl refl refl c.give.result c.give.ensures.gives
    c.give.ensures.counts.0

pub returns-clause-told : goal.returns-clause-told
returns-clause-told g c = c.give.ensures.gives.3.told

pub returns-clause-refused : goal.returns-clause-refused
returns-clause-refused g c =
    came_back g.H.Traveller.name g.F.DataTraveller.name g.F.DataTraveller.slot_at g.F.DataTraveller.item_slot g.F.DataTraveller.handled
    (both_of c.args.self.now.controls c.args.self.now.datas) (both_of c.args.self.now.controls c.give.new.self)
    (g.F.DataTraveller.item_slot c.args.item) c.args.self.now.datas.room c.args.item
    (is_admitted g.F.DataTraveller.name (place_at c.args.self.now.datas.places.items (g.F.DataTraveller.item_slot c.args.item))
    c.requires.admitted)
    c.give.ensures.names c.give.ensures.lanes c.give.ensures.room refl refl refl c.give.result c.give.ensures.gives
    c.give.ensures.counts.0

pub returns-clause-full : goal.returns-clause-full
returns-clause-full g c = λ lane are.
    found_full g.H.Traveller.name g.F.DataTraveller.name g.F.DataTraveller.slot_at g.F.DataTraveller.item_slot g.F.DataTraveller.handled
    (both_of c.args.self.now.controls c.args.self.now.datas) (both_of c.args.self.now.controls c.give.new.self)
    (g.F.DataTraveller.item_slot c.args.item) c.args.self.now.datas.room c.args.item
    (is_admitted g.F.DataTraveller.name (place_at c.args.self.now.datas.places.items (g.F.DataTraveller.item_slot c.args.item))
    c.requires.admitted)
    c.give.ensures.names c.give.ensures.lanes c.give.ensures.room refl refl refl
    c.args.self.now.datas.aside.items c.give.new.self.aside.items c.args.self.now.datas.admitted
    c.give.new.self.admitted c.give.new.self.room lane c.args.self.now.datas.laid c.give.new.self.laid refl are
    c.give.result c.give.ensures.gives c.give.ensures.counts.0 c.give.ensures.full

pub returns-clause-count : goal.returns-clause-count
returns-clause-count g c = c.give.ensures.counts.1

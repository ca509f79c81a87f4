use Rattle.std.proofs.Common.{ℕ, ◌∙◌, cond, ◌++◌, arith}
use Rattle.std.specs.Prelude.{nat_eq}
use Rattle.std.proofs.lemmas.List.Sorted.{sum_by-IsPermutation}
use base.Stored.{coded_list}
use Rattle.gather_home.proofs.BySlots.{by_slot, each_at_slot}
use Rattle.gather_home.specs.declared.data_home.Home.{Home}
use Rattle.gather_home.proofs.DataEnds.{each_comes}
use Rattle.gather_home.proofs.DataEvens.{all_placed}
use Rattle.gather_home.specs.DataPlaced.{slices_served}
use Rattle.gather_home.proofs.data_parts.DataParts.sorted.Goals as goal

pub returns-clause-home : goal.returns-clause-home
returns-clause-home g c =
    by_slot g.row.H-Name.coded (λ (home : Home g.row.H.Denot g.row.H-Item.Denot). g.H.DataTraveller.name home.half)
    g.H.DataTraveller.slot_at _ _
    c.args.self.slots c.sort.ensures.sorted
    (λ h. sum_by-IsPermutation (λ (home : Home g.row.H.Denot g.row.H-Item.Denot). h (g.H.DataTraveller.name home.half)) _ _
    c.sort.ensures.same
    ∙ c.requires.home.names h)

pub returns-clause-each : goal.returns-clause-each
returns-clause-each g c =
    each_at_slot (λ (home : Home g.row.H.Denot g.row.H-Item.Denot). g.H.DataTraveller.name home.half) g.H.DataTraveller.slot_at _ _
    c.args.self.slots (returns-clause-home g c)

pub returns-clause-items : goal.returns-clause-items
returns-clause-items g c =
    each_comes g.H.DataTraveller.name g.H.DataTraveller.slot_at g.H.DataTraveller.handled (coded_list g.row.H-Item.coded) _ _ (λ s h.
    let f : Home g.row.H.Denot g.row.H-Item.Denot
    → ℕ = λ home. cond (nat_eq (g.H.DataTraveller.slot_at (g.H.DataTraveller.name home.half)) s)
    (h (g.H.DataTraveller.handled home.half ++ home.left.items)) 0 in
    let e = sum_by-IsPermutation f _ _ c.sort.ensures.same ∙ c.requires.home.lists s h in omega arith)

pub returns-clause-placed : goal.returns-clause-placed
returns-clause-placed g c =
    let bare = c.requires.bare in
    all_placed g.H.DataTraveller.places (slices_served c.args.self.stopped.value.items) c.args.self.places.items
    c.args.self.aside.items c.args.self.hand c.args.self.opened c.args.self.desks.items c.args.self.homes.items _
    bare.closed.0 bare.closed.1 bare.closed.2 bare.found bare.aside bare.places
    (λ f. sum_by-IsPermutation f _ _ c.sort.ensures.same) c.args.self.even

use Rattle.std.proofs.Common.{◌≡◌, ℕ, List, map, ap, ◌∙◌, subst}
use Rattle.std.proofs.lemmas.Result.{IfErr-weaker}
use Rattle.std.specs.Prelude.{IfOk}
use Rattle.gather_home.specs.Homecomings.{somes}
use Rattle.migration.specs.DataPlaces.{names_of}
use Rattle.gather_home.specs.declared.data_home.Home.{Home}
use Rattle.gather_home.specs.DataHomecomings.{AtSlots, ComeToAccepted}
use Rattle.gather_home.specs.DataPlaced.{AllPlaced}
use Rattle.gather_home.proofs.data_homecoming.gather_data.Goals as goal

pub returns-clause-home : goal.returns-clause-home
returns-clause-home g c =
    subst (λ l. IfOk c.again.result
    (λ homes. map (λ (home : Home g.row.H.Denot g.row.H-Item.Denot). g.H.DataTraveller.name home.half) homes.items
    ≡ somes (names_of g.H.DataTraveller.name l))) c.new.ensures.admitted c.again.ensures.home

pub returns-clause-each : goal.returns-clause-each
returns-clause-each g c =
    subst (λ l. IfOk c.again.result (λ homes. AtSlots g.H.DataTraveller.name g.H.DataTraveller.slot_at l homes.items)) c.new.ensures.admitted
    c.again.ensures.each

pub returns-clause-items : goal.returns-clause-items
returns-clause-items g c =
    subst (λ l. IfOk c.again.result (λ homes. ComeToAccepted g.H.DataTraveller.name g.H.DataTraveller.slot_at g.H.DataTraveller.handled l
    homes.items)) c.new.ensures.admitted
    c.again.ensures.items

pub returns-clause-placed : goal.returns-clause-placed
returns-clause-placed g c =
    subst (λ l. IfOk c.again.result (λ homes. AllPlaced g.H.DataTraveller.places l homes.items)) c.new.ensures.slices
    c.again.ensures.placed

pub returns-clause-parts : goal.returns-clause-parts
returns-clause-parts g c =
    IfErr-weaker c.again.result _ _ (λ parts same. (
      ap (λ (o : List _ × List ℕ). o.0) same ∙ c.new.ensures.admitted,
      ap (λ (o : List _ × List ℕ). o.1) same ∙ c.new.ensures.slices,
    )) c.again.ensures.parts

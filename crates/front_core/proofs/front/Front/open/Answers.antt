use Rattle.std.proofs.Common.{length, map, refl, ap, ◌∙◌, arith}
use Rattle.worker_core.specs.Desks.{lanes_of}
use Rattle.worker_core.specs.Workers.{Lanes}
use Rattle.migration.specs.Words.{asked_of, desks_of, places_of}
use Rattle.migration.specs.DataWords as datas
use Rattle.at_rest.specs.Rest.{Rest}
use Rattle.front_core.specs.declared.halves.Halves.{Halves}
use Rattle.front_core.specs.Words.{first_slices}
use Rattle.front_core.proofs.Opens.{opened_so}
use Rattle.front_core.proofs.front.Front.open.Goals as goal

pub returns-clause-whole : goal.returns-clause-whole
returns-clause-whole c =
    let inside = c.rest.inside in
    let rest : Rest = record {
      slices = inside.sizes.slices;
      room = inside.sizes.room;
      lane = inside.sizes.lane;
      book = inside.book;
      subscribers = inside.subscribers.items;
      lines = inside.lines;
      latest = inside.latest;
      fulls = inside.fulls;
    } in
    let halves : Halves = record {
      alloc = c.args.alloc;
      room = inside.sizes.room;
      lots = c.new.result;
      sides = c.new-4.result;
      fulls = inside.fulls;
    } in
    let control_is = c.new-4.ensures.0 in
    let data_is = c.new-4.ensures.1 in
    opened_so c.args.rest rest c.of-opened.result.value halves c.new-5.result.items c.requires.behind.0
    c.requires.represents.0 c.rest.view_is c.of-opened.ensures c.new-5.ensures.items c.requires.behind.1
    c.requires.represents.1 inside.slices_few inside.roomy inside.lane_roomy
    (omega (arith, inside.as_many, inside.subscribers.ok.0)) inside.few inside.each c.new.ensures.items
    (ap places_of control_is ∙ c.new-2.ensures.none) (ap datas.places_of data_is ∙ c.new-3.ensures.none)
    (ap length (ap desks_of control_is ∙ c.new-2.ensures.desks) ∙ c.in_ok-controls.ensures.count)
    (ap (λ ds. map (λ (lanes : Lanes). lanes.0.room) (lanes_of ds)) (ap datas.desks_of data_is ∙ c.new-3.ensures.desks)
    ∙ c.in_ok-datas.ensures.rooms) (ap datas.queue_room_of data_is ∙ c.new-3.ensures.room) refl
    (ap asked_of control_is ∙ c.new-2.ensures.asked) (ap datas.asked_of data_is ∙ c.new-3.ensures.counts.0)

pub returns-clause-controls : goal.returns-clause-controls
returns-clause-controls c =
    ap lanes_of (ap desks_of c.new-4.ensures.0 ∙ c.new-2.ensures.desks) ∙ c.in_ok-controls.ensures.lanes

pub returns-clause-datas : goal.returns-clause-datas
returns-clause-datas c =
    ap lanes_of (ap datas.desks_of c.new-4.ensures.1 ∙ c.new-3.ensures.desks) ∙ c.in_ok-datas.ensures.lanes

pub returns-clause-places : goal.returns-clause-places
returns-clause-places c =
    let same = ap (λ (r : Rest). first_slices r.slices) c.rest.view_is in
    (c.in_ok-controls.ensures.places ∙ same, c.in_ok-datas.ensures.places ∙ same)

use Rattle.std.proofs.Common.{ap}
use Rattle.migration.specs.Words as controls
use Rattle.migration.specs.DataWords as datas
use Rattle.front_core.specs.Sides.{both_of}
use Rattle.front_core.proofs.Pumping.{pumped}
use Rattle.front_core.proofs.both.BothSides.pump.Goals as goal

pub returns-clause-settles : goal.returns-clause-settles
returns-clause-settles g c =
    pumped g.H.Traveller.name g.F.DataTraveller.name (both_of c.args.self.now.controls c.args.self.now.datas)
    (both_of c.pump_controls.new.controls c.pump.new.self) (ap (λ (r : controls.Roll _). r.names) c.pump_controls.ensures.roll)
    (ap (λ (r : controls.Roll _). r.lanes) c.pump_controls.ensures.roll)
    (ap (λ (r : controls.Roll _). r.asked) c.pump_controls.ensures.roll)
    (ap (λ (r : datas.Roll _ _). r.names) c.pump.ensures.roll)
    (ap (λ (r : datas.Roll _ _). r.accepted) c.pump.ensures.roll)
    (ap (λ (r : datas.Roll _ _). r.moved) c.pump.ensures.roll)
    (ap (λ (r : datas.Roll _ _). r.lanes) c.pump.ensures.roll)
    (ap (λ (r : datas.Roll _ _). r.asked) c.pump.ensures.roll) c.pump.ensures.room c.pump.ensures.rests

pub returns-clause-count : goal.returns-clause-count
returns-clause-count g c = ap (λ (r : datas.Roll _ _). r.refused) c.pump.ensures.roll

pub returns-clause-datas : goal.returns-clause-datas
returns-clause-datas g c = record {
  states = c.pump.ensures.states;
  drains = c.pump.ensures.drains;
  full = c.pump.ensures.full;
  queues = c.pump.ensures.queues;
  home = c.pump.ensures.home;
}

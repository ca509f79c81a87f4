use Rattle.std.proofs.Common.{◌≡◌, ◌+◌, refl, arith}
use Rattle.front_core.proofs.Setting.{sides_settle}
use Rattle.front_core.proofs.Trying.{no_packet_tried, packet_counted, packet_full, packet_given, packet_later, packet_tried}
use Rattle.front_core.proofs.halves.Halves.give_packet.Goals as goal

pub loop-init : goal.loop-init
loop-init g c = no_packet_tried c.args.slot c.args.packet c.args.self.now c.requires

pub try_packet-requires : goal.try_packet-requires
try_packet-requires g c = c.loop.invariant.may

pub loop-preserved : goal.loop-preserved
loop-preserved g c =
    packet_tried c.args.slot c.args.packet c.loop.packet c.loop.counter c.args.self.now c.loop.self c.loop.invariant
    c.args.line c.in-Full.back c.try_packet.new.self _ c.in-Full.ensures.tries c.try_packet.ensures.rises
    (record {
      settles = sides_settle c.try_packet.new.self _ c.pump.ensures.settles refl refl;
      controls = c.pump.ensures.controls;
      datas = c.pump.ensures.datas;
    }) refl c.pump.ensures.count

pub returns-in-Accepted-clause-gives : goal.returns-in-Accepted-clause-gives
returns-in-Accepted-clause-gives g c =
    packet_given c.args.slot c.args.packet c.loop.packet c.loop.counter c.args.self.now c.loop.self c.loop.invariant
    c.args.line (c.args.patience + 1) c.in-Accepted.parked c.try_packet.new.self c.in-Accepted.ensures.tries
    (omega (arith, c.loop-test.true))

pub returns-in-Accepted-clause-rises : goal.returns-in-Accepted-clause-rises
returns-in-Accepted-clause-rises g c =
    packet_later c.args.slot c.args.packet c.loop.packet c.loop.counter c.args.self.now c.loop.self c.loop.invariant
    c.try_packet.new.self c.try_packet.ensures.rises

pub returns-in-NoMemory-clause-rises : goal.returns-in-NoMemory-clause-rises
returns-in-NoMemory-clause-rises g c =
    packet_later c.args.slot c.args.packet c.loop.packet c.loop.counter c.args.self.now c.loop.self c.loop.invariant
    c.try_packet.new.self c.try_packet.ensures.rises

pub returns-in-Accepted-clause-counts : goal.returns-in-Accepted-clause-counts
returns-in-Accepted-clause-counts g c =
    packet_counted c.args.slot c.args.packet c.loop.packet c.loop.counter c.args.self.now c.loop.self c.loop.invariant
    (c.args.patience + 1) c.in-Accepted.parked c.try_packet.new.self c.in-Accepted.ensures.counts
    (omega (arith, c.loop-test.true))

pub returns-in-Accepted-try_packet-clause-gives : goal.returns-in-Accepted-try_packet-clause-gives
returns-in-Accepted-try_packet-clause-gives g c =
    packet_given c.args.slot c.args.packet c.loop.packet c.loop.counter c.args.self.now c.loop.self c.loop.invariant
    c.args.line (c.args.patience + 1) c.in-Accepted-try_packet.parked c.try_packet-2.new.self
    c.in-Accepted-try_packet.ensures.tries (omega (arith, c.loop.auto.counter-end))

pub returns-in-Full-try_packet-clause-gives : goal.returns-in-Full-try_packet-clause-gives
returns-in-Full-try_packet-clause-gives g c =
    let same : c.loop.counter + 1 ≡ c.args.patience + 1 = omega (arith, c.loop-test.false, c.loop.auto.counter-end) in
    packet_full c.args.slot c.args.packet c.loop.packet c.loop.counter c.args.self.now c.loop.self c.loop.invariant
    c.args.line (c.args.patience + 1) c.in-Full-try_packet.field-0 c.try_packet-2.new.self
    c.in-Full-try_packet.ensures.tries same

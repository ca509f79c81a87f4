use Rattle.std.proofs.Common.{◌∙◌, ap}
use Rattle.pc_base.specs.declared.packet.Packet.{Packet}
use Rattle.pc_base.specs.declared.packet.Way.{Way}
use Rattle.packet_steps.proofs.handling.judge.Goals as goal

pub returns-in-Up-clause-verdict : goal.returns-in-Up-clause-verdict
returns-in-Up-clause-verdict c = λ past taken packet stands same few is.
    let with : Way → Packet = λ way. record {
      number = c.args.number;
      moment = c.args.moment;
      way = way;
      octets = c.args.ip.now;
    } in
    c.lent.ensures.verdict past taken packet stands same few (is ∙ ap with c.in-Up.is)

pub returns-in-Up-clause-stands : goal.returns-in-Up-clause-stands
returns-in-Up-clause-stands c = λ past taken packet stands same few is.
    let with : Way → Packet = λ way. record {
      number = c.args.number;
      moment = c.args.moment;
      way = way;
      octets = c.args.ip.now;
    } in
    c.lent.ensures.stands past taken packet stands same few (is ∙ ap with c.in-Up.is)

pub returns-in-Up-clause-planned : goal.returns-in-Up-clause-planned
returns-in-Up-clause-planned c = λ packet is.
    let with : Way → Packet = λ way. record {
      number = c.args.number;
      moment = c.args.moment;
      way = way;
      octets = c.args.ip.now;
    } in
    c.lent.ensures.planned packet (is ∙ ap with c.in-Up.is)

pub returns-in-Up-clause-goes_on : goal.returns-in-Up-clause-goes_on
returns-in-Up-clause-goes_on c = λ packet is.
    let with : Way → Packet = λ way. record {
      number = c.args.number;
      moment = c.args.moment;
      way = way;
      octets = c.args.ip.now;
    } in
    c.lent.ensures.goes_on packet (is ∙ ap with c.in-Up.is)

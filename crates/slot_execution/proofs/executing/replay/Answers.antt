use Rattle.std.proofs.Common.{◌≡◌, ◌+◌, ◌-◌, ◌++◌, ◌∷◌, [], length, map, min, take, unwrap_or, sym, ap, subst, ◌∙◌, arith}
use Rattle.std.proofs.Math.Logic.{∥∥₁_elim, ∥∥₁_map}
use Rattle.std.proofs.Props.{props}
use Rattle.std.proofs.lemmas.List.{map_more}
use Rattle.gate_model.specs.SlotPast.{records_after}
use Rattle.report_lines.specs.declared.entry.ChargeEntry.TheVariants.{R}
use Rattle.slot_execution.specs.Replaying.{CanReplay, AreShort, Plays, commands_lent, counts_in, counts_of, events_of, moment_of, placed_lent, placed_so, places_in, places_of}
use Rattle.slot_execution.specs.declared.placed.Placed.{Placed}
use Rattle.lawful_run.proofs.EventByEvent.{goes_over, goes_step, packet_rises, part_rises, rest_rises}
use Rattle.slot_execution.proofs.Steps.{late_next, latest_next, latest_over}
use Rattle.slot_execution.proofs.executing.replay.Goals as goal

pub do_commands-requires : goal.do_commands-requires
do_commands-requires c =
    let at = c.loop-placed in
    ∥∥₁_map c.requires.room
    (λ (has : CanReplay c.args.subscriber.now (length c.args.commands.now + length c.args.packets.now)).
    part_rises placed_so c.args.commands.now c.args.packets.now has.before (Plays at.subscriber at.replayed) has.slot
    at.done at.from c.reached-to.result c.saturating_sub.result at.placed-index has.few c.reached-to.ensures
    (at.invariant.goes has.slot has.before has.represents))

pub do_packet-requires-clause-room : goal.do_packet-requires-clause-room
do_packet-requires-clause-room c =
    let at = c.loop-placed in
    let packet = c.placed-item.result in
    let is : c.reached-to.result ≡ at.from + min (packet.commands - at.done) (length c.args.commands.now - at.from) =
    omega (arith, c.reached-to.ensures, c.saturating_sub.ensures) in
    ∥∥₁_map c.requires.room
    (λ (has : CanReplay c.args.subscriber.now (length c.args.commands.now + length c.args.packets.now)).
    packet_rises placed_so c.args.commands.now c.args.packets.now has.before
    (Plays at.subscriber at.replayed has.slot has.before)
    (Plays c.do_commands.new.subscriber c.do_commands.new.replayed) has.slot at.done at.from
    c.reached-to.result at.placed-index packet has.few is c.loop-placed-test.true c.placed-item.is
    (at.invariant.goes has.slot has.before has.represents)
    (λ now plays. c.in_ok-do_commands.ensures.plays has.slot has.before now plays))

pub loop-placed-preserved : goal.loop-placed-preserved
loop-placed-preserved c =
    let at = c.loop-placed in
    let k = at.placed-index in
    let packets = c.args.packets.now in
    let packet = c.placed-item.result in
    let is : c.reached-to.result ≡ at.from + min (packet.commands - at.done) (length c.args.commands.now - at.from) =
    omega (arith, c.reached-to.ensures, c.saturating_sub.ensures) in
    let did = c.in_ok-do_packet.ensures in
    record {
      within = omega (arith, is, at.invariant.within);
      goes = λ slot before has.
          goes_step placed_so c.args.commands.now packets before (Plays at.subscriber at.replayed slot before)
          (Plays c.do_commands.new.subscriber c.do_commands.new.replayed slot before)
          (Plays c.do_packet.new.subscriber c.do_packet.new.replayed slot before)
          c.do_commands.new.subscriber.packets at.done at.from c.reached-to.result k packet is c.loop-placed-test.true
          c.placed-item.is (at.invariant.goes slot before has)
          (λ now plays. c.in_ok-do_commands.ensures.plays slot before now plays)
          (λ now plays. plays.stands.packets) (λ now plays. did.plays slot before now plays);
      late = late_next packets k packet (moment_of at.subscriber) (moment_of c.do_packet.new.subscriber)
          c.loop-placed-test.true c.placed-item.is did.last at.invariant.late;
      last = latest_next packets k packet (moment_of at.subscriber) (moment_of c.do_packet.new.subscriber)
          c.loop-placed-test.true c.placed-item.is did.last ∙ at.invariant.last;
      counts = did.counts ∙ ap (λ js. counts_in js ++ packet.commands ∷ []) c.in_ok-do_commands.ensures.packets
          ∙ ap (λ cs. cs ++ packet.commands ∷ []) at.invariant.counts
          ∙ ap (λ (x : Placed). counts_of (take k packets) ++ x.commands ∷ []) c.placed-item.is
          ∙ sym (map_more (λ (x : Placed). x.commands) packets k packet c.loop-placed-test.true);
      places = did.places ∙ ap (λ js. places_in js ++ packet.place ∷ []) c.in_ok-do_commands.ensures.packets
          ∙ ap (λ cs. cs ++ packet.place ∷ []) at.invariant.places
          ∙ ap (λ (x : Placed). places_of (take k packets) ++ x.place ∷ []) c.placed-item.is
          ∙ sym (map_more (λ (x : Placed). x.place) packets k packet c.loop-placed-test.true);
      short = did.short (subst AreShort (sym c.in_ok-do_commands.ensures.packets) at.invariant.short);
      destination = did.destination ∙ c.in_ok-do_commands.ensures.destination ∙ at.invariant.destination;
    }

pub do_commands-requires-2 : goal.do_commands-requires-2
do_commands-requires-2 c =
    let at = c.loop-placed in
    ∥∥₁_map c.requires.room
    (λ (has : CanReplay c.args.subscriber.now (length c.args.commands.now + length c.args.packets.now)).
    rest_rises placed_so c.args.commands.now c.args.packets.now has.before (Plays at.subscriber at.replayed) has.slot
    at.done at.from at.placed-index has.few c.loop-placed-test.false
    (at.invariant.goes has.slot has.before has.represents))

pub returns-clause-led : goal.returns-clause-led
returns-clause-led c = λ slot before has.
    let at = c.loop-placed in
    let plays = goes_over placed_so c.args.commands.now c.args.packets.now before
    (Plays at.subscriber at.replayed slot before)
    (Plays c.do_commands-2.new.subscriber c.do_commands-2.new.replayed slot before) at.done at.from at.placed-index
    c.loop-placed-test.false (at.invariant.goes slot before has)
    (λ now plays. c.in_ok-do_commands-2.ensures.plays slot before now plays) in
    record {
      replies = plays.led.replies;
      verdicts = plays.led.verdicts;
      effects = plays.led.effects;
      numbers = plays.led.numbers;
      packet_numbers = plays.led.packet_numbers;
    }

pub returns-clause-rows : goal.returns-clause-rows
returns-clause-rows c = λ slot before has.
    let at = c.loop-placed in
    let all = events_of before (commands_lent c.args.commands.now) (placed_lent c.args.packets.now) in
    let plays = goes_over placed_so c.args.commands.now c.args.packets.now before
    (Plays at.subscriber at.replayed slot before)
    (Plays c.do_commands-2.new.subscriber c.do_commands-2.new.replayed slot before) at.done at.from at.placed-index
    c.loop-placed-test.false (at.invariant.goes slot before has)
    (λ now plays. c.in_ok-do_commands-2.ensures.plays slot before now plays) in
    ap (map (R slot)) (c.take_closed.ensures.rows slot (before ++ all) (length (records_after slot before)) plays.stands)

pub returns-clause-represents : goal.returns-clause-represents
returns-clause-represents c = λ slot before has.
    let at = c.loop-placed in
    let all = events_of before (commands_lent c.args.commands.now) (placed_lent c.args.packets.now) in
    let plays = goes_over placed_so c.args.commands.now c.args.packets.now before
    (Plays at.subscriber at.replayed slot before)
    (Plays c.do_commands-2.new.subscriber c.do_commands-2.new.replayed slot before) at.done at.from at.placed-index
    c.loop-placed-test.false (at.invariant.goes slot before has)
    (λ now plays. c.in_ok-do_commands-2.ensures.plays slot before now plays) in
    c.take_closed.ensures.stands slot (before ++ all) (length (records_after slot before)) plays.stands

pub returns-clause-last : goal.returns-clause-last
returns-clause-last c =
    let at = c.loop-placed in
    ∥∥₁_elim c.requires.room (hlevel props)
    (λ (has : CanReplay c.args.subscriber.now (length c.args.commands.now + length c.args.packets.now)).
    let all = events_of has.before (commands_lent c.args.commands.now) (placed_lent c.args.packets.now) in
    let plays = goes_over placed_so c.args.commands.now c.args.packets.now has.before
    (Plays at.subscriber at.replayed has.slot has.before)
    (Plays c.do_commands-2.new.subscriber c.do_commands-2.new.replayed has.slot has.before) at.done at.from
    at.placed-index c.loop-placed-test.false (at.invariant.goes has.slot has.before has.represents)
    (λ now plays. c.in_ok-do_commands-2.ensures.plays has.slot has.before now plays) in
    ap (λ last. unwrap_or last 0) (c.take_closed.ensures.last has.slot (has.before ++ all)
    (length (records_after has.slot has.before)) plays.stands ∙ c.in_ok-do_commands-2.ensures.last)
    ∙ latest_over c.args.packets.now at.placed-index (moment_of at.subscriber) _ c.loop-placed-test.false
    at.invariant.last)

use Rattle.std.proofs.Common.{cond, set, sym, ◌∙◌, ap}
use Rattle.packet_steps.specs.declared.meters.Meter.{Meter}
use Rattle.packet_steps.specs.Meters.{MetersState, in_use, new_meter}
use Rattle.packet_steps.proofs.OwnMeters.{state_of}
use Rattle.packet_steps.proofs.ResultLemmas.{on_ok}
use Rattle.packet_steps.proofs.meters.Meters.begin.Goals as goal

pub returns-then-begins_guaranteed : goal.returns-then-begins_guaranteed
returns-then-begins_guaranteed c =
    let old = in_use c.args.self.now in
    let bearer = c.args.bearer.now in
    let with_own : Meter → MetersState = λ meter. state_of old.shared (set old.own bearer.index meter) in
    on_ok c.try_put_own.result (λ put. put ∙ ap with_own c.new-meter.ensures
    ∙ sym (ap (λ begins. cond begins (with_own (new_meter bearer.qos.mbr_up bearer.qos.mbr_down)) old)
    (sym c.begins_guaranteed.ensures ∙ c.if-begins_guaranteed.true)))
    c.try_put_own.ensures

pub returns : goal.returns
returns c =
    let old = in_use c.args.self.now in
    let bearer = c.args.bearer.now in
    sym (ap (λ begins. cond begins
    (state_of old.shared (set old.own bearer.index (new_meter bearer.qos.mbr_up bearer.qos.mbr_down))) old)
    (sym c.begins_guaranteed.ensures ∙ c.if-begins_guaranteed.false))

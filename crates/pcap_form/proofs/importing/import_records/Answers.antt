use Rattle.std.proofs.Common.{◌≡◌, ◌+◌, ◌-◌, ◌++◌, ◌∷◌, [], None, Err, take, unwrap_or, sym, ap, ◌∙◌, arith}
use Rattle.pcap_form.specs.Head.{head_of}
use Rattle.pcap_form.specs.Record.{record_in, record_len}
use Rattle.pcap_form.specs.Trace.{moment_of, stamped, text_of}
use Rattle.pcap_form.specs.Ahead.{Ahead}
use Rattle.pcap_form.specs.Progress.{Reached}
use Rattle.pcap_form.specs.declared.importing.Stopped.TheVariants as stopped
use Rattle.pcap_form.proofs.RunLemmas.{cut_at, ends, ends_early, gained, goes_on, headed, if_err, named, none_left, starts, text_named}
use Rattle.pcap_form.proofs.StopLemmas.{fails_headless, stops_broken, stops_cut, stops_ended, stops_fault, stops_full, stops_headless, stops_unknown}
use Rattle.pcap_form.proofs.importing.import_records.Goals as goal

pub returns-in-End-clause-ended : goal.returns-in-End-clause-ended
returns-in-End-clause-ended g c =
    let filled = c.in-End.ensures.filled in
    ends_early stopped.BadCapture _ _ _ _ c.requires.empty
    (headed _ _ c.args.block.now c.fill.new.self (λ octets rest. Reached stopped.BadCapture octets rest [])
    (ap (λ (b : Ahead). b.held) c.requires.fresh) c.fill.ensures.gains
    (λ octets rest told parts. stops_headless octets c.fill.new.self.held rest filled.0
    (none_left _ rest filled.2 told) parts))

pub returns-in-Fault-clause-ended : goal.returns-in-Fault-clause-ended
returns-in-Fault-clause-ended g c =
    ends_early stopped.ReadFault _ _ _ _ c.requires.empty
    (headed _ _ c.args.block.now c.fill.new.self (λ octets rest. Reached stopped.ReadFault octets rest [])
    (ap (λ (b : Ahead). b.held) c.requires.fresh) c.fill.ensures.gains
    (λ octets rest told parts. fails_headless octets c.fill.new.self.held rest c.in-Fault.ensures.filled.0 parts))

pub returns-in_default-clause-ended : goal.returns-in_default-clause-ended
returns-in_default-clause-ended g c =
    let none : head_of (take 24 c.fill.new.self.held) ≡ None =
    ap (λ h. head_of (take 24 h)) (sym c.held.ensures) ∙ sym c.header.ensures ∙ c.in_default.is
    in
    ends_early stopped.BadCapture _ _ _ _ c.requires.empty
    (headed _ _ c.args.block.now c.fill.new.self (λ octets rest. Reached stopped.BadCapture octets rest [])
    (ap (λ (b : Ahead). b.held) c.requires.fresh) c.fill.ensures.gains
    (λ octets rest told parts. stops_unknown octets c.fill.new.self.held rest c.in-Enough.ensures.filled.0 none parts))

pub loop-one-init : goal.loop-one-init
loop-one-init g c = record {
  progress = (
    [],
    starts _ _ _ c.args.block.now c.fill.new.self c.pass.new.self c.in-Some.head _
        (ap (λ (b : Ahead). b.held) c.requires.fresh) (ap (λ (b : Ahead). b.room) c.requires.fresh)
        c.fill.ensures.gains c.in-Enough.ensures.filled.0
        (ap (λ h. head_of (take 24 h)) (sym c.held.ensures) ∙ sym c.header.ensures ∙ c.in-Some.is)
        c.pass.ensures.held c.pass.ensures.room c.requires.empty,
  );
  source_later = c.fill.ensures.later;
  sink_later = omega arith;
}

pub returns-in-Broken-clause-ended : goal.returns-in-Broken-clause-ended
returns-in-Broken-clause-ended g c =
    let p = c.loop-one.invariant.progress in
    let finds = c.in-Broken.ensures.finds in
    let now = c.next_record.new.block in
    ends stopped.BadCapture _ _ _ _ now.held c.in-Some.head _ _ now.room _ p.0
    (λ octets rest told read. stops_broken c.in-Some.head now.room p.0 octets now.held rest finds.0 finds.1 finds.2
    read)
    (gained _ _ _ _ _ c.loop-one.block now c.in-Some.head _ _ _ p.0 c.next_record.ensures.gains p.1)

pub returns-in-Cut-clause-ended : goal.returns-in-Cut-clause-ended
returns-in-Cut-clause-ended g c =
    let p = c.loop-one.invariant.progress in
    let finds = c.in-Cut.ensures.finds in
    let now = c.next_record.new.block in
    ends stopped.BadCapture _ _ _ _ now.held c.in-Some.head _ _ now.room _ p.0
    (λ octets rest told read.
    stops_cut c.in-Some.head now.room p.0 octets now.held rest finds.0 (none_left _ rest finds.2 told) finds.1 read)
    (gained _ _ _ _ _ c.loop-one.block now c.in-Some.head _ _ _ p.0 c.next_record.ensures.gains p.1)

pub returns-in-End-next_record-clause-ended : goal.returns-in-End-next_record-clause-ended
returns-in-End-next_record-clause-ended g c =
    let p = c.loop-one.invariant.progress in
    let finds = c.in-End-next_record.ensures.finds in
    let now = c.next_record.new.block in
    ends stopped.Ended _ _ _ _ now.held c.in-Some.head _ _ now.room _ p.0
    (λ octets rest told read.
    stops_ended c.in-Some.head now.room p.0 octets now.held rest finds.0 (none_left _ rest finds.2 told) finds.1 read)
    (gained _ _ _ _ _ c.loop-one.block now c.in-Some.head _ _ _ p.0 c.next_record.ensures.gains p.1)

pub returns-in-Full-next_record-clause-ended : goal.returns-in-Full-next_record-clause-ended
returns-in-Full-next_record-clause-ended g c =
    let p = c.loop-one.invariant.progress in
    let finds = c.in-Full-next_record.ensures.finds in
    let now = c.next_record.new.block in
    ends stopped.TooLong _ _ _ _ now.held c.in-Some.head _ _ now.room _ p.0
    (λ octets rest told read. stops_full c.in-Some.head now.room p.0 octets now.held rest finds.0 finds.1 read)
    (gained _ _ _ _ _ c.loop-one.block now c.in-Some.head _ _ _ p.0 c.next_record.ensures.gains p.1)

pub returns-in-Fault-next_record-clause-ended : goal.returns-in-Fault-next_record-clause-ended
returns-in-Fault-next_record-clause-ended g c =
    let p = c.loop-one.invariant.progress in
    let finds = c.in-Fault-next_record.ensures.finds in
    let now = c.next_record.new.block in
    ends stopped.ReadFault _ _ _ _ now.held c.in-Some.head _ _ now.room _ p.0
    (λ octets rest told read. stops_fault c.in-Some.head now.room p.0 octets now.held rest finds.0 finds.1 read)
    (gained _ _ _ _ _ c.loop-one.block now c.in-Some.head _ _ _ p.0 c.next_record.ensures.gains p.1)

pub loop-one-preserved : goal.loop-one-preserved
loop-one-preserved g c =
    let p = c.loop-one.invariant.progress in
    let now = c.next_record.new.block in
    let one = c.in-Record.one in
    let first : c.first_time-start.result ≡ unwrap_or c.loop-one.first one.time = c.first_time-start.ensures in
    let moment : c.moment_of-moment.result ≡ moment_of (unwrap_or c.loop-one.first one.time) c.loop-one.least one.time =
    c.moment_of-moment.ensures ∙ ap (λ f. moment_of f c.loop-one.least one.time) first
    in
    let text = c.loop-one.out ++ text_of (stamped c.moment_of-moment.result
    (record_in c.in-Some.head c.held-in-Record.result.now).said) in
    record {
      progress = (
        p.0 ++ record_in c.in-Some.head now.held ∷ [],
        named _ _ _ _ c.in-Some.head _ _ _ _ c.pass-in-Record.new.self.room _ _ _ _ first moment
            c.pass-in-Record.ensures.held
            (goes_on _ _ _ _ _ c.in-Some.head c.loop-one.first c.loop-one.least now.room c.pass-in-Record.new.self.room
            c.loop-one.out text _ p.0 one now.held c.in-Record.ensures.finds.0 c.pass-in-Record.ensures.room
            (gained _ _ _ _ _ c.loop-one.block now c.in-Some.head _ _ _ p.0 c.next_record.ensures.gains p.1)
            (text_named c.loop-one.out _ _ c.in-Some.head _ _ moment c.held-in-Record.ensures)
            c.in_ok-take_record-in-Record.ensures.taken),
      );
      source_later = omega (arith, c.loop-one.invariant.source_later, c.next_record.ensures.later);
      sink_later = omega (arith, c.loop-one.invariant.sink_later, c.take_record.ensures.later);
    }

pub returns-in_err-take_record-in-Record-clause-cut : goal.returns-in_err-take_record-in-Record-clause-cut
returns-in_err-take_record-in-Record-clause-cut g c =
    let p = c.loop-one.invariant.progress in
    let now = c.next_record.new.block in
    let one = c.in-Record.one in
    let n = record_len + one.captured in
    let moment : c.moment_of-moment.result ≡ moment_of (unwrap_or c.loop-one.first one.time) c.loop-one.least one.time =
    c.moment_of-moment.ensures ∙ ap (λ f. moment_of f c.loop-one.least one.time) c.first_time-start.ensures
    in
    let text = c.loop-one.out ++ text_of (stamped c.moment_of-moment.result
    (record_in c.in-Some.head c.held-in-Record.result.now).said) in
    if_err (λ why. why ≡ c.in_err-take_record-in-Record.field-0.0) _ c.from_residual.result
    (λ why is. cut_at why _ _ _ _ _ c.in-Some.head c.loop-one.first c.loop-one.least now.room (now.room - n)
    c.loop-one.out text p.0 one now.held c.in-Record.ensures.finds.0
    (omega (arith, c.in-Record.ensures.finds.0.all, c.in-Record.ensures.finds.1))
    (gained _ _ _ _ _ c.loop-one.block now c.in-Some.head _ _ _ p.0 c.next_record.ensures.gains p.1)
    (text_named c.loop-one.out _ _ c.in-Some.head _ _ moment c.held-in-Record.ensures)
    (λ w. c.take_record.ensures.cut (c.in_err-take_record-in-Record.was ∙ ap Err (sym is ∙ w)))
    (λ w. ap g.K.Sink.written (c.take_record.ensures.kept (c.in_err-take_record-in-Record.was ∙ ap Err (sym is ∙ w)))))
    c.from_residual.ensures.1

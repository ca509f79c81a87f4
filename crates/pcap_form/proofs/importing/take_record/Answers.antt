use Rattle.std.proofs.Common.{◌≡◌, ◌++◌}
use Rattle.pcap_form.specs.Record.{record_in}
use Rattle.pcap_form.specs.Trace.{stamped, text_of}
use Rattle.pcap_form.proofs.RunLemmas.{all_sent}
use Rattle.pcap_form.proofs.importing.take_record.Goals as goal

pub returns-clause-taken : goal.returns-clause-taken
returns-clause-taken g c =
    let waited : c.push_lent.new.out ≡ c.args.out.now ++ text_of (stamped c.args.moment
    (record_in c.args.head.now c.args.held.now).said) = cc (c.in_ok-push_lent.ensures, c.said_in.ensures) in
    all_sent c.write_text.result _ _ _ _ _ waited c.write_text.ensures.whole c.write_text.ensures.emptied

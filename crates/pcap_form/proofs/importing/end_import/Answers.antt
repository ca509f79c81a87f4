use Rattle.std.proofs.Common.{◌≡◌}
use Rattle.pc_outside.specs.declared.writing.Unwritten.TheVariants.{WriteFault}
use Rattle.pcap_form.proofs.ReportLemmas.{ends_cut, ends_whole}
use Rattle.pcap_form.proofs.importing.end_import.Goals as goal

pub returns-in-Ok-clause-runs : goal.returns-in-Ok-clause-runs
returns-in-Ok-clause-runs g c = λ start left old ends.
    rw c.imported_at.ensures
    (ends_whole c.args.stop start left old (g.K.Sink.written c.args.sink.now) (g.K.Sink.written c.write_text.new.sink)
    c.args.out.now c.write_text.new.text ends
    (record { written = c.in-Ok.ensures.whole; emptied = c.in-Ok.ensures.emptied }))

pub returns-in-Err-clause-runs : goal.returns-in-Err-clause-runs
returns-in-Err-clause-runs g c = λ start left old ends.
    let why_is : c.in-Err.why ≡ WriteFault = cc (c.in-Err.ensures.no_other) in
    rw (c.imported_without.ensures, why_is)
    (ends_cut c.args.stop start left old (g.K.Sink.written c.args.sink.now) (g.K.Sink.written c.write_text.new.sink)
    c.args.out.now ends c.in-Err.ensures.cut)

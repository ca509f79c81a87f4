use Rattle.pcap_form.proofs.ReportLemmas.{cuts_run, nothing_runs}
use Rattle.pcap_form.proofs.importing.import.Goals as goal

pub returns-in-Err-clause-runs : goal.returns-in-Err-clause-runs
returns-in-Err-clause-runs g c =
    nothing_runs (g.S.Source.left c.args.source.now) (g.K.Sink.written c.args.sink.now)

pub returns-clause-runs : goal.returns-clause-runs
returns-clause-runs g c =
    rw c.imported_without.ensures
    (cuts_run c.in-Err-import_records.why _ _ _ _ c.in-Err-import_records.ensures.cut)

use Rattle.pcap_form.proofs.OrderLemmas.{trace_comes_back}
use Rattle.pcap_form.proofs.laws.traces_come_back.Goals as goal

pub returns : goal.returns
returns c = trace_comes_back

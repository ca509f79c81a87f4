use Rattle.pcap_form.proofs.ExportLemmas.{comes_back}
use Rattle.pcap_form.proofs.laws.kept_lines_come_back.Goals as goal

pub returns : goal.returns
returns c = comes_back

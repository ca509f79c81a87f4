use Rattle.gtpv2_ie.proofs.ContextReadBack.{read_back}
use Rattle.gtpv2_ie.proofs.laws.elements_read_back.Goals as goal

pub returns : goal.returns
returns c = read_back

use Rattle.report_laws.proofs.Lockstep.{parts_tell_all}
use Rattle.report_laws.proofs.PartLemmas.{parts_are_alike}
use Rattle.report_laws.proofs.parts.parts_tell_all.Goals as goal

pub returns : goal.returns
returns c = record { all = parts_tell_all; alike = parts_are_alike }

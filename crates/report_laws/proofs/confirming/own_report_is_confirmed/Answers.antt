use Rattle.report_laws.proofs.Confirmed.{own_confirmed, own_never_refuted}
use Rattle.report_laws.proofs.OctetsConfirmed.{own_text_confirmed, own_text_never_refuted}
use Rattle.report_laws.proofs.confirming.own_report_is_confirmed.Goals as goal

pub returns-clause-yes : goal.returns-clause-yes
returns-clause-yes c = own_confirmed

pub returns-clause-only : goal.returns-clause-only
returns-clause-only c = own_never_refuted

pub returns-clause-text : goal.returns-clause-text
returns-clause-text c = own_text_confirmed

pub returns-clause-text_only : goal.returns-clause-text_only
returns-clause-text_only c = own_text_never_refuted

use Rattle.std.proofs.Common.{◌∙◌, ap, sym}
use Rattle.audit_core.specs.Pieces.{lent_line}
use Rattle.audit_core.proofs.piece.outside_broken.Goals as goal

pub returns-in-None-clause-none : goal.returns-in-None-clause-none
returns-in-None-clause-none c = sym c.elsewhere.ensures ∙ ap lent_line c.in-None.is

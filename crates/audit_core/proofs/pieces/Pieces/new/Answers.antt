use Rattle.std.proofs.Common.{rules, refl}
use Rattle.audit_core.proofs.PieceHeard.{hears_none}
use Rattle.audit_core.proofs.pieces.Pieces.new.Goals as goal

pub returns-clause-nothing : goal.returns-clause-nothing
returns-clause-nothing c =
    hears_none _ c.requires refl refl refl (search rules) (search rules) refl (search rules) (search rules) refl refl refl
    refl (search rules) refl

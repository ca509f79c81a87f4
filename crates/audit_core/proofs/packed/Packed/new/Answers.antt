use Rattle.std.proofs.Common.{[], sym, subst}
use Rattle.audit_core.specs.Packed.{KeepsFrom}
use Rattle.audit_core.proofs.PackedLemmas.{keeps_none}
use Rattle.audit_core.proofs.packed.Packed.new.Goals as goal

pub returns : goal.returns
returns c = subst (λ l. KeepsFrom l 0 []) (sym c.new.ensures.items) keeps_none

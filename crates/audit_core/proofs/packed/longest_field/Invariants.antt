use Rattle.audit_core.specs.Packed.{IsField}
use Rattle.audit_core.proofs.packed.longest_field.Given as goal

abbrev pub invariant-loop-at : goal.invariant-loop-at
invariant-loop-at l = record {
  found : IsField l.text l.longest.from l.longest.to;
  open_ : IsField l.text l.from l.at;
}

use Rattle.std.proofs.Common.{◌≡◌, take}
use Rattle.gtpv2_ie.specs.Context.{context_with}
use Rattle.gtpv2_ie.specs.Value.{inner_elements}
use Rattle.gtpv2_ie.proofs.ContextValidity.{HoldsUpTo, spanned}
use Rattle.gtpv2_ie.proofs.context.context_of.Given as goal

abbrev pub invariant-loop-ie : goal.invariant-loop-ie
invariant-loop-ie l = record {
  value : l.context ≡ context_with (inner_elements l.octets (take l.ie-index l.ie-items));
  holds : HoldsUpTo (spanned (take l.ie-index l.ie-items)) l.context;
}

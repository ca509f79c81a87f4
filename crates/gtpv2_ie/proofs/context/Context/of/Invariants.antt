use Rattle.std.proofs.Common.{◌≡◌, length, ◌++◌}
use Rattle.gtpv2_ie.specs.Context.{context_with}
use Rattle.gtpv2_ie.specs.Spelling.{context_octets}
use Rattle.gtpv2_ie.proofs.ContextValidity.{HoldsUpTo}
use Rattle.gtpv2_ie.proofs.context.Context.of.Given as goal

abbrev pub invariant-loop-ie : goal.invariant-loop-ie
invariant-loop-ie l = record {
  value : l.context ≡ context_with l.yielded;
  all : l.fn.ies.items ≡ l.yielded ++ l.ie-iterator.rest.items;
  holds : HoldsUpTo (length (context_octets l.context)) l.context;
}

use Rattle.std.proofs.Common.{◌≡◌, drop}
use Rattle.gtpv2_msg.specs.RowFault as grammar
use Rattle.gtpv2_msg.proofs.required.kinds_fault.Given as goal

-- no kind so far has a fault
abbrev pub invariant-loop-kind : goal.invariant-loop-kind
invariant-loop-kind l = grammar.kinds_fault l.ies (drop l.kind-index l.kinds) ≡ grammar.kinds_fault l.ies l.kinds

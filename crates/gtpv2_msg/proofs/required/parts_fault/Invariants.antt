use Rattle.std.proofs.Common.{◌≡◌, drop}
use Rattle.gtpv2_msg.specs.RowFault as grammar
use Rattle.gtpv2_msg.proofs.required.parts_fault.Given as goal

-- no part so far has a fault
abbrev pub invariant-loop-part : goal.invariant-loop-part
invariant-loop-part l = grammar.parts_fault l.ies (drop l.part-index l.parts) ≡ grammar.parts_fault l.ies l.parts

use Rattle.std.proofs.Common.{◌≡◌, drop}
use Rattle.gtpv2_msg.specs.RowFault as grammar
use Rattle.gtpv2_msg.proofs.required.held_ebi.Given as goal

-- none so far is an EBI
abbrev pub invariant-loop-ie : goal.invariant-loop-ie
invariant-loop-ie l = grammar.held_ebi (drop l.ie-index l.ies) ≡ grammar.held_ebi l.ies

use Rattle.std.proofs.Common.{◌≡◌, ◌++◌, map, take}
use Rattle.gtpv2_ie.specs.Spelling.{inner_spellings, fteid_element}
use Rattle.gtpv2_ie.proofs.context.push_fteids.Given as goal

abbrev pub invariant-loop-instance : goal.invariant-loop-instance
invariant-loop-instance l =
    l.out.items ≡ l.fn.out.items ++ inner_spellings (map fteid_element (take l.instance-index l.fteids))

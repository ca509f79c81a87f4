use Rattle.std.proofs.Common.{◌≡◌, take}
use Rattle.std.specs.List.{AllByRecursion}
use Rattle.gtpv2_ie.specs.Spelling.{spellings}
use Rattle.gtpv2_ie.specs.Validity.{IsElement}
use Rattle.gtpv2_msg.proofs.writing.elements_octets.Given as goal

abbrev pub invariant-loop-ie : goal.invariant-loop-ie
invariant-loop-ie l = record {
  spelling : l.octets.items ≡ spellings (take l.ie-index l.ies);
  valid : AllByRecursion IsElement (take l.ie-index l.ies);
}

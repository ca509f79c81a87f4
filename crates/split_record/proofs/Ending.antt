-- Parts that go on come from what they came from before.
use Rattle.std.proofs.Common.{◌≡◌, List, Result, Ok, Err, IfErr, ap, ◌∙◌}
use Rattle.counter_half.specs.declared.half.DataHalf.{DataHalf}
use Rattle.counter_half.specs.declared.items.DataItem.{DataItem}
use Rattle.split_record.specs.Parts.{IsOf}
use Rattle.split_record.specs.declared.front.FrontEnd.{FrontEnd}
use Rattle.split_record.specs.declared.origin.Origin.{Origin}
use Rattle.split_record.specs.declared.parts.RecordParts.{RecordParts}

pub still_of : {A : Type 0} (result : Result A RecordParts) (before : RecordParts) (front : FrontEnd) (half : DataHalf)
    (left : List DataItem) → IsOf before front half left
    → IfErr result (λ (parts : RecordParts). parts.origin ≡ before.origin)
    → IfErr result (λ (parts : RecordParts). IsOf parts front half left)
still_of (Ok made) before front half left of same = tt
still_of (Err parts) before front half left of same = record {
  front_is = ap (λ (o : Origin). o.front.value) same ∙ of.front_is;
  data_is = ap (λ (o : Origin). o.data_half.value) same ∙ of.data_is;
  left_is = ap (λ (o : Origin). o.left.value.items) same ∙ of.left_is;
}

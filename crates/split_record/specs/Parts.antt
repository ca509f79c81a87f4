-- Parts of a front end, a data half and the packets that were left.
use Rattle.std.specs.Prelude.{◌≡◌, List}
use Rattle.counter_half.specs.declared.half.DataHalf.{DataHalf}
use Rattle.counter_half.specs.declared.items.DataItem.{DataItem}
use Rattle.split_record.specs.declared.front.FrontEnd.{FrontEnd}
use Rattle.split_record.specs.declared.parts.RecordParts.{RecordParts}

pub record IsOf (parts : RecordParts) (front : FrontEnd) (half : DataHalf) (left : List DataItem) : Type 0 where
  pub front_is : parts.origin.front.value ≡ front
  pub data_is : parts.origin.data_half.value ≡ half
  pub left_is : parts.origin.left.value.items ≡ left

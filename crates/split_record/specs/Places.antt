-- Where the packets of a subscriber were handled, once its halves are one.
use Rattle.std.specs.Prelude.{List, map}
use Rattle.pc_base.specs.declared.packet.Place.{Place}
use Rattle.pc_base.specs.declared.packet.Place.TheVariants.{Closing}
use Rattle.counter_half.specs.declared.items.DataItem.{DataItem}

-- packets that are left are handled at the end of an epoch
abbrev pub at_closing : List DataItem → List Place
at_closing left = map (λ (item : DataItem). Closing) left

use Rattle.std.proofs.Common.{◌-◌, []}
use Rattle.tft_codec.specs.Reading.{ids_at}
use Rattle.tft_codec.specs.Refusal.{ids_fault}
use Rattle.tft_codec.proofs.Loops.{StillIds}
use Rattle.tft_codec.proofs.reading.ids_of.Given as goal

abbrev pub invariant-loop : goal.invariant-loop
invariant-loop l = StillIds l.items.items (l.number - l.counter) l.rest (ids_fault l.number [] l.bytes) (ids_at l.bytes)

use Rattle.std.proofs.Common.{◌-◌, []}
use Rattle.tft_codec.specs.Reading.{filters_at}
use Rattle.tft_codec.specs.Refusal.{filters_fault}
use Rattle.tft_codec.proofs.Loops.{StillFilters}
use Rattle.tft_codec.proofs.reading.filters_of.Given as goal

abbrev pub invariant-loop : goal.invariant-loop
invariant-loop l =
    StillFilters l.items.items (l.number - l.counter) l.rest (filters_fault l.number [] l.bytes)
    (filters_at l.number l.bytes)

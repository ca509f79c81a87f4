use Rattle.std.proofs.Common.{◌≡◌, ◌+◌, [], vec_len}
use Rattle.gather_home.specs.DataWords.{origin_of, AreClosed}
use Rattle.gather_home.proofs.data_parts.DataParts.bring_all.Given as goal

abbrev pub invariant-loop : goal.invariant-loop
invariant-loop g l =
    (origin_of l.self ≡ origin_of l.fn.self)
    × (vec_len l.self.hand.found + l.counter ≡ l.end)
    × AreClosed l.self × (l.self.aside.items ≡ []) × (l.self.places.items ≡ [])

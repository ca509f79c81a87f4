use Rattle.std.proofs.Common.{◌≡◌, ◌+◌, [], vec_len}
use Rattle.std.specs.Prelude.{None}
use Rattle.gather_home.specs.Words.{admitted_of}
use Rattle.gather_home.proofs.parts.HomeParts.collect.Given as goal

abbrev pub invariant-loop : goal.invariant-loop
invariant-loop g l =
    (admitted_of l.self ≡ admitted_of l.fn.self)
    × (vec_len l.self.desks + l.counter ≡ l.end)
    × (l.self.places.items ≡ []) × (l.self.left.items ≡ []) × (l.self.held.items ≡ []) × (l.self.opened ≡ None)

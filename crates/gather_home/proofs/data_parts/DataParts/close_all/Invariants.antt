use Rattle.std.proofs.Common.{◌≡◌, ◌+◌, vec_len}
use Rattle.std.specs.Prelude.{None}
use Rattle.gather_home.specs.DataHomecomings.{IsEmptied}
use Rattle.gather_home.specs.DataWords.{origin_of}
use Rattle.gather_home.proofs.data_parts.DataParts.close_all.Given as goal

abbrev pub invariant-loop : goal.invariant-loop
invariant-loop g l =
    (origin_of l.self ≡ origin_of l.fn.self)
    × (vec_len l.self.desks + l.counter ≡ l.end)
    × IsEmptied l.self.hand × (l.self.opened ≡ None)

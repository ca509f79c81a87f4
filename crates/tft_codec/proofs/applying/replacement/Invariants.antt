use Rattle.std.proofs.Common.{◌≡◌, nat_eq, drop}
use Rattle.std.specs.List.{find}
use Rattle.tft_codec.proofs.applying.replacement.Given as goal

abbrev pub invariant-loop-other : goal.invariant-loop-other
invariant-loop-other l =
    find (λ g. nat_eq l.filter.id g.id) l.new ≡ find (λ g. nat_eq l.filter.id g.id) (drop l.other-index l.new)

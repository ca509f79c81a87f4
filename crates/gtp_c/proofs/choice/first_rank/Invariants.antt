use Rattle.std.proofs.Common.{◌≡◌, drop, None}
use Rattle.gtp_c.proofs.ChoiceLemmas.{first_with}
use Rattle.gtp_c.proofs.choice.first_rank.Given as goal

-- the filters that are left make of the first one so far what all make
abbrev pub invariant-loop-filter : goal.invariant-loop-filter
invariant-loop-filter l =
    first_with l.packet l.first (drop l.filter-index l.filters) ≡ first_with l.packet None l.filters

use Rattle.std.proofs.Common.{◌≡◌, ◌≤◌, vec_len, vec_capacity}
use Rattle.slice_core.proofs.calls.calls_of.Given as goal

abbrev pub invariant-loop : goal.invariant-loop
invariant-loop l = (vec_len l.calls ≡ l.counter) × (l.many ≤ vec_capacity l.calls)

use Rattle.std.proofs.Common.{◌≡◌, ◌≤◌, vec_len, vec_capacity}
use Rattle.worker_core.proofs.post.posts_of.Given as goal

abbrev pub invariant-loop : goal.invariant-loop
invariant-loop l = (vec_len l.posts ≡ l.counter) × (l.many ≤ vec_capacity l.posts)

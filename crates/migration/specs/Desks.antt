-- What the halves weigh that went through the desks of a side.
use Rattle.std.specs.Prelude.{ℕ}
use Rattle.lane_core.specs.Ends.{sent, taken}
use Rattle.worker_core.specs.Desks.{Desk}
use Rattle.worker_core.specs.Names.{arrivals, weight}

module _ {H N : Type 0} (name : H → N) (h : N → ℕ) where
  -- what the halves weigh that were sent to a slice
  abbrev pub sent_weight : Desk H → ℕ
  sent_weight desk = weight name h (arrivals (sent desk.orders))

  -- what the halves weigh that came home from it
  abbrev pub home_weight : Desk H → ℕ
  home_weight desk = weight name h (taken desk.home)

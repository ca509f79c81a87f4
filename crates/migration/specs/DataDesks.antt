-- Numbers of the halves that went through the desks of a side.
use Rattle.std.specs.Prelude.{ℕ}
use Rattle.std.specs.List.{sum_by}
use Rattle.lane_core.specs.Ends.{sent, taken}
use Rattle.worker_core.specs.DataDesks.{DataDesk}
use Rattle.worker_core.specs.DataOrders.{halves_in}

module _ {H I : Type 0} where
  -- a number of the halves that were sent to a slice, and of those that came home from it
  abbrev pub sent_weight : (H → ℕ) → DataDesk H I → ℕ
  sent_weight h desk = sum_by h (halves_in (sent desk.orders))

  abbrev pub home_weight : (H → ℕ) → DataDesk H I → ℕ
  home_weight h desk = sum_by h (taken desk.home)

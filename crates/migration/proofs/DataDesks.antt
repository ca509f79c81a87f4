-- Numbers of the halves that orders bring.
use Rattle.std.proofs.Common.{◌≡◌, ℕ, ◌+◌, List, [], ◌∷◌, ◌++◌, ap, ◌∙◌, arith}
use Rattle.std.specs.List.{sum_by}
use Rattle.std.proofs.lemmas.List.Sums.{sum_by-append, sum_by_push}
use Rattle.worker_core.specs.declared.data_order.DataOrder.{DataOrder}
use Rattle.worker_core.specs.declared.data_order.DataOrder.TheVariants.{Arrive}
use Rattle.worker_core.specs.DataOrders.{halves_in}
use Rattle.worker_core.proofs.DataRuns.{halves-append}

module _ {H I : Type 0} (h : H → ℕ) where
  pub arrive_weight : (came : List (DataOrder H I)) (half : H)
      → sum_by h (halves_in (came ++ Arrive half ∷ [])) ≡ sum_by h (halves_in came) + h half
  arrive_weight came half = ap (sum_by h) (halves-append came (Arrive half ∷ []))
      ∙ sum_by_push h (halves_in came) half

  pub none_weight : (came : List (DataOrder H I)) (order : DataOrder H I) → halves_in (order ∷ []) ≡ []
      → sum_by h (halves_in (came ++ order ∷ [])) ≡ sum_by h (halves_in came)
  none_weight came order none =
      ap (sum_by h) (halves-append came (order ∷ []) ∙ ap (λ l. halves_in came ++ l) none)
      ∙ sum_by-append h (halves_in came) [] ∙ (omega arith)

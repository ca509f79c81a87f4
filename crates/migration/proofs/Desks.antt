-- What the halves weigh that orders bring.
use Rattle.std.proofs.Common.{◌≡◌, ℕ, ◌+◌, List, [], ◌∷◌, ◌++◌, ap, ◌∙◌, arith}
use Rattle.std.specs.List.{sum_by}
use Rattle.std.proofs.lemmas.List.Sums.{sum_by-append, sum_by_push}
use Rattle.worker_core.specs.declared.order.Order.{Order}
use Rattle.worker_core.specs.declared.order.Order.TheVariants.{Arrive, Leave}
use Rattle.worker_core.specs.Names.{arrivals, weight}
use Rattle.worker_core.proofs.Arrivals.{arrivals-append}

module _ {H N : Type 0} (name : H → N) (h : N → ℕ) where
  pub arrive_weight : (came : List (Order H)) (half : H)
      → weight name h (arrivals (came ++ Arrive half ∷ [])) ≡ weight name h (arrivals came) + h (name half)
  arrive_weight came half =
      let f : H → ℕ = λ x. h (name x) in
      ap (sum_by f) (arrivals-append came (Arrive half ∷ [])) ∙ sum_by_push f (arrivals came) half

  pub leave_weight : (came : List (Order H)) (slot until : ℕ)
      → weight name h (arrivals (came ++ Leave slot until ∷ [])) ≡ weight name h (arrivals came)
  leave_weight came slot until =
      let f : H → ℕ = λ x. h (name x) in
      ap (sum_by f) (arrivals-append came (Leave slot until ∷ [])) ∙ sum_by-append f (arrivals came) [] ∙ (omega arith)

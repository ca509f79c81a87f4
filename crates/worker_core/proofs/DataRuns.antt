-- The folds over the orders of a lane, one part after another.
use Rattle.std.proofs.Common.{◌≡◌, ℕ, true, false, cond, List, [], ◌∷◌, ◌++◌, Option, Some, None, refl, sym, ap, ◌∙◌}
use Rattle.std.specs.Prelude.{nat_eq}
use Rattle.std.specs.Option.{is_some}
use Rattle.std.proofs.Common.{append_assoc, append-nil}
use Rattle.worker_core.specs.declared.data_order.DataOrder.{DataOrder}
use Rattle.worker_core.specs.declared.data_order.DataOrder.TheVariants.{Arrive, Item, Leave}
use Rattle.worker_core.specs.DataOrders.{more, halves_in, stands_after, stands_from, stands, now_after, now_from, now_of}
use Rattle.worker_core.specs.DataOrders.{gone_after, gone_from, gone_of}

module _ {H I : Type 0} where
  pub halves-append : (came later : List (DataOrder H I))
      → halves_in (came ++ later) ≡ halves_in came ++ halves_in later
  halves-append [] later = refl
  halves-append (Arrive half ∷ came) later = ap (λ l. half ∷ l) (halves-append came later)
  halves-append (Item _ ∷ came) later = halves-append came later
  halves-append (Leave _ ∷ came) later = halves-append came later

is_some_more : {I : Type 0} (now : Option (List I)) (x : I) → is_some (more now x) ≡ is_some now
is_some_more None x = refl
is_some_more (Some l) x = refl

module _ {H I : Type 0} (slot : H → ℕ) (item_slot : I → ℕ) (handled : H → List I) (s : ℕ) where
  pub now-append : (now : Option (List I)) (came later : List (DataOrder H I))
      → now_from slot item_slot handled s now (came ++ later)
      ≡ now_from slot item_slot handled s (now_from slot item_slot handled s now came) later
  now-append now [] later = refl
  now-append now (order ∷ came) later = now-append (now_after slot item_slot handled s now order) came later

  pub gone-append : (now : Option (List I)) (came later : List (DataOrder H I))
      → gone_from slot item_slot handled s now (came ++ later)
      ≡ gone_from slot item_slot handled s now came
      ++ gone_from slot item_slot handled s (now_from slot item_slot handled s now came) later
  gone-append now [] later = refl
  gone-append now (order ∷ came) later =
      let first : List (List I) = gone_after slot item_slot handled s now order in
      let next : Option (List I) = now_after slot item_slot handled s now order in
      ap (λ l. first ++ l) (gone-append next came later)
      ∙ sym (append_assoc first (gone_from slot item_slot handled s next came)
      (gone_from slot item_slot handled s (now_from slot item_slot handled s next came) later))

  -- one order more
  pub now_last : (came : List (DataOrder H I)) (order : DataOrder H I)
      → now_of slot item_slot handled s (came ++ order ∷ [])
      ≡ now_after slot item_slot handled s (now_of slot item_slot handled s came) order
  now_last came order = now-append None came (order ∷ [])

  pub gone_last : (came : List (DataOrder H I)) (order : DataOrder H I)
      → gone_of slot item_slot handled s (came ++ order ∷ [])
      ≡ gone_of slot item_slot handled s came
      ++ gone_after slot item_slot handled s (now_of slot item_slot handled s came) order
  gone_last came order =
      gone-append None came (order ∷ [])
      ∙ ap (λ l. gone_of slot item_slot handled s came ++ l)
      (append-nil (gone_after slot item_slot handled s (now_of slot item_slot handled s came) order))

  -- a half of the slot stands there just where it has handled something or nothing
  standing_after : (now : Option (List I)) (order : DataOrder H I)
      → is_some (now_after slot item_slot handled s now order) ≡ stands_after slot item_slot s (is_some now) order
  standing_after now (Arrive half) = elim (nat_eq (slot half) s) as
      (λ b. is_some (cond b (Some (handled half)) now) ≡ cond b true (is_some now)) [
        | true ↦ refl
        | false ↦ refl
      ]
  standing_after now (Item x) = elim (nat_eq (item_slot x) s) as
      (λ b. is_some (cond b (more now x) now) ≡ is_some now) [
        | true ↦ is_some_more now x
        | false ↦ refl
      ]
  standing_after now (Leave t) = elim (nat_eq t s) as
      (λ b. is_some (cond {A = Option (List I)} b None now) ≡ cond b false (is_some now)) [
        | true ↦ refl
        | false ↦ refl
      ]

  pub standing_from : (now : Option (List I)) (came : List (DataOrder H I))
      → is_some (now_from slot item_slot handled s now came) ≡ stands_from slot item_slot s (is_some now) came
  standing_from now [] = refl
  standing_from now (order ∷ came) =
      standing_from (now_after slot item_slot handled s now order) came
      ∙ ap (λ b. stands_from slot item_slot s b came) (standing_after now order)

  pub standing : (came : List (DataOrder H I))
      → is_some (now_of slot item_slot handled s came) ≡ stands slot item_slot s came
  standing came = standing_from None came

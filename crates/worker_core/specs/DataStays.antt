-- What a worker knows of the halves that came: those it holds, and those that left.
use Rattle.std.specs.Prelude.{◌≡◌, ℕ, ◌+◌, true, List, Option, Some}
use Rattle.std.specs.List.{sum_by}
use Rattle.std.specs.Option.{option_to_list, is_some}
use Rattle.worker_core.specs.Names.{weight}
use Rattle.worker_core.specs.declared.data_order.DataOrder.{DataOrder}
use Rattle.worker_core.specs.DataOrders.{halves_in, now_of, gone_of}
use Rattle.worker_core.specs.DataPicks.{lists_of, slot_sum, with_kept}

-- two values are the same as far as numbers tell
abbrev pub Same : {A : Type 0} → A → A → Type 0
Same {A} a b = (h : A → ℕ) → h a ≡ h b

-- each name that came is held or left, as often as it came
abbrev pub NamesKept : {H I N : Type 0} → (H → N) → List (DataOrder H I) → List H → List H → Type 0
NamesKept {H} {I} {N} name came held left =
    (h : N → ℕ) → weight name h (halves_in came) ≡ weight name h held + weight name h left

module _ {H I : Type 0} (slot : H → ℕ) (item_slot : I → ℕ) (handled : H → List I) where
  -- of each slot one half is held just where one stands there, and it handled what came for it, in order, but for a
  -- kept item: so numbers of what was handled add up
  abbrev pub Holds : List (DataOrder H I) → List H → Option I → Type 0
  Holds came held kept = (s : ℕ) (h : List I → ℕ)
      → slot_sum slot s (λ half. h (with_kept item_slot s kept (handled half))) held
      ≡ sum_by h (option_to_list (now_of slot item_slot handled s came))

  -- of each slot the halves that left had handled all that came for them, in order
  abbrev pub Sends : List (DataOrder H I) → List H → Type 0
  Sends came left = (s : ℕ) → Same (lists_of slot handled s left) (gone_of slot item_slot handled s came)

  -- the half of a kept item is held
  abbrev pub KeptStands : List (DataOrder H I) → Option I → Type 0
  KeptStands came kept = (x : I) → kept ≡ Some x → is_some (now_of slot item_slot handled (item_slot x) came) ≡ true

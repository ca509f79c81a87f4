-- What is applied of the items that were taken.
use Rattle.std.proofs.Common.{◌≡◌, false, is_some, true≢false, MatchOption, ◌+◌, ◌≤◌, length, arith, List, [], ◌∷◌}
use Rattle.std.proofs.Common.{◌++◌, Option, Some, None, refl, ap, sym, ◌∙◌, append-nil, option_to_list}
use Rattle.control_half.specs.Applied.{but_last, before_head, KeepsNext}

module _ {X : Type 0} where
  but_last_of : (items : List X) (last : X) → but_last (items ++ last ∷ []) ≡ items
  but_last_of [] last = refl
  but_last_of (one ∷ []) last = refl
  but_last_of (one ∷ next ∷ rest) last = ap (λ (l : List X). one ∷ l) (but_last_of (next ∷ rest) last)

  but_last_fewer : (items : List X) → length (but_last items) ≤ length items
  but_last_fewer [] = omega arith
  but_last_fewer (one ∷ []) = omega arith
  but_last_fewer (one ∷ next ∷ rest) = omega (arith, but_last_fewer (next ∷ rest))

  pub applied_fewer : (head : Option X) (taken : List X) → length (before_head head taken) ≤ length taken
  applied_fewer None taken = omega arith
  applied_fewer (Some head) taken = but_last_fewer taken

  pub none_of : (head : Option X) → is_some head ≡ false → head ≡ None
  none_of None is = refl
  none_of (Some item) is = absurd (true≢false is)

  -- where none was kept, what a look found is at the head, and isn't applied yet
  pub looked : (N : Type 0) (S : X → Type 0) (head : Option X) (old new : List X)
      → MatchOption head ((new ≡ old) × N) (λ item. (new ≡ old ++ item ∷ []) × S item)
      → (old ≡ before_head head new) × KeepsNext head new
  looked N S None old new found = (sym found.0, sym (append-nil new))
  looked N S (Some item) old new found =
      let prefix : old ≡ but_last new = sym (but_last_of old item) ∙ ap but_last (sym found.0) in
      (prefix, found.0 ∙ ap (λ (l : List X). l ++ item ∷ []) prefix)

  -- an item that leaves the head is applied
  pub head_done : (head : Option X) (taken : List X) (item : X) → head ≡ Some item → KeepsNext head taken
      → before_head head taken ++ item ∷ [] ≡ taken
  head_done head taken item is next = (λ i. before_head head taken ++ option_to_list (sym is i)) ∙ sym next

-- What closing a lane shows of what went through it.
use Rattle.std.proofs.Common.{◌≡◌, ℕ, ◌+◌, ◌-◌, length, arith, Option, List, ◌++◌, take, drop, option_to_list}
use Rattle.std.proofs.Common.{ap, ◌∙◌, append_assoc, flat_map}
use Rattle.std.proofs.Math.Seq.{take-append_seam, drop-append_seam}
use Rattle.std.proofs.lemmas.Grind.{flat_map-append}
use Rattle.control_half.specs.Applied.{before_head, KeepsNext}

module _ {X : Type 0} where
  -- Of all items, those before the head are applied, and the head and the rest aren't.
  pub lane_closed : (first number : ℕ) (head : Option X) (sent taken rest : List X) → KeepsNext head taken
      → sent ≡ taken ++ rest → number ≡ first + length (before_head head taken)
      → (take (number - first) sent ≡ before_head head taken) × (drop (number - first) sent ≡ option_to_list head ++ rest)
  lane_closed first number head sent taken rest next all is =
      let prefix : List X = before_head head taken in
      let left : List X = option_to_list head ++ rest in
      let k : number - first ≡ length prefix = omega (arith, is) in
      let whole : sent ≡ prefix ++ left =
      all ∙ ap (λ (l : List X). l ++ rest) next ∙ append_assoc prefix (option_to_list head) rest in
      ((λ i. take (k i) (whole i)) ∙ take-append_seam prefix left, (λ i. drop (k i) (whole i)) ∙ drop-append_seam prefix left)

  -- what was sent through a lane are the parts learnt, those in hand, and those that were left there
  pub batches_closed : {P : Type 0} (in_batch : X → List P) (sent taken rest : List X) (learnt kept : List P)
      → sent ≡ taken ++ rest → flat_map in_batch taken ≡ learnt ++ kept
      → flat_map in_batch sent ≡ learnt ++ (kept ++ flat_map in_batch rest)
  batches_closed {P} in_batch sent taken rest learnt kept all in_order =
      ap (flat_map in_batch) all ∙ flat_map-append in_batch taken rest
      ∙ ap (λ (l : List P). l ++ flat_map in_batch rest) in_order ∙ append_assoc learnt kept (flat_map in_batch rest)

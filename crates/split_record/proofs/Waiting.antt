-- What waits, waits for packets: so a packet's floor is met before it, and at last every version is learnt.
use Rattle.std.proofs.Common.{◌≡◌, ◌≢◌, ℕ, ◌+◌, ◌-◌, ◌<◌, ◌≤◌, length, arith, Option, Some, None, List, [], ◌∷◌, ◌++◌, map, take, All}
use Rattle.std.proofs.Common.{refl, ap, sym, ◌∙◌, subst, append-nil, length-append, take_all}
use Rattle.std.proofs.lemmas.List.Elements.{All-head, All-tail}
use Rattle.pc_base.specs.declared.numbered.Numbered.{Ghosts}
use Rattle.bearer_state.specs.Session.{SessionState}
use Rattle.bearer_state.specs.Version.{VersionState}
use Rattle.control_half.specs.declared.batch.Batch.{Batch}
use Rattle.control_half.specs.Batch.{versions_of, floor_of}
use Rattle.control_half.specs.declared.items.CommandItem.{CommandItem}
use Rattle.control_half.specs.Controlled.{versions_left, stepped}
use Rattle.control_half.specs.Published.{Published, under, in_batches, in_kept}
use Rattle.counter_half.specs.declared.items.DataItem.{DataItem}
use Rattle.split_record.specs.Accepted.{AreNumbered, MayStand}
use Rattle.split_record.specs.Closing.{Waits}
use Rattle.split_record.proofs.Floors.{Low, next_waits}

pub left_count : (first : ℕ) (start : SessionState) (commands : List CommandItem)
    → length (versions_left first start commands) ≡ length commands
left_count first start [] = refl
left_count first start (c ∷ commands) = omega (arith, left_count (first + 1) (stepped start c) commands)

-- the item at a place has the number of that place
pub numbered_at : (slot number : ℕ) (before : List DataItem) (item : DataItem) (after : List DataItem)
    → AreNumbered slot number (before ++ item ∷ after) → item.number ≡ number + length before
numbered_at slot number [] item after are = omega (arith, are.1)
numbered_at slot number (b ∷ before) item after are =
    omega (arith, numbered_at slot (number + 1) before item after are.3)

pub all_at : {X : Type 0} (P : X → Type 0) (before : List X) (x : X) (after : List X) → All P (before ++ x ∷ after)
    → P x
all_at P [] x after all = All-head P x after all
all_at P (b ∷ before) x after all = all_at P before x after (All-tail P b (before ++ x ∷ after) all)

module _ (k n first : ℕ) (start : SessionState) (commands : List CommandItem) (learnt : List Published)
    (low : All (Low n) (take k commands)) (within : k ≤ length commands) where
  some_wait : (floor : ℕ) (versions : List VersionState) (rest : List Published)
      → learnt ++ (map (under floor) versions ++ rest) ≡ versions_left first start commands → versions ≢ []
      → n < floor → k ≤ length learnt
  some_wait floor [] rest are some high = absurd (some refl)
  some_wait floor (v ∷ versions) rest are some high =
      next_waits k n first start commands learnt (under floor v) (map (under floor) versions ++ rest) (sym are) low high

  -- where the next version waits for more than n packets, all those of the first commands are learnt whose floors are
  -- at most n
  pub waits_behind : {g : Ghosts VersionState} (taken : Option (Batch VersionState g))
      (batches : List (Batch VersionState g))
      → learnt ++ (in_kept taken ++ in_batches batches) ≡ versions_left first start commands
      → Waits n taken batches → k ≤ length learnt
  waits_behind None batches are waits =
      let whole : learnt ≡ versions_left first start commands =
      sym (append-nil learnt) ∙ (λ i. learnt ++ in_batches (sym waits i)) ∙ are in
      omega (arith, within, left_count first start commands, ap (λ (l : List Published). length l) whole)
  waits_behind (Some batch) batches are waits =
      some_wait (floor_of batch) (versions_of batch) (in_batches batches) are waits.0 waits.1

-- an item's floor is met
pub floor_met : {g : Ghosts VersionState} (first done met : ℕ) (start : SessionState) (commands : List CommandItem)
    (learnt : List Published) (taken : Option (Batch VersionState g)) (batches : List (Batch VersionState g))
    (item : DataItem) → MayStand first commands item → item.number ≡ done → met ≡ first + length learnt
    → learnt ++ (in_kept taken ++ in_batches batches) ≡ versions_left first start commands
    → Waits done taken batches → item.floor ≤ met
floor_met first done met start commands learnt taken batches item may number met_is are waits =
    let low = subst (λ (n : ℕ). All (Low n) (take (item.floor - first) commands)) number may.below in
    let behind = waits_behind (item.floor - first) done first start commands learnt low
    (omega (arith, may.floor)) taken batches are waits in
    omega (arith, behind, met_is)

more_than : (learnt : List Published) (floor : ℕ) (versions : List VersionState) (rest : List Published)
    → versions ≢ [] → length learnt < length (learnt ++ (map (under floor) versions ++ rest))
more_than learnt floor [] rest some = absurd (some refl)
more_than learnt floor (v ∷ versions) rest some =
    omega (arith, length-append learnt (under floor v ∷ (map (under floor) versions ++ rest)))

-- where no floor is above the packets handled, nothing waits
pub none_wait : {g : Ghosts VersionState} (first done : ℕ) (start : SessionState) (commands : List CommandItem)
    (learnt : List Published) (taken : Option (Batch VersionState g)) (batches : List (Batch VersionState g))
    → All (Low done) commands
    → learnt ++ (in_kept taken ++ in_batches batches) ≡ versions_left first start commands
    → Waits done taken batches → (taken ≡ None) × (batches ≡ [])
none_wait first done start commands learnt None batches low are waits = (refl, waits)
none_wait first done start commands learnt (Some batch) batches low are waits =
    let whole = take_all (length commands) commands (omega arith) in
    let behind = waits_behind (length commands) done first start commands learnt
    (subst (All (Low done)) (sym whole) low)
    (omega arith) (Some batch) batches are waits in
    let more = more_than learnt (floor_of batch) (versions_of batch) (in_batches batches) waits.0 in
    absurd (omega (arith, behind, more, left_count first start commands, ap (λ (l : List Published). length l) are))

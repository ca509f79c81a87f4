-- Versions whose floors are met are learnt in order, so those below a packet's floor are learnt before it.
use Rattle.std.proofs.Common.{◌≡◌, ℕ, zero, suc, ◌+◌, ◌<◌, ◌≤◌, length, arith, List, [], ◌∷◌, ◌++◌, take, All, ap}
use Rattle.std.proofs.lemmas.List.Elements.{All-nil, All-cons, All-head, All-tail}
use Rattle.bearer_state.specs.Session.{SessionState}
use Rattle.control_half.specs.declared.items.CommandItem.{CommandItem}
use Rattle.control_half.specs.Controlled.{stepped, leaves, versions_left}
use Rattle.control_half.specs.Published.{Published}

abbrev pub Low : ℕ → CommandItem → Type 0
Low n item = item.floor ≤ n

none_at_all : {X : Type 0} (xs : List X) (x : X) (more : List X) → [] ≡ xs ++ x ∷ more → ⊥
none_at_all [] x more is = cc
none_at_all (y ∷ xs) x more is = cc

-- The next version waits for more packets than the floors of the first k commands: so all of these are learnt.
pub next_waits : (k n first : ℕ) (start : SessionState) (commands : List CommandItem) (learnt : List Published)
    (next : Published) (more : List Published) → versions_left first start commands ≡ learnt ++ next ∷ more
    → All (Low n) (take k commands) → n < next.floor → k ≤ length learnt
next_waits zero n first start commands learnt next more is low high = omega arith
next_waits (suc k) n first start [] learnt next more is low high = absurd (none_at_all learnt next more is)
next_waits (suc k) n first start (c ∷ commands) [] next more is low high =
    let same : leaves first start c ≡ next = cc in
    let floor : c.floor ≡ next.floor = ap (λ (p : Published). p.floor) same in
    absurd (omega (arith, All-head (Low n) c (take k commands) low, floor, high))
next_waits (suc k) n first start (c ∷ commands) (l ∷ learnt) next more is low high =
    let rest : versions_left (first + 1) (stepped start c) commands ≡ learnt ++ next ∷ more = cc in
    omega (
      arith,
      next_waits k n (first + 1) (stepped start c) commands learnt next more rest
          (All-tail (Low n) c (take k commands) low) high,
    )

abbrev pub LowVersion : ℕ → Published → Type 0
LowVersion n p = p.floor ≤ n

-- the floors of the versions are those of the commands
pub floors_of : (k n first : ℕ) (start : SessionState) (commands : List CommandItem)
    → All (LowVersion n) (take k (versions_left first start commands)) → All (Low n) (take k commands)
floors_of zero n first start commands low = All-nil (Low n)
floors_of (suc k) n first start [] low = All-nil (Low n)
floors_of (suc k) n first start (c ∷ commands) low =
    let next = stepped start c in
    let later = take k (versions_left (first + 1) next commands) in
    All-cons (Low n) c (take k commands) (All-head (LowVersion n) (leaves first start c) later low)
    (floors_of k n (first + 1) next commands (All-tail (LowVersion n) (leaves first start c) later low))

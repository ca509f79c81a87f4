-- Reading subscribers slot after slot, and taking their IMSIs into a book, as loops do.
use Rattle.std.proofs.Common.{◌≡◌, ℕ, suc, ◌-◌, ◌+◌, ◌≤◌, ◌<◌, List, [], ◌∷◌, ◌++◌, Option, Some, None, refl, sym, ap, ◌∙◌, arith}
use Rattle.std.proofs.lemmas.List.{append-nil}
use Rattle.record_codec.specs.declared.fault.Fault.{Fault}
use Rattle.record_codec.specs.declared.fault.Fault.TheVariants as fault
use Rattle.record_codec.specs.Saved.{SavedSubscriber}
use Rattle.record_codec.specs.Read.{and_then, Fails, subscriber_at, subscribers_at}
use Rattle.record_codec.proofs.Loops.{with_prefix, regroup}

pub goes_on_slot : (moment : ℕ) (prefix : List SavedSubscriber) (count slot : ℕ) (octets : List ℕ) (one :
    SavedSubscriber)
    (after : List ℕ) (total : Option (List SavedSubscriber × List ℕ)) → slot < count
    → subscriber_at moment slot octets ≡ Some (one, after)
    → with_prefix prefix (subscribers_at moment slot (count - slot) octets) ≡ total
    → with_prefix (prefix ++ one ∷ []) (subscribers_at moment (slot + 1) (count - (slot + 1)) after) ≡ total
unfolding and_then
goes_on_slot moment prefix count slot octets one after total lt read so_far =
    let left : count - slot ≡ suc (count - (slot + 1)) = omega arith in
    let step : with_prefix prefix (subscribers_at moment slot (count - slot) octets)
    ≡ with_prefix (prefix ++ one ∷ []) (subscribers_at moment (slot + 1) (count - (slot + 1)) after)
    = rw (left, read) (regroup prefix one (subscribers_at moment (slot + 1) (count - (slot + 1)) after)) in
    sym step ∙ so_far

pub ends_slot : (moment : ℕ) (e : Fault) (prefix : List SavedSubscriber) (count slot : ℕ) (octets : List ℕ)
    (total : Option (List SavedSubscriber × List ℕ)) → slot < count → Fails e (subscriber_at moment slot octets)
    → with_prefix prefix (subscribers_at moment slot (count - slot) octets) ≡ total → Fails e total
unfolding and_then
ends_slot moment fault.NoMemory prefix count slot octets total lt read so_far = tt
ends_slot moment fault.NotState prefix count slot octets total lt read so_far =
    let left : count - slot ≡ suc (count - (slot + 1)) = omega arith in
    let step : with_prefix prefix (subscribers_at moment slot (count - slot) octets) ≡ None = rw (left, read) refl in
    sym so_far ∙ step

pub is_done_slot : (moment : ℕ) (prefix : List SavedSubscriber) (count slot : ℕ) (octets : List ℕ)
    (total : Option (List SavedSubscriber × List ℕ)) → count ≤ slot
    → with_prefix prefix (subscribers_at moment slot (count - slot) octets) ≡ total → total ≡ Some (prefix, octets)
is_done_slot moment prefix count slot octets total le so_far =
    let none : count - slot ≡ 0 = omega arith in
    let step : with_prefix prefix (subscribers_at moment slot (count - slot) octets) ≡ Some (prefix, octets)
    = rw none (ap (λ xs. Some (xs, octets)) (append-nil prefix)) in
    sym so_far ∙ step

-- ---- the book

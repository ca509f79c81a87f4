-- Reading values one behind another, as a loop does.
use Rattle.std.proofs.Common.{◌≡◌, ℕ, suc, ◌-◌, ◌+◌, ◌≤◌, ◌<◌, List, [], ◌∷◌, ◌++◌, length, drop, get_or, Option, Some, None, refl, sym, ap, ◌∙◌, append_assoc, arith}
use Rattle.std.specs.Option.{option_and_then}
use Rattle.std.proofs.lemmas.List.{append-nil, drop_more}
use Rattle.record_codec.specs.declared.fault.Fault.{Fault}
use Rattle.record_codec.specs.declared.fault.Fault.TheVariants as fault
use Rattle.record_codec.specs.Read.{Reader, and_then, Fails, times, each_at}

-- what was read before, and what is still read
abbrev pub with_prefix : {X : Type 0} → List X → Option (List X × List ℕ) → Option (List X × List ℕ)
with_prefix prefix read = option_and_then (λ x. Some (prefix ++ x.0, x.1)) read

pub regroup : {X : Type 0} (prefix : List X) (x : X) (read : Option (List X × List ℕ))
    → with_prefix prefix (option_and_then (λ a. Some (x ∷ a.0, a.1)) read) ≡ with_prefix (prefix ++ x ∷ []) read
regroup prefix x None = refl
regroup prefix x (Some a) = ap (λ ys. Some (ys, a.1)) (sym (append_assoc prefix (x ∷ []) a.0))

pub goes_on : {X : Type 0} (reader : Reader X) (prefix : List X) (count i : ℕ) (octets : List ℕ) (x : X) (after : List ℕ)
    (total : Option (List X × List ℕ)) → i < count → reader octets ≡ Some (x, after)
    → with_prefix prefix (times (count - i) reader octets) ≡ total
    → with_prefix (prefix ++ x ∷ []) (times (count - (i + 1)) reader after) ≡ total
unfolding and_then
goes_on reader prefix count i octets x after total lt read so_far =
    let left : count - i ≡ suc (count - (i + 1)) = omega arith in
    let one : with_prefix prefix (times (count - i) reader octets)
    ≡ with_prefix (prefix ++ x ∷ []) (times (count - (i + 1)) reader after)
    = rw (left, read) (regroup prefix x (times (count - (i + 1)) reader after)) in
    sym one ∙ so_far

pub ends : {X : Type 0} (reader : Reader X) (e : Fault) (prefix : List X) (count i : ℕ) (octets : List ℕ)
    (total : Option (List X × List ℕ)) → i < count → Fails e (reader octets)
    → with_prefix prefix (times (count - i) reader octets) ≡ total → Fails e total
unfolding and_then
ends reader fault.NoMemory prefix count i octets total lt read so_far = tt
ends reader fault.NotState prefix count i octets total lt read so_far =
    let left : count - i ≡ suc (count - (i + 1)) = omega arith in
    let one : with_prefix prefix (times (count - i) reader octets) ≡ None = rw (left, read) refl in
    sym so_far ∙ one

pub is_done : {X : Type 0} (reader : Reader X) (prefix : List X) (count i : ℕ) (octets : List ℕ)
    (total : Option (List X × List ℕ)) → count ≤ i → with_prefix prefix (times (count - i) reader octets) ≡ total
    → total ≡ Some (prefix, octets)
is_done reader prefix count i octets total le so_far =
    let none : count - i ≡ 0 = omega arith in
    let one : with_prefix prefix (times (count - i) reader octets) ≡ Some (prefix, octets)
    = rw none (ap (λ xs. Some (xs, octets)) (append-nil prefix)) in
    sym so_far ∙ one

-- the same of a value for each of a list
pub goes_on_each : {B X : Type 0} (reader : B → Reader X) (bs : List B) (prefix : List X) (i : ℕ) (b : B) (octets :
    List ℕ)
    (x : X) (after : List ℕ) (total : Option (List X × List ℕ)) → i < length bs → b ≡ get_or bs i b
    → reader b octets ≡ Some (x, after)
    → with_prefix prefix (each_at reader (drop i bs) octets) ≡ total
    → with_prefix (prefix ++ x ∷ []) (each_at reader (drop (i + 1) bs) after) ≡ total
unfolding and_then
goes_on_each reader bs prefix i b octets x after total lt is read so_far =
    let left : drop i bs ≡ b ∷ drop (i + 1) bs = drop_more bs i b lt ∙ ap (λ y. y ∷ drop (i + 1) bs) (sym is) in
    let one : with_prefix prefix (each_at reader (drop i bs) octets)
    ≡ with_prefix (prefix ++ x ∷ []) (each_at reader (drop (i + 1) bs) after)
    = rw (left, read) (regroup prefix x (each_at reader (drop (i + 1) bs) after)) in
    sym one ∙ so_far

pub ends_each : {B X : Type 0} (reader : B → Reader X) (bs : List B) (e : Fault) (prefix : List X) (i : ℕ) (b : B)
    (octets : List ℕ) (total : Option (List X × List ℕ)) → i < length bs → b ≡ get_or bs i b
    → Fails e (reader b octets) → with_prefix prefix (each_at reader (drop i bs) octets) ≡ total → Fails e total
unfolding and_then
ends_each reader bs fault.NoMemory prefix i b octets total lt is read so_far = tt
ends_each reader bs fault.NotState prefix i b octets total lt is read so_far =
    let left : drop i bs ≡ b ∷ drop (i + 1) bs = drop_more bs i b lt ∙ ap (λ y. y ∷ drop (i + 1) bs) (sym is) in
    let one : with_prefix prefix (each_at reader (drop i bs) octets) ≡ None = rw (left, read) refl in
    sym so_far ∙ one

-- Elements that stand in octets are those that reading gives.
use Rattle.wire_octets.specs.Memory.{OrNoMemory}
use Rattle.std.proofs.Common.{◌≡◌, inl, inr, ℕ, zero, suc, ◌+◌, ◌^◌, ◌%◌, ◌<◌, ◌≤◌, List, [], ◌∷◌, ◌++◌, length, get_or, drop, All, Result, Ok, Err, refl, sym, ap, subst, ◌∙◌, arith, drop-cons, length-drop, get_or-drop}
use Rattle.std.proofs.Math.Seq.{drop-length}
use Rattle.std.proofs.lemmas.List.{drop-drop}
use Rattle.std.proofs.lemmas.List.Elements.{All-nil, All-cons}
use Rattle.std.specs.Prelude.{IfOk}
use Rattle.std.specs.Global.{Vec}
use Rattle.gtpv2_ie.specs.declared.raw.RawIe.{RawIe}
use Rattle.gtpv2_ie.specs.declared.fault.IeBad.{IeBad}
use Rattle.gtpv2_ie.specs.declared.fault.IeBad.TheVariants.{Short, Length, NoMemory}
use Rattle.wire_octets.specs.Numbers.{be16_at}
use Rattle.gtpv2_ie.specs.Stand.{value_len, raw_at, StandsAt, StandBetween, Stand, HasIes, EndsShort, PassesEnd, IsInside, with_first, ies_from, ies_of, items_of}

-- one element more stands behind those before it
pub StandBetween-push : (octets : List ℕ) (from at : ℕ) (ies : List RawIe) (ie : RawIe)
    → StandBetween octets from ies at → StandsAt octets at ie
    → StandBetween octets from (ies ++ ie ∷ []) ie.to
StandBetween-push octets from at [] ie prefix stands = (subst (λ k. StandsAt octets k ie) (sym prefix) stands, refl)
StandBetween-push octets from at (first ∷ ies) ie prefix stands =
    (prefix.0, StandBetween-push octets first.to at ies ie prefix.1 stands)

-- an element takes octets
pub StandsAt-long : (octets : List ℕ) (at : ℕ) (ie : RawIe) → StandsAt octets at ie → at + 4 ≤ ie.to
StandsAt-long octets at ie stands = omega (arith, ap (λ (i : RawIe). i.to) stands.header)

abbrev with_prefix : List RawIe → Result (List RawIe) IeBad → Result (List RawIe) IeBad
with_prefix [] read = read
with_prefix (ie ∷ ies) read = with_first ie (with_prefix ies read)

with_prefix-Ok : (ies : List RawIe) → with_prefix ies (Ok []) ≡ Ok ies
with_prefix-Ok [] = refl
with_prefix-Ok (ie ∷ ies) = ap (with_first ie) (with_prefix-Ok ies)

with_prefix-Err : (ies : List RawIe) (bad : IeBad) → with_prefix ies (Err bad) ≡ Err bad
with_prefix-Err [] bad = refl
with_prefix-Err (ie ∷ ies) bad = ap (with_first ie) (with_prefix-Err ies bad)

-- behind a value that is there reading goes on
ies_from-past : (left at : ℕ) (octets : List ℕ) → left ≤ length octets
    → ies_from left at octets ≡ ies_from 0 (at + left) (drop left octets)
unfolding ies_from
ies_from-past zero at octets enough = ap (λ k. ies_from 0 k octets) (omega arith)
ies_from-past (suc left) at [] enough = absurd (omega arith)
ies_from-past (suc left) at (octet ∷ octets) enough =
    ies_from-past left (at + 1) octets (omega arith) ∙ ap (λ k. ies_from 0 k (drop left octets)) (omega arith)

-- a value that isn't there whole
ies_from-cut : (left at : ℕ) (octets : List ℕ) → length octets < left → ies_from left at octets ≡ Err Length
unfolding ies_from
ies_from-cut zero at octets cut = absurd (omega arith)
ies_from-cut (suc left) at [] cut = refl
ies_from-cut (suc left) at (octet ∷ octets) cut = ies_from-cut left (at + 1) octets (omega arith)

-- the header that begins at a place, and what is behind it
header_parts : (octets : List ℕ) (at : ℕ) → at + 4 ≤ length octets
    → drop at octets ≡ get_or octets at 0 ∷ get_or octets (at + 1) 0 ∷ get_or octets (at + 1 + 1) 0
    ∷ get_or octets (at + 3) 0 ∷ drop (at + 4) octets
header_parts octets at there =
    let second : at + 1 ≡ suc at = omega arith in
    let third : at + 1 + 1 ≡ suc (suc at) = omega arith in
    let fourth : at + 3 ≡ suc (suc (suc at)) = omega arith in
    let value : at + 4 ≡ suc (suc (suc (suc at))) = omega arith in
    rw (third, fourth, value, second)
    (drop-cons octets at 0 (omega arith)
    ∙ ap (λ rest. get_or octets at 0 ∷ rest) (drop-cons octets (suc at) 0 (omega arith)
    ∙ ap (λ rest. get_or octets (suc at) 0 ∷ rest) (drop-cons octets (suc (suc at)) 0 (omega arith)
    ∙ ap (λ rest. get_or octets (suc (suc at)) 0 ∷ rest) (drop-cons octets (suc (suc (suc at))) 0 (omega arith)))))

-- reading at a header
ies_from-header : (octets : List ℕ) (at : ℕ) → at + 4 ≤ length octets
    → ies_from 0 at (drop at octets)
    ≡ with_first (raw_at octets at) (ies_from (value_len octets at) (at + 4) (drop (at + 4) octets))
unfolding ies_from
ies_from-header octets at there = ap (ies_from 0 at) (header_parts octets at there)

ies_from-one : (octets : List ℕ) (at : ℕ) (ie : RawIe) → StandsAt octets at ie
    → ies_from 0 at (drop at octets) ≡ with_first ie (ies_from 0 ie.to (drop ie.to octets))
ies_from-one octets at ie stands =
    let len : ℕ = value_len octets at in
    let to_is : ie.to ≡ at + 4 + value_len octets at = ap (λ (i : RawIe). i.to) stands.header in
    let there : at + 4 ≤ length octets = omega (arith, to_is, stands.inside) in
    let enough : value_len octets at ≤ length (drop (at + 4) octets) =
    omega (arith, to_is, stands.inside, length-drop (at + 4) octets) in
    let read : ies_from 0 at (drop at octets)
    ≡ with_first (raw_at octets at) (ies_from 0 (raw_at octets at).to (drop (raw_at octets at).to octets)) =
    ies_from-header octets at there
    ∙ ap (with_first (raw_at octets at)) (ies_from-past (value_len octets at) (at + 4) (drop (at + 4) octets) enough
    ∙ ap (ies_from 0 (at + 4 + value_len octets at)) (drop-drop (value_len octets at) (at + 4) octets)) in
    subst (λ (i : RawIe). ies_from 0 at (drop at octets) ≡ with_first i (ies_from 0 i.to (drop i.to octets)))
    (sym stands.header) read

-- reading goes on behind elements that stand
ies_from-prefix : (octets : List ℕ) (at end : ℕ) (ies : List RawIe) → StandBetween octets at ies end
    → ies_from 0 at (drop at octets) ≡ with_prefix ies (ies_from 0 end (drop end octets))
ies_from-prefix octets at end [] stand = ap (λ k. ies_from 0 k (drop k octets)) stand
ies_from-prefix octets at end (ie ∷ ies) stand =
    ies_from-one octets at ie stand.0 ∙ ap (with_first ie) (ies_from-prefix octets ie.to end ies stand.1)

-- what stands is read
pub ies_of-Stand : (octets : List ℕ) (ies : List RawIe) → Stand octets ies → ies_of octets ≡ Ok ies
unfolding ies_from
ies_of-Stand octets ies stand =
    ies_from-prefix octets 0 (length octets) ies stand
    ∙ ap (λ rest. with_prefix ies (ies_from 0 (length octets) rest)) (drop-length octets)
    ∙ with_prefix-Ok ies

-- ---- what is read stands

at_prefix : (octets rest : List ℕ) (at k first : ℕ) → drop at octets ≡ rest → get_or rest k 0 ≡ first
    → get_or octets (at + k) 0 ≡ first
at_prefix octets rest at k first is here = sym (get_or-drop at octets k 0) ∙ ap (λ xs. get_or xs k 0) is ∙ here

behind_prefix : (octets rest : List ℕ) (at k : ℕ) → drop at octets ≡ rest → drop (at + k) octets ≡ drop k rest
behind_prefix octets rest at k is = ap (λ n. drop n octets) (omega arith) ∙ sym (drop-drop k at octets) ∙ ap (drop k) is

header_stands : (octets : List ℕ) (at kind high low last : ℕ) (rest : List ℕ)
    → drop at octets ≡ kind ∷ high ∷ low ∷ last ∷ rest
    → let len : ℕ = be16_at (high ∷ low ∷ []) 0 in
    raw_at octets at ≡ record { kind = kind; instance = last % 16; from = at + 4; to = at + 4 + len }
header_stands octets at kind high low last rest is =
    let text : List ℕ = kind ∷ high ∷ low ∷ last ∷ rest in
    let first : get_or octets at 0 ≡ kind =
    ap (λ k. get_or octets k 0) (omega arith) ∙ at_prefix octets text at 0 kind is refl in
    let second : get_or octets (at + 1) 0 ≡ high = at_prefix octets text at 1 high is refl in
    let third : get_or octets (at + 1 + 1) 0 ≡ low =
    ap (λ k. get_or octets k 0) (omega arith) ∙ at_prefix octets text at 2 low is refl in
    let fourth : get_or octets (at + 3) 0 ≡ last = at_prefix octets text at 3 last is refl in
    ap (λ k. made k (get_or octets (at + 3) 0) (get_or octets (at + 1) 0) (get_or octets (at + 1 + 1) 0)) first
    ∙ ap (λ i. made kind i (get_or octets (at + 1) 0) (get_or octets (at + 1 + 1) 0)) fourth
    ∙ ap (λ h. made kind last h (get_or octets (at + 1 + 1) 0)) second ∙ ap (made kind last high) third
  where
    made : ℕ → ℕ → ℕ → ℕ → RawIe
    made kind last high low =
        record { kind = kind; instance = last % 16; from = at + 4; to = at + 4 + be16_at (high ∷ low ∷ []) 0 }

-- elements that are read from a place on, behind the rest of a value
record StandsFrom (octets : List ℕ) (left at : ℕ) (ies : List RawIe) : Type 0 where
  inside : at + left ≤ length octets
  stand : StandBetween octets (at + left) ies (length octets)

first_stands : (octets : List ℕ) (at len : ℕ) (raw : RawIe) (ies : List RawIe) (read : Result (List RawIe) IeBad)
    → raw_at octets at ≡ raw → raw.to ≡ at + 4 + len → with_first raw read ≡ Ok ies
    → ((others : List RawIe) → read ≡ Ok others → StandsFrom octets len (at + 4) others) → StandsFrom octets 0 at ies
first_stands octets at len raw ies (Err bad) header to is behind = absurd cc
first_stands octets at len raw ies (Ok others) header to is behind =
    let rest = behind others refl in
    let whole : raw ∷ others ≡ ies = cc in
    let here : StandsAt octets at raw = record { header = sym header; inside = omega (arith, to, rest.inside) } in
    let both : StandBetween octets at (raw ∷ others) (length octets) =
    (here, subst (λ k. StandBetween octets k others (length octets)) (sym to) rest.stand) in
    record {
      inside = omega (arith, to, rest.inside);
      stand = subst (λ k. StandBetween octets k ies (length octets)) (omega arith)
          (subst (λ xs. StandBetween octets at xs (length octets)) whole both);
    }

stand_from : (octets : List ℕ) (left at : ℕ) (rest : List ℕ) (ies : List RawIe) → drop at octets ≡ rest
    → at ≤ length octets
    → ies_from left at rest ≡ Ok ies → StandsFrom octets left at ies
unfolding ies_from
stand_from octets zero at [] ies is inside read =
    let none : [] ≡ ies = cc in
    let end : at ≡ length octets = omega (arith, length-drop at octets, ap length is) in
    record {
      inside = omega arith;
      stand = subst (λ xs. StandBetween octets (at + 0) xs (length octets)) none (omega (arith, end));
    }
stand_from octets zero at (kind ∷ high ∷ low ∷ last ∷ rest) ies is inside read =
    let len : ℕ = be16_at (high ∷ low ∷ []) 0 in
    let raw : RawIe = record { kind = kind; instance = last % 16; from = at + 4; to = at + 4 + len } in
    let four : at + 4 ≤ length octets = omega (arith, length-drop at octets, ap length is) in
    first_stands octets at len raw ies (ies_from len (at + 4) rest)
    (header_stands octets at kind high low last rest is) refl read
    (λ others. stand_from octets len (at + 4) rest others
    (behind_prefix octets (kind ∷ high ∷ low ∷ last ∷ rest) at 4 is) four)
stand_from octets zero at (a ∷ []) ies is inside read = absurd cc
stand_from octets zero at (a ∷ b ∷ []) ies is inside read = absurd cc
stand_from octets zero at (a ∷ b ∷ c ∷ []) ies is inside read = absurd cc
stand_from octets (suc left) at [] ies is inside read = absurd cc
stand_from octets (suc left) at (octet ∷ rest) ies is inside read =
    let one : at + 1 ≤ length octets = omega (arith, length-drop at octets, ap length is) in
    let rest_is = stand_from octets left (at + 1) rest ies (behind_prefix octets (octet ∷ rest) at 1 is) one read in
    record {
      inside = omega (arith, rest_is.inside);
      stand = subst (λ k. StandBetween octets k ies (length octets)) (omega arith) rest_is.stand;
    }

-- what is read stands
pub Stand-ies_of : (octets : List ℕ) (ies : List RawIe) → ies_of octets ≡ Ok ies → Stand octets ies
Stand-ies_of octets ies read = (stand_from octets 0 0 octets ies refl (omega arith) read).stand

-- ---- what doesn't read

ies_from-few : (at : ℕ) (octets : List ℕ) → 0 < length octets → length octets < 4 → ies_from 0 at octets ≡ Err Short
unfolding ies_from
ies_from-few at [] some few = absurd (omega arith)
ies_from-few at (a ∷ []) some few = refl
ies_from-few at (a ∷ b ∷ []) some few = refl
ies_from-few at (a ∷ b ∷ c ∷ []) some few = refl
ies_from-few at (a ∷ b ∷ c ∷ d ∷ octets) some few = absurd (omega arith)

pub ies_of-short : (octets : List ℕ) → EndsShort octets → ies_of octets ≡ Err Short
ies_of-short octets short =
    ies_from-prefix octets 0 short.at short.before short.prefix
    ∙ ap (with_prefix short.before)
    (ies_from-few short.at (drop short.at octets) (omega (arith, short.some_left, length-drop short.at octets))
    (omega (arith, short.some_left, short.too_few, length-drop short.at octets)))
    ∙ with_prefix-Err short.before Short

pub ies_of-length : (octets : List ℕ) → PassesEnd octets → ies_of octets ≡ Err Length
ies_of-length octets long =
    ies_from-prefix octets 0 long.at long.before long.prefix
    ∙ ap (with_prefix long.before) (ies_from-header octets long.at long.header
    ∙ ap (with_first (raw_at octets long.at))
    (ies_from-cut (value_len octets long.at) (long.at + 4) (drop (long.at + 4) octets)
    (omega (arith, long.passes, long.header, length-drop (long.at + 4) octets))))
    ∙ with_prefix-Err long.before Length

-- reading takes no memory, so it doesn't run out
with_first-memory : (raw : RawIe) (read : Result (List RawIe) IeBad) → (read ≡ Err NoMemory → ⊥)
    → with_first raw read ≡ Err NoMemory → ⊥
with_first-memory raw (Ok ies) other is = cc
with_first-memory raw (Err bad) other is = other is

ies_from-memory : (left at : ℕ) (octets : List ℕ) → ies_from left at octets ≡ Err NoMemory → ⊥
unfolding ies_from
ies_from-memory zero at [] is = cc
ies_from-memory zero at (kind ∷ high ∷ low ∷ last ∷ rest) is =
    let len : ℕ = be16_at (high ∷ low ∷ []) 0 in
    with_first-memory (record { kind = kind; instance = last % 16; from = at + 4; to = at + 4 + len })
    (ies_from len (at + 4) rest)
    (ies_from-memory len (at + 4) rest) is
ies_from-memory zero at (a ∷ []) is = cc
ies_from-memory zero at (a ∷ b ∷ []) is = cc
ies_from-memory zero at (a ∷ b ∷ c ∷ []) is = cc
ies_from-memory (suc left) at [] is = cc
ies_from-memory (suc left) at (octet ∷ rest) is = ies_from-memory left (at + 1) rest is

pub ies_of-memory : (octets : List ℕ) → ies_of octets ≡ Err NoMemory → ⊥
ies_of-memory octets is = ies_from-memory 0 0 octets is

-- a call that says what stands, or why nothing does, gives what reading gives
pub exact : (octets : List ℕ) (r : Result (Vec RawIe) IeBad) → IfOk r (λ ies. Stand octets ies.items)
    → (r ≡ Err Short → EndsShort octets) → (r ≡ Err Length → PassesEnd octets)
    → OrNoMemory (items_of r) (ies_of octets) NoMemory
exact octets (Ok ies) found short long = inl (sym (ies_of-Stand octets ies.items found))
exact octets (Err Short) found short long = inl (sym (ies_of-short octets (short refl)))
exact octets (Err Length) found short long = inl (sym (ies_of-length octets (long refl)))
exact octets (Err NoMemory) found short long = inr refl

-- where elements stand there is no fault
pub no_fault : (octets : List ℕ) (count : ℕ) (bad : IeBad) → HasIes octets count → ies_of octets ≡ Err bad → ⊥
no_fault octets count bad has read =
    let found : ies_of octets ≡ Ok has.ies = ies_of-Stand octets has.ies has.stand in cc

-- a count of what stands, or why nothing does, says what reading gives
pub counted : (octets : List ℕ) (r : Result ℕ IeBad) → IfOk r (λ count. HasIes octets count)
    → (r ≡ Err Short → EndsShort octets)
    → (r ≡ Err Length → PassesEnd octets) → (r ≡ Err NoMemory → ⊥) → (bad : IeBad) → ies_of octets ≡ Err bad
    → r ≡ Err bad
counted octets (Ok count) found short long memory bad read = absurd (no_fault octets count bad found read)
counted octets (Err Short) found short long memory bad read =
    let other : ies_of octets ≡ Err Short = ies_of-short octets (short refl) in cc
counted octets (Err Length) found short long memory bad read =
    let other : ies_of octets ≡ Err Length = ies_of-length octets (long refl) in cc
counted octets (Err NoMemory) found short long memory bad read = absurd (memory refl)

-- what stands lies inside
IsInside-at : (octets : List ℕ) (at : ℕ) (ie : RawIe) → ((i : ℕ) → get_or octets i 0 < 256) → StandsAt octets at ie
    → IsInside octets ie
IsInside-at octets at ie bytes stands =
    let from_is : ie.from ≡ at + 4 = ap (λ (i : RawIe). i.from) stands.header in
    let to_is : ie.to ≡ at + 4 + value_len octets at = ap (λ (i : RawIe). i.to) stands.header in
    let instance_is : ie.instance ≡ get_or octets (at + 3) 0 % 16 = ap (λ (i : RawIe). i.instance) stands.header in
    let len_is : value_len octets at < 2 ^ 16 = omega (arith, bytes (at + 1), bytes (at + 1 + 1)) in
    record { order = omega arith; inside = stands.inside; len = omega arith; instance = omega arith }

pub Stand-inside : (octets : List ℕ) (at end : ℕ) (ies : List RawIe) → ((i : ℕ) → get_or octets i 0 < 256)
    → StandBetween octets at ies end → All (IsInside octets) ies
Stand-inside octets at end [] bytes stand = All-nil (IsInside octets)
Stand-inside octets at end (ie ∷ ies) bytes stand =
    All-cons (IsInside octets) ie ies (IsInside-at octets at ie bytes stand.0)
    (Stand-inside octets ie.to end ies bytes stand.1)

pub found_inside : (octets : List ℕ) (r : Result (Vec RawIe) IeBad) → ((i : ℕ) → get_or octets i 0 < 256)
    → IfOk r (λ ies. Stand octets ies.items)
    → IfOk r (λ ies. All (IsInside octets) ies.items)
found_inside octets (Ok ies) bytes found = Stand-inside octets 0 (length octets) ies.items bytes found
found_inside octets (Err bad) bytes found = tt

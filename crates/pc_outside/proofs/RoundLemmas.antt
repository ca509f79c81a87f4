-- Where a search for the newline, a round at a time, comes to.
use Rattle.std.proofs.Common.{◌≡◌, ℕ, suc, ◌+◌, ◌-◌, ◌*◌, ◌^◌, ◌%◌, ◌<◌, ◌≤◌, Bool, true, false, not, cond, eqb, List, [], ◌∷◌, length, map, get_or, slice_range, sym, ap, ◌∙◌, arith, Some}
use Rattle.std.proofs.lemmas.Bool.{true≢false}
use Rattle.std.proofs.lemmas.List.Edits.{get_or-between, length-between}
use Rattle.std.proofs.lemmas.Simd.{length-chunk, bitmask_splat, none_from_empty_mask, run_in_chunk_fails, run_in_chunk_stops, trailing_mask_l}
use Rattle.std.specs.List.{prefix_len}
use Rattle.std.specs.Int.Count.{count_trailing_zeros}
use Rattle.memchr.specs.Find.{IsFirstByte, Nowhere, Passes, is_byte}
use Rattle.memchr.proofs.lemmas.FindLemmas.{Nowhere-then}
use lib.Lanes.{zip2, mask_l, top, chunk}
use lib.ListN.{replicate}
use mir.Syntax.{w8}

-- ---- one round

abbrev compared : List ℕ → ℕ
compared octets =
    mask_l (map (top 7) (zip2 (λ a b. cond (eqb a b) 255 0) (chunk 0 64 octets) (replicate 64 10))) % 2 ^ 64

abbrev is_newline : ℕ → Bool
is_newline = λ octet. eqb octet 10

compared_is : (octets : List ℕ) → length octets ≡ 64
    → compared octets ≡ mask_l (map is_newline (chunk 0 64 octets))
compared_is octets long =
    bitmask_splat w8 eqb (chunk 0 64 octets) 64 10 (length-chunk 0 64 octets (omega arith)) (omega arith)

fails : (b : Bool) → b ≡ false → b ≡ true → ⊥
fails b refused passed = true≢false (sym passed ∙ refused)

pub round_without : (octets : List ℕ) (mask : ℕ) → length octets ≡ 64 → mask ≡ compared octets → mask ≡ 0
    → Nowhere (Passes (is_byte 10) octets) 0 (length octets)
round_without octets mask long mask_is none = λ k low below.
    fails (is_newline (get_or octets k 0))
    (none_from_empty_mask is_newline octets 0 64 0 (omega arith)
    (sym (compared_is octets long) ∙ sym mask_is ∙ none) k low (omega arith))

-- where a bit is set, some lane passes
one_lane : (b : Bool) (n m l : ℕ) → (0 < m → n < l) → 0 < cond b 1 0 + 2 * m → cond (not b) (1 + n) 0 < suc l
one_lane true n m l rest some = omega arith
one_lane false n m l rest some = let less = rest (omega arith) in omega arith

within_lanes : (p : ℕ → Bool) (xs : List ℕ) → 0 < mask_l (map p xs) → prefix_len (λ x. not (p x)) xs < length xs
within_lanes p [] some = absurd (omega arith)
within_lanes p (x ∷ xs) some =
    one_lane (p x) (prefix_len (λ x. not (p x)) xs) (mask_l (map p xs)) (length xs) (within_lanes p xs) some

pub found_in_round : (octets : List ℕ) (mask place : ℕ) → length octets ≡ 64 → mask ≡ compared octets
    → (mask ≡ 0 → ⊥) → place ≡ count_trailing_zeros 64 mask → IsFirstByte (is_byte 10) octets (Some place)
found_in_round octets mask place long mask_is some place_is =
    let block = chunk 0 64 octets in
    let size : length block ≡ 64 = length-chunk 0 64 octets (omega arith) in
    let is : mask ≡ mask_l (map is_newline block) = mask_is ∙ compared_is octets long in
    let set : 0 < mask_l (map is_newline block) = omega (arith, some) in
    let counted : place ≡ prefix_len (λ x. not (is_newline x)) block =
    place_is ∙ ap (count_trailing_zeros 64) is ∙ trailing_mask_l is_newline 64 block (omega arith) set in
    let same : place ≡ 0 + place = omega arith in
    let inside : place < 64 = omega (arith, counted, within_lanes is_newline block set) in (
      record {
        low = omega arith;
        high = omega arith;
        before = λ k low below. fails (is_newline (get_or octets k 0))
            (run_in_chunk_fails is_newline octets 0 64 place 0 (omega arith) counted k low (omega arith));
      },
      ap (λ k. is_newline (get_or octets k 0)) same
          ∙ run_in_chunk_stops is_newline octets 0 64 place 0 (omega arith) counted inside,
    )

-- ---- round by round

-- a search of a part behind one that found none
pub none_on : (octets : List ℕ) (at stop count : ℕ) → stop ≤ length octets → at + count ≤ stop
    → Nowhere (Passes (is_byte 10) octets) 0 at
    → Nowhere (Passes (is_byte 10) (slice_range octets at stop)) 0 count
    → Nowhere (Passes (is_byte 10) octets) 0 (at + count)
none_on octets at stop count within up_to before searched =
    Nowhere-then before (λ k low below passes.
    let here : k - at < count = omega arith in
    let same : at + (k - at) ≡ k = omega arith in
    searched (k - at) (omega arith) here
    (ap is_newline (get_or-between octets at stop (k - at) 0 (omega arith) ∙ ap (λ n. get_or octets n 0) same)
    ∙ passes))

pub found_behind : (octets : List ℕ) (at stop place : ℕ) → stop ≤ length octets → at ≤ stop
    → Nowhere (Passes (is_byte 10) octets) 0 at → IsFirstByte (is_byte 10) (slice_range octets at stop) (Some place)
    → IsFirstByte (is_byte 10) octets (Some (at + place))
found_behind octets at stop place within ordered before found =
    let inside : place < stop - at = omega (arith, found.0.high, length-between octets at stop within) in (
      record {
        low = omega arith;
        high = omega arith;
        before = none_on octets at stop place within (omega arith) before found.0.before;
      },
      ap is_newline (sym (get_or-between octets at stop place 0 (omega arith))) ∙ found.1,
    )

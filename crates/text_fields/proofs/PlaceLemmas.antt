-- The first place of an octet, where a load of sixteen has it.
use Rattle.std.proofs.Common.{◌≡◌, ℕ, suc, ◌+◌, ◌*◌, ◌^◌, ◌%◌, ◌<◌, ◌≤◌, Bool, true, false, not, cond, eqb, List, [], ◌∷◌, length, map, get_or, sym, ap, ◌∙◌, arith, Some}
use Rattle.std.proofs.lemmas.Bool.{true≢false}
use Rattle.std.proofs.lemmas.Simd.{length-chunk, bitmask_splat, trailing_mask_l, run_in_chunk_fails, run_in_chunk_stops}
use Rattle.std.specs.List.{prefix_len}
use Rattle.std.specs.Int.Count.{count_trailing_zeros}
use Rattle.memchr.specs.Find.{IsFirstByte, is_byte}
use lib.Lanes.{zip2, mask_l, top, chunk}
use lib.ListN.{replicate}
use mir.Syntax.{w8}

one_lane : (b : Bool) (n m l : ℕ) → (0 < m → n < l) → 0 < cond b 1 0 + 2 * m → cond (not b) (1 + n) 0 < suc l
one_lane true n m l rest some = omega arith
one_lane false n m l rest some = let less = rest (omega arith) in omega arith

-- where a bit is set, some lane passes
within_lanes : (p : ℕ → Bool) (xs : List ℕ) → 0 < mask_l (map p xs) → prefix_len (λ x. not (p x)) xs < length xs
within_lanes p [] some = absurd (omega arith)
within_lanes p (x ∷ xs) some =
    one_lane (p x) (prefix_len (λ x. not (p x)) xs) (mask_l (map p xs)) (length xs) (within_lanes p xs) some

fails : (b : Bool) → b ≡ false → b ≡ true → ⊥
fails b refused passed = true≢false (sym passed ∙ refused)

pub place_found : (at : ℕ) (text : List ℕ) (mask place : ℕ) → 16 ≤ length text
    → mask ≡ mask_l (map (top 7) (zip2 (λ a b. cond (eqb a b) 255 0) (chunk 0 16 text) (replicate 16 at))) % 2 ^ 64
    → (mask ≡ 0 → ⊥) → place ≡ count_trailing_zeros 64 mask → IsFirstByte (is_byte at) text (Some place)
place_found at text mask place room mask_is some place_is =
    let block = chunk 0 16 text in
    let p = λ (x : ℕ). eqb x at in
    let long : length block ≡ 16 = length-chunk 0 16 text room in
    let is : mask ≡ mask_l (map p block) = mask_is ∙ bitmask_splat w8 eqb block 16 at long (omega arith) in
    let set : 0 < mask_l (map p block) = omega (arith, some) in
    let counted : place ≡ prefix_len (λ x. not (p x)) block =
    place_is ∙ ap (count_trailing_zeros 64) is ∙ trailing_mask_l p 64 block (omega arith) set in
    let same : place ≡ 0 + place = omega arith in
    let inside : place < 16 = omega (arith, counted, within_lanes p block set) in (
      record {
        low = omega arith;
        high = omega arith;
        before = λ k low below. fails (p (get_or text k 0)) (run_in_chunk_fails p text 0 16 place 0 room counted k low (omega arith));
      },
      ap (λ k. p (get_or text k 0)) same ∙ run_in_chunk_stops p text 0 16 place 0 room counted inside,
    )

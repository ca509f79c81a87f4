-- Blocks of digits put behind each other.
use Rattle.std.proofs.Common.{◌≡◌, ℕ, zero, suc, ◌+◌, ◌-◌, ◌*◌, ◌/◌, ◌%◌, ◌^◌, ◌<◌, ◌≤◌, List, [], ◌∷◌, ◌++◌, length, map, take, drop, get_or, bit_and, refl, subst, append-nil, sym, ap, ◌∙◌, arith, take-add}
use Rattle.std.proofs.lemmas.List.{take_all, get_or-map, ext_get_or, length-map, length-take-le, length-drop, length-append, take-append-drop, take_at, drop_all}
use Rattle.std.proofs.lemmas.Nat.{and_mask}
use Rattle.std.proofs.lemmas.Slice.{take-put_mid}
use Rattle.std.proofs.lemmas.Simd.{Each1-weaker, Each1-zip2, Each2-splat, below_from_Fits, length-zip2, length-swz_l, get_or-swz_l_below, Each1-all, Each1-get_or, put_chunk_whole, put_chunk_is, swz_l, SwzOk, SwzOk-from_below}
use Rattle.std.proofs.lemmas.Nat.{and_le_r}
use Rattle.hex.specs.Hex.{encode_with, encode_lower, lower_digits}
use borrow.Rule.Slice.PartMut.{put_mid}
use lib.Lanes.{zip2, Each1, pick_l, put_chunk}
use lib.ListN.{replicate}
use mir.Syntax.{w8}
use mir.Val.{Fits}
use Rattle.hex.proofs.HexLemmas.{length-encode_with}
use Rattle.text_fields.specs.Blocks.{high_digit, low_digit}
use Rattle.text_fields.proofs.LaneLemmas.{is_listing}
use Rattle.text_fields.proofs.BlockLemmas.{take_less, length-put, two_halves}

-- ---- sixteen digits looked up

abbrev pub down : ℕ → ℕ → ℕ
down a b = a / 2 ^ b

pub high_ok : (xs : List ℕ) → length xs ≡ 16 → Each1 (Fits w8) xs → SwzOk w8 16 16 0 (zip2 down xs (replicate 16 4))
high_ok xs long fits =
    let small = Each1-weaker (λ a. a < 256) (λ a. a / 16 < 16) (λ a h. omega arith) xs (below_from_Fits w8 xs fits) in
    SwzOk-from_below w8 16 1 16 0 (zip2 down xs (replicate 16 4)) refl
    (omega (arith, length-zip2 down xs (replicate 16 4) long))
    (Each1-zip2 down (λ j. j < 16) xs (replicate 16 4) (Each2-splat (λ a b. down a b < 16) xs 16 4 small))

pub low_ok : (xs : List ℕ) → length xs ≡ 16 → SwzOk w8 16 16 0 (zip2 bit_and xs (replicate 16 15))
low_ok xs long =
    let small = Each1-all (λ a. bit_and a 15 < 16) (λ a. omega (arith, and_le_r a 15)) xs in
    SwzOk-from_below w8 16 1 16 0 (zip2 bit_and xs (replicate 16 15)) refl
    (omega (arith, length-zip2 bit_and xs (replicate 16 15) long))
    (Each1-zip2 bit_and (λ j. j < 16) xs (replicate 16 15) (Each2-splat (λ a b. bit_and a b < 16) xs 16 15 small))

pub looked_up : (table : List ℕ) (place : ℕ → ℕ) (xs js : List ℕ) → length xs ≡ 16 → Each1 (λ x. x < 256) xs
    → js ≡ map place xs → ((x : ℕ) → x < 256 → place x < 16)
    → swz_l w8 16 table 0 js ≡ map (λ x. get_or table (place x) 0) xs
looked_up table place xs js long fits is small =
    let same : length js ≡ 16 = ap length is ∙ length-map xs place ∙ long in
    ext_get_or 0 _ _ (length-swz_l w8 16 table 0 js ∙ same ∙ sym (length-map xs (λ x. get_or table (place x) 0) ∙ long)) (λ i h.
    let few : i < 16 = omega (arith, length-swz_l w8 16 table 0 js) in
    let within : i < length xs = omega arith in
    let at : get_or js i 0 ≡ place (get_or xs i 0) = ap (λ l. get_or l i 0) is ∙ get_or-map place xs i 0 0 within in
    let below : get_or js i 0 < 16 =
    omega (arith, at, small (get_or xs i 0) (Each1-get_or (λ x. x < 256) xs i 0 within fits)) in
    let first : 16 * ((0 + i) / 16) + get_or js i 0 ≡ place (get_or xs i 0) = omega arith in
    get_or-swz_l_below w8 16 table 0 js i (omega arith) below
    ∙ ap (λ k. get_or table k 0) first
    ∙ sym (get_or-map (λ x. get_or table (place x) 0) xs i 0 0 within))

pub low_is : (xs : List ℕ) (n : ℕ) → length xs ≡ n → zip2 bit_and xs (replicate n 15) ≡ map (λ x. x % 16) xs
low_is [] zero same = refl
low_is [] (suc n) same = absurd (omega arith)
low_is (x ∷ xs) zero same = absurd (omega arith)
low_is (x ∷ xs) (suc n) same = rw (and_mask x 4, low_is xs n (omega arith)) refl

-- ---- blocks

encode-append : (xs ys : List ℕ) → encode_lower (xs ++ ys) ≡ encode_lower xs ++ encode_lower ys
unfolding encode_with
encode-append [] ys = refl
encode-append (x ∷ xs) ys =
    ap (λ rest. get_or lower_digits (x / 16) 0 ∷ get_or lower_digits (x % 16) 0 ∷ rest) (encode-append xs ys)

-- fewer digits are those of fewer octets
take-encode : (n m : ℕ) (xs : List ℕ) → m ≡ 2 * n → take m (encode_lower xs) ≡ encode_lower (take n xs)
unfolding encode_with
take-encode zero zero xs twice = refl
take-encode zero (suc m) xs twice = absurd (omega arith)
take-encode (suc n) zero xs twice = absurd (omega arith)
take-encode (suc n) (suc zero) xs twice = absurd (omega arith)
take-encode (suc n) (suc (suc m)) [] twice = refl
take-encode (suc n) (suc (suc m)) (x ∷ xs) twice =
    ap (λ rest. get_or lower_digits (x / 16) 0 ∷ get_or lower_digits (x % 16) 0 ∷ rest) (take-encode n m xs (omega arith))

-- what is encoded stays encoded where it is less
pub encoded_less : (octets digits : List ℕ) (at done from : ℕ) → at ≤ done → from ≡ 2 * at
    → take (2 * done) digits ≡ encode_lower (take done octets) → take from digits ≡ encode_lower (take at octets)
encoded_less octets digits at done from less twice is =
    sym (take_less from (2 * done) digits (omega arith)) ∙ ap (take from) is ∙ take-encode at from (take done octets) twice
    ∙ ap encode_lower (take_less at done octets less)

-- a block put behind what is encoded
pub encoded_to : (octets digits block : List ℕ) (at from k n to upto : ℕ) → from ≡ 2 * at → n ≡ 2 * k → to ≡ from + n
    → upto ≡ at + k → to ≤ length digits → length digits ≡ 2 * length octets
    → take from digits ≡ encode_lower (take at octets) → block ≡ encode_lower (take k (drop at octets))
    → take to (put_mid from n digits block) ≡ encode_lower (take upto octets)
encoded_to octets digits block at from k n to upto twice double sum both within whole is more =
    let part : length (take k (drop at octets)) ≡ k =
    length-take-le k (drop at octets) (omega (arith, length-drop at octets)) in
    let long : length block ≡ n =
    ap length more ∙ length-encode_with lower_digits (take k (drop at octets)) ∙ omega arith in
    let put : take to (put_mid from n digits block) ≡ take from digits ++ block =
    take-put_mid from n digits block to (omega arith) (omega arith) in
    put ∙ ap (λ prefix. prefix ++ block) is ∙ ap (λ back. encode_lower (take at octets) ++ back) more
    ∙ sym (ap (λ m. encode_lower (take m octets)) both ∙ ap encode_lower (take-add at k octets)
    ∙ encode-append (take at octets) (take k (drop at octets)))

-- the last block, which may overlap what is encoded
pub encoded_last : (octets digits block : List ℕ) (at from k n done : ℕ) → from ≡ 2 * at → n ≡ 2 * k
    → length octets ≡ at + k → at ≤ done → length digits ≡ 2 * length octets
    → take (2 * done) digits ≡ encode_lower (take done octets) → block ≡ encode_lower (take k (drop at octets))
    → put_mid from n digits block ≡ encode_lower octets
encoded_last octets digits block at from k n done twice double sum less whole is more =
    let part : length (take k (drop at octets)) ≡ k =
    length-take-le k (drop at octets) (omega (arith, length-drop at octets)) in
    let long : length block ≡ n =
    ap length more ∙ length-encode_with lower_digits (take k (drop at octets)) ∙ omega arith in
    let to = length digits in
    sym (take_all to (put_mid from n digits block) (omega (arith, length-put digits block from n long (omega arith))))
    ∙ encoded_to octets digits block at from k n to (length octets) twice double (omega arith) sum (omega arith) whole
    (encoded_less octets digits at done from less twice is) more
    ∙ ap encode_lower (take_all (length octets) octets (omega arith))

-- two equal parts
pub two_encoded : (k n : ℕ) (octets digits prefix back : List ℕ) → n ≡ 2 * k → length octets ≡ 2 * k
    → length digits ≡ 2 * n
    → prefix ≡ encode_lower (take k octets) → back ≡ encode_lower (drop k octets)
    → put_mid n (length (prefix ++ drop n digits) - n) (prefix ++ drop n digits) back ≡ encode_lower octets
two_encoded k n octets digits prefix back double long room first second =
    let prefix_long : length prefix ≡ n =
    ap length first ∙ length-encode_with lower_digits (take k octets)
    ∙ omega (arith, length-take-le k octets (omega arith)) in
    let back_long : length back ≡ n =
    ap length second ∙ length-encode_with lower_digits (drop k octets) ∙ omega (arith, length-drop k octets) in
    let rest : length (prefix ++ drop n digits) - n ≡ length back =
    omega (arith, length-append prefix (drop n digits), length-drop n digits) in
    two_halves digits prefix back n (length (prefix ++ drop n digits) - n) prefix_long (omega arith) rest
    ∙ ap (λ x. x ++ back) first ∙ ap (λ x. encode_lower (take k octets) ++ x) second
    ∙ sym (ap encode_lower (sym (take-append-drop k octets)) ∙ encode-append (take k octets) (drop k octets))

-- ---- the two halves of a block

-- a high digit and its low one by turns
abbrev pub prefix_of : List ℕ → List ℕ
prefix_of both =
    pick_l 0 both (0 ∷ 16 ∷ 1 ∷ 17 ∷ 2 ∷ 18 ∷ 3 ∷ 19 ∷ 4 ∷ 20 ∷ 5 ∷ 21 ∷ 6 ∷ 22 ∷ 7 ∷ 23 ∷ [])

abbrev pub back_of : List ℕ → List ℕ
back_of both =
    pick_l 0 both (8 ∷ 24 ∷ 9 ∷ 25 ∷ 10 ∷ 26 ∷ 11 ∷ 27 ∷ 12 ∷ 28 ∷ 13 ∷ 29 ∷ 14 ∷ 30 ∷ 15 ∷ 31 ∷ [])

pub block_digits : (octets : List ℕ) → length octets ≡ 16
    → prefix_of (map high_digit octets ++ map low_digit octets) ++ back_of (map high_digit octets ++ map low_digit octets)
    ≡ encode_lower octets
unfolding encode_with
block_digits octets long =
    subst (λ (xs : List ℕ). prefix_of (map high_digit xs ++ map low_digit xs)
    ++ back_of (map high_digit xs ++ map low_digit xs) ≡ encode_lower xs) (is_listing octets 16 long) refl

pub two_chunks : (digits prefix back : List ℕ) → length digits ≡ 32 → length prefix ≡ 16 → length back ≡ 16
    → put_chunk 16 (put_chunk 0 (take 16 digits) prefix ++ drop 16 digits) back ≡ prefix ++ back
two_chunks digits prefix back whole first second =
    let one : put_chunk 0 (take 16 digits) prefix ≡ prefix =
    put_chunk_whole (take 16 digits) prefix (length-take-le 16 digits (omega arith) ∙ sym first) in
    let both = prefix ++ drop 16 digits in
    let room : 16 + length back ≤ length both =
    omega (arith, length-append prefix (drop 16 digits), length-drop 16 digits) in
    let start : take 16 both ≡ prefix = take_at prefix (drop 16 digits) 16 first in
    let left : drop (length back) (drop 16 both) ≡ [] = drop_all (length back) (drop 16 both)
    (omega (arith, length-drop 16 both, length-append prefix (drop 16 digits), length-drop 16 digits)) in
    ap (λ xs. put_chunk 16 (xs ++ drop 16 digits) back) one ∙ put_chunk_is 16 both back room
    ∙ ap (λ xs. xs ++ (back ++ drop (length back) (drop 16 both))) start
    ∙ ap (λ xs. prefix ++ (back ++ xs)) left ∙ ap (λ xs. prefix ++ xs) (append-nil back)

-- ---- eight octets

pub eight_digits : (octets : List ℕ) → length octets ≡ 8
    → prefix_of (map high_digit (octets ++ replicate 8 0) ++ map low_digit (octets ++ replicate 8 0)) ≡ encode_lower octets
unfolding encode_with
eight_digits octets long =
    subst (λ (xs : List ℕ). prefix_of (map high_digit (xs ++ replicate 8 0) ++ map low_digit (xs ++ replicate 8 0))
    ≡ encode_lower xs) (is_listing octets 8 long) refl

-- Blocks of octets put behind each other, and the values of digits.
use Rattle.std.proofs.Common.{◌≡◌, ℕ, zero, suc, ◌+◌, ◌-◌, ◌*◌, ◌<◌, ◌≤◌, ◌%◌, ◌&&◌, not, eqb, Bool, true, false, List, [], ◌∷◌, ◌++◌, length, take, drop, get_or, refl, sym, ap, ◌∙◌, arith, take-add, append-nil, Option, Some, None, Ok, is_some, unwrap_or}
use Rattle.std.proofs.Math.Bool.{and_assoc}
use Rattle.std.proofs.lemmas.Bool.{agree_below_at, and_parts, eqb-true, ltb-true, not-false}
use Rattle.std.proofs.lemmas.List.{take_all, drop_all, take_at, drop_at, take-append-drop, map-append, length-take-le, length-drop, length-append, length-map, take-map, drop-map}
use Rattle.std.proofs.lemmas.List.Folds.{list_all-append}
use Rattle.std.proofs.lemmas.Slice.{take-put_mid}
use Rattle.std.specs.List.{list_all}
use Rattle.hex.specs.Hex.{decode_pairs, hex_digit_value, is_hex_digit}
use Rattle.hex.proofs.Pairs.{cons_byte, decode_pairs-ok_pair}
use borrow.Rule.Slice.PartMut.{put_mid}
use mir.Syntax.{w8}
use mir.Val.{Fits}
use Rattle.text_fields.specs.Blocks.{value_of, values_of, is_small, are_small, packed}
use Rattle.text_fields.proofs.HexadecimalLemmas.{two_digits, octet_computed}

pub packed-append : (n : ℕ) (xs ys : List ℕ) → length xs ≡ 2 * n → packed (xs ++ ys) ≡ packed xs ++ packed ys
packed-append zero [] ys twice = refl
packed-append zero (x ∷ xs) ys twice = absurd (omega arith)
packed-append (suc n) [] ys twice = absurd (omega arith)
packed-append (suc n) (high ∷ []) ys twice = absurd (omega arith)
packed-append (suc n) (high ∷ low ∷ xs) ys twice =
    ap (λ rest. (high * 16 % 256 + low) % 256 ∷ rest) (packed-append n xs ys (omega arith))

-- fewer octets of a block are those of fewer digits
pub take-packed : (n m : ℕ) (xs : List ℕ) → m ≡ 2 * n → take n (packed xs) ≡ packed (take m xs)
take-packed zero zero xs twice = refl
take-packed zero (suc m) xs twice = absurd (omega arith)
take-packed (suc n) zero xs twice = absurd (omega arith)
take-packed (suc n) (suc zero) xs twice = absurd (omega arith)
take-packed (suc n) (suc (suc m)) [] twice = refl
take-packed (suc n) (suc (suc m)) (high ∷ []) twice = refl
take-packed (suc n) (suc (suc m)) (high ∷ low ∷ xs) twice =
    ap (λ rest. (high * 16 % 256 + low) % 256 ∷ rest) (take-packed n m xs (omega arith))

pub take_less : {X : Type 0} (n m : ℕ) (xs : List X) → n ≤ m → take n (take m xs) ≡ take n xs
take_less zero m xs fewer = refl
take_less (suc n) zero xs fewer = absurd (omega arith)
take_less (suc n) (suc m) [] fewer = refl
take_less (suc n) (suc m) (x ∷ xs) fewer = ap (λ rest. x ∷ rest) (take_less n m xs (omega arith))

-- what is decoded stays decoded where it is less
pub decoded_less : (values octets : List ℕ) (at done : ℕ) → at ≤ done
    → take done octets ≡ packed (take (2 * done) values) → take at octets ≡ packed (take (2 * at) values)
decoded_less values octets at done less is =
    sym (take_less at done octets less) ∙ ap (take at) is ∙ take-packed at (2 * at) (take (2 * done) values) refl
    ∙ ap packed (take_less (2 * at) (2 * done) values (omega arith))

pub length-packed : (n : ℕ) (xs : List ℕ) → length xs ≡ 2 * n → length (packed xs) ≡ n
length-packed zero [] twice = refl
length-packed zero (x ∷ xs) twice = absurd (omega arith)
length-packed (suc n) [] twice = absurd (omega arith)
length-packed (suc n) (high ∷ []) twice = absurd (omega arith)
length-packed (suc n) (high ∷ low ∷ xs) twice = ap suc (length-packed n xs (omega arith))

-- a block put behind what is decoded
pub decoded_to : (values octets block : List ℕ) (at from k n to upto : ℕ) → from ≡ 2 * at → n ≡ 2 * k → upto ≡ 2 * to
    → to ≡ at + k → to ≤ length octets → length values ≡ 2 * length octets
    → take at octets ≡ packed (take from values) → block ≡ packed (take n (drop from values))
    → take to (put_mid at k octets block) ≡ packed (take upto values)
decoded_to values octets block at from k n to upto twice double whole sum within all is more =
    let half : length (take from values) ≡ 2 * at = length-take-le from values (omega arith) ∙ twice in
    let part : length (take n (drop from values)) ≡ 2 * k =
    length-take-le n (drop from values) (omega (arith, length-drop from values)) ∙ double in
    let long : length block ≡ k = ap length more ∙ length-packed k (take n (drop from values)) part in
    let put : take to (put_mid at k octets block) ≡ take at octets ++ block =
    take-put_mid at k octets block to (omega arith) (omega arith) in
    let both : upto ≡ from + n = omega arith in
    let joined : packed (take upto values) ≡ packed (take from values) ++ packed (take n (drop from values)) =
    ap (λ m. packed (take m values)) both ∙ ap packed (take-add from n values)
    ∙ packed-append at (take from values) (take n (drop from values)) half in
    put ∙ ap (λ prefix. prefix ++ block) is ∙ ap (λ back. packed (take from values) ++ back) more ∙ sym joined

pub length-put : {X : Type 0} (xs ys : List X) (at k : ℕ) → length ys ≡ k → at + k ≤ length xs
    → length (put_mid at k xs ys) ≡ length xs
length-put xs ys at k long within =
    omega (
      arith,
      length-append (take at xs) (ys ++ drop k (drop at xs)),
      length-append ys (drop k (drop at xs)),
      length-take-le at xs (omega arith),
      length-drop k (drop at xs),
      length-drop at xs,
    )

-- the last block, which may overlap what is decoded
pub decoded_last : (values octets block : List ℕ) (at from k n done : ℕ) → from ≡ 2 * at → n ≡ 2 * k
    → length octets ≡ at + k → at ≤ done → length values ≡ 2 * length octets
    → take done octets ≡ packed (take (2 * done) values) → block ≡ packed (take n (drop from values))
    → put_mid at k octets block ≡ packed values
decoded_last values octets block at from k n done twice double whole less all is more =
    let part : length (take n (drop from values)) ≡ 2 * k =
    length-take-le n (drop from values) (omega (arith, length-drop from values)) ∙ double in
    let long : length block ≡ k = ap length more ∙ length-packed k (take n (drop from values)) part in
    let before : take at octets ≡ packed (take from values) =
    decoded_less values octets at done less is ∙ ap (λ m. packed (take m values)) (sym twice) in
    let to = length octets in
    sym (take_all to (put_mid at k octets block) (omega (arith, length-put octets block at k long (omega arith))))
    ∙ decoded_to values octets block at from k n to (2 * to) twice double refl whole (omega arith) all before more
    ∙ ap packed (take_all (2 * to) values (omega arith))

-- the values of a part of the digits
pub sliced : (digits : List ℕ) (from n m : ℕ) → n ≡ m
    → values_of (take n (drop from digits)) ≡ take m (drop from (values_of digits))
sliced digits from n m same =
    ap (λ n. values_of (take n (drop from digits))) same
    ∙ sym (ap (take m) (drop-map value_of from digits) ∙ take-map value_of m (drop from digits))

-- two parts that cover the values are small where all are
and_covers : (a b c : Bool) → ((a && b) && (b && c)) ≡ (a && (b && c))
and_covers true true c = refl
and_covers true false c = refl
and_covers false b c = refl

pub small_to : (values : List ℕ) (at k to : ℕ) → to ≡ at + k
    → (are_small (take at values) && are_small (take k (drop at values))) ≡ are_small (take to values)
small_to values at k to sum =
    sym (list_all-append is_small (take at values) (take k (drop at values)))
    ∙ ap are_small (sym (take-add at k values)) ∙ ap (λ n. are_small (take n values)) (sym sum)

split_at : (values : List ℕ) (at : ℕ) → are_small values ≡ (are_small (take at values) && are_small (drop at values))
split_at values at =
    ap are_small (sym (take-append-drop at values)) ∙ list_all-append is_small (take at values) (drop at values)

pub covered : (values : List ℕ) (at done more : ℕ) → done ≡ at + more
    → (are_small (take done values) && are_small (drop at values)) ≡ are_small values
covered values at done more sum =
    let prefix = sym (small_to values at more done sum) in
    let back = split_at (drop at values) more in
    rw (prefix, split_at values at, back) (and_covers (are_small (take at values)) (are_small (take more (drop at values)))
    (are_small (drop more (drop at values))))

-- two parts of a list written one after the other
pub two_halves : {X : Type 0} (xs prefix back : List X) (n k : ℕ) → length prefix ≡ n → length xs ≡ n + length back
    → k ≡ length back → put_mid n k (prefix ++ drop n xs) back ≡ prefix ++ back
two_halves xs prefix back n k long whole rest =
    let first : take n (prefix ++ drop n xs) ≡ prefix = take_at prefix (drop n xs) n long in
    let left : drop n (prefix ++ drop n xs) ≡ drop n xs = drop_at prefix (drop n xs) n long in
    let none : drop k (drop n xs) ≡ [] = drop_all k (drop n xs) (omega (arith, length-drop n xs)) in
    rw (first, left, none) (ap (λ behind. prefix ++ behind) (append-nil back))

pub small_on : (values block : List ℕ) (w : Bool) (at k to : ℕ) → to ≡ at + k → w ≡ are_small (take at values)
    → block ≡ take k (drop at values) → (w && are_small block) ≡ are_small (take to values)
small_on values block w at k to sum before is =
    rw (before, is) (small_to values at k to sum)

pub small_last : (values block : List ℕ) (w : Bool) (at from k done : ℕ) → from ≡ 2 * at → length values ≡ from + k
    → at ≤ done → w ≡ are_small (take (2 * done) values) → block ≡ take k (drop from values)
    → (w && are_small block) ≡ are_small values
small_last values block w at from k done twice whole less before is =
    let all : block ≡ drop from values = is ∙ take_all k (drop from values) (omega (arith, length-drop from values)) in
    rw (before, all) (covered values from (2 * done) (2 * (done - at)) (omega arith))

-- ---- two equal parts, and the two halves of a block

values_apart : (digits : List ℕ) (n : ℕ) → values_of digits ≡ values_of (take n digits) ++ values_of (drop n digits)
values_apart digits n =
    ap values_of (sym (take-append-drop n digits)) ∙ map-append value_of (take n digits) (drop n digits)

pub two_packed : (k n : ℕ) (digits octets prefix back : List ℕ) → n ≡ 2 * k → length digits ≡ 2 * n
    → length octets ≡ 2 * k
    → prefix ≡ packed (values_of (take n digits)) → back ≡ packed (values_of (drop n digits))
    → put_mid k (length (prefix ++ drop k octets) - k) (prefix ++ drop k octets) back ≡ packed (values_of digits)
two_packed k n digits octets prefix back double long room first second =
    let one : length (values_of (take n digits)) ≡ 2 * k =
    length-map (take n digits) value_of ∙ length-take-le n digits (omega arith) ∙ double in
    let two : length (values_of (drop n digits)) ≡ 2 * k =
    length-map (drop n digits) value_of ∙ length-drop n digits ∙ omega arith in
    let prefix_long : length prefix ≡ k = ap length first ∙ length-packed k (values_of (take n digits)) one in
    let back_long : length back ≡ k = ap length second ∙ length-packed k (values_of (drop n digits)) two in
    let rest : length (prefix ++ drop k octets) - k ≡ length back =
    omega (arith, length-append prefix (drop k octets), length-drop k octets) in
    two_halves octets prefix back k (length (prefix ++ drop k octets) - k) prefix_long (omega arith) rest
    ∙ ap (λ x. x ++ back) first ∙ ap (λ x. packed (values_of (take n digits)) ++ x) second
    ∙ sym (ap packed (values_apart digits n)
    ∙ packed-append k (values_of (take n digits)) (values_of (drop n digits)) one)

pub small_two : (digits : List ℕ) (w : Bool) (n : ℕ)
    → ((w && are_small (values_of (take n digits))) && are_small (values_of (drop n digits)))
    ≡ (w && are_small (values_of digits))
small_two digits w n =
    and_assoc w (are_small (values_of (take n digits))) (are_small (values_of (drop n digits)))
    ∙ ap (λ b. w && b) (sym (ap are_small (values_apart digits n)
    ∙ list_all-append is_small (values_of (take n digits)) (values_of (drop n digits))))

pub block_values : (digits first second : List ℕ) → length digits ≡ 32 → first ≡ values_of (take 16 (take 16 digits))
    → second ≡ values_of (take 16 (drop 16 digits)) → first ++ second ≡ values_of digits
block_values digits first second long one two =
    let prefix : take 16 (take 16 digits) ≡ take 16 digits = take_less 16 16 digits (omega arith) in
    let back : take 16 (drop 16 digits) ≡ drop 16 digits =
    take_all 16 (drop 16 digits) (omega (arith, length-drop 16 digits)) in
    ap (λ x. x ++ second) (one ∙ ap values_of prefix)
    ∙ ap (λ x. values_of (take 16 digits) ++ x) (two ∙ ap values_of back)
    ∙ sym (values_apart digits 16)

pub length-values : (digits : List ℕ) → length (values_of digits) ≡ length digits
length-values digits = length-map digits value_of

-- ---- digits

right_value : (digit : ℕ) → digit < 256 → is_small (value_of digit) ≡ is_hex_digit digit
right_value digit fits = agree_below_at (λ d. is_small (value_of d)) is_hex_digit 256 digit refl fits

abbrev reads_else : ℕ → Bool
reads_else digit = is_hex_digit digit && not (eqb (unwrap_or (hex_digit_value digit) 0) (value_of digit))

of_some : (answer : Option ℕ) (value : ℕ) → is_some answer ≡ true → (is_some answer && not (eqb (unwrap_or answer 0) value)) ≡ false
    → answer ≡ Some value
of_some (Some x) value some right = ap Some (eqb-true x value (not-false (eqb x value) right))
of_some None value some right = cc

value_read : (digit : ℕ) → digit < 256 → is_hex_digit digit ≡ true → hex_digit_value digit ≡ Some (value_of digit)
value_read digit fits is =
    of_some (hex_digit_value digit) (value_of digit) is (agree_below_at reads_else (λ _. false) 256 digit refl fits)

pub small_digits : (digits : List ℕ) → ((k : ℕ) → Fits w8 (get_or digits k 0))
    → are_small (values_of digits) ≡ list_all is_hex_digit digits
small_digits [] fits = refl
small_digits (digit ∷ digits) fits =
    rw (right_value digit (fits 0).fits, small_digits digits (λ k. fits (suc k))) refl

small_value : (digit : ℕ) → digit < 256 → is_hex_digit digit ≡ true → value_of digit < 16
small_value digit fits is = ltb-true (value_of digit) 16 (right_value digit fits ∙ is)

pub pairs_packed : (at : ℕ) (n : ℕ) (digits : List ℕ) → ((k : ℕ) → Fits w8 (get_or digits k 0)) → length digits ≡ 2 * n
    → list_all is_hex_digit digits ≡ true → decode_pairs at digits ≡ Ok (packed (values_of digits))
unfolding decode_pairs
pairs_packed at n [] fits twice all = refl
pairs_packed at zero (digit ∷ digits) fits twice all = absurd (omega arith)
pairs_packed at (suc n) (digit ∷ []) fits twice all = absurd (omega arith)
pairs_packed at (suc n) (high ∷ low ∷ digits) fits twice all =
    let both = and_parts (is_hex_digit high) (list_all is_hex_digit (low ∷ digits)) all in
    let rest = and_parts (is_hex_digit low) (list_all is_hex_digit digits) both.1 in
    let h = value_of high in
    let l = value_of low in
    let pair = two_digits high low h l at (value_read high (fits 0).fits both.0) (value_read low (fits 1).fits rest.0) in
    let octet : h * 16 + l ≡ (h * 16 % 256 + l) % 256 =
    sym (octet_computed h l (small_value high (fits 0).fits both.0) (small_value low (fits 1).fits rest.0)) in
    decode_pairs-ok_pair at high low (h * 16 + l) digits pair
    ∙ ap (cons_byte (h * 16 + l)) (pairs_packed (at + 2) n digits (λ k. fits (suc (suc k))) (omega arith) rest.1)
    ∙ ap (λ o. Ok (o ∷ packed (values_of digits))) octet

-- Numbers of two, four and eight octets, the most significant octet first.
use Rattle.std.proofs.Common.{◌≡◌, ℕ, ◌^◌, ◌<◌, ◌≤◌, Bool, true, false, cond, ltb, List, ◌++◌, length, take, drop, Some, None, refl, sym, ap, arith, inl, inr}
use Rattle.std.specs.Int.{Width, w16, w32, w64, byte_len, from_be_bytes, to_be_bytes}
use Rattle.std.proofs.lemmas.Bool.{cases_lt, ltb-true, ltb-false, lt-ltb, le-ltb}
use Rattle.std.proofs.lemmas.List.{take_at, drop_at, take-append-drop, length-append, length-take, length-take-le, get_or-take, get_or_past}
use Rattle.std.proofs.lemmas.Nat.{be_bytes_2, be_bytes_4, be_bytes_8, from_be_bytes-to_be_bytes_2, from_be_bytes-to_be_bytes_4, from_be_bytes-to_be_bytes_8}
use Rattle.record_codec.specs.Saved.{IsCount}
use Rattle.record_codec.specs.Spelling.{u16, u32, u64, measured}
use Rattle.record_codec.specs.Read.{Reader, number_at, octets_at, measured_at, is_count, is_rate, count_at, rate_at}
use Rattle.record_codec.proofs.Codecs.{AreOctets, IsCodec, like, such_codec, counted_codec}

pub octets_taken : (n : ℕ) (octets : List ℕ) → AreOctets octets → AreOctets (take n octets)
octets_taken n octets small at =
    elim (cases_lt at n) [
      | inl lt ↦ rw (get_or-take n octets at 0 lt) (small at)
      | inr le ↦ rw (get_or_past (take n octets) at 0 (omega (arith, length-take n octets))) (omega arith)
    ]

-- what a width has
record IsWide (w : Width) (limit : ℕ) : Type 0 where
  pub len : (n : ℕ) → length (to_be_bytes w n) ≡ byte_len w
  pub back : (octets : List ℕ) → length octets ≡ byte_len w → AreOctets octets
      → to_be_bytes w (from_be_bytes w octets) ≡ octets
  pub again : (n : ℕ) → n < limit → from_be_bytes w (to_be_bytes w n) ≡ n
  pub below : (octets : List ℕ) → AreOctets octets → from_be_bytes w octets < limit

wide16 : IsWide w16 (2 ^ 16)
wide16 = record {
  len = λ n. refl;
  back = λ octets len small. be_bytes_2 octets _ len small refl;
  again = λ n lt. from_be_bytes-to_be_bytes_2 n lt;
  below = λ octets small. omega (arith, small 0, small 1);
}

wide32 : IsWide w32 (2 ^ 32)
wide32 = record {
  len = λ n. refl;
  back = λ octets len small. be_bytes_4 octets _ len small refl;
  again = λ n lt. from_be_bytes-to_be_bytes_4 n lt;
  below = λ octets small. omega (arith, small 0, small 1, small 2, small 3);
}

wide64 : IsWide w64 (2 ^ 64)
wide64 = record {
  len = λ n. refl;
  back = λ octets len small. be_bytes_8 octets _ len small refl;
  again = λ n lt. from_be_bytes-to_be_bytes_8 n lt;
  below = λ octets small.
      omega (arith, small 0, small 1, small 2, small 3, small 4, small 5, small 6, small 7);
}

-- a test that a length passes
long_enough : {A : Type 0} (b : Bool) (x y : A) → cond b None (Some x) ≡ Some y → (b ≡ false) × (x ≡ y)
long_enough true x y e = absurd cc
long_enough false x y e = (refl, cc)

pub octets_codec : (n : ℕ) → IsCodec (λ (xs : List ℕ). length xs ≡ n) (λ xs. xs) (octets_at n)
octets_codec n = record {
  takes = λ octets xs rest small e.
      let g = long_enough (ltb (length octets) n) (take n octets, drop n octets) (xs, rest) e in
      let long : n ≤ length octets = ltb-false _ _ g.0 in
      let prefix_is : take n octets ≡ xs = ap (λ p. p.0) g.1 in
      let rest_is : drop n octets ≡ rest = ap (λ p. p.1) g.1 in (
        rw (← prefix_is, ← rest_is) (sym (take-append-drop n octets)),
        rw (← prefix_is) (length-take-le n octets long),
      );
  again = λ xs rest fits.
      let long : ltb (length (xs ++ rest)) n ≡ false = le-ltb _ _ (omega (arith, length-append xs rest, fits)) in
      rw (long, take_at xs rest n fits, drop_at xs rest n fits) refl;
}

number_codec : (w : Width) (limit : ℕ) → IsWide w limit
    → IsCodec (λ n. n < limit) (λ n. to_be_bytes w n) (number_at w)
number_codec w limit wide = record {
  takes = λ octets n rest small e.
      let g = long_enough (ltb (length octets) (byte_len w))
      (from_be_bytes w (take (byte_len w) octets), drop (byte_len w) octets) (n, rest) e in
      let long : byte_len w ≤ length octets = ltb-false _ _ g.0 in
      let n_is : from_be_bytes w (take (byte_len w) octets) ≡ n = ap (λ p. p.0) g.1 in
      let rest_is : drop (byte_len w) octets ≡ rest = ap (λ p. p.1) g.1 in
      let small_prefix = octets_taken (byte_len w) octets small in
      let prefix : to_be_bytes w n ≡ take (byte_len w) octets
      = rw (← n_is) (wide.back (take (byte_len w) octets) (length-take-le (byte_len w) octets long) small_prefix) in (
        rw (prefix, ← rest_is) (sym (take-append-drop (byte_len w) octets)),
        rw (← n_is) (wide.below (take (byte_len w) octets) small_prefix),
      );
  again = λ n rest fits.
      let len = wide.len n in
      let long : ltb (length (to_be_bytes w n ++ rest)) (byte_len w) ≡ false
      = le-ltb _ _ (omega (arith, length-append (to_be_bytes w n) rest)) in
      rw (
        long,
        take_at (to_be_bytes w n) rest (byte_len w) len,
        drop_at (to_be_bytes w n) rest (byte_len w) len,
        wide.again n fits,
      )
      refl;
}

pub codec_16 : IsCodec (λ n. n < 2 ^ 16) u16 (number_at w16)
codec_16 = number_codec w16 (2 ^ 16) wide16

pub codec_32 : IsCodec (λ n. n < 2 ^ 32) u32 (number_at w32)
codec_32 = number_codec w32 (2 ^ 32) wide32

pub codec_64 : IsCodec (λ n. n < 2 ^ 64) u64 (number_at w64)
codec_64 = number_codec w64 (2 ^ 64) wide64

pub measured_codec : {P : ℕ → Type 0} {number : ℕ → List ℕ} {length_at : Reader ℕ} → IsCodec P number length_at
    → IsCodec (λ xs. P (length xs)) (measured number) (measured_at length_at)
unfolding measured_at
measured_codec number =
    like (counted_codec {Q = λ xs. Unit {0}} number (λ n. like (octets_codec n) (λ xs p. (p, tt)) (λ xs p. p.0)))
    (λ xs p. p.0) (λ xs p. (p, tt))

pub count_codec : IsCodec IsCount u64 count_at
count_codec =
    like (such_codec is_count codec_64) (λ n h. ltb-true n (2 ^ 50) h.1) (λ n f. (
      omega (arith, f),
      lt-ltb n (2 ^ 50)
          f,
    ))

pub rate_codec : IsCodec (λ n. n < 2 ^ 40) u64 rate_at
rate_codec =
    like (such_codec is_rate codec_64) (λ n h. ltb-true n (2 ^ 40) h.1) (λ n f. (omega (arith, f), lt-ltb n (2 ^ 40) f))

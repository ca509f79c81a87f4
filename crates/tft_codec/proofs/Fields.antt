-- A number that is read is the number that was written, and what was written is read again.
use Rattle.std.proofs.Common.{◌≡◌, ℕ, suc, ◌+◌, ◌*◌, ◌/◌, ◌%◌, ◌^◌, ◌<◌, ◌≤◌, Bool, true, false, cond, ltb, List, [], ◌∷◌, ◌++◌, length, take, drop, Option, Some, None, refl, sym, ap, subst, ◌∙◌, append_assoc, arith, ◌⊎◌, inl, inr}
use Rattle.std.proofs.lemmas.Bool.{cases_lt, ltb-false, le-ltb}
use Rattle.std.proofs.lemmas.List.{drop_at, take-append-drop, length-append, length-take, length-drop, get_or-drop, get_or-take, get_or_past}
use Rattle.wire_octets.specs.Numbers.{AreOctets, be16_at, be16_octets, be32_at, be32_octets}
use Rattle.wire_octets.proofs.NumberLemmas.{be16-again, be32-again}
use Rattle.tft_codec.specs.Reading.{◌>>=◌, number_at, octet_at}

pub octets_drop : (n : ℕ) (octets : List ℕ) → AreOctets octets → AreOctets (drop n octets)
octets_drop n octets small i = rw get_or-drop (small (n + i))

pub octets_take : (n : ℕ) (octets : List ℕ) → AreOctets octets → AreOctets (take n octets)
octets_take n octets small i =
    elim (cases_lt i n) [
      | inl lt ↦ rw (get_or-take n octets i 0 lt) (small i)
      | inr le ↦ rw (get_or_past (take n octets) i 0 (omega (arith, length-take n octets))) (omega arith)
    ]

pub octets_rest : (octet : ℕ) (octets : List ℕ) → AreOctets (octet ∷ octets) → AreOctets octets
octets_rest octet octets small i = small (suc i)

-- the value of a step that found one
pub bind_some : {A B : Type 0} (o : Option A) (f : A → Option B) (y : B) → (o >>= f) ≡ Some y
    → (x : A) × (o ≡ Some x) × (f x ≡ Some y)
bind_some (Some x) f y e = (x, refl, e)
bind_some None f y e = absurd cc

-- a test that did not fail
pub guard_some : {A : Type 0} (b : Bool) (x y : A) → cond b None (Some x) ≡ Some y → (b ≡ false) × (x ≡ y)
guard_some true x y e = absurd cc
guard_some false x y e = (refl, cc)

-- which way a test went
pub chosen : {A : Type 0} (b : Bool) (x y z : A) → cond b x y ≡ z → ((b ≡ true) × (x ≡ z)) ⊎ ((b ≡ false) × (y ≡ z))
chosen true x y z e = inl (refl, e)
chosen false x y z e = inr (refl, e)

pub some_is : {A : Type 0} (x y : A) → Some x ≡ Some y → x ≡ y
some_is x y e = cc

-- what a reader took from the start
pub record Takes (octets text rest : List ℕ) : Type 0 where
  pub parts : octets ≡ text ++ rest
  pub rest_small : AreOctets rest

pub Takes-then : (a x b y c : List ℕ) → Takes a x b → Takes b y c → Takes a (x ++ y) c
Takes-then a x b y c p q =
    record {
      parts = p.parts ∙ ap (λ (t : List ℕ). x ++ t) q.parts ∙ sym (append_assoc x y c);
      rest_small = q.rest_small;
    }

-- a reader of numbers below a limit, and the text of each
pub record IsReader (limit : ℕ) (text : ℕ → List ℕ) (at : List ℕ → Option (ℕ × List ℕ)) : Type 0 where
  pub shorter : (octets : List ℕ) (n : ℕ) (rest : List ℕ) → at octets ≡ Some (n, rest) → length rest ≤ length octets
  pub takes : (octets : List ℕ) (n : ℕ) (rest : List ℕ) → AreOctets octets → at octets ≡ Some (n, rest)
      → Takes octets (text n) rest × (n < limit)
  pub again : (n : ℕ) (rest : List ℕ) → n < limit → at (text n ++ rest) ≡ Some (n, rest)

-- how a number of so many octets is written, and what it is where it stands at the start
pub record IsWide (len limit : ℕ) (text : ℕ → List ℕ) (number : List ℕ → ℕ → ℕ) : Type 0 where
  pub count : (n : ℕ) → length (text n) ≡ len
  pub back : (octets : List ℕ) → len ≤ length octets → AreOctets octets → text (number octets 0) ≡ take len octets
  pub again : (n : ℕ) (rest : List ℕ) → n < limit → number (text n ++ rest) 0 ≡ n
  pub below : (octets : List ℕ) → AreOctets octets → number octets 0 < limit

two_back : (octets : List ℕ) → 2 ≤ length octets → AreOctets octets → be16_octets (be16_at octets 0) ≡ take 2 octets
two_back [] long small = absurd (omega (arith, long))
two_back (a ∷ []) long small = absurd (omega (arith, long))
two_back (a ∷ b ∷ rest) long small =
    let first : (0x100 * a + b) / 0x100 % 0x100 ≡ a = omega (arith, small 0, small 1) in
    let second : (0x100 * a + b) % 0x100 ≡ b = omega (arith, small 0, small 1) in
    λ i. first i ∷ second i ∷ []

four_back : (octets : List ℕ) → 4 ≤ length octets → AreOctets octets → be32_octets (be32_at octets 0) ≡ take 4 octets
four_back [] long small = absurd (omega (arith, long))
four_back (a ∷ []) long small = absurd (omega (arith, long))
four_back (a ∷ b ∷ []) long small = absurd (omega (arith, long))
four_back (a ∷ b ∷ c ∷ []) long small = absurd (omega (arith, long))
four_back (a ∷ b ∷ c ∷ d ∷ rest) long small =
    let n : ℕ = be32_at (a ∷ b ∷ c ∷ d ∷ rest) 0 in
    let first : n / 0x100_0000 % 0x100 ≡ a = omega (arith, small 0, small 1, small 2, small 3) in
    let second : n / 0x1_0000 % 0x100 ≡ b = omega (arith, small 0, small 1, small 2, small 3) in
    let third : n / 0x100 % 0x100 ≡ c = omega (arith, small 0, small 1, small 2, small 3) in
    let fourth : n % 0x100 ≡ d = omega (arith, small 0, small 1, small 2, small 3) in
    λ i. first i ∷ second i ∷ third i ∷ fourth i ∷ []

wide16 : IsWide 2 (2 ^ 16) be16_octets be16_at
wide16 = record {
  count = λ n. refl;
  back = two_back;
  again = be16-again;
  below = λ octets small. omega (arith, small 0, small 1);
}

wide32 : IsWide 4 (2 ^ 32) be32_octets be32_at
wide32 = record {
  count = λ n. refl;
  back = four_back;
  again = be32-again;
  below = λ octets small. omega (arith, small 0, small 1, small 2, small 3);
}

number_reader : (len limit : ℕ) (text : ℕ → List ℕ) (number : List ℕ → ℕ → ℕ) → IsWide len limit text number
    → IsReader limit text (number_at len number)
number_reader len limit text number wide = record {
  shorter = λ octets n rest e.
      let g = guard_some (ltb (length octets) len) (number octets 0, drop len octets) (n, rest) e in
      let rest-is : drop len octets ≡ rest = ap (λ (p : ℕ × List ℕ). p.1) g.1 in
      rw (← rest-is) (omega (arith, length-drop len octets));
  takes = λ octets n rest small e.
      let g = guard_some (ltb (length octets) len) (number octets 0, drop len octets) (n, rest) e in
      let long : len ≤ length octets = ltb-false (length octets) len g.0 in
      let n-is : number octets 0 ≡ n = ap (λ (p : ℕ × List ℕ). p.0) g.1 in
      let rest-is : drop len octets ≡ rest = ap (λ (p : ℕ × List ℕ). p.1) g.1 in
      let prefix : text n ≡ take len octets = ap text (sym n-is) ∙ wide.back octets long small in
      let parts : octets ≡ text n ++ rest
      = sym (take-append-drop len octets) ∙ (λ i. sym prefix i ++ rest-is i) in (
        record { parts = parts; rest_small = subst AreOctets rest-is (octets_drop len octets small) },
        subst (λ m. m < limit) n-is (wide.below octets small),
      );
  again = λ n rest lt.
      let count = wide.count n in
      let long : ltb (length (text n ++ rest)) len ≡ false
      = le-ltb (length (text n ++ rest)) len (omega (arith, length-append (text n) rest)) in
      rw (long, wide.again n rest lt, drop_at (text n) rest len count) refl;
}

pub reads16 : IsReader (2 ^ 16) be16_octets (number_at 2 be16_at)
reads16 = number_reader 2 (2 ^ 16) be16_octets be16_at wide16

pub reads32 : IsReader (2 ^ 32) be32_octets (number_at 4 be32_at)
reads32 = number_reader 4 (2 ^ 32) be32_octets be32_at wide32

octet_takes : (octets : List ℕ) (n : ℕ) (rest : List ℕ) → AreOctets octets → octet_at octets ≡ Some (n, rest)
    → Takes octets (n ∷ []) rest × (n < 256)
octet_takes [] n rest small e = absurd cc
octet_takes (octet ∷ octets) n rest small e =
    let both = some_is (octet, octets) (n, rest) e in
    let n-is : octet ≡ n = ap (λ (p : ℕ × List ℕ). p.0) both in
    let rest-is : octets ≡ rest = ap (λ (p : ℕ × List ℕ). p.1) both in (
      record {
        parts = ap (λ (m : ℕ). m ∷ octets) n-is ∙ ap (λ (t : List ℕ). n ∷ t) rest-is;
        rest_small = subst AreOctets rest-is (octets_rest octet octets small);
      },
      rw (← n-is) (small 0),
    )

octet_shorter : (octets : List ℕ) (n : ℕ) (rest : List ℕ) → octet_at octets ≡ Some (n, rest)
    → length rest ≤ length octets
octet_shorter [] n rest e = absurd cc
octet_shorter (octet ∷ octets) n rest e =
    let rest-is : octets ≡ rest = ap (λ (p : ℕ × List ℕ). p.1) (some_is (octet, octets) (n, rest) e) in
    rw (← rest-is) (omega arith)

-- the octet at the start, and the others
pub octet_is : (octets : List ℕ) (octet : ℕ) (rest : List ℕ) → octet_at octets ≡ Some (octet, rest)
    → octets ≡ octet ∷ rest
octet_is [] octet rest e = absurd cc
octet_is (first ∷ others) octet rest e = ap (λ (p : ℕ × List ℕ). p.0 ∷ p.1) (some_is (first, others) (octet, rest) e)

pub no_octet : (octets : List ℕ) → octet_at octets ≡ None → octets ≡ []
no_octet [] e = refl
no_octet (first ∷ others) e = absurd cc

pub reads8 : IsReader 256 (λ n. n ∷ []) octet_at
reads8 = record { shorter = octet_shorter; takes = octet_takes; again = λ n rest lt. refl }

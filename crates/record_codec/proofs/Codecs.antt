-- What joins a text and its reader, and how such pairs are made of others.
use Rattle.std.proofs.Common.{◌≡◌, ℕ, zero, suc, ◌+◌, ◌<◌, Bool, true, false, cond, List, [], ◌∷◌, ◌++◌, length, get_or, Option, Some, None, refl, sym, ap, subst, ◌∙◌, append_assoc, arith}
use Rattle.std.specs.Prelude.{IfSome}
use Rattle.std.specs.Option.{option_and_then}
use Rattle.std.specs.List.{flat_map, AllByRecursion}
use Rattle.std.proofs.lemmas.List.{get_or-append-add}
use Rattle.record_codec.specs.Spelling.{optional, listed, flag}
use Rattle.record_codec.specs.Read.{Reader, and_then, done, such, tested, octet_at, flag_at, option_at, option_behind, made_some, times, each_at, times_of, listed_at}

-- each number of a list is an octet
abbrev pub AreOctets : List ℕ → Type 0
AreOctets octets = (at : ℕ) → get_or octets at 0 < 256

pub octets_behind : (octets prefix rest : List ℕ) → AreOctets octets → octets ≡ prefix ++ rest → AreOctets rest
octets_behind octets prefix rest small is at =
    let moved : get_or (prefix ++ rest) (length prefix + at) 0 ≡ get_or rest at 0 = get_or-append-add prefix rest at 0 in
    let whole : get_or octets (length prefix + at) 0 ≡ get_or rest at 0
    = ap (λ (all : List ℕ). get_or all (length prefix + at) 0) is ∙ moved in
    omega (arith, small (length prefix + at), whole)

-- What a reader takes is the text of a value that fits, and the text of such a value is read again, whatever follows.
pub record IsCodec {X : Type 0} (Fits : X → Type 0) (text : X → List ℕ) (reader : Reader X) : Type 0 where
  pub takes : (octets : List ℕ) (x : X) (rest : List ℕ) → AreOctets octets → reader octets ≡ Some (x, rest)
      → (octets ≡ text x ++ rest) × Fits x
  pub again : (x : X) (rest : List ℕ) → Fits x → reader (text x ++ rest) ≡ Some (x, rest)

pub bind_some : {A B : Type 0} (o : Option A) (f : A → Option B) (y : B) → option_and_then f o ≡ Some y
    → (x : A) × (o ≡ Some x) × (f x ≡ Some y)
bind_some None f y e = absurd cc
bind_some (Some x) f y e = (x, refl, e)

abbrev some : {A : Type 0} → A → Option A
some x = Some x

pub some_is : {A : Type 0} (x y : A) → some x ≡ some y → x ≡ y
some_is x y e = cc

-- the same under another wording of what fits
pub like : {X : Type 0} {P Q : X → Type 0} {text : X → List ℕ} {reader : Reader X} → IsCodec P text reader
    → ((x : X) → P x → Q x) → ((x : X) → Q x → P x) → IsCodec Q text reader
like codec to from = record {
  takes = λ octets x rest small e. let t = codec.takes octets x rest small e in (t.0, to x t.1);
  again = λ x rest fits. codec.again x rest (from x fits);
}

-- the same of what fits where something else is known
pub under : {X : Type 0} {C P : X → Type 0} {text : X → List ℕ} {reader : Reader X} (Q : X → Type 0)
    → IsCodec (λ x. C x × P x) text reader → ((x : X) → C x → P x → Q x) → ((x : X) → C x → Q x → P x)
    → IsCodec (λ x. C x × Q x) text reader
under Q codec to from = like codec (λ x h. (h.0, to x h.0 h.1)) (λ x h. (h.0, from x h.0 h.1))

-- a first field, and the fields behind it, which know it
pub field : {A R : Type 0} {P : A → Type 0} {text : A → List ℕ} {first : Reader A} {C Q : R → Type 0} {more : R →
    List ℕ}
    {next : A → Reader R} (f : R → A) → IsCodec P text first
    → ((a : A) → P a → IsCodec (λ r. (C r × (f r ≡ a)) × Q r) more (next a))
    → IsCodec (λ r. C r × (P (f r) × Q r)) (λ r. text (f r) ++ more r) (and_then first next)
unfolding and_then
field {P = P} {text = text} {first = first} {more = more} {next = next} f codec behind = record {
  takes = λ octets r rest small e.
      let b = bind_some (first octets) (λ a. next a.0 a.1) (r, rest) e in
      let t = codec.takes octets b.0.0 b.0.1 small b.1 in
      let u = (behind b.0.0 t.1).takes b.0.1 r rest (octets_behind octets (text b.0.0) b.0.1 small t.0) b.2 in
      let is = u.1.0.1 in (
        t.0 ∙ ap (λ (t : List ℕ). text b.0.0 ++ t) u.0 ∙ sym (append_assoc (text b.0.0) (more r) rest)
            ∙ ap (λ a. (text a ++ more r) ++ rest) (sym is),
        (u.1.0.0, (subst P (sym is) t.1, u.1.1)),
      );
  again = λ r rest fits.
      let moved : (text (f r) ++ more r) ++ rest ≡ text (f r) ++ (more r ++ rest)
      = append_assoc (text (f r)) (more r) rest in
      ap (λ (all : List ℕ). option_and_then (λ a. next a.0 a.1) (first all)) moved
      ∙ ap (λ o. option_and_then (λ a. next a.0 a.1) o) (codec.again (f r) (more r ++ rest) fits.1.0)
      ∙ (behind (f r) fits.1.0).again r rest ((fits.0, refl), fits.1.1);
}

-- the last field, and the value that all of them make
pub last_field : {A R : Type 0} {P : A → Type 0} {text : A → List ℕ} {first : Reader A} {C : R → Type 0} (f : R → A)
    (make : A → R) → IsCodec P text first → ((a : A) → P a → C (make a) × (f (make a) ≡ a))
    → ((r : R) → C r → P (f r) → make (f r) ≡ r)
    → IsCodec (λ r. C r × P (f r)) (λ r. text (f r)) (and_then first (λ a. done (make a)))
unfolding and_then
last_field {P = P} {text = text} {first = first} {C = C} f make codec made same = record {
  takes = λ octets r rest small e.
      let b = bind_some (first octets) (λ a. done (make a.0) a.1) (r, rest) e in
      let t = codec.takes octets b.0.0 b.0.1 small b.1 in
      let is = some_is (make b.0.0, b.0.1) (r, rest) b.2 in
      let value_is : make b.0.0 ≡ r = ap (λ p. p.0) is in
      let rest_is : b.0.1 ≡ rest = ap (λ p. p.1) is in
      let part_is : f r ≡ b.0.0 = ap f (sym value_is) ∙ (made b.0.0 t.1).1 in (
        t.0 ∙ ap (λ (left : List ℕ). text b.0.0 ++ left) rest_is ∙ ap (λ a. text a ++ rest) (sym part_is),
        (subst C value_is (made b.0.0 t.1).0, subst P (sym part_is) t.1),
      );
  again = λ r rest fits.
      ap (λ o. option_and_then (λ a. done (make a.0) a.1) o) (codec.again (f r) rest fits.1)
      ∙ ap (λ x. Some (x, rest)) (same r fits.0 fits.1);
}

-- a value that passes a test
guarded : {X : Type 0} (test : X → Bool) (found y : X × List ℕ) → tested test found ≡ Some y
    → (test found.0 ≡ true) × (found ≡ y)
guarded {X = X} test found y e = by_case (test found.0) found y e
  where
    by_case : (b : Bool) (x y : X × List ℕ) → cond b (some x) None ≡ Some y → (b ≡ true) × (x ≡ y)
    by_case true x y e = (refl, cc)
    by_case false x y e = absurd cc

pub such_codec : {X : Type 0} {P : X → Type 0} {text : X → List ℕ} {reader : Reader X} (test : X → Bool)
    → IsCodec P text reader → IsCodec (λ x. P x × (test x ≡ true)) text (such test reader)
unfolding such
such_codec {P = P} {text = text} {reader = reader} test codec = record {
  takes = λ octets x rest small e.
      let b = bind_some (reader octets) (tested test) (x, rest) e in
      let g = guarded test b.0 (x, rest) b.2 in
      let read : reader octets ≡ Some (x, rest) = b.1 ∙ ap some g.1 in
      let t = codec.takes octets x rest small read in
      (t.0, (t.1, ap (λ p. test p.0) (sym g.1) ∙ g.0));
  again = λ x rest fits.
      ap (λ o. option_and_then (tested test) o) (codec.again x rest fits.0)
      ∙ ap (λ b. cond b (some (x, rest)) None) fits.1;
}

-- the same under another wording of the text
pub reworded : {X : Type 0} {P : X → Type 0} {text other : X → List ℕ} {reader : Reader X} → IsCodec P text reader
    → ((x : X) → text x ≡ other x) → IsCodec P other reader
reworded {reader = reader} codec same = record {
  takes = λ octets x rest small e.
      let t = codec.takes octets x rest small e in (t.0 ∙ ap (λ (prefix : List ℕ). prefix ++ rest) (same x), t.1);
  again = λ x rest fits.
      ap (λ (prefix : List ℕ). reader (prefix ++ rest)) (sym (same x)) ∙ codec.again x rest fits;
}

-- ---- octets, flags, and values behind a flag

pub octet_codec : IsCodec (λ n. n < 256) (λ n. n ∷ []) octet_at
octet_codec = record { takes = taken; again = λ n rest fits. refl }
  where
    taken : (octets : List ℕ) (n : ℕ) (rest : List ℕ) → AreOctets octets → octet_at octets ≡ Some (n, rest)
        → (octets ≡ (n ∷ []) ++ rest) × (n < 256)
    taken [] n rest small e = absurd cc
    taken (octet ∷ octets) n rest small e =
        let is = some_is (octet, octets) (n, rest) e in
        let first_is : octet ≡ n = ap (λ p. p.0) is in
        let rest_is : octets ≡ rest = ap (λ p. p.1) is in
        (cc, subst (λ k. k < 256) first_is (small 0))

pub flag_codec : IsCodec (λ b. Unit {0}) flag flag_at
unfolding flag_at
flag_codec = record { takes = taken; again = again_ }
  where
    taken : (octets : List ℕ) (b : Bool) (rest : List ℕ) → AreOctets octets → flag_at octets ≡ Some (b, rest)
        → (octets ≡ flag b ++ rest) × Unit {0}
    taken [] b rest small e = absurd cc
    taken (zero ∷ octets) b rest small e =
        let is = some_is (false, octets) (b, rest) e in
        (ap (λ p. flag p.0 ++ p.1) is, tt)
    taken (suc zero ∷ octets) b rest small e =
        let is = some_is (true, octets) (b, rest) e in
        (ap (λ p. flag p.0 ++ p.1) is, tt)
    taken (suc (suc octet) ∷ octets) b rest small e = absurd cc

    again_ : (b : Bool) (rest : List ℕ) → Unit {0} → flag_at (flag b ++ rest) ≡ Some (b, rest)
    again_ false rest fits = refl
    again_ true rest fits = refl

pub option_codec : {X : Type 0} {P : X → Type 0} {text : X → List ℕ} {reader : Reader X} → IsCodec P text reader
    → IsCodec (λ o. IfSome o P) (optional text) (option_at reader)
unfolding and_then flag_at option_at
option_codec {X = X} {P = P} {text = text} {reader = reader} codec = record { takes = taken; again = again_ }
  where
    taken : (octets : List ℕ) (o : Option X) (rest : List ℕ) → AreOctets octets
        → option_at reader octets ≡ Some (o, rest) → (octets ≡ optional text o ++ rest) × IfSome o P
    taken octets o rest small e =
        let b = bind_some (flag_at octets) (λ a. option_behind reader a.0 a.1) (o, rest) e in
        let t = flag_codec.takes octets b.0.0 b.0.1 small b.1 in
        by_flag octets b.0.0 b.0.1 o rest (octets_behind octets (flag b.0.0) b.0.1 small t.0) t.0 b.2
      where
        by_flag : (octets : List ℕ) (b : Bool) (left : List ℕ) (o : Option X) (rest : List ℕ) → AreOctets left
            → octets ≡ flag b ++ left → option_behind reader b left ≡ Some (o, rest)
            → (octets ≡ optional text o ++ rest) × IfSome o P
        by_flag octets false left o rest small is e =
            let found = some_is (None, left) (o, rest) e in
            let none_is : None ≡ o = ap (λ p. p.0) found in
            let left_is : left ≡ rest = ap (λ p. p.1) found in
            subst (λ (v : Option X). (octets ≡ optional text v ++ rest) × IfSome v P) none_is
            (is ∙ ap (λ (t : List ℕ). 0 ∷ t) left_is, tt)
        by_flag octets true left o rest small is e =
            let b = bind_some (reader left) (λ a. made_some a.0 a.1) (o, rest) e in
            let t = codec.takes left b.0.0 b.0.1 small b.1 in
            let found = some_is (some b.0.0, b.0.1) (o, rest) b.2 in
            let some_is_o : some b.0.0 ≡ o = ap (λ p. p.0) found in
            let left_is : b.0.1 ≡ rest = ap (λ p. p.1) found in
            subst (λ (v : Option X). (octets ≡ optional text v ++ rest) × IfSome v P) some_is_o
            (is ∙ ap (λ (t : List ℕ). 1 ∷ t) (t.0 ∙ ap (λ (u : List ℕ). text b.0.0 ++ u) left_is), t.1)

    again_ : (o : Option X) (rest : List ℕ) → IfSome o P → option_at reader (optional text o ++ rest) ≡ Some (o, rest)
    again_ None rest fits = refl
    again_ (Some x) rest fits = ap (λ r. option_and_then (λ a. made_some a.0 a.1) r) (codec.again x rest fits)

-- ---- octets behind their length, and lists

pub times_codec : {X : Type 0} {P : X → Type 0} {text : X → List ℕ} {reader : Reader X} → IsCodec P text reader
    → (n : ℕ) → IsCodec (λ xs. (length xs ≡ n) × AllByRecursion P xs) (flat_map text) (times n reader)
unfolding and_then
times_codec {X = X} {P = P} {text = text} {reader = reader} codec n = record { takes = taken n; again = again_ n }
  where
    taken : (n : ℕ) (octets : List ℕ) (xs : List X) (rest : List ℕ) → AreOctets octets
        → times n reader octets ≡ Some (xs, rest)
        → (octets ≡ flat_map text xs ++ rest) × ((length xs ≡ n) × AllByRecursion P xs)
    taken zero octets xs rest small e =
        let found = some_is ([], octets) (xs, rest) e in
        let none_is : [] ≡ xs = ap (λ p. p.0) found in
        let rest_is : octets ≡ rest = ap (λ p. p.1) found in
        subst (λ (v : List X). (octets ≡ flat_map text v ++ rest) × ((length v ≡ 0) × AllByRecursion P v)) none_is
        (rest_is, (refl, tt))
    taken (suc n) octets xs rest small e =
        let b = bind_some (reader octets) (λ a. and_then (times n reader) (λ ys. done (a.0 ∷ ys)) a.1) (xs, rest) e in
        let t = codec.takes octets b.0.0 b.0.1 small b.1 in
        let d = bind_some (times n reader b.0.1) (λ a. done (b.0.0 ∷ a.0) a.1) (xs, rest) b.2 in
        let u = taken n b.0.1 d.0.0 d.0.1 (octets_behind octets (text b.0.0) b.0.1 small t.0) d.1 in
        let found = some_is (b.0.0 ∷ d.0.0, d.0.1) (xs, rest) d.2 in
        let all_is : b.0.0 ∷ d.0.0 ≡ xs = ap (λ p. p.0) found in
        let rest_is : d.0.1 ≡ rest = ap (λ p. p.1) found in
        let whole : octets ≡ flat_map text (b.0.0 ∷ d.0.0) ++ rest
        = t.0 ∙ ap (λ (left : List ℕ). text b.0.0 ++ left) (u.0 ∙ ap (λ (left : List ℕ). flat_map text d.0.0 ++ left)
        rest_is)
        ∙ sym (append_assoc (text b.0.0) (flat_map text d.0.0) rest) in
        subst (λ (v : List X). (octets ≡ flat_map text v ++ rest) × ((length v ≡ suc n) × AllByRecursion P v)) all_is
        (whole, (ap suc u.1.0, (t.1, u.1.1)))

    again_ : (n : ℕ) (xs : List X) (rest : List ℕ) → (length xs ≡ n) × AllByRecursion P xs
        → times n reader (flat_map text xs ++ rest) ≡ Some (xs, rest)
    again_ zero [] rest fits = refl
    again_ zero (x ∷ xs) rest fits = absurd cc
    again_ (suc n) [] rest fits = absurd cc
    again_ (suc n) (x ∷ xs) rest fits =
        let len : length xs ≡ n = cc in
        ap (λ (all : List ℕ). option_and_then (λ a. and_then (times n reader) (λ ys. done (a.0 ∷ ys)) a.1) (reader all))
        (append_assoc (text x) (flat_map text xs) rest)
        ∙ ap (λ o. option_and_then (λ a. and_then (times n reader) (λ ys. done (a.0 ∷ ys)) a.1) o)
        (codec.again x (flat_map text xs ++ rest) fits.1.0)
        ∙ ap (λ o. option_and_then (λ a. done (x ∷ a.0) a.1) o) (again_ n xs rest (len, fits.1.1))

-- each of a list has a value that fits it
abbrev pub EachFits : {B X : Type 0} → (B → X → Type 0) → List B → List X → Type 0
EachFits P [] [] = Unit {0}
EachFits P [] (x ∷ xs) = ⊥
EachFits P (b ∷ bs) [] = ⊥
EachFits P (b ∷ bs) (x ∷ xs) = P b x × EachFits P bs xs

pub each_codec : {B X : Type 0} {P : B → X → Type 0} {text : X → List ℕ} {reader : B → Reader X}
    → ((b : B) → IsCodec (P b) text (reader b)) → (bs : List B)
    → IsCodec (EachFits P bs) (flat_map text) (each_at reader bs)
unfolding and_then
each_codec {B = B} {X = X} {P = P} {text = text} {reader = reader} codec bs = record {
  takes = taken bs;
  again =
      again_ bs;
}
  where
    taken : (bs : List B) (octets : List ℕ) (xs : List X) (rest : List ℕ) → AreOctets octets
        → each_at reader bs octets ≡ Some (xs, rest) → (octets ≡ flat_map text xs ++ rest) × EachFits P bs xs
    taken [] octets xs rest small e =
        let found = some_is ([], octets) (xs, rest) e in
        let none_is : [] ≡ xs = ap (λ p. p.0) found in
        let rest_is : octets ≡ rest = ap (λ p. p.1) found in
        subst (λ (v : List X). (octets ≡ flat_map text v ++ rest) × EachFits P [] v) none_is (rest_is, tt)
    taken (b ∷ bs) octets xs rest small e =
        let f = bind_some (reader b octets) (λ a. and_then (each_at reader bs) (λ ys. done (a.0 ∷ ys)) a.1) (
          xs,
          rest,
        ) e in
        let t = (codec b).takes octets f.0.0 f.0.1 small f.1 in
        let d = bind_some (each_at reader bs f.0.1) (λ a. done (f.0.0 ∷ a.0) a.1) (xs, rest) f.2 in
        let u = taken bs f.0.1 d.0.0 d.0.1 (octets_behind octets (text f.0.0) f.0.1 small t.0) d.1 in
        let found = some_is (f.0.0 ∷ d.0.0, d.0.1) (xs, rest) d.2 in
        let all_is : f.0.0 ∷ d.0.0 ≡ xs = ap (λ p. p.0) found in
        let rest_is : d.0.1 ≡ rest = ap (λ p. p.1) found in
        let whole : octets ≡ flat_map text (f.0.0 ∷ d.0.0) ++ rest
        = t.0 ∙ ap (λ (left : List ℕ). text f.0.0 ++ left) (u.0 ∙ ap (λ (left : List ℕ). flat_map text d.0.0 ++ left)
        rest_is)
        ∙ sym (append_assoc (text f.0.0) (flat_map text d.0.0) rest) in
        subst (λ (v : List X). (octets ≡ flat_map text v ++ rest) × EachFits P (b ∷ bs) v) all_is (whole, (t.1, u.1))

    again_ : (bs : List B) (xs : List X) (rest : List ℕ) → EachFits P bs xs
        → each_at reader bs (flat_map text xs ++ rest) ≡ Some (xs, rest)
    again_ [] [] rest fits = refl
    again_ [] (x ∷ xs) rest fits = absurd fits
    again_ (b ∷ bs) [] rest fits = absurd fits
    again_ (b ∷ bs) (x ∷ xs) rest fits =
        ap (λ (all : List ℕ). option_and_then (λ a. and_then (each_at reader bs) (λ ys. done (a.0 ∷ ys)) a.1) (reader
        b all))
        (append_assoc (text x) (flat_map text xs) rest)
        ∙ ap (λ o. option_and_then (λ a. and_then (each_at reader bs) (λ ys. done (a.0 ∷ ys)) a.1) o)
        ((codec b).again x (flat_map text xs ++ rest) fits.0)
        ∙ ap (λ o. option_and_then (λ a. done (x ∷ a.0) a.1) o) (again_ bs xs rest fits.1)

-- what stands behind its length, or behind how many it is
pub counted_codec : {X : Type 0} {P : ℕ → Type 0} {Q : List X → Type 0} {number : ℕ → List ℕ} {more : List X → List ℕ}
    {length_at : Reader ℕ} {reader : ℕ → Reader (List X)} → IsCodec P number length_at
    → ((n : ℕ) → IsCodec (λ xs. (length xs ≡ n) × Q xs) more (reader n))
    → IsCodec (λ xs. P (length xs) × Q xs) (λ xs. number (length xs) ++ more xs) (and_then length_at reader)
counted_codec number items =
    like (field {C = λ xs. Unit {0}} length number (λ n few. like (items n) (λ xs p. ((tt, p.0), p.1)) (λ xs p.
    (p.0.1, p.1))))
    (λ xs p. p.1) (λ xs p. (tt, p))

pub listed_codec : {X : Type 0} {P : X → Type 0} {text : X → List ℕ} {reader : Reader X} → IsCodec P text reader
    → IsCodec (λ xs. (length xs < 256) × AllByRecursion P xs) (listed text) (listed_at reader)
unfolding listed_at
listed_codec codec = counted_codec octet_codec (times_codec codec)

-- ---- what readers give, step by step

pub such_is : {X : Type 0} (test : X → Bool) (reader : Reader X) (octets : List ℕ) (x y : X) (rest : List ℕ)
    → reader octets ≡ Some (x, rest) → test x ≡ true → x ≡ y → such test reader octets ≡ Some (y, rest)
unfolding such
such_is test reader octets x y rest read holds same =
    ap (λ o. option_and_then (tested test) o) read ∙ ap (λ b. cond b (some (x, rest)) None) holds
    ∙ ap (λ v. Some (v, rest)) same

pub such_not : {X : Type 0} (test : X → Bool) (reader : Reader X) (octets : List ℕ) (x : X) (rest : List ℕ)
    → reader octets ≡ Some (x, rest) → test x ≡ false → such test reader octets ≡ None
unfolding such
such_not test reader octets x rest read fails =
    ap (λ o. option_and_then (tested test) o) read ∙ ap (λ b. cond b (some (x, rest)) None) fails

pub listed_is : {X : Type 0} (reader : Reader X) (octets : List ℕ) (n : ℕ) (left : List ℕ) (xs : List X) (rest : List ℕ)
    → octet_at octets ≡ Some (n, left) → times n reader left ≡ Some (xs, rest)
    → listed_at reader octets ≡ Some (xs, rest)
unfolding listed_at and_then
listed_is reader octets n left xs rest first others =
    ap (λ o. option_and_then (λ a. times_of reader a.0 a.1) o) first ∙ others

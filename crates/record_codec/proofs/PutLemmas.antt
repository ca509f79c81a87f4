-- Texts that are put one behind another.
use Rattle.std.proofs.Common.{◌≡◌, ℕ, ◌+◌, ◌<◌, List, ◌∷◌, ◌++◌, length, take, get_or, sym, ap, ◌∙◌, append_assoc}
use Rattle.std.specs.List.{flat_map}
use Rattle.packet_steps.proofs.ListLemmas.{flat_map_more}

pub put_5 : (t0 t1 t2 t3 t4 t5 a b c d e : List ℕ) → t1 ≡ t0 ++ a → t2 ≡ t1 ++ b → t3 ≡ t2 ++ c → t4 ≡ t3 ++ d
    → t5 ≡ t4 ++ e → t5 ≡ t0 ++ (a ++ (b ++ (c ++ (d ++ e))))
put_5 t0 t1 t2 t3 t4 t5 a b c d e e1 e2 e3 e4 e5 = rw (e5, e4, e3, e2, e1) (simp append_assoc)

pub put_6 : (t0 t1 t2 t3 t4 t5 t6 a b c d e f : List ℕ) → t1 ≡ t0 ++ a → t2 ≡ t1 ++ b → t3 ≡ t2 ++ c → t4 ≡ t3 ++ d
    → t5 ≡ t4 ++ e → t6 ≡ t5 ++ f → t6 ≡ t0 ++ (a ++ (b ++ (c ++ (d ++ (e ++ f)))))
put_6 t0 t1 t2 t3 t4 t5 t6 a b c d e f e1 e2 e3 e4 e5 e6 = rw (e6, e5, e4, e3, e2, e1) (simp append_assoc)

pub put_7 : (t0 t1 t2 t3 t4 t5 t6 t7 a b c d e f g : List ℕ) → t1 ≡ t0 ++ a → t2 ≡ t1 ++ b → t3 ≡ t2 ++ c
    → t4 ≡ t3 ++ d → t5 ≡ t4 ++ e → t6 ≡ t5 ++ f → t7 ≡ t6 ++ g
    → t7 ≡ t0 ++ (a ++ (b ++ (c ++ (d ++ (e ++ (f ++ g))))))
put_7 t0 t1 t2 t3 t4 t5 t6 t7 a b c d e f g e1 e2 e3 e4 e5 e6 e7 = rw (e7, e6, e5, e4, e3, e2, e1) (simp append_assoc)

pub put_8 : (t0 t1 t2 t3 t4 t5 t6 t7 t8 a b c d e f g h : List ℕ) → t1 ≡ t0 ++ a → t2 ≡ t1 ++ b → t3 ≡ t2 ++ c
    → t4 ≡ t3 ++ d → t5 ≡ t4 ++ e → t6 ≡ t5 ++ f → t7 ≡ t6 ++ g → t8 ≡ t7 ++ h
    → t8 ≡ t0 ++ (a ++ (b ++ (c ++ (d ++ (e ++ (f ++ (g ++ h)))))))
put_8 t0 t1 t2 t3 t4 t5 t6 t7 t8 a b c d e f g h e1 e2 e3 e4 e5 e6 e7 e8 =
    rw (e8, e7, e6, e5, e4, e3, e2, e1) (simp append_assoc)

-- one text more of a list
pub put_next : {X : Type 0} (text : X → List ℕ) (xs : List X) (i : ℕ) (x : X) (old before new : List ℕ) → i < length xs
    → x ≡ get_or xs i x → before ≡ old ++ flat_map text (take i xs) → new ≡ before ++ text x
    → new ≡ old ++ flat_map text (take (i + 1) xs)
put_next text xs i x old before new lt is so_far e =
    e ∙ ap (λ (t : List ℕ). t ++ text x) so_far ∙ append_assoc old (flat_map text (take i xs)) (text x)
    ∙ ap (λ (t : List ℕ). old ++ t) (sym (flat_map_more text xs i x lt is))

-- the same behind how many they are
pub put_next_listed : {X : Type 0} (text : X → List ℕ) (xs : List X) (i : ℕ) (x : X) (old : List ℕ) (count : ℕ)
    (before new : List ℕ) → i < length xs → x ≡ get_or xs i x → before ≡ old ++ (count ∷ flat_map text (take i xs))
    → new ≡ before ++ text x → new ≡ old ++ (count ∷ flat_map text (take (i + 1) xs))
put_next_listed text xs i x old count before new lt is so_far e =
    e ∙ ap (λ (t : List ℕ). t ++ text x) so_far
    ∙ append_assoc old (count ∷ flat_map text (take i xs)) (text x)
    ∙ ap (λ (t : List ℕ). old ++ (count ∷ t)) (sym (flat_map_more text xs i x lt is))

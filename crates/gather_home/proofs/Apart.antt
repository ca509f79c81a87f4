-- Two values that weigh the same however they are weighed are the same.
use Rattle.std.proofs.Common.{◌≡◌, ℕ, ◌≤◌, Bool, true, false, true≢false, cond, refl, sym, ap, arith}
use Rattle.std.specs.Prelude.{nat_eq, ◌&&◌}
use Rattle.std.proofs.lemmas.Bool.{eq-eqb}
use borrow.Author.Tests.{eqb-true}
use base.Stored.{Coded, Gv, gnil, gnum, gcons}

abbrev pub code_eq : Gv → Gv → Bool
code_eq gnil gnil = true
code_eq gnil (gnum n) = false
code_eq gnil (gcons c d) = false
code_eq (gnum m) gnil = false
code_eq (gnum m) (gnum n) = nat_eq m n
code_eq (gnum m) (gcons c d) = false
code_eq (gcons a b) gnil = false
code_eq (gcons a b) (gnum n) = false
code_eq (gcons a b) (gcons c d) = code_eq a c && code_eq b d

both : (a b : Bool) → (a && b) ≡ true → (a ≡ true) × (b ≡ true)
both true true e = (refl, refl)
both true false e = absurd (true≢false (sym e))
both false true e = absurd (true≢false (sym e))
both false false e = absurd (true≢false (sym e))

code_same : (a b : Gv) → code_eq a b ≡ true → a ≡ b
code_same gnil gnil e = refl
code_same gnil (gnum n) e = absurd (true≢false (sym e))
code_same gnil (gcons c d) e = absurd (true≢false (sym e))
code_same (gnum m) gnil e = absurd (true≢false (sym e))
code_same (gnum m) (gnum n) e = ap gnum (eqb-true m n e)
code_same (gnum m) (gcons c d) e = absurd (true≢false (sym e))
code_same (gcons a b) gnil e = absurd (true≢false (sym e))
code_same (gcons a b) (gnum n) e = absurd (true≢false (sym e))
code_same (gcons a b) (gcons c d) e =
    let parts = both (code_eq a c) (code_eq b d) e in λ i. gcons (code_same a c parts.0 i) (code_same b d parts.1 i)

code_refl : (a : Gv) → code_eq a a ≡ true
code_refl gnil = refl
code_refl (gnum n) = eq-eqb n n refl
code_refl (gcons a b) = λ i. code_refl a i && code_refl b i

module _ {N : Type 0} (coded : Coded N) where
  -- 1 at one value, and 0 at all others
  abbrev pub only : N → N → ℕ
  only a n = cond (code_eq (coded.code a) (coded.code n)) 1 0

  pub only_same : (a : N) → only a a ≡ 1
  only_same a = ap (λ t. cond t 1 0) (code_refl (coded.code a))

  some_same : (a n : N) (t : Bool) → code_eq (coded.code a) (coded.code n) ≡ t → 1 ≤ cond t 1 0 → a ≡ n
  some_same a n true e some = coded.inj a n (code_same (coded.code a) (coded.code n) e)
  some_same a n false e some = absurd (omega arith)

  pub only_one : (a n : N) → 1 ≤ only a n → a ≡ n
  only_one a n some = some_same a n (code_eq (coded.code a) (coded.code n)) refl some

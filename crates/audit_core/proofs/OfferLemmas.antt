-- Sentences by their ranks, and what is kept where something is found of one of them.
use Rattle.std.proofs.Common.{◌≡◌, ℕ, zero, suc, ◌+◌, ◌-◌, ◌<◌, ◌≤◌, nat_lt, if◌then◌else◌, Bool, true, false, IfNone, IfSome, Option, Some, None, refl, sym, ap, ◌∙◌, subst, inl, inr, arith}
use Rattle.std.proofs.lemmas.Bool.{cases_lt, ltb-false, ltb-true}
use Rattle.audit_core.specs.Judged.{BreakOf, Case, IsBroken, Partly, asked_of, offered}
use Rattle.audit_core.specs.Ranks.{number_of, rank_of}
use Rattle.audit_core.specs.declared.sentence.Refutation.{Refutation}
use Rattle.audit_core.specs.declared.sentence.Sentence.{Sentence as Asked}
use Rattle.audit_core.specs.declared.sentence.Sentence.TheVariants as of
use Rattle.audit_core.specs.declared.telling.Break.{Break}

-- the sentence of a rank, and its number
of_rank : ℕ → Asked
of_rank zero = of.Entries
of_rank (suc zero) = of.Answers
of_rank (suc (suc zero)) = of.Outside
of_rank (suc (suc (suc zero))) = of.Numbers
of_rank (suc (suc (suc (suc zero)))) = of.Counts
of_rank (suc (suc (suc (suc (suc zero))))) = of.Gateway
of_rank (suc (suc (suc (suc (suc (suc zero)))))) = of.Effects
of_rank (suc (suc (suc (suc (suc (suc (suc zero))))))) = of.Rows
of_rank (suc (suc (suc (suc (suc (suc (suc (suc zero)))))))) = of.Opens
of_rank (suc (suc (suc (suc (suc (suc (suc (suc (suc zero))))))))) = of.Waits
of_rank _ = of.Order

of_rank_is : (s : Asked) → of_rank (rank_of s) ≡ s
unfolding of_rank
of_rank_is of.Entries = refl
of_rank_is of.Answers = refl
of_rank_is of.Outside = refl
of_rank_is of.Numbers = refl
of_rank_is of.Counts = refl
of_rank_is of.Gateway = refl
of_rank_is of.Effects = refl
of_rank_is of.Rows = refl
of_rank_is of.Opens = refl
of_rank_is of.Waits = refl
of_rank_is of.Order = refl

pub same_rank : (s t : Asked) → rank_of s ≡ rank_of t → s ≡ t
same_rank s t is = sym (of_rank_is s) ∙ ap of_rank is ∙ of_rank_is t

pub rank_most : (s : Asked) → rank_of s ≤ 10
rank_most of.Entries = omega arith
rank_most of.Answers = omega arith
rank_most of.Outside = omega arith
rank_most of.Numbers = omega arith
rank_most of.Counts = omega arith
rank_most of.Gateway = omega arith
rank_most of.Effects = omega arith
rank_most of.Rows = omega arith
rank_most of.Opens = omega arith
rank_most of.Waits = omega arith
rank_most of.Order = omega arith

number_at : ℕ → ℕ
number_at zero = 0
number_at (suc zero) = 1
number_at (suc (suc zero)) = 1
number_at (suc (suc (suc zero))) = 2
number_at (suc (suc (suc (suc zero)))) = 3
number_at (suc (suc (suc (suc (suc zero))))) = 4
number_at (suc (suc (suc (suc (suc (suc zero)))))) = 5
number_at (suc (suc (suc (suc (suc (suc (suc zero))))))) = 5
number_at (suc (suc (suc (suc (suc (suc (suc (suc zero)))))))) = 5
number_at _ = 6

number_is : (s : Asked) → number_of s ≡ number_at (rank_of s)
unfolding number_at
number_is of.Entries = refl
number_is of.Answers = refl
number_is of.Outside = refl
number_is of.Numbers = refl
number_is of.Counts = refl
number_is of.Gateway = refl
number_is of.Effects = refl
number_is of.Rows = refl
number_is of.Opens = refl
number_is of.Waits = refl
number_is of.Order = refl

number_next : (r : ℕ) → number_at r ≤ number_at (suc r)
unfolding number_at
number_next zero = omega arith
number_next (suc zero) = omega arith
number_next (suc (suc zero)) = omega arith
number_next (suc (suc (suc zero))) = omega arith
number_next (suc (suc (suc (suc zero)))) = omega arith
number_next (suc (suc (suc (suc (suc zero))))) = omega arith
number_next (suc (suc (suc (suc (suc (suc zero)))))) = omega arith
number_next (suc (suc (suc (suc (suc (suc (suc zero))))))) = omega arith
number_next (suc (suc (suc (suc (suc (suc (suc (suc zero)))))))) = omega arith
number_next (suc (suc (suc (suc (suc (suc (suc (suc (suc r))))))))) = omega arith

number_rises : (r d : ℕ) → number_at r ≤ number_at (d + r)
number_rises r zero =
    let at : r ≡ zero + r = omega arith in subst (λ k. number_at r ≤ number_at k) at (omega arith)
number_rises r (suc d) =
    let at : suc (d + r) ≡ suc d + r = omega arith in
    subst (λ k. number_at r ≤ number_at k) at (omega (arith, number_rises r d, number_next (d + r)))

-- a sentence of a lesser number goes before
pub goes_before : (s t : Asked) → number_of s < number_of t → rank_of s < rank_of t
goes_before s t low = elim (cases_lt (rank_of s) (rank_of t)) [
  | inl before ↦ before
  | inr past ↦
      let at : rank_of s - rank_of t + rank_of t ≡ rank_of s = omega (arith, past) in
      let rises : number_at (rank_of t) ≤ number_at (rank_of s) =
      subst (λ r. number_at (rank_of t) ≤ number_at r) at (number_rises (rank_of t) (rank_of s - rank_of t)) in
      absurd (omega (arith, low, rises, number_is s, number_is t))
]

module _ (own : Case) (Old New : Asked → Type 0) where
  offer_some : (s : Asked) (broken : Option Refutation) (place : Break) (done : ℕ) (test : Bool)
      → nat_lt (rank_of s) (asked_of broken) ≡ test → rank_of s ≡ done
      → Partly own Old New done broken → (rank_of s < asked_of broken → BreakOf own s place)
      → Partly own Old New (done + 1) (if test then Some (record { sentence = s; place = place }) else broken)
  offer_some s broken place done true is at partly some =
      let low : rank_of s < asked_of broken = ltb-true (rank_of s) (asked_of broken) is in
      record {
        new = λ t less before. partly.new t (omega (arith, less, low)) (omega (arith, less, at));
        old = λ t less past. absurd (omega (arith, less, past, at));
        kept = some low;
      }
  offer_some s broken place done false is at partly some =
      let past : asked_of broken ≤ rank_of s = ltb-false (rank_of s) (asked_of broken) is in
      record {
        new = λ t less before. partly.new t less (omega (arith, less, past, at));
        old = λ t less behind. partly.old t less (omega (arith, behind));
        kept = partly.kept;
      }

  -- the next sentence: what is found of it is a break, and where nothing is it holds
  pub offer_step : (s : Asked) (broken : Option Refutation) (found : Option Break) (done : ℕ) → rank_of s ≡ done
      → Partly own Old New done broken → (rank_of s < asked_of broken → IfSome found (BreakOf own s))
      → (rank_of s < asked_of broken → IfNone found (New s))
      → Partly own Old New (done + 1) (offered broken s found)
  offer_step s broken None done at partly some none = record {
    new = λ t less before. elim (cases_lt (rank_of t) done) [
      | inl first ↦ partly.new t less first
      | inr past ↦
          let is : rank_of s ≡ rank_of t = omega (arith, before, past, at) in
          subst New (same_rank s t is) (none (omega (arith, less, is)))
    ];
    old = λ t less past. partly.old t less (omega (arith, past));
    kept = partly.kept;
  }
  offer_step s broken (Some place) done at partly some none =
      offer_some s broken place done (nat_lt (rank_of s) (asked_of broken)) refl at partly some

  -- one of which nothing is told now
  pub pass_step : (s : Asked) (broken : Option Refutation) (done : ℕ) → rank_of s ≡ done
      → Partly own Old New done broken → (rank_of s < asked_of broken → New s)
      → Partly own Old New (done + 1) broken
  pass_step s broken done at partly holds = offer_step s broken None done at partly (λ low. tt) holds

  -- no more are asked
  pub all_done : (broken : Option Refutation) (done : ℕ) → asked_of broken ≤ done → Partly own Old New done broken
      → Partly own Old New 11 broken
  all_done broken done last partly = record {
    new = λ t less before. partly.new t less (omega (arith, less, last));
    old = λ t less past. absurd (omega (arith, past, rank_most t));
    kept = partly.kept;
  }

  pub begin_with : (broken : Option Refutation) → ((s : Asked) → rank_of s < asked_of broken → Old s)
      → IsBroken own broken → Partly own Old New 0 broken
  begin_with broken holds kept = record {
    new = λ t less before. absurd (omega (arith, before));
    old = λ t less past. holds t less;
    kept = kept;
  }

  pub holds_all : (broken : Option Refutation) → Partly own Old New 11 broken
      → (s : Asked) → rank_of s < asked_of broken → New s
  holds_all broken partly s less = partly.new s less (omega (arith, rank_most s))

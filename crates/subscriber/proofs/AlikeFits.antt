-- Pieces that fit a version are those of its active bearers.
use Rattle.std.proofs.Common.{◌≡◌, ◌≢◌, ℕ, ◌≤◌, ◌==◌, ◌&&◌, nat_eq, Bool, true, List, [], ◌∷◌, length, inl, inr, refl, sym, ap, ◌∙◌, subst, arith, eq-eqb}
use Rattle.std.specs.List.{list_all, list_any}
use Rattle.std.proofs.lemmas.Bool.{eqb-true, false≢true, cases_Bool}
use Rattle.std.proofs.lemmas.List.{length-map}
use Rattle.charging_book.specs.Accounts.{IsNone, AreDistinct}
use Rattle.charging_book.proofs.PartLemmas.{parts_distinct}
use Rattle.packet_steps.specs.Parts.{is_piece_of, has_bearer, all_have_bearers}
use Rattle.packet_steps.proofs.PartLemmas.{both}
use Rattle.gate_model.proofs.Members.{In, of_map, in_map, of_any, in_any, contains_in, in_contains}
use Rattle.gate_model.proofs.BookSteps.{life_in, active_lives, has_of, of_has}
use Rattle.subscriber.proofs.FitPieces.{apart_of, no_more}
use Rattle.subscriber.specs.Alike.{life_of}
use Rattle.subscriber.specs.Charging.{FittingPiecesAreOpen}
use Rattle.subscriber.proofs.PieceLemmas.{lives, lives_are}

-- where different numbers are as many as others, they are all of them
none_of : (m : ℕ) (ns : List ℕ) → ((n : ℕ) → In n ns → n ≢ m) → IsNone m ns
none_of m [] other = tt
none_of m (n ∷ ns) other = (other n (inl refl), none_of m ns (λ k there. other k (inr there)))

all_in : (ns ms : List ℕ) → AreDistinct ns → ((n : ℕ) → In n ns → In n ms) → length ms ≤ length ns → (m : ℕ)
    → In m ms → In m ns
all_in ns ms apart all few m there = elim (cases_Bool (list_any (nat_eq m) ns)) [
  | inl member ↦
      let found = of_any (nat_eq m) ns member in subst (λ n. In n ns) (sym (eqb-true m found.0 found.2)) found.1
  | inr lacks ↦
      let none : IsNone m ns = none_of m ns (λ n n_there same.
      false≢true (sym lacks ∙ in_any (nat_eq m) n ns n_there (eq-eqb m n (sym same)))) in
      let both_in : (n : ℕ) → In n (m ∷ ns) → In n ms = λ n among. elim among [
        | inl here ↦ subst (λ k. In k ms) here there
        | inr behind ↦ all n behind
      ] in
      absurd (omega (arith, few, no_more (m ∷ ns) ms (apart_of (m ∷ ns) (none, apart)) both_in))
]

-- each piece has its bearer
all_of : {X : Type 0} (test : X → Bool) (xs : List X) (x : X) → list_all test xs ≡ true → In x xs → test x ≡ true
all_of test [] x holds there = absurd there
all_of test (y ∷ ys) x holds (inl here) = ap test (sym here) ∙ (both (test y) (list_all test ys) holds).0
all_of test (y ∷ ys) x holds (inr there) = all_of test ys x (both (test y) (list_all test ys) holds).1 there

pub fitting_open : FittingPiecesAreOpen
fitting_open version pieces fits counting =
    let bearers = version.bearers in
    let known = both (length pieces == length bearers) (all_have_bearers bearers pieces) fits in
    let count : length pieces ≡ length bearers = eqb-true (length pieces) (length bearers) known.0 in
    let apart : AreDistinct (lives pieces) = subst AreDistinct (lives_are pieces) (parts_distinct pieces counting) in
    let among : (n : ℕ) → In n (lives pieces) → In n (active_lives bearers) = λ n there.
    let piece = of_map life_of n pieces there in
    let found = of_any (is_piece_of piece.0) bearers
    (all_of (has_bearer bearers) pieces piece.0 known.1 piece.1) in
    let same = both (piece.0.counts.life == found.0.life)
    ((piece.0.counts.ebi == found.0.ebi) && (piece.0.counts.qci == found.0.qos.qci)) found.2 in
    subst (λ k. In k (active_lives bearers)) (sym (eqb-true piece.0.counts.life found.0.life same.0) ∙ piece.2)
    (in_map life_in found.0 bearers found.1) in
    let few : length (active_lives bearers) ≤ length (lives pieces) =
    omega (arith, count, length-map bearers life_in, length-map pieces life_of) in
    λ life. (
      λ there. has_of bearers life (among life (in_contains life (lives pieces) there)),
      λ has. contains_in life (lives pieces)
          (all_in (lives pieces) (active_lives bearers) apart among few life (of_has bearers life has)),
    )

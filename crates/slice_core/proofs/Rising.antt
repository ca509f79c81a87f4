-- Counts of refusals, line after line.
use Rattle.std.proofs.Common.{◌≡◌, ℕ, ◌+◌, ◌*◌, ◌≤◌, List, [], ◌∷◌, ◌++◌, map, Bool, true, false, cond}
use Rattle.std.proofs.Common.{refl, sym, ap, subst, ◌∙◌, arith}
use Rattle.std.specs.List.{count_by}
use Rattle.std.proofs.Math.Nat.{mul-add}
use Rattle.std.proofs.lemmas.List.Sums.{sum_by-append, sum_by-cons}
use Rattle.report_lines.specs.declared.entry.LineEntry.{LineEntry}
use Rattle.report_lines.specs.declared.entry.LineEntry.TheVariants as line
use Rattle.lawful_run.specs.Accepted.{is_refused}
use Rattle.front_core.specs.Tries.{RisesBy, raised_by}
use Rattle.front_core.proofs.Trying.{raised_then}
use Rattle.front_core.specs.Counting.{TookTries}
use Rattle.front_core.specs.declared.taken.OpenEntry.{OpenEntry}
use Rattle.front_core.specs.declared.taken.OpenEntry.TheVariants as entry
use Rattle.front_core.specs.declared.taken.Taken.{Taken}
use Rattle.front_core.specs.declared.took.Took.{Took}
use Rattle.front_core.specs.declared.took.Took.TheVariants as answer
use Rattle.front_core.specs.Entries.{took_of}
use Rattle.front_core.specs.Filled.{took_told}
use Rattle.slice_core.specs.Lines.{Counted, fulls_among, in_among, is_answered, is_full, is_in}

count_by-map : {X Y : Type 0} (p : X → Bool) (q : Y → Bool) (f : X → Y) → ((x : X) → q (f x) ≡ p x) → (xs : List X)
    → count_by q (map f xs) ≡ count_by p xs
count_by-map p q f same [] = refl
count_by-map p q f same (x ∷ xs) =
    let here : cond {A = ℕ} (q (f x)) 1 0 ≡ cond {A = ℕ} (p x) 1 0 = ap (λ b. cond {A = ℕ} b 1 0) (same x) in
    let later = count_by-map p q f same xs in
    let left = sum_by-cons (λ y. cond {A = ℕ} (q y) 1 0) (f x) (map f xs) in
    let right = sum_by-cons (λ y. cond {A = ℕ} (p y) 1 0) x xs in
    omega (arith, here, later, left, right)

-- whether a line was answered Full
abbrev is_so : Took → Bool
is_so (answer.Accepted parked) = false
is_so answer.Full = true
is_so answer.Answered = false

refused_so : (told : LineEntry) → is_so (took_told told) ≡ is_refused told
refused_so (line.N noted) = refl
refused_so (line.C answered) = refl
refused_so (line.P judged) = refl
refused_so (line.F refused) = refl

abbrev pub answer_of : Taken → Took
answer_of taken = took_of taken.open

full_so : (open_ : OpenEntry) → is_so (took_of open_) ≡ is_full open_
full_so (entry.Note text) = refl
full_so (entry.Command slot) = refl
full_so (entry.Packet slot parked) = refl
full_so (entry.Full slot packet) = refl

-- where each entry says what was answered, as many are refusals as lines were answered Full
pub told_so : (told : List LineEntry) (entries : List Taken) → map took_told told ≡ map answer_of entries
    → count_by is_refused told ≡ fulls_among entries
told_so told entries same =
    sym (count_by-map is_refused is_so took_told refused_so told)
    ∙ ap (count_by is_so) same
    ∙ count_by-map (λ (taken : Taken). is_full taken.open) is_so answer_of (λ taken. full_so taken.open) entries

-- whether it was accepted
abbrev is_up : Took → Bool
is_up (answer.Accepted parked) = true
is_up answer.Full = false
is_up answer.Answered = false

answered_so : (told : LineEntry) → is_up (took_told told) ≡ is_answered told
answered_so (line.N noted) = refl
answered_so (line.C answered) = refl
answered_so (line.P judged) = refl
answered_so (line.F refused) = refl

in_so : (open_ : OpenEntry) → is_up (took_of open_) ≡ is_in open_
in_so (entry.Note text) = refl
in_so (entry.Command slot) = refl
in_so (entry.Packet slot parked) = refl
in_so (entry.Full slot packet) = refl

pub told_in : (told : List LineEntry) (entries : List Taken) → map took_told told ≡ map answer_of entries
    → count_by is_answered told ≡ in_among entries
told_in told entries same =
    sym (count_by-map is_answered is_up took_told answered_so told)
    ∙ ap (count_by is_up) same
    ∙ count_by-map (λ (taken : Taken). is_in taken.open) is_up answer_of (λ taken. in_so taken.open) entries

-- no line yet
pub counted_none : (tries fulls : ℕ) → Counted tries 0 0 fulls fulls
counted_none tries fulls = record {
  failed = 0;
  few = omega arith;
  rises = ap (λ n. raised_by n fulls) (let none : 0 ≡ tries * 0 + 0 = omega arith in none);
}

-- one line more
abbrev one : Bool → ℕ
one b = cond {A = ℕ} b 1 0

module _ (tries refused accepted x y z : ℕ) (before : Counted tries refused accepted x y) where
  rises_on : (more all : ℕ) → RisesBy more y z → tries * refused + before.failed + more ≡ all → RisesBy all x z
  rises_on more all rises same =
      rises ∙ ap (raised_by more) before.rises ∙ raised_then (tries * refused + before.failed) more x
      ∙ ap (λ n. raised_by n x) same

  counted_more : (took : Took) → TookTries tries took y z
      → Counted tries (refused + one (is_so took)) (accepted + one (is_up took)) x z
  counted_more answer.Answered is = record {
    failed = before.failed;
    few = subst (λ n. before.failed + n ≤ tries * n) (let e : accepted ≡ accepted + 0 = omega arith in e) before.few;
    rises = rises_on 0 (tries * (refused + 0) + before.failed) is
        (let e : refused ≡ refused + 0 = omega arith in
        let all = ap (λ n. tries * n + before.failed) e in omega (arith, all));
  }
  counted_more (answer.Accepted parked) is = record {
    failed = before.failed + is.0;
    few = omega (arith, before.few, is.1, mul-add tries accepted 1);
    rises = rises_on is.0 (tries * (refused + 0) + (before.failed + is.0)) is.2
        (let e : refused ≡ refused + 0 = omega arith in
        let all = ap (λ n. tries * n + (before.failed + is.0)) e in omega (arith, all));
  }
  counted_more answer.Full is = record {
    failed = before.failed;
    few = subst (λ n. before.failed + n ≤ tries * n) (let e : accepted ≡ accepted + 0 = omega arith in e) before.few;
    rises = rises_on tries (tries * (refused + 1) + before.failed) is (omega (arith, mul-add tries refused 1));
  }

many_more : (p : Taken → Bool) (entries : List Taken) (taken : Taken)
    → count_by p (entries ++ taken ∷ []) ≡ count_by p entries + one (p taken)
many_more p entries taken =
    let both = sum_by-append (λ (t : Taken). one (p t)) entries (taken ∷ []) in omega (arith, both)

pub fulls_rise : (tries : ℕ) (entries : List Taken) (taken : Taken) (x y z : ℕ)
    → Counted tries (fulls_among entries) (in_among entries) x y → TookTries tries (took_of taken.open) y z
    → Counted tries (fulls_among (entries ++ taken ∷ [])) (in_among (entries ++ taken ∷ [])) x z
fulls_rise tries entries taken x y z before tried =
    let full : fulls_among entries + one (is_so (took_of taken.open)) ≡ fulls_among (entries ++ taken ∷ []) =
    ap (λ b. fulls_among entries + one b) (full_so taken.open)
    ∙ sym (many_more (λ (t : Taken). is_full t.open) entries taken) in
    let up : in_among entries + one (is_up (took_of taken.open)) ≡ in_among (entries ++ taken ∷ []) =
    ap (λ b. in_among entries + one b) (in_so taken.open)
    ∙ sym (many_more (λ (t : Taken). is_in t.open) entries taken) in
    subst (λ n. Counted tries n (in_among (entries ++ taken ∷ [])) x z) full
    (subst (λ n. Counted tries (fulls_among entries + one (is_so (took_of taken.open))) n x z) up
    (counted_more tries (fulls_among entries) (in_among entries) x y z before (took_of taken.open) tried))

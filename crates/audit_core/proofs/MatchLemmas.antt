-- Lines matched with entries one after another, and epoch by epoch.
use Rattle.std.proofs.Common.{◌≡◌, ℕ, suc, ◌+◌, ◌↔◌, Bool, true, false, if◌then◌else◌, Option, Some, None, IsSome, IfSome, List, [], ◌∷◌, ◌++◌, length, map, take, drop, refl, sym, ap, subst, ◌∙◌, arith, append_assoc, append-nil}
use Rattle.demux.specs.Trace.{Meaning}
use Rattle.report_lines.specs.declared.entry.LineEntry.{LineEntry}
use Rattle.lawful_run.specs.Answers.{AnswersAll}
use Rattle.lawful_run.specs.LinesTold.{LineTold, lines_told}
use Rattle.audit_core.proofs.LineKinds.{are_answered}
use Rattle.audit_core.specs.Entries.{all_lines, cut}
use Rattle.audit_core.specs.Answering.{answers, matched_all, matched_on, then_all}
use Rattle.audit_core.specs.Holding.{EpochsAnswered, meanings_told}
use Rattle.audit_core.proofs.AnswerLemmas.{answers_true, true_answers}

-- the first lines, and those behind them
pub answers_prefix : (n : ℕ) (made more : List Meaning) (entries : List LineEntry) → AnswersAll n (made ++ more) entries
    → AnswersAll n made (take (length made) entries)
answers_prefix n [] more entries answer = tt
answers_prefix n (now ∷ made) more [] answer = absurd answer
answers_prefix n (now ∷ made) more (entry ∷ entries) answer =
    (answer.0, answers_prefix (n + 1) made more entries answer.1)

pub answers_rest : (n : ℕ) (made more : List Meaning) (entries : List LineEntry) → AnswersAll n (made ++ more) entries
    → AnswersAll (n + length made) more (drop (length made) entries)
answers_rest n [] more entries answer =
    let number : n ≡ n + 0 = omega arith in subst (λ k. AnswersAll k more entries) number answer
answers_rest n (now ∷ made) more [] answer = absurd answer
answers_rest n (now ∷ made) more (entry ∷ entries) answer =
    let number : n + 1 + length made ≡ n + suc (length made) = omega arith in
    subst (λ k. AnswersAll k more (drop (length made) entries)) number
    (answers_rest (n + 1) made more entries answer.1)

pub answers_both : (n : ℕ) (made more : List Meaning) (entries : List LineEntry)
    → AnswersAll n made (take (length made) entries)
    → AnswersAll (n + length made) more (drop (length made) entries)
    → AnswersAll n (made ++ more) entries
answers_both n [] more entries prefix rest =
    let number : n + 0 ≡ n = omega arith in subst (λ k. AnswersAll k more entries) number rest
answers_both n (now ∷ made) more [] prefix rest = absurd prefix
answers_both n (now ∷ made) more (entry ∷ entries) prefix rest =
    let number : n + suc (length made) ≡ n + 1 + length made = omega arith in (
      prefix.0,
      answers_both (n + 1) made more entries prefix.1
          (subst (λ k. AnswersAll k more (drop (length made) entries)) number rest),
    )

-- lines that are answered are matched
matches : (n : ℕ) (before : List LineTold) (made : List Meaning) (entries : List LineEntry)
    → AnswersAll n made (take (length made) entries)
    → matched_on n before made entries ≡ Some (before ++ lines_told made (take (length made) entries))
matches n before [] entries answer = ap (λ lines. Some lines) (sym (append-nil before))
matches n before (now ∷ made) [] answer = absurd answer
matches n before (now ∷ made) (entry ∷ entries) answer =
    let told : LineTold = record { meaning = now; entry = entry } in
    ap (λ test. if test then matched_on (n + 1) (before ++ told ∷ []) made entries else None)
    (answers_true n now entry answer.0)
    ∙ matches (n + 1) (before ++ told ∷ []) made entries answer.1
    ∙ ap (λ lines. Some lines) (append_assoc before (told ∷ []) (lines_told made (take (length made) entries)))

-- and lines that are matched are answered
by_first : (n : ℕ) (before : List LineTold) (now : Meaning) (made : List Meaning) (entry : LineEntry)
    (entries : List LineEntry) (found : List LineTold) (test : Bool) → answers n now entry ≡ test
    → (if test then matched_on (n + 1) (before ++ record { meaning = now; entry = entry } ∷ []) made entries else None)
    ≡ Some found
    → ((matched_on (n + 1) (before ++ record { meaning = now; entry = entry } ∷ []) made entries ≡ Some found)
    → AnswersAll (n + 1) made (take (length made) entries))
    → AnswersAll n (now ∷ made) (entry ∷ take (length made) entries)
by_first n before now made entry entries found true is same later = (true_answers n now entry is, later same)
by_first n before now made entry entries found false is same later = absurd (nothing same)
  where
    nothing : None ≡ Some found → ⊥
    nothing none = cc

are_matched : (n : ℕ) (before : List LineTold) (made : List Meaning) (entries : List LineEntry) (found : List LineTold)
    → matched_on n before made entries ≡ Some found → AnswersAll n made (take (length made) entries)
are_matched n before [] entries found is = tt
are_matched n before (now ∷ made) [] found is = absurd (nothing is)
  where
    nothing : None ≡ Some found → ⊥
    nothing none = cc
are_matched n before (now ∷ made) (entry ∷ entries) found is =
    by_first n before now made entry entries found (answers n now entry) refl is
    (are_matched (n + 1) (before ++ record { meaning = now; entry = entry } ∷ []) made entries found)

-- the same of epochs
pub all_match : (n : ℕ) (before : List (List LineTold)) (epochs : List (List Meaning)) (entries : List LineEntry)
    → AnswersAll n (all_lines epochs) entries
    → matched_all n before epochs entries ≡ Some (before ++ cut epochs entries)
all_match n before [] [] answer = ap (λ told. Some told) (sym (append-nil before))
all_match n before [] (entry ∷ entries) answer = absurd answer
all_match n before (made ∷ epochs) entries answer =
    let lines = lines_told made (take (length made) entries) in
    let left = drop (length made) entries in
    ap (then_all (λ own. matched_all (n + length made) (before ++ own ∷ []) epochs left))
    (matches n [] made entries (answers_prefix n made (all_lines epochs) entries answer))
    ∙ all_match (n + length made) (before ++ lines ∷ []) epochs left
    (answers_rest n made (all_lines epochs) entries answer)
    ∙ ap (λ told. Some told) (append_assoc before (lines ∷ []) (cut epochs left))

by_epoch : (n : ℕ) (before : List (List LineTold)) (made : List Meaning) (epochs : List (List Meaning))
    (entries : List LineEntry) (told : List (List LineTold)) (found : Option (List LineTold))
    → matched_on n [] made entries ≡ found
    → then_all (λ lines. matched_all (n + length made) (before ++ lines ∷ []) epochs (drop (length made) entries)) found
    ≡ Some told
    → ((lines : List LineTold)
    → matched_all (n + length made) (before ++ lines ∷ []) epochs (drop (length made) entries)
    ≡ Some told → AnswersAll (n + length made) (all_lines epochs) (drop (length made) entries))
    → AnswersAll n (all_lines (made ∷ epochs)) entries
by_epoch n before made epochs entries told None is same later = absurd (nothing same)
  where
    nothing : None ≡ Some told → ⊥
    nothing none = cc
by_epoch n before made epochs entries told (Some found) is same later =
    answers_both n made (all_lines epochs) entries (are_matched n [] made entries found is) (later found same)

pub all_answered : (n : ℕ) (before : List (List LineTold)) (epochs : List (List Meaning)) (entries : List LineEntry)
    (told : List (List LineTold)) → matched_all n before epochs entries ≡ Some told
    → AnswersAll n (all_lines epochs) entries
all_answered n before [] [] told is = tt
all_answered n before [] (entry ∷ entries) told is = absurd (nothing is)
  where
    nothing : None ≡ Some told → ⊥
    nothing none = cc
all_answered n before (made ∷ epochs) entries told is =
    by_epoch n before made epochs entries told (matched_on n [] made entries) refl is
    (λ lines. all_answered (n + length made) (before ++ lines ∷ []) epochs (drop (length made) entries) told)

-- what answered lines say
length-told : (n : ℕ) (made : List Meaning) (entries : List LineEntry) → AnswersAll n made entries
    → length (lines_told made entries) ≡ length made
length-told n [] entries answer = refl
length-told n (now ∷ made) [] answer = absurd answer
length-told n (now ∷ made) (entry ∷ entries) answer = ap suc (length-told (n + 1) made entries answer.1)

meanings-told : (n : ℕ) (made : List Meaning) (entries : List LineEntry) → AnswersAll n made entries
    → map (λ (told : LineTold). told.meaning) (lines_told made entries) ≡ made
meanings-told n [] entries answer = refl
meanings-told n (now ∷ made) [] answer = absurd answer
meanings-told n (now ∷ made) (entry ∷ entries) answer =
    ap (λ rest. now ∷ rest) (meanings-told (n + 1) made entries answer.1)

pub cut_answered : (n : ℕ) (epochs : List (List Meaning)) (entries : List LineEntry)
    → AnswersAll n (all_lines epochs) entries → EpochsAnswered n (cut epochs entries)
cut_answered n [] entries answer = tt
cut_answered n (made ∷ epochs) entries answer =
    let prefix = answers_prefix n made (all_lines epochs) entries answer in (
      are_answered n made (take (length made) entries) prefix,
      subst (λ k. EpochsAnswered (n + k) (cut epochs (drop (length made) entries)))
          (sym (length-told n made (take (length made) entries) prefix))
          (cut_answered (n + length made) epochs (drop (length made) entries)
          (answers_rest n made (all_lines epochs) entries answer)),
    )

pub cut_means : (n : ℕ) (epochs : List (List Meaning)) (entries : List LineEntry)
    → AnswersAll n (all_lines epochs) entries → meanings_told (cut epochs entries) ≡ epochs
cut_means n [] entries answer = refl
cut_means n (made ∷ epochs) entries answer =
    (λ i. meanings-told n made (take (length made) entries) (answers_prefix n made (all_lines epochs) entries answer) i
    ∷ cut_means (n + length made) epochs (drop (length made) entries)
    (answers_rest n made (all_lines epochs) entries answer) i)

-- what is found of all epochs: their lines with their entries exactly where each line is answered, and no other
pub record Finds (found : Option (List (List LineTold))) (epochs : List (List Meaning)) (entries : List LineEntry) :
    Type 0 where
  pub holds : IsSome found ↔ AnswersAll 1 (all_lines epochs) entries
  pub told : IfSome found (λ lines. lines ≡ cut epochs entries)
  pub answered : IfSome found (λ lines. EpochsAnswered 1 lines)
  pub meanings : IfSome found (λ lines. meanings_told lines ≡ epochs)

finds_by : (epochs : List (List Meaning)) (entries : List LineEntry) (found : Option (List (List LineTold)))
    → matched_all 1 [] epochs entries ≡ found → Finds found epochs entries
finds_by epochs entries None is = record {
  holds = (λ some. absurd (never some), λ answer. absurd (nothing (sym is ∙ all_match 1 [] epochs entries answer)));
  told = tt;
  answered = tt;
  meanings = tt;
}
  where
    never : false ≡ true → ⊥
    never some = cc

    nothing : None ≡ Some (cut epochs entries) → ⊥
    nothing none = cc
finds_by epochs entries (Some lines) is =
    let answer = all_answered 1 [] epochs entries lines is in
    let both : Some lines ≡ Some (cut epochs entries) = sym is ∙ all_match 1 [] epochs entries answer in
    let same : lines ≡ cut epochs entries = cc in
    record {
      holds = (λ some. answer, λ others. refl);
      told = same;
      answered = subst (EpochsAnswered 1) (sym same) (cut_answered 1 epochs entries answer);
      meanings = ap meanings_told same ∙ cut_means 1 epochs entries answer;
    }

pub finds : (epochs : List (List Meaning)) (entries : List LineEntry) (found : Option (List (List LineTold)))
    → found ≡ matched_all 1 [] epochs entries → Finds found epochs entries
finds epochs entries found is = finds_by epochs entries found (sym is)

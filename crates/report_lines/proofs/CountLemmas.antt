-- What a text counts behind whole lines.
use Rattle.std.proofs.Common.{◌≡◌, ℕ, ◌+◌, ◌<◌, ◌==◌, Bool, true, false, List, [], ◌∷◌, ◌++◌, ◌⊎◌, inl, inr, length, refl, sym, ap, ◌∙◌, arith, append_assoc}
use Rattle.std.specs.List.{onto_first}
use Rattle.std.proofs.lemmas.List.Splits.{slice_split-cons_yes, slice_split-cons_no, length-slice_split}
use Rattle.text_fields.specs.Fields.{pieces}
use Rattle.report_lines.specs.Counts.{counts_of, line_counts, lines_counts, plus}
use Rattle.report_lines.proofs.PlusLemmas.{nothing-plus, plus-assoc, plus-nothing}

abbrev ends_line : ℕ → Bool
ends_line octet = octet == 10

onto_first-append : (octet : ℕ) (first rest : List (List ℕ)) → 0 < length first
    → onto_first octet (first ++ rest) ≡ onto_first octet first ++ rest
onto_first-append octet [] rest some = absurd (omega arith)
onto_first-append octet (piece ∷ first) rest some = refl

-- a newline cuts a text
pub pieces-append : (prefix rest : List ℕ) → pieces 10 (prefix ++ 10 ∷ rest) ≡ pieces 10 prefix ++ pieces 10 rest
pieces-append [] rest = slice_split-cons_yes ends_line 10 rest refl
pieces-append (octet ∷ prefix) rest = by_test (octet == 10) refl (pieces-append prefix rest)
  where
    by_test : (test : Bool) → (octet == 10) ≡ test
        → pieces 10 (prefix ++ 10 ∷ rest) ≡ pieces 10 prefix ++ pieces 10 rest
        → pieces 10 (octet ∷ prefix ++ 10 ∷ rest) ≡ pieces 10 (octet ∷ prefix) ++ pieces 10 rest
    by_test true is behind =
        slice_split-cons_yes ends_line octet (prefix ++ 10 ∷ rest) is
        ∙ ap (λ lines. [] ∷ lines) behind
        ∙ ap (λ lines. lines ++ pieces 10 rest) (sym (slice_split-cons_yes ends_line octet prefix is))
    by_test false is behind =
        slice_split-cons_no ends_line octet (prefix ++ 10 ∷ rest) is
        ∙ ap (onto_first octet) behind
        ∙ onto_first-append octet (pieces 10 prefix) (pieces 10 rest) (omega (arith, length-slice_split ends_line prefix))
        ∙ ap (λ lines. lines ++ pieces 10 rest) (sym (slice_split-cons_no ends_line octet prefix is))

lines_counts-append : (first rest : List (List ℕ))
    → lines_counts (first ++ rest) ≡ plus (lines_counts first) (lines_counts rest)
lines_counts-append [] rest = sym (nothing-plus (lines_counts rest))
lines_counts-append (line ∷ first) rest =
    ap (plus (line_counts line)) (lines_counts-append first rest)
    ∙ sym (plus-assoc (line_counts line) (lines_counts first) (lines_counts rest))

cut_counts : (prefix rest : List ℕ) → counts_of (prefix ++ 10 ∷ rest) ≡ plus (counts_of prefix) (counts_of rest)
cut_counts prefix rest =
    ap lines_counts (pieces-append prefix rest) ∙ lines_counts-append (pieces 10 prefix) (pieces 10 rest)

-- whole lines count beside the text behind them
pub counts_of-append : (prefix rest : List ℕ) → (prefix ≡ []) ⊎ ((lines : List ℕ) × (prefix ≡ lines ++ 10 ∷ []))
    → counts_of (prefix ++ rest) ≡ plus (counts_of prefix) (counts_of rest)
counts_of-append prefix rest (inl none) =
    ap (λ text. counts_of (text ++ rest)) none
    ∙ sym (nothing-plus (counts_of rest))
    ∙ ap (λ text. plus (counts_of text) (counts_of rest)) (sym none)
counts_of-append prefix rest (inr (lines, whole)) =
    ap (λ text. counts_of (text ++ rest)) whole
    ∙ ap counts_of (append_assoc lines (10 ∷ []) rest)
    ∙ cut_counts lines rest
    ∙ ap (λ counts. plus counts (counts_of rest)) (sym (cut_counts lines [] ∙ plus-nothing (counts_of lines)))
    ∙ ap (λ text. plus (counts_of text) (counts_of rest)) (sym whole)

-- Counts while the lines of a text are gone through.
use Rattle.std.proofs.Common.{◌≡◌, ℕ, List, [], ◌∷◌, refl, sym, ap, ◌∙◌}
use Rattle.text_fields.specs.Fields.{pieces}
use Rattle.report_lines.specs.Counts.{Counts, all_held, counts_of, line_counts, lines_counts, plus}
use Rattle.report_lines.proofs.PlusLemmas.{all_held-plus, plus-assoc, plus-nothing}

-- what was counted, with what is left, is what was counted at first with the whole text
abbrev pub SoFar : Counts → Counts → List ℕ → List ℕ → Type 0
SoFar old now text left = (before : Counts) → old ≡ all_held before
    → (so_far : Counts) × (now ≡ all_held so_far) × (plus so_far (counts_of left) ≡ plus before (counts_of text))

pub begins : (old : Counts) (text : List ℕ) → SoFar old old text text
begins old text = λ before is. (before, is, refl)

counts_more : (mid now counted so_far : Counts) (line : List ℕ) → mid ≡ all_held so_far → counted ≡ line_counts line
    → now ≡ all_held (plus mid counted) → now ≡ all_held (plus so_far (line_counts line))
counts_more mid now counted so_far line mid_is counted_is now_is =
    now_is ∙ ap (λ a. all_held (plus a counted)) mid_is ∙ ap (λ b. all_held (plus (all_held so_far) b)) counted_is
    ∙ all_held-plus so_far (line_counts line)

pub goes_on : (old mid now counted : Counts) (text left line rest : List ℕ) → SoFar old mid text left
    → pieces 10 left ≡ line ∷ pieces 10 rest → counted ≡ line_counts line → now ≡ all_held (plus mid counted)
    → SoFar old now text rest
goes_on old mid now counted text left line rest so_far cut counted_is now_is = λ before is.
    let held = so_far before is in (
      plus held.0 (line_counts line),
      counts_more mid now counted held.0 line held.1 counted_is now_is,
      plus-assoc held.0 (line_counts line) (counts_of rest) ∙ ap (λ lines. plus held.0 (lines_counts lines)) (sym cut)
          ∙ held.2,
    )

pub ends : (old mid now counted : Counts) (text left line : List ℕ) → SoFar old mid text left
    → pieces 10 left ≡ line ∷ [] → counted ≡ line_counts line → now ≡ all_held (plus mid counted)
    → (before : Counts) → old ≡ all_held before → now ≡ all_held (plus before (counts_of text))
ends old mid now counted text left line so_far cut counted_is now_is = λ before is.
    let held = so_far before is in
    let last : counts_of left ≡ line_counts line = ap lines_counts cut ∙ plus-nothing (line_counts line) in
    counts_more mid now counted held.0 line held.1 counted_is now_is
    ∙ ap all_held (ap (plus held.0) (sym last) ∙ held.2)

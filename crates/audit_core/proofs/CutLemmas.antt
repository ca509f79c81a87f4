-- What lines mean that are cut into epochs.
use Rattle.std.proofs.Common.{◌≡◌, ℕ, ◌+◌, ◌≤◌, List, [], ◌∷◌, ◌++◌, length, refl, ap, ◌∙◌, arith, append-nil, length-append}
use Rattle.std.proofs.lemmas.Grind.{flat_map-append}
use Rattle.trace_lines.specs.Epochs.{epochs_of}
use Rattle.trace_lines.specs.Line.{Line}
use Rattle.demux.specs.Trace.{Meaning}
use Rattle.lawful_run.specs.Cut.{IsCut, lines_in}
use Rattle.lawful_run.specs.Trace.{epochs_from, meant_epochs, meant_from, own_epoch}
use Rattle.lawful_run.proofs.CutEpochs.{cut_means}
use Rattle.lawful_run.proofs.CutLines.{count_meant, epochs_are, length-meant_from}
use Rattle.audit_core.specs.Entries.{all_lines}

-- what they mean, with what is noted behind them
abbrev pub cut_told : ℕ → List (List Line) → List Line → List Meaning → List (List Meaning)
cut_told slices closed open_ noted =
    meant_epochs slices [] closed ++ own_epoch (meant_from slices (lines_in closed) open_ ++ noted)

pub epochs_mean : (slices : ℕ) (done : List Line) (closed : List (List Line)) (open_ : List Line)
    (noted : List Meaning) → IsCut done closed open_
    → epochs_from slices [] (epochs_of done) noted ≡ cut_told slices closed open_ noted
epochs_mean slices done closed open_ noted cut =
    ap (λ epochs. epochs_from slices [] epochs noted) (epochs_are done closed open_ cut)
    ∙ cut_means slices [] closed open_ noted cut.whole cut.unfinished

pub all_own : (made : List Meaning) → all_lines (own_epoch made) ≡ made
all_own [] = refl
all_own (now ∷ later) = append-nil (now ∷ later)

meant_count : (slices : ℕ) (closed : List (List Line))
    → length (all_lines (meant_epochs slices [] closed)) ≡ length (lines_in closed)
meant_count slices closed = count_meant slices [] closed

pub count_told : (slices : ℕ) (done : List Line) (closed : List (List Line)) (open_ : List Line) (noted : List Meaning)
    → IsCut done closed open_
    → length noted ≤ 1 → length (all_lines (cut_told slices closed open_ noted)) ≤ length done + 1
count_told slices done closed open_ noted cut few =
    let last = meant_from slices (lines_in closed) open_ in
    omega (
      arith,
      few,
      ap length (flat_map-append (λ (made : List Meaning). made) (meant_epochs slices [] closed)
          (own_epoch (last ++ noted))),
      length-append (all_lines (meant_epochs slices [] closed)) (all_lines (own_epoch (last ++ noted))),
      ap length (all_own (last ++ noted)),
      length-append last noted,
      length-meant_from slices (lines_in closed) open_,
      meant_count slices closed,
      ap length cut.parts,
      length-append (lines_in closed) open_,
    )

-- Whole epochs are answered one behind another.
use Rattle.std.proofs.Common.{◌≡◌, true, List, [], ◌∷◌, length, refl, sym, ap, ◌∙◌, subst}
use Rattle.std.proofs.lemmas.List.Elements.{All-head, All-tail}
use Rattle.trace_lines.specs.Line.{Line}
use Rattle.lawful_run.specs.Report.{EpochReport}
use Rattle.lawful_run.specs.Trace.{is_whole}
use Rattle.solo_command.specs.Gateway.{AnswersLines, Gateway}
use Rattle.solo_command.specs.GatewayLaws.{EpochsGoOn, NextEpochGoesOn}
use Rattle.solo_command.specs.Reports.{AnswersEpochs, own_told, reports_of, told_epoch, with_stop}

abbrev ends : List Line → Type 0
ends epoch = is_whole [] epoch ≡ true

pub epochs_then : EpochsGoOn
epochs_then slices [] rest stop old between new [] more whole first second =
    subst (λ (x : Gateway). AnswersEpochs slices rest stop x more new) first second
epochs_then slices [] rest stop old between new (report ∷ reports) more whole first second = absurd first
epochs_then slices (epoch ∷ first) rest stop old between new [] more whole answers second = absurd answers
epochs_then slices (epoch ∷ []) [] stop old between new (report ∷ []) more whole answers second =
    let last : new ≡ answers.0 = second.1 ∙ answers.4 in
    let books : length answers.0.book ≡ length new.book = ap (λ (x : Gateway). length x.book) (sym last) in
    let own : report ≡ told_epoch (length new.book) answers.1 =
    answers.3 ∙ ap (λ n. told_epoch n answers.1) books in
    let noted : more ≡ reports_of (length new.book) (own_told stop) =
    second.0 ∙ ap (λ (x : Gateway). reports_of (length x.book) (own_told stop)) (sym second.1) in
    let all : report ∷ more ≡ told_epoch (length new.book) answers.1 ∷ reports_of (length new.book) (own_told stop) =
    ap (λ (r : EpochReport). r ∷ more) own
    ∙ ap (λ (rs : List EpochReport). told_epoch (length new.book) answers.1 ∷ rs) noted in (
      answers.1,
      subst (λ (x : Gateway). AnswersLines slices epoch old answers.1 x) (sym last) answers.2,
      all ∙ sym (ap (λ b. reports_of (length new.book) (with_stop b answers.1 stop)) (All-head ends epoch [] whole)),
    )
epochs_then slices (epoch ∷ []) (next ∷ rest) stop old between new (report ∷ []) more whole answers second = (
  answers.0,
  answers.1,
  answers.2,
  answers.3,
  subst (λ (x : Gateway). AnswersEpochs slices (next ∷ rest) stop x more new) answers.4 second,
)
epochs_then slices (epoch ∷ []) rest stop old between new (report ∷ other ∷ reports) more whole answers second =
    absurd answers.4
epochs_then slices (epoch ∷ next ∷ first) rest stop old between new (report ∷ reports) more whole answers second = (
  answers.0,
  answers.1,
  answers.2,
  answers.3,
  epochs_then slices (next ∷ first) rest stop answers.0 between new reports more
      (All-tail ends epoch (next ∷ first) whole) answers.4 second,
)

pub epoch_then : NextEpochGoesOn
epoch_then slices [] epoch old between new [] told first next =
    (new, told, subst (λ (x : Gateway). AnswersLines slices epoch x told new) first next, refl, refl)
epoch_then slices [] epoch old between new (report ∷ reports) told first next = absurd first
epoch_then slices (one ∷ first) epoch old between new [] told answers next = absurd answers
epoch_then slices (one ∷ first) epoch old between new (report ∷ reports) told answers next = (
  answers.0,
  answers.1,
  answers.2,
  answers.3,
  epoch_then slices first epoch answers.0 between new reports told answers.4 next,
)

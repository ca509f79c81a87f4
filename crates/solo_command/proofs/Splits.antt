-- The epochs of two parts, and of the first alone.
use Rattle.std.proofs.Common.{◌≡◌, ℕ, ◌+◌, ◌-◌, ◌*◌, ◌^◌, ◌≤◌, Bool, true, All, List, [], ◌∷◌, ◌++◌, length, refl, sym, ap, ◌∙◌, subst, arith, length-append}
use Rattle.std.proofs.lemmas.List.Elements.{All-head, All-tail}
use Rattle.trace_lines.specs.Line.{Line}
use Rattle.lawful_run.specs.Cut.{lines_in}
use Rattle.lawful_run.specs.Report.{EpochReport}
use Rattle.lawful_run.specs.Trace.{is_whole}
use Rattle.solo_command.specs.Gateway.{AnswersLines, Gateway, Told}
use Rattle.solo_command.specs.Reports.{AnswersAll, AnswersEpochs, own_told, reports_of, told_epoch, with_stop}
use Rattle.solo_command.proofs.AnswerLemmas.{lines_then}
use Rattle.solo_command.proofs.Steps.{step}
use Rattle.solo_command.proofs.Gateways.{AreGatewaysOne, LinesAlike, lines_one, more_all}

abbrev pub ends : List Line → Type 0
ends epoch = is_whole [] epoch ≡ true

abbrev pub AreWhole : List (List Line) → Type 0
AreWhole epochs = All ends epochs

-- whole epochs with others behind them
pub record Split (slices : ℕ) (first rest : List (List Line)) (stop : List Told) (old : Gateway)
    (reports : List EpochReport) (new : Gateway) : Type 0 where
  pub before : List EpochReport
  pub behind : List EpochReport
  pub between : Gateway
  pub parts : reports ≡ before ++ behind
  pub answers : AnswersAll slices first old before between
  pub goes_on : AnswersEpochs slices rest stop between behind new

one_epoch : (slices : ℕ) (epoch : List Line) (stop : List Told) (old : Gateway) (reports : List EpochReport)
    (new : Gateway) → is_whole [] epoch ≡ true → AnswersEpochs slices (epoch ∷ []) stop old reports new
    → Split slices (epoch ∷ []) [] stop old reports new
one_epoch slices epoch stop old reports new whole answers = record {
  before = told_epoch (length new.book) answers.0 ∷ [];
  behind = reports_of (length new.book) (own_told stop);
  between = new;
  parts = answers.2 ∙ ap (λ b. reports_of (length new.book) (with_stop b answers.0 stop)) whole;
  answers = (new, answers.0, answers.1, refl, refl);
  goes_on = (refl, refl);
}

pub split : (slices : ℕ) (first rest : List (List Line)) (stop : List Told) (old : Gateway)
    (reports : List EpochReport) (new : Gateway) → AreWhole first
    → AnswersEpochs slices (first ++ rest) stop old reports new → Split slices first rest stop old reports new
split slices [] rest stop old reports new whole answers = record {
  before = [];
  behind = reports;
  between = old;
  parts = refl;
  answers = refl;
  goes_on = answers;
}
split slices (epoch ∷ []) [] stop old reports new whole answers =
    one_epoch slices epoch stop old reports new (All-head ends epoch [] whole) answers
split slices (epoch ∷ []) (next ∷ rest) stop old [] new whole answers = absurd answers
split slices (epoch ∷ []) (next ∷ rest) stop old (report ∷ reports) new whole answers = record {
  before = report ∷ [];
  behind = reports;
  between = answers.0;
  parts = refl;
  answers = (answers.0, answers.1, answers.2, answers.3, refl);
  goes_on = answers.4;
}
split slices (epoch ∷ next ∷ first) rest stop old [] new whole answers = absurd answers
split slices (epoch ∷ next ∷ first) rest stop old (report ∷ reports) new whole answers =
    let others = split slices (next ∷ first) rest stop answers.0 reports new (All-tail ends epoch (next ∷ first) whole) answers.4 in
    record {
      before = report ∷ others.before;
      behind = others.behind;
      between = others.between;
      parts = ap (λ later. report ∷ later) others.parts;
      answers = (answers.0, answers.1, answers.2, answers.3, others.answers);
      goes_on = others.goes_on;
    }

-- ---- alike gateways report whole epochs alike

pub record ReportsAlike (reports reports_too : List EpochReport) (g h : Gateway) (most : ℕ) : Type 0 where
  pub reporting : reports ≡ reports_too
  pub are : AreGatewaysOne g h most

stays_one : (g h next after : Gateway) (most more : ℕ) → most ≤ more → next ≡ g → after ≡ h → AreGatewaysOne g h most
    → AreGatewaysOne next after more
stays_one g h next after most more few first second are =
    subst (λ (x : Gateway). AreGatewaysOne x after more) (sym first)
    (subst (λ (x : Gateway). AreGatewaysOne g x more) (sym second) (record {
      book = are.book;
      many = are.many;
      each = more_all g.subscribers h.subscribers most more few are.each;
    }))

same_epoch : (told told_too : List Told) (book book_too : List (List ℕ)) → told ≡ told_too → book ≡ book_too
    → told_epoch (length book) told ≡ told_epoch (length book_too) told_too
same_epoch told told_too book book_too same same_books =
    ap (told_epoch (length book)) same ∙ ap (λ (b : List (List ℕ)). told_epoch (length b) told_too) same_books

pub all_one : (slices : ℕ) (epochs : List (List Line)) (g h next after : Gateway)
    (reports reports_too : List EpochReport) (most : ℕ) → AreGatewaysOne g h most
    → most + length (lines_in epochs) * step ≤ 2 ^ 61 - 20 → AnswersAll slices epochs g reports next
    → AnswersAll slices epochs h reports_too after
    → ReportsAlike reports reports_too next after (most + length (lines_in epochs) * step)
all_one slices [] g h next after [] [] most are few first second = record {
  reporting = refl;
  are = stays_one g h next after most (most + 0 * step) (omega arith) first second are;
}
all_one slices [] g h next after [] (report ∷ reports_too) most are few first second = absurd second
all_one slices [] g h next after (report ∷ reports) reports_too most are few first second = absurd first
all_one slices (epoch ∷ epochs) g h next after [] reports_too most are few first second = absurd first
all_one slices (epoch ∷ epochs) g h next after (report ∷ reports) [] most are few first second = absurd second
all_one slices (epoch ∷ epochs) g h next after (report ∷ reports) (report_too ∷ reports_too) most are few first second =
    let all : length (lines_in (epoch ∷ epochs)) ≡ length epoch + length (lines_in epochs) =
    length-append epoch (lines_in epochs) in
    let here : LinesAlike first.1 second.1 first.0 second.0 (most + length epoch * step) =
    lines_one slices epoch g h first.0 second.0 first.1 second.1 most are (omega arith) first.2 second.2 in
    let behind : ReportsAlike reports reports_too next after
    (most + length epoch * step + length (lines_in epochs) * step) =
    all_one slices epochs first.0 second.0 next after reports reports_too (most + length epoch * step) here.are
    (omega arith) first.4 second.4 in
    let sum : most + length epoch * step + length (lines_in epochs) * step
    ≡ most + length (lines_in (epoch ∷ epochs)) * step = omega arith in
    record {
      reporting = ap (λ (one : EpochReport). one ∷ reports)
          (first.3 ∙ same_epoch first.1 second.1 first.0.book second.0.book here.telling here.are.book ∙ sym second.3)
          ∙ ap (λ (later : List EpochReport). report_too ∷ later) behind.reporting;
      are = subst (λ n. AreGatewaysOne next after n) sum behind.are;
    }

-- and the epochs behind them with the note of a bad line
same_reports : (told told_too stop : List Told) (whole : Bool) (book book_too : List (List ℕ)) → told ≡ told_too
    → book ≡ book_too → reports_of (length book) (with_stop whole told stop)
    ≡ reports_of (length book_too) (with_stop whole told_too stop)
same_reports told told_too stop whole book book_too same same_books =
    ap (λ (x : List Told). reports_of (length book) (with_stop whole x stop)) same
    ∙ ap (λ (b : List (List ℕ)). reports_of (length b) (with_stop whole told_too stop)) same_books

pub epochs_one : (slices : ℕ) (epochs : List (List Line)) (stop : List Told) (g h next after : Gateway)
    (reports reports_too : List EpochReport) (most : ℕ) → AreGatewaysOne g h most
    → most + length (lines_in epochs) * step ≤ 2 ^ 61 - 20 → AnswersEpochs slices epochs stop g reports next
    → AnswersEpochs slices epochs stop h reports_too after
    → ReportsAlike reports reports_too next after (most + length (lines_in epochs) * step)
epochs_one slices [] stop g h next after reports reports_too most are few first second = record {
  reporting = first.0 ∙ ap (λ (b : List (List ℕ)). reports_of (length b) (own_told stop)) are.book ∙ sym second.0;
  are = stays_one g h next after most (most + 0 * step) (omega arith) first.1 second.1 are;
}
epochs_one slices (epoch ∷ []) stop g h next after reports reports_too most are few first second =
    let all : length (lines_in (epoch ∷ [])) ≡ length epoch + 0 = length-append epoch [] in
    let here : LinesAlike first.0 second.0 next after (most + length epoch * step) =
    lines_one slices epoch g h next after first.0 second.0 most are (omega arith) first.1 second.1 in
    let sum : most + length epoch * step ≡ most + length (lines_in (epoch ∷ [])) * step = omega arith in
    record {
      reporting = first.2
          ∙ same_reports first.0 second.0 stop (is_whole [] epoch) next.book after.book here.telling here.are.book
          ∙ sym second.2;
      are = subst (λ n. AreGatewaysOne next after n) sum here.are;
    }
epochs_one slices (epoch ∷ other ∷ epochs) stop g h next after [] reports_too most are few first second = absurd first
epochs_one slices (epoch ∷ other ∷ epochs) stop g h next after (report ∷ reports) [] most are few first second =
    absurd second
epochs_one slices (epoch ∷ other ∷ epochs) stop g h next after (report ∷ reports) (report_too ∷ reports_too) most are
    few first second =
    let all : length (lines_in (epoch ∷ other ∷ epochs)) ≡ length epoch + length (lines_in (other ∷ epochs)) =
    length-append epoch (lines_in (other ∷ epochs)) in
    let here : LinesAlike first.1 second.1 first.0 second.0 (most + length epoch * step) =
    lines_one slices epoch g h first.0 second.0 first.1 second.1 most are (omega arith) first.2 second.2 in
    let behind : ReportsAlike reports reports_too next after
    (most + length epoch * step + length (lines_in (other ∷ epochs)) * step) =
    epochs_one slices (other ∷ epochs) stop first.0 second.0 next after reports reports_too
    (most + length epoch * step) here.are (omega arith) first.4 second.4 in
    let sum : most + length epoch * step + length (lines_in (other ∷ epochs)) * step
    ≡ most + length (lines_in (epoch ∷ other ∷ epochs)) * step = omega arith in
    record {
      reporting = ap (λ (one : EpochReport). one ∷ reports)
          (first.3 ∙ same_epoch first.1 second.1 first.0.book second.0.book here.telling here.are.book ∙ sym second.3)
          ∙ ap (λ (others : List EpochReport). report_too ∷ others) behind.reporting;
      are = subst (λ n. AreGatewaysOne next after n) sum behind.are;
    }

-- ---- whole epochs are lines, one behind another

pub all_lines : (slices : ℕ) (epochs : List (List Line)) (old new : Gateway) (reports : List EpochReport)
    → AnswersAll slices epochs old reports new
    → (told : List Told) × AnswersLines slices (lines_in epochs) old told new
all_lines slices [] old new [] answers = ([], answers)
all_lines slices [] old new (report ∷ reports) answers = absurd answers
all_lines slices (epoch ∷ epochs) old new [] answers = absurd answers
all_lines slices (epoch ∷ epochs) old new (report ∷ reports) answers =
    let others = all_lines slices epochs answers.0 new reports answers.4 in (
      answers.1 ++ others.0,
      lines_then slices epoch (lines_in epochs) old answers.0 new answers.1 others.0 answers.2 others.1,
    )

-- What stands behind one more epoch.
use Rattle.std.proofs.Common.{◌≡◌, ℕ, ◌+◌, ◌≤◌, ◌^◌, Bool, Option, List, [], ◌∷◌, ◌++◌, count_by, length, sym, ap, subst, ◌∙◌, arith}
use Rattle.trace_lines.specs.Line.{Line}
use Rattle.trace_lines.specs.declared.bad.LineBad.{LineBad}
use Rattle.demux.specs.Trace.{Meaning, book_of}
use Rattle.lawful_run.specs.Accepted.{is_refused}
use Rattle.lawful_run.specs.Cut.{lines_in}
use Rattle.lawful_run.specs.Merging.{behind}
use Rattle.lawful_run.specs.Report.{EpochReport}
use Rattle.lawful_run.specs.Run.{AreEpochRuns, IsEpochRun, behind_all, no_events, told_in}
use Rattle.lawful_run.specs.Setup.{Setup, sliced, slices_of}
use Rattle.lawful_run.specs.Trace.{meant_from}
use Rattle.lawful_run.proofs.BookGrows.{book_grows_all}
use Rattle.lawful_run.proofs.CutLines.{lines_in-push, meant_epochs-push}
use Rattle.lawful_run.proofs.MoreEpochs.{behind_all-push, first_behind-meant, lawful-push, lawful_length}
use Rattle.at_rest.specs.Coming.{AreLater, latest_behind}
use Rattle.at_rest.specs.Rest.{IsBehind, Rest, RepresentsAll}
use Rattle.front_core.specs.Closing.{Closes}
use Rattle.slice_core.specs.Lines.{Counted, is_answered}
use Rattle.trace_run.specs.Entries.{closing_text, lines_text}
use Rattle.trace_run.specs.Noted.{noted}
use Rattle.replay_command.specs.Epoch.{IsReplayed}
use Rattle.slice_core.specs.declared.pace.Pace.{Pace}
use Rattle.replay_command.specs.Standing.{IsLawfulNext, Stands, events_behind, meant_in}

-- what the closing of the next epoch says of it
pub next_so : (setup : Setup) (rest new : Rest) (closed : List (List Line)) (told : List EpochReport)
    (lines : List Line) (entry : EpochReport) → Stands setup rest closed told → Closes rest lines new entry
    → IsLawfulNext setup closed told lines entry
next_so setup rest new closed told lines entry stands closes = λ slots known.
    let before = events_behind setup closed told in
    let book : length new.book ≤ slots =
    omega (arith, known, ap length (closes.is_behind (lines_in closed) stands.behind).book) in
    let counted : rest.lines + 1 ≡ 1 + length (lines_in closed) = omega (arith, stands.behind.count) in
    subst (λ n. IsEpochRun setup slots n before (meant_from (slices_of setup) (lines_in closed) lines) entry) counted
    (subst (λ s. IsEpochRun s slots (rest.lines + 1) before (meant_from (slices_of s) (lines_in closed) lines) entry)
    stands.same (closes.lawful (lines_in closed) before slots stands.behind stands.represents book))

-- it is lawful behind the others, of lines and what else stands in it
pub lawful_more : (setup : Setup) (closed : List (List Line)) (told : List EpochReport) (made : List Meaning)
    (entry : EpochReport) (slots : ℕ) (rest : Rest) → Stands setup rest closed told
    → length (book_of (lines_in closed)) ≤ slots
    → IsEpochRun setup slots (1 + length (lines_in closed)) (events_behind setup closed told) made entry
    → AreEpochRuns setup slots 1 no_events (meant_in setup closed ++ made ∷ []) (told ++ entry ∷ [])
lawful_more setup closed told made entry slots rest stands known is =
    lawful-push setup slots 1 no_events (meant_in setup closed) made told entry (stands.lawful slots known)
    (subst (λ n. IsEpochRun setup slots n (events_behind setup closed told) made entry)
    (sym (first_behind-meant (slices_of setup) 1 [] closed)) is)

-- there are as many reports as epochs
pub many_so : (setup : Setup) (rest : Rest) (closed : List (List Line)) (told : List EpochReport)
    → Stands setup rest closed told → length told ≡ length (meant_in setup closed)
many_so setup rest closed told stands =
    let slots = length (book_of (lines_in closed)) in
    lawful_length setup slots 1 no_events (meant_in setup closed) told (stands.lawful slots (omega arith))

pub stands_more : (setup : Setup) (rest new : Rest) (closed : List (List Line)) (told : List EpochReport)
    (lines : List Line) (entry : EpochReport) → Stands setup rest closed told → Closes rest lines new entry
    → Stands setup new (closed ++ lines ∷ []) (told ++ entry ∷ [])
stands_more setup rest new closed told lines entry stands closes =
    let before = events_behind setup closed told in
    let made = meant_from (slices_of setup) (lines_in closed) lines in
    let pushed = meant_epochs-push (slices_of setup) [] closed lines in
    record {
      represents = subst (RepresentsAll new)
          (ap (λ s. behind before (told_in (meant_from (slices_of s) (lines_in closed) lines) entry)) stands.same
          ∙ sym (behind_all-push no_events (meant_in setup closed) made told entry
          (many_so setup rest closed told stands))
          ∙ ap (λ epochs. behind_all no_events epochs (told ++ entry ∷ [])) (sym pushed))
          (closes.represents (lines_in closed) before stands.behind stands.represents);
      behind = subst (IsBehind new) (sym (lines_in-push closed lines)) (closes.is_behind (lines_in closed) stands.behind);
      same = (λ i. sliced (closes.setup.0 i) (closes.setup.1 i) (closes.setup.2 i)) ∙ stands.same;
      lawful = λ slots known.
          let wide = subst (λ all. length (book_of all) ≤ slots) (lines_in-push closed lines) known in
          subst (λ epochs. AreEpochRuns setup slots 1 no_events epochs (told ++ entry ∷ [])) (sym pushed)
          (lawful_more setup closed told made entry slots rest stands
          (omega (arith, wide, book_grows_all (lines_in closed) lines))
          (next_so setup rest new closed told lines entry stands closes slots wide));
    }

-- ---- an epoch that was run: the gateway is that which was given

pub few_so : (old given : Rest) (lines : List Line) → given ≡ old → old.lines + length lines ≤ 2 ^ 39
    → given.lines + length lines ≤ 2 ^ 39
few_so old given lines same few = omega (arith, few, ap (λ (rest : Rest). rest.lines) same)

pub later_so : (old given : Rest) (lines : List Line) → given ≡ old → AreLater old.latest lines
    → AreLater given.latest lines
later_so old given lines same later = subst (λ (rest : Rest). AreLater rest.latest lines) (sym same) later

pub replayed_so : (old given : Rest) (lines : List Line) (pace : Pace) (bad : Option LineBad) (n : ℕ)
    (places : Bool) (before after : List ℕ) (new : Rest) (told : EpochReport) → given ≡ old
    → Closes given lines new told → new.latest ≡ latest_behind given.latest lines
    → Counted (pace.patience + 1) (count_by is_refused told.lines) (count_by is_answered told.lines) given.fulls new.fulls
    → after ≡ before ++ (lines_text places told.lines ++ lines_text places (noted bad n) ++ closing_text places told)
    → IsReplayed old lines pace bad n places before after new
replayed_so old given lines pace bad n places before after new told same closes latest refusals said =
    record {
      told = told;
      closes = subst (λ rest. Closes rest lines new told) same closes;
      latest = latest ∙ ap (λ (rest : Rest). latest_behind rest.latest lines) same;
      refusals = subst (λ (rest : Rest). Counted (pace.patience + 1) (count_by is_refused told.lines)
          (count_by is_answered told.lines) rest.fulls new.fulls) same refusals;
      said = said;
    }

-- What stands behind one more epoch.
use Rattle.std.proofs.Common.{◌≡◌, ℕ, ◌+◌, ◌≤◌, List, [], ◌∷◌, ◌++◌, length, refl, sym, ap, subst, ◌∙◌, arith}
use Rattle.trace_lines.specs.Line.{Line}
use Rattle.demux.specs.Trace.{Meaning, book_of}
use Rattle.lawful_run.specs.Cut.{lines_in}
use Rattle.lawful_run.specs.Merging.{Histories, behind}
use Rattle.lawful_run.specs.Report.{EpochReport}
use Rattle.lawful_run.specs.Run.{behind_all, no_events, told_in}
use Rattle.lawful_run.specs.Trace.{meant_from}
use Rattle.lawful_run.proofs.CutLines.{lines_in-push, meant_epochs-push}
use Rattle.at_rest.specs.Rest.{IsBehind, Rest, RepresentsAll, bound_at}
use Rattle.epoch_schedule.specs.TurnsTold.{AreWorkers, turns_behind, turns_told}
use Rattle.epoch_schedule.specs.declared.turns.Turns as run
use Rattle.epoch_schedule.specs.declared.turns.Turns.TheVariants as turns
use Rattle.epoch_drive.specs.Driven.{IsDriven}
use Rattle.epoch_drive.specs.Runs.{AreDriven, bounds_behind}
use Rattle.epoch_drive.specs.Lines.{rooms_of}
use Rattle.drive_command.specs.Driven.{Schedule, bounds_all, rooms_in, turns_by_epoch, turns_for, turns_in, turns_past}
use Rattle.drive_command.specs.Standing.{DrivesNext, Stands, events_behind, start_slices, meant_in}
use Rattle.lawful_run.proofs.BookGrows.{book_grows_all}
use Rattle.lawful_run.proofs.MoreEpochs.{behind_all-push, first_behind-meant}
use Rattle.drive_command.proofs.EpochLemmas.{bounds_all-push, driven-push, same_many, told_length, turns_by_epoch-push, turns_left-push}

-- the turns that the code has
told_for : (given : run.Turns) (slices n : ℕ) → turns_told given slices n ≡ turns_for (turns_in given) slices n
told_for (turns.List workers) slices n = refl
told_for (turns.Drawn state per) slices n = refl

past_in : (given : run.Turns) (n : ℕ) → turns_in (turns_behind given n) ≡ turns_past (turns_in given) n
past_in (turns.List workers) n = refl
past_in (turns.Drawn state per) n = refl

-- listed turns stay, so they are of workers still
workers_stay : (given : run.Turns) (slices n : ℕ) → AreWorkers slices given
    → AreWorkers slices (turns_behind given n)
workers_stay (turns.List workers) slices n are = are
workers_stay (turns.Drawn state per) slices n are = tt

pub workers_still : (given later : run.Turns) (rest new : Rest) (lines : List Line) → AreWorkers rest.slices given
    → (new.slices ≡ rest.slices) × (new.room ≡ rest.room) × (new.lane ≡ rest.lane)
    → later ≡ turns_behind given (length lines) → AreWorkers new.slices later
workers_still given later rest new lines are same goes_on =
    subst (λ slices. AreWorkers slices later) (sym same.0)
    (subst (AreWorkers rest.slices) (sym goes_on) (workers_stay given rest.slices (length lines) are))

-- the gateway's rooms are the schedule's
rooms_same : (schedule : Schedule) (rest : Rest) (given : run.Turns) (closed : List (List Line)) (told : List EpochReport)
    → Stands schedule rest given closed told → rooms_of rest ≡ rooms_in schedule
rooms_same schedule rest given closed told stands =
    λ i. record { room = stands.same_room i; lane = stands.same_lane i }

-- what drive_epoch says of the next epoch
abbrev pub IsNext : Rest → Rest → run.Turns → Histories → List Line → List Line → EpochReport → Type 0
IsNext rest new given before prior lines entry = (slots : ℕ) → length new.book ≤ slots
    → IsDriven (rooms_of rest) (bound_at rest) (turns_told given rest.slices (length lines)) slots (rest.lines + 1) before
    (meant_from rest.slices prior lines) entry

pub next_so : (schedule : Schedule) (rest new : Rest) (given : run.Turns) (closed : List (List Line))
    (told : List EpochReport) (lines : List Line) (entry : EpochReport) → Stands schedule rest given closed told
    → IsBehind new (lines_in closed ++ lines)
    → IsNext rest new given (events_behind schedule closed told) (lines_in closed) lines entry
    → DrivesNext schedule rest (turns_in given) closed told lines entry
next_so schedule rest new given closed told lines entry stands after next = λ slots known.
    let book : length new.book ≤ slots = omega (arith, known, ap length after.book) in
    let counted : rest.lines + 1 ≡ 1 + length (lines_in closed) = omega (arith, stands.behind.count) in
    let before = events_behind schedule closed told in
    let n = length lines in
    subst (λ turned. IsDriven (rooms_in schedule) (bound_at rest) turned slots (1 + length (lines_in closed)) before
    (meant_from schedule.slices (lines_in closed) lines) entry) (told_for given schedule.slices n)
    (subst (λ rooms. IsDriven rooms (bound_at rest) (turns_told given schedule.slices n) slots
    (1 + length (lines_in closed)) before (meant_from schedule.slices (lines_in closed) lines) entry)
    (rooms_same schedule rest given closed told stands)
    (subst (λ first. IsDriven (rooms_of rest) (bound_at rest) (turns_told given schedule.slices n) slots first before
    (meant_from schedule.slices (lines_in closed) lines) entry) counted
    (subst (λ slices. IsDriven (rooms_of rest) (bound_at rest) (turns_told given slices n) slots (rest.lines + 1) before
    (meant_from slices (lines_in closed) lines) entry) stands.same_slices (next slots book))))

-- one more epoch, of lines and what else stands in it, is driven behind the others
pub drives_more : (schedule : Schedule) (rest : Rest) (given : run.Turns) (closed : List (List Line)) (told : List EpochReport)
    (made : List Meaning) (last : List (List ℕ)) (entry : EpochReport) (slots : ℕ) → Stands schedule rest given closed told
    → length (book_of (lines_in closed)) ≤ slots
    → IsDriven (rooms_in schedule) (bound_at rest) last slots (1 + length (lines_in closed))
    (events_behind schedule closed told) made entry
    → AreDriven (rooms_in schedule) (start_slices schedule) (turns_by_epoch schedule.turns schedule.slices closed ++ last ∷ []) slots 1
    no_events (meant_in schedule closed ++ made ∷ []) (told ++ entry ∷ [])
drives_more schedule rest given closed told made last entry slots stands known is =
    driven-push (rooms_in schedule) (start_slices schedule) (turns_by_epoch schedule.turns schedule.slices closed) last slots 1 no_events
    (meant_in schedule closed) made told entry (same_many schedule.turns schedule.slices closed) (stands.driven slots known)
    (subst (λ n. IsDriven (rooms_in schedule) (bounds_all (start_slices schedule) (meant_in schedule closed)) last slots n
    (events_behind schedule closed told) made entry) (sym (first_behind-meant schedule.slices 1 [] closed))
    (subst (λ bounds. IsDriven (rooms_in schedule) bounds last slots (1 + length (lines_in closed))
    (events_behind schedule closed told) made entry) (λ i slot. stands.bounds slot i) is))

book_before : (closed : List (List Line)) (lines : List Line) (slots : ℕ)
    → length (book_of (lines_in closed ++ lines)) ≤ slots → length (book_of (lines_in closed)) ≤ slots
book_before closed lines slots known = omega (arith, known, book_grows_all (lines_in closed) lines)

pub stands_more : (schedule : Schedule) (rest new : Rest) (given later : run.Turns) (closed : List (List Line))
    (told : List EpochReport) (lines : List Line) (entry : EpochReport) → Stands schedule rest given closed told
    → DrivesNext schedule rest (turns_in given) closed told lines entry
    → RepresentsAll new (behind (events_behind schedule closed told)
    (told_in (meant_from rest.slices (lines_in closed) lines) entry))
    → IsBehind new (lines_in closed ++ lines)
    → ((slot : ℕ) → bound_at new slot ≡ bounds_behind (bound_at rest) (meant_from rest.slices (lines_in closed) lines) slot)
    → (new.slices ≡ rest.slices) × (new.room ≡ rest.room) × (new.lane ≡ rest.lane)
    → later ≡ turns_behind given (length lines)
    → Stands schedule new later (closed ++ lines ∷ []) (told ++ entry ∷ [])
stands_more schedule rest new given later closed told lines entry stands next represents after bounds setup goes_on =
    let made = meant_from schedule.slices (lines_in closed) lines in
    let pushed = meant_epochs-push schedule.slices [] closed lines in
    let many = told_length (rooms_in schedule) (start_slices schedule) (turns_by_epoch schedule.turns schedule.slices closed)
    (length (book_of (lines_in closed))) 1 no_events (meant_in schedule closed) told
    (stands.driven (length (book_of (lines_in closed))) (omega arith)) in
    record {
      represents = subst (RepresentsAll new)
          (ap (λ slices. behind (events_behind schedule closed told) (told_in (meant_from slices (lines_in closed) lines) entry))
          stands.same_slices
          ∙ sym (behind_all-push no_events (meant_in schedule closed) made told entry many)
          ∙ ap (λ epochs. behind_all no_events epochs (told ++ entry ∷ [])) (sym pushed)) represents;
      behind = subst (IsBehind new) (sym (lines_in-push closed lines)) after;
      bounds = λ slot. bounds slot
          ∙ ap (λ slices. bounds_behind (bound_at rest) (meant_from slices (lines_in closed) lines) slot) stands.same_slices
          ∙ (λ i. bounds_behind (λ s. stands.bounds s i) made slot)
          ∙ ap (λ (f : ℕ → ℕ). f slot) (sym (bounds_all-push (start_slices schedule) (meant_in schedule closed) made))
          ∙ ap (λ epochs. bounds_all (start_slices schedule) epochs slot) (sym pushed);
      same_slices = setup.0 ∙ stands.same_slices;
      same_room = setup.1 ∙ stands.same_room;
      same_lane = setup.2 ∙ stands.same_lane;
      goes_on = ap turns_in goes_on ∙ past_in given (length lines)
          ∙ ap (λ t. turns_past t (length lines)) stands.goes_on
          ∙ sym (turns_left-push schedule.turns closed lines);
      driven = λ slots known.
          let wide = subst (λ all. length (book_of all) ≤ slots) (lines_in-push closed lines) known in
          subst (λ turned. AreDriven (rooms_in schedule) (start_slices schedule) turned slots 1 no_events
          (meant_in schedule (closed ++ lines ∷ [])) (told ++ entry ∷ []))
          (ap (λ t. turns_by_epoch schedule.turns schedule.slices closed ++ turns_for t schedule.slices (length lines) ∷ [])
          stands.goes_on ∙ sym (turns_by_epoch-push schedule.turns schedule.slices closed lines))
          (subst (λ epochs. AreDriven (rooms_in schedule) (start_slices schedule)
          (turns_by_epoch schedule.turns schedule.slices closed ++ turns_for (turns_in given) schedule.slices (length lines) ∷ []) slots 1
          no_events epochs (told ++ entry ∷ [])) (sym pushed)
          (drives_more schedule rest given closed told made (turns_for (turns_in given) schedule.slices (length lines)) entry slots stands
          (book_before closed lines slots wide) (next slots wide)));
    }

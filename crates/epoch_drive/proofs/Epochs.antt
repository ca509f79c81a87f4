-- An epoch of lines, from what each step of the code ensures.
use Rattle.std.proofs.Common.{◌≡◌, ℕ, ◌+◌, ◌≤◌, ◌^◌, List, ◌++◌, map, length, sym, subst, arith, length-append}
use Rattle.trace_lines.specs.Line.{Line}
use Rattle.demux.specs.Trace.{Meaning}
use Rattle.gate_model.specs.Versions.{SessionsKeepTheirSlot}
use Rattle.lawful_run.specs.Merging.{Histories, behind}
use Rattle.lawful_run.specs.Report.{EpochReport}
use Rattle.lawful_run.specs.Run.{told_in}
use Rattle.lawful_run.specs.Trace.{meant_from}
use Rattle.epoch_schedule.specs.Plan as plans
use Rattle.epoch_drive.specs.Driven.{IsDriven}
use Rattle.subscriber.specs.Standing.{SubscriberState}
use Rattle.at_rest.specs.Rest.{AreAtRest, IsBehind, RepresentsAll, Rest, bound_at}
use Rattle.slot_execution.specs.Replaying.{effects_told}
use Rattle.at_rest.specs.Coming.{AreLater, latest_behind}
use Rattle.epoch_drive.specs.Lines.{rooms_of}
use Rattle.at_rest.specs.Meant.{AreStanding}
use Rattle.epoch_drive.specs.Steps.{DoesLines}
use Rattle.slot_execution.specs.Replaying.{rows_told}
use Rattle.epoch_drive.specs.Telling.{DrivenTold, EpochTold, line_told, told_by}
use Rattle.epoch_drive.specs.declared.replays.Replays.{Replays}
use Rattle.epoch_drive.specs.declared.sharing.Share.{Share}
use Rattle.epoch_drive.proofs.Driven.{Drove, events_none, events_told, is_driven}
use Rattle.epoch_drive.proofs.Drives.{no_commands, no_packets}
use Rattle.epoch_drive.proofs.Ends as ends
use Rattle.epoch_drive.proofs.Finals as finals

module _ (rest : Rest) (lines : List Line) (turns : List (List ℕ)) (book_now : List (List ℕ))
    (new : List SubscriberState) (epoch : EpochTold)
    (steps : DoesLines (rooms_of rest) rest.slices (rest.lines + 1) turns rest.book rest.subscribers lines book_now new
    epoch)
    (at_rest : AreAtRest rest.slices rest.lines rest.latest rest.subscribers)
    (later : AreLater rest.latest lines) (few : rest.lines + length lines ≤ 2 ^ 39) where
  abbrev made : List Meaning
  made = steps.made

  abbrev mid : List SubscriberState
  mid = steps.between

  abbrev plan : plans.Plan
  plan = steps.plan

  abbrev shares : List Share
  shares = steps.shares

  abbrev replays : Replays
  replays = steps.replays

  abbrev told : List DrivenTold
  told = epoch.lines.items

  drove : Drove (rooms_of rest) (bound_at rest) turns (rest.lines + 1) made mid new plan shares replays told
  drove = record {
    outs_are = steps.outcomes_are;
    mets_are = steps.mets_are;
    many = steps.many;
    are = steps.are (rest.lines + 1);
    done = steps.done;
    joined = steps.joined;
    no_commands = λ slot past.
        no_commands (length mid) slot (rest.lines + 1) made plan.outcomes past steps.turned.within;
    no_packets = λ slot past.
        no_packets (length mid) slot (rest.lines + 1) made plan.outcomes past steps.turned.within;
  }

  abbrev own_report : EpochReport
  own_report = record {
    lines = map line_told told;
    effects = effects_told replays.effects.items;
    rows = rows_told replays.rows.items;
  }

  told_so : own_report ≡ told_by epoch
  told_so = λ i. record {
    lines = map line_told told;
    effects = effects_told (sym steps.effects i).items;
    rows = rows_told (sym steps.rows i).items;
  }

  standing : (before : Histories) → RepresentsAll rest before → AreStanding mid before
  standing before is = steps.turned.keep before (finals.standing_so rest before is)

  pub driven_so : (prior : List Line) (before : Histories) (slots : ℕ) → IsBehind rest prior
      → RepresentsAll rest before → length book_now ≤ slots
      → IsDriven (rooms_of rest) (bound_at rest) turns slots (rest.lines + 1) before
      (meant_from rest.slices prior lines) (told_by epoch)
  driven_so prior before slots is represents most =
      subst (λ m. IsDriven (rooms_of rest) (bound_at rest) turns slots (rest.lines + 1) before m (told_by epoch))
      (steps.turned.means prior (finals.stand_start rest prior is))
      (subst (IsDriven (rooms_of rest) (bound_at rest) turns slots (rest.lines + 1) before made) told_so
      (is_driven (rooms_of rest) (bound_at rest) turns (rest.lines + 1) before made mid new plan shares replays told
      drove (standing before represents) slots (omega (arith, most, steps.turned.many))))

  did : finals.EachDid mid new shares
  did = ends.did_at rest.slices rest.lines rest.latest mid shares plan lines made plan.outcomes 0
      (steps.turned.rest rest.lines rest.latest at_rest) steps.many (steps.are 0) later steps.turned.moments new replays steps.done

  pub rests_so : SessionsKeepTheirSlot
      → AreAtRest rest.slices (rest.lines + length lines) (latest_behind rest.latest lines) new
  rests_so keeps =
      ends.rests rest.slices rest.lines rest.latest mid shares plan lines made plan.outcomes 0
      (steps.turned.rest rest.lines rest.latest at_rest) steps.many (steps.are 0) later steps.turned.moments new replays steps.done keeps

  pub represents_so : (after : Rest) → after.subscribers ≡ new → after.lines ≡ rest.lines + length lines
      → (prior : List Line) (before : Histories) → IsBehind rest prior → RepresentsAll rest before
      → RepresentsAll after (behind before (told_in (meant_from rest.slices prior lines) (told_by epoch)))
  represents_so after subscribers_are lines_are prior before is represents =
      subst (λ m. RepresentsAll after (behind before (told_in m (told_by epoch))))
      (steps.turned.means prior (finals.stand_start rest prior is))
      (finals.represents_behind mid new before (told_in made (told_by epoch)) shares rest.lines (length lines) after did
      steps.done.many (standing before represents)
      (events_told (rooms_of rest) (bound_at rest) turns (rest.lines + 1) before made mid new plan shares replays told
      drove (standing before represents))
      (events_none (rooms_of rest) (bound_at rest) turns (rest.lines + 1) before made mid new plan shares replays told
      drove (standing before represents))
      represents.few
      (λ slot low. ends.lengths_behind rest.slices rest.lines rest.latest mid shares plan lines made plan.outcomes 0
      (steps.turned.rest rest.lines rest.latest at_rest) steps.many (steps.are 0) later steps.turned.moments new replays steps.done slot (before slot)
      (represents.few slot) (omega (arith, low, steps.many)))
      subscribers_are lines_are)

  pub behind_so : (after : Rest) → after.slices ≡ rest.slices → after.book ≡ book_now → after.subscribers ≡ new
      → after.lines ≡ rest.lines + length lines → (prior : List Line) → IsBehind rest prior
      → IsBehind after (prior ++ lines)
  behind_so after slices_are book_is subscribers_are lines_are prior is =
      finals.behind_so rest.slices rest.lines (length lines) book_now mid new shares (prior ++ lines) after did steps.done.many
      (steps.turned.stand prior (finals.stand_start rest prior is)) slices_are book_is subscribers_are
      (omega (arith, lines_are, is.count, length-append prior lines))

-- What the steps of an epoch make of its lines.
use Rattle.std.specs.Prelude.{◌≡◌, ℕ, ◌+◌, ◌≤◌, ◌^◌, List, length, map}
use Rattle.trace_lines.specs.Line.{Line}
use Rattle.demux.specs.Trace.{Meaning}
use Rattle.lawful_run.specs.Filling.{filled}
use Rattle.epoch_schedule.specs.Schedule.{outcomes}
use Rattle.epoch_schedule.specs.World.{Rooms, start}
use Rattle.epoch_schedule.specs.Plan.{Plan, mets_of}
use Rattle.epoch_drive.specs.Driven.{driven, mets_driven}
use Rattle.subscriber.specs.Standing.{SubscriberState}
use Rattle.at_rest.specs.Rest.{AreAtRest}
use Rattle.epoch_drive.specs.Joins.{mets_at, replies_at}
use Rattle.at_rest.specs.Coming.{AreLater}
use Rattle.at_rest.specs.Meant.{bound_of}
use Rattle.epoch_drive.specs.Turned.{TurnedAll}
use Rattle.epoch_drive.specs.DrivenOpened.{open_entries}
use Rattle.epoch_drive.specs.Opened.{opened}
use Rattle.epoch_drive.specs.Replays.{HaveDone}
use Rattle.epoch_drive.specs.Shares.{AreShares}
use Rattle.epoch_drive.specs.Taken.{AreTaken}
use Rattle.epoch_drive.specs.Telling.{EpochTold, line_told}
use Rattle.epoch_drive.specs.declared.kept.EpochLines.{EpochLines}
use Rattle.epoch_drive.specs.declared.replays.Replays.{Replays}
use Rattle.epoch_drive.specs.declared.sharing.Share.{Share}

-- subscribers at rest, lines that were taken since, and few enough with those before
pub record MayDo (slices count : ℕ) (lines : EpochLines) (book_now : List (List ℕ))
    (subscribers_now : List SubscriberState) : Type 0 where
  pub latest : ℕ
  pub book : List (List ℕ)
  pub subscribers : List SubscriberState
  pub taken : List Line
  pub are : AreTaken slices book subscribers taken lines book_now subscribers_now
  pub at_rest : AreAtRest slices count latest subscribers
  pub later : AreLater latest taken
  pub few : count + length taken ≤ 2 ^ 39

-- The lines are decided, which leaves these subscribers; the plan is that of their schedule; each subscriber does its
-- share, and entries are filled with what is told of it.
pub record DoesLines (rooms : Rooms) (slices first : ℕ) (turns : List (List ℕ)) (book : List (List ℕ))
    (subscribers : List SubscriberState) (lines : List Line) (book_now : List (List ℕ))
    (subscribers_now : List SubscriberState) (epoch : EpochTold) : Type 0 where
  pub made : List Meaning
  pub between : List SubscriberState
  pub plan : Plan
  pub shares : List Share
  pub replays : Replays
  pub turned : TurnedAll slices book subscribers lines made book_now between
  pub outcomes_are : plan.outcomes
      ≡ outcomes rooms (bound_of slices subscribers) start (driven made turns)
  pub mets_are : (slot : ℕ) → mets_of plan slot
      ≡ mets_driven rooms (bound_of slices subscribers) turns made slot
  pub many : length shares ≡ length between
  pub are : (from : ℕ) → AreShares shares between plan (opened from made plan.outcomes)
  pub done : HaveDone between subscribers_now shares replays (length between)
  pub joined : map line_told epoch.lines.items ≡ filled (open_entries first made plan.outcomes)
      (replies_at replays.answers.items) (mets_at replays.answers.items)
  pub effects : epoch.effects ≡ replays.effects
  pub rows : epoch.rows ≡ replays.rows

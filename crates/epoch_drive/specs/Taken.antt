-- The lines of an open epoch, taken one after another, and the gateway that took them.
use Rattle.std.specs.Prelude.{◌≡◌, ℕ, ◌+◌, ◌≤◌, ◌^◌, List, length}
use Rattle.trace_lines.specs.Line.{Line}
use Rattle.demux.specs.Trace.{Meaning}
use Rattle.subscriber.specs.Standing.{SubscriberState}
use Rattle.at_rest.specs.Rest.{AreAtRest, Rest}
use Rattle.epoch_drive.specs.Kept.{AreBounds, AreKept}
use Rattle.at_rest.specs.Coming.{AreLater, latest_behind}
use Rattle.epoch_drive.specs.Turned.{TurnedAll}
use Rattle.epoch_drive.specs.declared.gateway.DrivenGateway.{DrivenGateway}
use Rattle.epoch_drive.specs.declared.kept.EpochLines.{EpochLines}

-- Lines are taken: they leave this book and these subscribers, and what they mean is kept.
pub record AreTaken (slices : ℕ) (book : List (List ℕ)) (subscribers : List SubscriberState) (taken : List Line)
    (lines : EpochLines) (book_now : List (List ℕ)) (subscribers_now : List SubscriberState) : Type 0 where
  pub made : List Meaning
  pub kept_so : AreKept made lines
  pub bounds : AreBounds subscribers lines
  pub turned : TurnedAll slices book subscribers taken made book_now subscribers_now

-- The gateway has the setup and the count of lines of one at rest, whose subscribers are at rest.
pub record IsSetUp (start : Rest) (gateway : DrivenGateway) : Type 0 where
  pub same_slices : gateway.slices ≡ start.slices
  pub same_room : gateway.room ≡ start.room
  pub same_lane : gateway.lane ≡ start.lane
  pub same_lines : gateway.lines ≡ start.lines
  pub some_slices : 1 ≤ start.slices
  pub few_slices : start.slices ≤ 64
  pub at_rest : AreAtRest start.slices start.lines start.latest start.subscribers

-- The gateway is at rest: no epoch is open.
pub record IsResting (rest : Rest) (gateway : DrivenGateway) : Type 0 where
  pub set_up : IsSetUp rest gateway
  pub same_book : gateway.book ≡ rest.book
  pub same_subscribers : gateway.subscribers.items ≡ rest.subscribers
  pub same_latest : gateway.latest ≡ rest.latest
  pub many : length rest.subscribers ≡ length rest.book

-- The gateway was at rest so as the open epoch began, and took these lines.
pub record HasTaken (start : Rest) (taken : List Line) (gateway : DrivenGateway) (lines : EpochLines) : Type 0 where
  pub set_up : IsSetUp start gateway
  pub are : AreTaken start.slices start.book start.subscribers taken lines gateway.book gateway.subscribers.items
  pub latest : gateway.latest ≡ latest_behind start.latest taken

-- no line is earlier than the one before it, and with those before there are at most 2^39
pub record MayCome (start : Rest) (taken : List Line) : Type 0 where
  pub later : AreLater start.latest taken
  pub few : start.lines + length taken ≤ 2 ^ 39

-- the gateway at rest
abbrev pub rest_of : DrivenGateway → Rest
rest_of gateway = record {
  slices = gateway.slices;
  room = gateway.room;
  lane = gateway.lane;
  book = gateway.book;
  subscribers = gateway.subscribers.items;
  lines = gateway.lines;
  latest = gateway.latest;
  fulls = 0;
}

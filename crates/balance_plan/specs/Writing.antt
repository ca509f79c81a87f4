-- How far a trace is written.
use Rattle.std.specs.Prelude.{◌≡◌, ℕ, ◌==◌, ◌<◌, ◌≤◌, ◌^◌, List, get_or, length}
use Rattle.std.specs.List.{count_by}
use Rattle.std.specs.Global.{Vec}
use Rattle.demux.specs.Trace.{book_of, destination_after}
use Rattle.balance_plan.specs.declared.load.Planned.{Planned}
use Rattle.report_lines.specs.declared.entry.Entry.{Entry}
use Rattle.trace_lines.specs.Line.{Line}
use Rattle.balance_plan.specs.Balance.{balance_of}
use Rattle.balance_plan.specs.Packets.{packets_between, packets_on}
use Rattle.balance_plan.specs.Written.{Written, lines_of, text_of}
use Rattle.balance_plan.specs.declared.packets.ToldPackets.{ToldPackets}
use Rattle.balance_plan.specs.declared.writing.Writer.{Writer}

-- the slots of the packets that a report tells on each of its lines
pub record IsTold (told : ToldPackets) : Type 0 where
  pub few : length told.entries.now < 2 ^ 63
  pub each : (n slot : ℕ) (none : Vec ℕ) → n < length told.lines.items
      → count_by (λ s. s == slot) (get_or told.lines.items n none).items
      ≡ packets_on (λ line. line == n) told.entries.now slot

-- how many packets each of the first slots has
pub record AreCounts (counts : List ℕ) (slots since until : ℕ) (entries : List Entry) : Type 0 where
  pub many : length counts ≡ slots
  pub each : (slot : ℕ) → slot < slots → get_or counts slot 0 ≡ packets_between since until entries slot

-- the writer is as it should be, whatever is written
pub record IsWriter (writer : Writer) : Type 0 where
  pub least : 1 ≤ writer.slices
  pub most : writer.slices ≤ 64
  pub places : length writer.bound.items ≡ 65533
  pub below : (slot : ℕ) → slot < 65533 → get_or writer.bound.items slot 0 < writer.slices

-- a planned move is of a slot of the book, to a slice
pub record IsStep (slots slices : ℕ) (step : Planned) : Type 0 where
  pub slot : step.slot < slots
  pub slice : step.slice < slices

-- it stands behind what is written
pub record Stands (writer : Writer) (written : List Written) : Type 0 where
  pub book : writer.book ≡ book_of (lines_of written)
  pub bound : (slot : ℕ) → slot < 65533
      → get_or writer.bound.items slot 0 ≡ destination_after writer.slices slot (lines_of written)
  pub text : writer.text ≡ text_of written

-- and behind these lines of the trace
pub record HasWritten (writer : Writer) (entries : List Entry) (done : List Line) : Type 0 where
  pub stands : Stands writer (balance_of writer.slices writer.most entries done).written
  pub lines : writer.lines ≡ (balance_of writer.slices writer.most entries done).lines
  pub fence : writer.fence ≡ (balance_of writer.slices writer.most entries done).fence

-- The lines of a trace that were taken, by what they mean, cut into epochs.
use Rattle.std.specs.Prelude.{◌≡◌, ℕ, ◌+◌, ◌*◌, ◌-◌, ◌<◌, ◌≤◌, ◌^◌, Bool, true, false, if◌then◌else◌}
use Rattle.std.specs.Prelude.{Option, Some, None, List, [], ◌++◌, length}
use Rattle.trace_lines.specs.Epochs.{octets_in}
use Rattle.trace_lines.specs.Line.{Line}
use Rattle.at_rest.specs.Coming.{AreLater, latest_behind}
use Rattle.at_rest.specs.Meant.{AreStanding, Stand}
use Rattle.at_rest.specs.Rest.{AreAtRest}
use Rattle.lawful_run.specs.Cut.{IsCut, lines_in}
use Rattle.lawful_run.specs.Run.{no_events}
use Rattle.lawful_run.specs.Trace.{epochs_told, meant_epochs, meant_from, stop_noted}
use Rattle.audit_core.specs.Belonging.{ends_from}
use Rattle.audit_core.specs.Entries.{all_lines}
use Rattle.audit_core.specs.Heard.{SaysTrace}
use Rattle.audit_core.specs.Holding.{AreKnown}
use Rattle.audit_core.specs.Kept.{ArePlaced, meanings_in}
use Rattle.audit_core.specs.Setups.{input_with, stop_of}
use Rattle.pc_outside.specs.Texts.{Text}
use Rattle.audit_core.specs.declared.setup.BadAt.{BadAt}
use Rattle.audit_core.specs.declared.trace.Trace.{Trace}

-- whether a trace stopped
abbrev pub has_stopped : Option BadAt → Bool
has_stopped None = false
has_stopped (Some at) = true

-- A line that was taken, unless the trace stopped at it, has an octet at least, and its newline: so twice the lines are
-- few, where octets are.
abbrev pub weight_of : Trace → ℕ
weight_of trace = 2 * length trace.kept.items - (if trace.stopped then 1 else 0)

-- the book and the subscribers are what these lines leave, before any event
pub record LeavesRest (trace : Trace) (slices : ℕ) (lines : List Line) : Type 0 where
  pub same_slices : trace.slices ≡ slices
  pub least : 1 ≤ slices
  pub most : slices ≤ 64
  pub stand : Stand slices trace.book trace.subscribers.items lines
  pub many : length trace.subscribers.items ≡ length trace.book
  pub rest : AreAtRest slices 0 0 trace.subscribers.items
  pub no_event : AreStanding trace.subscribers.items no_events

-- these lines were taken, of whole epochs and of an open one; the trace stops behind them, or not
pub record TakesLines (trace : Trace) (slices : ℕ) (lines : List Line) (stop : Option BadAt) : Type 0 where
  pub leaves : LeavesRest trace slices lines
  pub later : AreLater 0 lines
  pub closed : List (List Line)
  pub open_ : List Line
  pub cut : IsCut lines closed open_
  pub mean : meanings_in trace.octets.items trace.kept.items
      ≡ all_lines (meant_epochs slices [] closed) ++ meant_from slices (lines_in closed) open_
      ++ stop_noted (stop_of stop)
  pub placed : ArePlaced trace.octets.items trace.kept.items
  pub ends : trace.ends.items ≡ ends_from 0 (meant_epochs slices [] closed)
  pub open_lines : trace.open_lines ≡ length open_ + length (stop_noted (stop_of stop))
  pub open_octets : trace.open_octets ≡ octets_in open_
  pub latest : trace.least ≡ latest_behind 0 lines
  pub few : length trace.kept.items < 2 ^ 40

pub record HasTakenTrace (slices : ℕ) (texts : List Text) (trace : Trace) : Type 0 where
  pub lines : List Line
  pub stop : Option BadAt
  pub stopped : trace.stopped ≡ has_stopped stop
  pub says : SaysTrace lines stop trace.least texts
  pub takes : TakesLines trace slices lines stop

-- the end of the lines: what they mean, epoch by epoch
pub record IsClosed (trace : Trace) (slices : ℕ) (lines : List Line) (stop : Option BadAt) : Type 0 where
  pub leaves : LeavesRest trace slices lines
  pub later : AreLater 0 lines
  pub mean : meanings_in trace.octets.items trace.kept.items ≡ all_lines (epochs_told slices (input_with lines stop))
  pub placed : ArePlaced trace.octets.items trace.kept.items
  pub ends : trace.ends.items ≡ ends_from 0 (epochs_told slices (input_with lines stop))
  pub whole : trace.open_lines ≡ 0
  pub known : AreKnown (length trace.subscribers.items) (epochs_told slices (input_with lines stop))
  pub few : length trace.kept.items < 2 ^ 40

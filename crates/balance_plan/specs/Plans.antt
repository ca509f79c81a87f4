-- The moves that are planned at a FENCE.
use Rattle.std.specs.Prelude.{ℕ, List, [], length, map, get_or}
use Rattle.std.specs.List.{range_with_len}
use Rattle.balance_plan.specs.Plan.{plan_of}
use Rattle.balance_plan.specs.declared.load.Load.{Load}
use Rattle.balance_plan.specs.declared.load.Planned.{Planned}
use Rattle.demux.specs.Trace.{book_of, destination_after}
use Rattle.report_lines.specs.declared.entry.Entry.{Entry}
use Rattle.trace_lines.specs.Line.{Line}
use Rattle.trace_lines.specs.Kind as kind
use Rattle.balance_plan.specs.Packets.{packets_between}

-- Behind lines that were written: each slot of their book on its destination, with the packets that the report tells
-- of it between the FENCE before and this one.
abbrev pub load_at : (slices since until : ℕ) → List Entry → List Line → ℕ → Load
load_at slices since until entries before slot = record {
  slot = slot;
  slice = destination_after slices slot before;
  packets = packets_between since until entries slot;
}

abbrev pub loads_at : (slices since until : ℕ) → List Entry → List Line → List Load
loads_at slices since until entries before =
    map (load_at slices since until entries before) (range_with_len 0 (length (book_of before)))

-- the line of a move, at the FENCE's moment
abbrev pub move_line : Line → List (List ℕ) → Planned → Line
move_line fence book step = record {
  number = fence.number;
  moment = fence.moment;
  kind = kind.Move (get_or book step.slot []) step.slice;
}

abbrev pub moves_at : (slices most since until : ℕ) → List Entry → List Line → Line → List Line
moves_at slices most since until entries before fence =
    map (move_line fence (book_of before)) (plan_of slices most (loads_at slices since until entries before))

-- What an export of lines writes, an import gives back.
use Rattle.std.specs.Prelude.{◌≡◌, ℕ, ◌<◌, ◌≤◌, ◌^◌, List, [], ◌∷◌, length}
use Rattle.trace_lines.specs.Input.{input_of}
use Rattle.trace_lines.specs.Line.{Line, IsLine}
use Rattle.pcap_form.specs.Capture.{capture_of, clean, ended, input_capture, stop_of}
use Rattle.pcap_form.specs.Trace.{lines_of}
use Rattle.pcap_form.specs.Export.{export_of, from_first, kept}

-- lines of a trace, none of which comes before the one before it
abbrev pub InOrder : ℕ → List Line → Type 0
InOrder least [] = Unit {0}
InOrder least (line ∷ lines) = IsLine line × (least ≤ line.moment) × InOrder line.moment lines

-- the capture of lines is whole, and its lines are those that were kept, with the first kept moment taken off each
pub record ComesBack (lines : List Line) : Type 0 where
  pub tail : (capture_of (export_of lines)).tail ≡ clean
  pub again : lines_of (capture_of (export_of lines)).records ≡ from_first (kept lines)

-- the capture of a trace, where it is shorter than what is looked at: an import reads it to its end, and its lines are
-- those that were kept, with the first kept moment taken off each
abbrev pub TraceComesBack : List ℕ → Type 0
TraceComesBack octets = length (export_of (input_of octets).lines) < 2 ^ 40
    → (stop_of (export_of (input_of octets).lines) ≡ ended)
    × (lines_of (input_capture (export_of (input_of octets).lines)).records ≡ from_first (kept (input_of octets).lines))

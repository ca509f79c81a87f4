-- How large an open epoch is.
use Rattle.std.specs.Prelude.{◌≡◌, ℕ, ◌+◌, List, length}
use Rattle.trace_lines.specs.Epochs.{octets_in}
use Rattle.trace_lines.specs.Line.{Line}
use Rattle.trace_run.specs.declared.epoch.Size.{Size}

-- where the next line has this number, these lines are open
pub record Counts (size : Size) (number : ℕ) (open_ : List Line) : Type 0 where
  pub lines : size.first + length open_ ≡ number
  pub octets : size.octets ≡ octets_in open_

-- The state file of what lines leave at rest.
use Rattle.std.specs.Prelude.{◌≡◌, ℕ, List, length}
use Rattle.trace_lines.specs.Line.{Line}
use Rattle.at_rest.specs.Coming.{latest_behind}
use Rattle.record_codec.specs.Saved.{FileState, IsFile, all_saved}
use Rattle.solo_command.specs.Gateway.{AnswersLines, Gateway, Told, no_subscribers}

-- this file has what lines leave at rest
pub record IsLeft (slices : ℕ) (lines : List Line) (file : FileState) : Type 0 where
  pub gateway : Gateway
  pub told : List Told
  pub answers : AnswersLines slices lines no_subscribers told gateway
  pub many : length gateway.subscribers ≡ length gateway.book
  pub saved : file.subscribers ≡ all_saved gateway.book gateway.subscribers
  pub count : file.lines ≡ length lines
  pub moment : file.moment ≡ latest_behind 0 lines
  pub kept : IsFile file

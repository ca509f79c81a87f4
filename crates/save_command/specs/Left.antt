-- What lines leave, by the events of each slot.
use Rattle.std.specs.Prelude.{◌≡◌, ℕ, List, [], length}
use Rattle.std.specs.List.{AllByRecursion}
use Rattle.trace_lines.specs.Line.{IsLine, Line}
use Rattle.lawful_run.specs.AnsweredRun.{behind_lines}
use Rattle.lawful_run.specs.Merging.{Histories}
use Rattle.lawful_run.specs.Run.{no_events}
use Rattle.lawful_run.specs.Trace.{meant_from}
use Rattle.at_rest.specs.Coming.{latest_behind}
use Rattle.solo_command.specs.Gateway.{AnswersLines, Told, no_subscribers}
use Rattle.solo_command.specs.Report.{slices}
use Rattle.solo_command.specs.Holding.{Holds, gateway_of}
use Rattle.solo_command.specs.Standing.{Stands, story_of}
use Rattle.save_command.specs.declared.saver.Saver.{Saver}

-- the events of each slot in lines
abbrev pub histories : List Line → Histories
histories lines = behind_lines no_events (meant_from slices [] lines)

-- These lines were taken, and their epochs ended: the gateway represents them, and has what they leave by what its
-- subscribers held.
pub record HasTaken (saver : Saver) (done : List Line) (latest : ℕ) : Type 0 where
  pub stands : Stands saver.solo (story_of done latest (histories done) [])
  pub told : List Told
  pub answers : AnswersLines slices done no_subscribers told (gateway_of saver.solo)
  pub holds : Holds (length done) latest (gateway_of saver.solo)
  pub count : saver.lines ≡ length done
  pub moment : saver.latest ≡ latest
  pub latest_is : latest ≡ latest_behind 0 done
  pub valid : AllByRecursion IsLine done

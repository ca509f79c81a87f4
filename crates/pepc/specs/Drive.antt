-- The schedule that a command line asks for.
use Rattle.std.specs.Prelude.{[]}
use Rattle.command_words.specs.declared.jobs.Lanes.{Lanes}
use Rattle.command_words.specs.declared.turns.AskedTurns as words
use Rattle.command_words.specs.declared.turns.AskedTurns.TheVariants as asked
use Rattle.drive_command.specs.Driven.{Schedule, Turns, drawn, listed}

-- where no turns are asked for, no worker has one
abbrev pub turns_asked : words.AskedTurns → Turns
turns_asked asked.NoTurns = listed []
turns_asked (asked.Listed workers) = listed workers
turns_asked (asked.Drawn seed per) = drawn seed per

abbrev pub schedule_asked : Lanes → words.AskedTurns → Schedule
schedule_asked lanes turns = record {
  slices = lanes.slices;
  room = lanes.room;
  lane = lanes.lane;
  turns = turns_asked turns;
}

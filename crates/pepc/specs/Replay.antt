-- The gateway that a command line asks for.
use Rattle.lawful_run.specs.Setup.{Setup, sliced}
use Rattle.command_words.specs.declared.jobs.Lanes.{Lanes}

abbrev pub setup_asked : Lanes → Setup
setup_asked lanes = sliced lanes.slices lanes.room lanes.lane

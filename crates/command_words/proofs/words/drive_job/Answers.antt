use Rattle.std.proofs.Common.{◌≡◌, ◌∙◌, ℕ, refl, sym, ap, Some, None, option_and_then, option_map, codes, List}
use Rattle.clap.specs.Words.{first_value, found_of}
use Rattle.clap.specs.declared.parser.matches.ArgMatches.{ArgMatches}
use Rattle.command_words.specs.Job.{drive_forms, drive_job, lanes_of, turns_of}
use Rattle.command_words.specs.Options.{Given, has_flag}
use Rattle.command_words.specs.Program.{Gives}
use Rattle.command_words.specs.Turns.{turns_asked}
use Rattle.command_words.specs.declared.jobs.Job.TheVariants as job
use Rattle.command_words.specs.declared.jobs.Lanes.{Lanes}
use Rattle.command_words.specs.declared.turns.AskedTurns.{AskedTurns}
use Rattle.command_words.proofs.Lookups.{flag_is, lanes_are, value_found}
use Rattle.command_words.proofs.words.drive_job.Goals as goal

turns_found : (matches : ArgMatches) (given : List Given) (slices : ℕ) → Gives matches drive_forms given
    → turns_asked slices (first_value (found_of matches) (codes "turns")) (first_value (found_of matches) (codes "seed"))
    (first_value (found_of matches) (codes "per")) ≡ turns_of slices given
turns_found matches given slices gives =
    λ i. turns_asked slices (value_found matches drive_forms given (codes "turns") gives refl refl i)
    (value_found matches drive_forms given (codes "seed") gives refl refl i)
    (value_found matches drive_forms given (codes "per") gives refl refl i)

no_lanes : (given : List Given) → lanes_of given ≡ None → drive_job given ≡ None
no_lanes given none = ap (option_and_then (λ (lanes : Lanes). option_map
    (λ turns. job.Drive lanes turns (has_flag (codes "places") given)) (turns_of lanes.slices given))) none

no_turns : (given : List Given) (lanes : Lanes) → lanes_of given ≡ Some lanes → turns_of lanes.slices given ≡ None
    → drive_job given ≡ None
no_turns given lanes some none = ap (option_and_then (λ (lanes : Lanes). option_map
    (λ turns. job.Drive lanes turns (has_flag (codes "places") given)) (turns_of lanes.slices given))) some
    ∙ ap (option_map (λ turns. job.Drive lanes turns (has_flag (codes "places") given))) none

asked : (given : List Given) (lanes : Lanes) (turns : AskedTurns) → lanes_of given ≡ Some lanes
    → turns_of lanes.slices given ≡ Some turns
    → drive_job given ≡ Some (job.Drive lanes turns (has_flag (codes "places") given))
asked given lanes turns some are = ap (option_and_then (λ (lanes : Lanes). option_map
    (λ turns. job.Drive lanes turns (has_flag (codes "places") given)) (turns_of lanes.slices given))) some
    ∙ ap (option_map (λ turns. job.Drive lanes turns (has_flag (codes "places") given))) are

pub returns-in_default : goal.returns-in_default
returns-in_default c = λ given gives.
    sym (no_lanes given (sym (c.in_default.ensures.found ∙ lanes_are c.args.matches.now drive_forms given gives refl refl refl refl refl refl)))

pub turns-requires-clause-some : goal.turns-requires-clause-some
turns-requires-clause-some c = c.in-Some.ensures.ranges.0

pub turns-requires-clause-few : goal.turns-requires-clause-few
turns-requires-clause-few c = c.in-Some.ensures.ranges.1

pub returns-in_default-2 : goal.returns-in_default-2
returns-in_default-2 c = λ given gives.
    let lanes : lanes_of given ≡ Some c.in-Some.lanes = sym (c.in-Some.ensures.found
    ∙ lanes_are c.args.matches.now drive_forms given gives refl refl refl refl refl refl) in
    let turns : turns_of c.in-Some.lanes.slices given ≡ None =
    sym (turns_found c.args.matches.now given c.in-Some.lanes.slices gives) ∙ sym c.in_ok-turns.ensures ∙ c.in_default-2.is in
    sym (no_turns given c.in-Some.lanes lanes turns)

pub returns : goal.returns
returns c = λ given gives.
    let lanes : lanes_of given ≡ Some c.in-Some.lanes = sym (c.in-Some.ensures.found
    ∙ lanes_are c.args.matches.now drive_forms given gives refl refl refl refl refl refl) in
    let turns : turns_of c.in-Some.lanes.slices given ≡ Some c.in-Some-2.turns =
    sym (turns_found c.args.matches.now given c.in-Some.lanes.slices gives) ∙ sym c.in_ok-turns.ensures ∙ c.in-Some-2.is in
    let places : has_flag (codes "places") given ≡ c.get_flag.result = flag_is c.args.matches.now drive_forms given
    (codes "places") c.get_flag.result gives refl refl refl c.get_flag.ensures.value c.get_flag.ensures.other in
    ap (λ b. Some (job.Drive c.in-Some.lanes c.in-Some-2.turns b)) (sym places)
    ∙ sym (asked given c.in-Some.lanes c.in-Some-2.turns lanes turns)

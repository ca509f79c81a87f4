use Rattle.std.proofs.Common.{◌≡◌, ◌∙◌, Some, None, codes, refl, sym, ap}
use Rattle.command_words.specs.Job.{lanes_of, number_of, replay_forms}
use Rattle.command_words.specs.Options.{has_flag}
use Rattle.command_words.specs.declared.jobs.Job.TheVariants as job
use Rattle.command_words.proofs.Lookups.{flag_is, lanes_are, number_is}
use Rattle.command_words.proofs.words.replay_job.Goals as goal

pub returns-in_err-lanes : goal.returns-in_err-lanes
returns-in_err-lanes c = λ given gives.
    let lanes : lanes_of given ≡ None = sym (sym c.in_err-lanes.was ∙ c.lanes.ensures.found
    ∙ lanes_are c.args.matches.now replay_forms given gives refl refl refl refl refl refl) in
    c.from_residual.ensures ∙ rw lanes refl

pub returns-in_err-patience : goal.returns-in_err-patience
returns-in_err-patience c = λ given gives.
    let lanes : lanes_of given ≡ Some c.in_ok-lanes.lanes = sym (sym c.in_ok-lanes.was ∙ c.lanes.ensures.found
    ∙ lanes_are c.args.matches.now replay_forms given gives refl refl refl refl refl refl) in
    let patience : number_of (codes "patience") 0 1000000 10000 given ≡ None = number_is c.args.matches.now
    replay_forms given (codes "patience") 0 1000000 10000 None gives refl refl
    (sym c.in_err-patience.was ∙ c.small_number.ensures) in
    c.from_residual-in_err-patience.ensures ∙ rw (lanes, patience) refl

pub returns-in_err-linger : goal.returns-in_err-linger
returns-in_err-linger c = λ given gives.
    let lanes : lanes_of given ≡ Some c.in_ok-lanes.lanes = sym (sym c.in_ok-lanes.was ∙ c.lanes.ensures.found
    ∙ lanes_are c.args.matches.now replay_forms given gives refl refl refl refl refl refl) in
    let patience : number_of (codes "patience") 0 1000000 10000 given ≡ Some c.in_ok-patience.patience =
    number_is c.args.matches.now replay_forms given (codes "patience") 0 1000000 10000 _ gives refl refl
    (sym c.in_ok-patience.was ∙ c.small_number.ensures) in
    let linger : number_of (codes "linger") 0 1000000 1000 given ≡ None = number_is c.args.matches.now replay_forms
    given (codes "linger") 0 1000000 1000 None gives refl refl (sym c.in_err-linger.was ∙ c.small_number-2.ensures) in
    c.from_residual-in_err-linger.ensures ∙ rw (lanes, patience, linger) refl

pub returns : goal.returns
returns c = λ given gives.
    let lanes : lanes_of given ≡ Some c.in_ok-lanes.lanes = sym (sym c.in_ok-lanes.was ∙ c.lanes.ensures.found
    ∙ lanes_are c.args.matches.now replay_forms given gives refl refl refl refl refl refl) in
    let patience : number_of (codes "patience") 0 1000000 10000 given ≡ Some c.in_ok-patience.patience =
    number_is c.args.matches.now replay_forms given (codes "patience") 0 1000000 10000 _ gives refl refl
    (sym c.in_ok-patience.was ∙ c.small_number.ensures) in
    let linger : number_of (codes "linger") 0 1000000 1000 given ≡ Some c.in_ok-linger.linger =
    number_is c.args.matches.now replay_forms given (codes "linger") 0 1000000 1000 _ gives refl refl
    (sym c.in_ok-linger.was ∙ c.small_number-2.ensures) in
    let places : has_flag (codes "places") given ≡ c.get_flag.result = flag_is c.args.matches.now replay_forms given
    (codes "places") c.get_flag.result gives refl refl refl c.get_flag.ensures.value c.get_flag.ensures.other in
    rw (lanes, patience, linger) (ap (λ b. Some (job.Replay c.in_ok-lanes.lanes c.in_ok-patience.patience
    c.in_ok-linger.linger b)) (sym places))

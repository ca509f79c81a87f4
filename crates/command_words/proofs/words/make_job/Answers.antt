use Rattle.std.proofs.Common.{◌≡◌, ◌∙◌, refl, sym, ap, Some, None, codes}
use Rattle.command_words.specs.Job.{make_forms, number_of}
use Rattle.command_words.specs.Options.{has_flag}
use Rattle.command_words.specs.declared.jobs.Job.TheVariants as job
use Rattle.command_words.proofs.Lookups.{flag_is, number_is}
use Rattle.command_words.proofs.words.make_job.Goals as goal

pub returns-in_err-seed : goal.returns-in_err-seed
returns-in_err-seed c = λ given gives.
    let seed : number_of (codes "seed") 0 18446744073709551615 1 given ≡ None = number_is c.args.matches.now make_forms
    given (codes "seed") 0 18446744073709551615 1 None gives refl refl (sym c.in_err-seed.was ∙ c.number.ensures) in
    c.from_residual.ensures ∙ rw seed refl

pub returns-in_err-subs : goal.returns-in_err-subs
returns-in_err-subs c = λ given gives.
    let seed : number_of (codes "seed") 0 18446744073709551615 1 given ≡ Some c.in_ok-seed.seed =
    number_is c.args.matches.now make_forms given (codes "seed") 0 18446744073709551615 1 _ gives refl refl
    (sym c.in_ok-seed.was ∙ c.number.ensures) in
    let subs : number_of (codes "subs") 1 65533 10 given ≡ None = number_is c.args.matches.now make_forms given
    (codes "subs") 1 65533 10 None gives refl refl (sym c.in_err-subs.was ∙ c.small_number.ensures) in
    c.from_residual-in_err-subs.ensures ∙ rw (seed, subs) refl

pub returns-in_err-lines : goal.returns-in_err-lines
returns-in_err-lines c = λ given gives.
    let seed : number_of (codes "seed") 0 18446744073709551615 1 given ≡ Some c.in_ok-seed.seed =
    number_is c.args.matches.now make_forms given (codes "seed") 0 18446744073709551615 1 _ gives refl refl
    (sym c.in_ok-seed.was ∙ c.number.ensures) in
    let subs : number_of (codes "subs") 1 65533 10 given ≡ Some c.in_ok-subs.subs =
    number_is c.args.matches.now make_forms given (codes "subs") 1 65533 10 _ gives refl refl (sym c.in_ok-subs.was
    ∙ c.small_number.ensures) in
    let lines : number_of (codes "lines") 0 100000 1000 given ≡ None = number_is c.args.matches.now make_forms given
    (codes "lines") 0 100000 1000 None gives refl refl (sym c.in_err-lines.was ∙ c.small_number-2.ensures) in
    c.from_residual-in_err-lines.ensures ∙ rw (seed, subs, lines) refl

pub returns : goal.returns
returns c = λ given gives.
    let seed : number_of (codes "seed") 0 18446744073709551615 1 given ≡ Some c.in_ok-seed.seed =
    number_is c.args.matches.now make_forms given (codes "seed") 0 18446744073709551615 1 _ gives refl refl
    (sym c.in_ok-seed.was ∙ c.number.ensures) in
    let subs : number_of (codes "subs") 1 65533 10 given ≡ Some c.in_ok-subs.subs =
    number_is c.args.matches.now make_forms given (codes "subs") 1 65533 10 _ gives refl refl (sym c.in_ok-subs.was
    ∙ c.small_number.ensures) in
    let lines : number_of (codes "lines") 0 100000 1000 given ≡ Some c.in_ok-lines.lines =
    number_is c.args.matches.now make_forms given (codes "lines") 0 100000 1000 _ gives refl refl
    (sym c.in_ok-lines.was ∙ c.small_number-2.ensures) in
    let summary : has_flag (codes "summary") given ≡ c.get_flag.result = flag_is c.args.matches.now make_forms given
    (codes "summary") c.get_flag.result gives refl refl refl c.get_flag.ensures.value c.get_flag.ensures.other in
    rw (seed, subs, lines) (ap (λ b. Some (job.Make c.in_ok-seed.seed c.in_ok-subs.subs c.in_ok-lines.lines b))
    (sym summary))

use Rattle.std.proofs.Common.{◌≡◌, ◌∙◌, refl, sym, Some, None, codes}
use Rattle.command_words.specs.Job.{balance_forms, number_of}
use Rattle.command_words.proofs.Lookups.{number_is}
use Rattle.command_words.proofs.words.balance_job.Goals as goal

pub returns-in_err-slices : goal.returns-in_err-slices
returns-in_err-slices c = λ given gives.
    let slices : number_of (codes "slices") 1 64 2 given ≡ None = number_is c.args.matches.now balance_forms given
    (codes "slices") 1 64 2 None gives refl refl (sym c.in_err-slices.was ∙ c.octet_number.ensures) in
    c.from_residual.ensures ∙ rw slices refl

pub returns-in_err-most : goal.returns-in_err-most
returns-in_err-most c = λ given gives.
    let slices : number_of (codes "slices") 1 64 2 given ≡ Some c.in_ok-slices.slices = number_is c.args.matches.now
    balance_forms given (codes "slices") 1 64 2 _ gives refl refl (sym c.in_ok-slices.was ∙ c.octet_number.ensures) in
    let most : number_of (codes "most") 1 16 4 given ≡ None = number_is c.args.matches.now balance_forms given
    (codes "most") 1 16 4 None gives refl refl (sym c.in_err-most.was ∙ c.small_number.ensures) in
    c.from_residual-in_err-most.ensures ∙ rw (slices, most) refl

pub returns : goal.returns
returns c = λ given gives.
    let slices : number_of (codes "slices") 1 64 2 given ≡ Some c.in_ok-slices.slices = number_is c.args.matches.now
    balance_forms given (codes "slices") 1 64 2 _ gives refl refl (sym c.in_ok-slices.was ∙ c.octet_number.ensures) in
    let most : number_of (codes "most") 1 16 4 given ≡ Some c.in_ok-most.most = number_is c.args.matches.now
    balance_forms given (codes "most") 1 16 4 _ gives refl refl (sym c.in_ok-most.was ∙ c.small_number.ensures) in
    rw (slices, most) refl

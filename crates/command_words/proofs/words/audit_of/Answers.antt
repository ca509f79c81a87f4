use Rattle.std.proofs.Common.{◌≡◌, ◌∙◌, true, false, codes, refl}
use Rattle.command_words.specs.Job.{audit_forms}
use Rattle.command_words.specs.Options.{has_flag}
use Rattle.command_words.proofs.Lookups.{flag_is}
use Rattle.command_words.proofs.words.audit_of.Goals as goal

pub returns-then-get_flag : goal.returns-then-get_flag
returns-then-get_flag c = λ given gives.
    let why : has_flag (codes "why") given ≡ c.get_flag-why.result = flag_is c.args.matches.now audit_forms given
    (codes "why") c.get_flag-why.result gives refl refl refl c.get_flag-why.ensures.value c.get_flag-why.ensures.other in
    let along : has_flag (codes "along") given ≡ true = flag_is c.args.matches.now audit_forms given (codes "along")
    c.get_flag.result gives refl refl refl c.get_flag.ensures.value c.get_flag.ensures.other
    ∙ c.if-get_flag.true in
    rw (along, why) refl

pub returns-else-get_flag : goal.returns-else-get_flag
returns-else-get_flag c = λ given gives.
    let why : has_flag (codes "why") given ≡ c.get_flag-why.result = flag_is c.args.matches.now audit_forms given
    (codes "why") c.get_flag-why.result gives refl refl refl c.get_flag-why.ensures.value c.get_flag-why.ensures.other in
    let along : has_flag (codes "along") given ≡ false = flag_is c.args.matches.now audit_forms given (codes "along")
    c.get_flag.result gives refl refl refl c.get_flag.ensures.value c.get_flag.ensures.other
    ∙ c.if-get_flag.false in
    rw (along, why) refl

use Rattle.std.proofs.Common.{◌≡◌, ◌∙◌, true, false, refl, codes}
use Rattle.command_words.specs.Job.{audit_forms}
use Rattle.command_words.specs.Options.{has_flag}
use Rattle.command_words.proofs.Lookups.{flag_is}
use Rattle.command_words.proofs.words.audit_job.Goals as goal

pub returns-then-get_flag : goal.returns-then-get_flag
returns-then-get_flag c = λ given gives.
    let solo : has_flag (codes "solo") given ≡ true = flag_is c.args.matches.now audit_forms given (codes "solo") c.get_flag.result gives refl refl refl c.get_flag.ensures.value c.get_flag.ensures.other ∙ c.if-get_flag.true in
    c.solo_audit.ensures given gives ∙ rw solo refl

pub returns-else-get_flag : goal.returns-else-get_flag
returns-else-get_flag c = λ given gives.
    let solo : has_flag (codes "solo") given ≡ false = flag_is c.args.matches.now audit_forms given (codes "solo") c.get_flag.result gives refl refl refl c.get_flag.ensures.value c.get_flag.ensures.other ∙ c.if-get_flag.false in
    c.lanes_audit.ensures given gives ∙ rw solo refl

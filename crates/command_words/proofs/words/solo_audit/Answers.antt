use Rattle.std.proofs.Common.{◌≡◌, ◌∙◌, false, refl, sym}
use Rattle.command_words.specs.Job.{has_number}
use Rattle.command_words.proofs.words.solo_audit.Goals as goal

pub returns : goal.returns
returns c = λ given gives.
    let none : has_number given ≡ false = sym (c.has_number.ensures given gives) ∙ c.if-has_number.false in
    rw (none, c.audit_of.ensures given gives) refl

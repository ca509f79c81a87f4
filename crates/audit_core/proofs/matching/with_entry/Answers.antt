use Rattle.std.proofs.Common.{refl}
use Rattle.audit_core.proofs.FoundLemmas.{found_first, found_more, found_second}
use Rattle.audit_core.proofs.matching.with_entry.Goals as goal

pub returns-in-None-default : goal.returns-in-None-default
returns-in-None-default c = λ n before own found.
    found_first n before c.args.entry c.args.own found own _ c.in-None-default.is-0 refl refl

pub returns-in-Some-None : goal.returns-in-Some-None
returns-in-Some-None c = λ n before own found.
    found_second n before c.args.entry c.args.own found own _ _ c.in-Some-None.is-0 c.in-Some-None.is-1
    c.in-Some-None.is-0 refl

pub returns-in-Some-Some : goal.returns-in-Some-Some
returns-in-Some-Some c = λ n before own found.
    found_more n before c.args.entry c.args.own found own _ _ _ c.in-Some-Some.is-0 c.in-Some-Some.is-1
    c.in-Some-Some.is-0 c.in-Some-Some.is-1

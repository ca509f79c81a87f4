use Rattle.std.proofs.Common.{◌↔◌, ◌≤◌, true, IsTrue, IfSome, subst}
use Rattle.audit_core.proofs.RestLemmas.{granted}
use Rattle.audit_core.proofs.counts.lies_in.Goals as goal

pub returns-in-Some : goal.returns-in-Some
returns-in-Some c = λ slot now is it.
    let passed = c.args.passed.now in
    subst (λ told. IsTrue c.lies_between.result ↔ IfSome told (λ count.
    (passed.least ≤ count) × (passed.last ≤ count) × (count ≤ passed.most))) (c.in-Some.ensures slot now is it)
    c.lies_between.ensures

pub returns-in-None : goal.returns-in-None
returns-in-None c = λ slot now is it.
    let passed = c.args.passed.now in
    subst (λ told. IsTrue true ↔ IfSome told (λ count.
    (passed.least ≤ count) × (passed.last ≤ count) × (count ≤ passed.most))) (c.in-None.ensures slot now is it)
    (granted tt)

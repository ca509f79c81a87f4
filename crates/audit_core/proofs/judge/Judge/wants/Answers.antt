use Rattle.std.proofs.Common.{◌<◌, ◌↔◌, IsTrue, sym, subst, arith}
use Rattle.audit_core.specs.Judged.{asked_of}
use Rattle.audit_core.specs.Ranks.{rank_of}
use Rattle.audit_core.proofs.OfferLemmas.{rank_most}
use Rattle.audit_core.proofs.RestLemmas.{granted}
use Rattle.audit_core.proofs.judge.Judge.wants.Goals as goal

pub returns-in-None : goal.returns-in-None
returns-in-None c =
    granted (subst (λ b. rank_of c.args.sentence < asked_of b) (sym c.in-None.is)
    (omega (arith, rank_most c.args.sentence)))

pub returns-in-Some : goal.returns-in-Some
returns-in-Some c =
    subst (λ b. IsTrue c.goes_before.result ↔ (rank_of c.args.sentence < asked_of b)) (sym c.in-Some.is)
    c.goes_before.ensures

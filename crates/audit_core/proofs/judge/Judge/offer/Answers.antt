use Rattle.std.proofs.Common.{sym, ap, ◌∙◌}
use Rattle.audit_core.specs.Judged.{asked_of, offered}
use Rattle.audit_core.specs.Ranks.{rank_of}
use Rattle.audit_core.proofs.JudgeSteps.{not_wanted, offered_kept, offered_passed}
use Rattle.audit_core.proofs.judge.Judge.offer.Goals as goal

pub returns-then-not-wants-clause-broken : goal.returns-then-not-wants-clause-broken
returns-then-not-wants-clause-broken c =
    sym (ap (offered c.args.self.now.broken c.args.sentence) c.in-Some.is
    ∙ offered_passed c.args.self.now.broken c.args.sentence c.in-Some.place
    (not_wanted c.wants.result (rank_of c.args.sentence) (asked_of c.args.self.now.broken) c.wants.ensures
    c.if-not-wants.true))

pub returns-clause-broken : goal.returns-clause-broken
returns-clause-broken c =
    sym (ap (offered c.args.self.now.broken c.args.sentence) c.in-Some.is
    ∙ offered_kept c.args.self.now.broken c.args.sentence c.in-Some.place (c.wants.ensures.0 c.if-not-wants.false))

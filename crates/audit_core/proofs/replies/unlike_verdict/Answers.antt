use Rattle.std.proofs.Common.{Some, refl}
use Rattle.packet_steps.specs.Lent.{verdict_of}
use Rattle.report_lines.specs.Lent.{IsShort}
use Rattle.slot_execution.specs.declared.replayed.NumberedVerdict.{NumberedVerdict}
use Rattle.audit_core.proofs.ReplyLemmas.{is_other, is_told, own_holds, rest_holds}
use Rattle.audit_core.proofs.RestLemmas.{denied}
use Rattle.audit_core.proofs.replies.unlike_verdict.Goals as goal

pub is_verdict-requires : goal.is_verdict-requires
is_verdict-requires c =
    own_holds (λ (j : NumberedVerdict). IsShort j.verdict) c.pop_front-own.result c.args.made.now.items
    c.pop_front-own.new.self.items c.pop_front-own.ensures.items c.requires

pub returns-then-same-clause-same : goal.returns-then-same-clause-same
returns-then-same-clause-same c =
    is_told (λ (j : NumberedVerdict). verdict_of j.verdict) (Some c.args.said.now) c.pop_front-own.result c.args.said.now
    c.args.made.now.items c.pop_front-own.new.self.items c.pop_front-own.ensures.items refl
    (c.in_ok-same.ensures.0 c.if-same.true)

pub returns-then-same-clause-short : goal.returns-then-same-clause-short
returns-then-same-clause-short c =
    rest_holds (λ (j : NumberedVerdict). IsShort j.verdict) c.pop_front-own.result c.args.made.now.items
    c.pop_front-own.new.self.items c.pop_front-own.ensures.items c.requires

pub returns-clause-other : goal.returns-clause-other
returns-clause-other c = (
  is_other (λ (j : NumberedVerdict). verdict_of j.verdict) (Some c.args.said.now) c.pop_front-own.result
      c.args.said.now c.args.made.now.items c.pop_front-own.new.self.items c.pop_front-own.ensures.items
      c.pop_front-own.ensures.rest refl (denied c.in_ok-same.ensures c.if-same.false),
  own_holds (λ (j : NumberedVerdict). IsShort j.verdict) c.pop_front-own.result c.args.made.now.items
      c.pop_front-own.new.self.items c.pop_front-own.ensures.items c.requires,
)

pub returns-clause-short : goal.returns-clause-short
returns-clause-short c =
    rest_holds (λ (j : NumberedVerdict). IsShort j.verdict) c.pop_front-own.result c.args.made.now.items
    c.pop_front-own.new.self.items c.pop_front-own.ensures.items c.requires

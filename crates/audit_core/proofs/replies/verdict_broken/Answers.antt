use Rattle.std.proofs.Common.{◌≡◌, ◌≢◌, rules, length, inl, inr, ap, arith}
use Rattle.std.proofs.lemmas.List.{length-map, nil_from_length}
use Rattle.slot_execution.specs.Replaying.{verdicts_in}
use Rattle.audit_core.specs.Answers.{verdict_in}
use Rattle.audit_core.specs.Gateway.{IsOther, verdict_due}
use Rattle.audit_core.specs.Meant.{line_told, lines_of}
use Rattle.audit_core.specs.Played.{IfShort, verdict_made}
use Rattle.audit_core.proofs.CountLemmas.{mapped_parts}
use Rattle.audit_core.proofs.Differing.{took}
use Rattle.audit_core.proofs.ReplyLemmas.{said_all, said_next, said_other, said_too_few}
use Rattle.audit_core.proofs.WhyFound.{none_when, some_found}
use Rattle.audit_core.proofs.replies.verdict_broken.Goals as goal

pub verdict_differs-requires : goal.verdict_differs-requires
verdict_differs-requires c =
    (some_found (λ own. IsOther (verdict_in (line_told c.told-item.result)) (verdicts_in c.loop-told.made.items)
    (verdict_made own) × IfShort own) c.in_ok-found.found c.in-Some.own c.in_ok-found.ensures.other c.in-Some.is).1

pub returns-in-Some-clause-some : goal.returns-in-Some-clause-some
returns-in-Some-clause-some c =
    let i = c.loop-told.told-index in
    let told = c.told-item.result in
    inl (said_other verdict_in (verdicts_in c.args.made.now.items) (lines_of c.args.lines.now) verdict_due i (line_told told)
    (verdicts_in c.loop-told.made.items) (verdict_made c.in-Some.own) c.in_ok-verdict_differs.field-0
    (mapped_parts line_told c.args.lines.now i told c.loop-told-test.true c.told-item.is)
    (some_found (λ own. IsOther (verdict_in (line_told told)) (verdicts_in c.loop-told.made.items)
    (verdict_made own) × IfShort own) c.in_ok-found.found c.in-Some.own c.in_ok-found.ensures.other c.in-Some.is).0 c.loop-told.invariant.said c.in_ok-verdict_differs.ensures)

pub returns-then-is_empty-clause-none : goal.returns-then-is_empty-clause-none
returns-then-is_empty-clause-none c =
    let none : length c.loop-told.made.items ≡ 0 = search rules in
    said_all verdict_in (verdicts_in c.args.made.now.items) (lines_of c.args.lines.now) c.loop-told.told-index
    (verdicts_in c.loop-told.made.items) (omega (arith, length-map c.args.lines.now line_told))
    (ap verdicts_in (nil_from_length c.loop-told.made.items none)) c.loop-told.invariant.said

pub returns-clause-some : goal.returns-clause-some
returns-clause-some c =
    let some : length c.loop-told.made.items ≢ 0 = search rules in
    inr (said_too_few verdict_in (verdicts_in c.args.made.now.items) (lines_of c.args.lines.now) c.args.slot
    c.loop-told.told-index (verdicts_in c.loop-told.made.items) c.in_ok-missing.field-0
    (omega (arith, length-map c.args.lines.now line_told)) (λ none. some (simp length-map at none)) c.loop-told.invariant.said
    c.in_ok-missing.ensures)

pub loop-told-preserved : goal.loop-told-preserved
loop-told-preserved c =
    let i = c.loop-told.told-index in
    let told = c.told-item.result in
    record {
      said = said_next verdict_in (verdicts_in c.args.made.now.items) (lines_of c.args.lines.now) i (line_told told)
          (verdicts_in c.loop-told.made.items) (verdicts_in c.other_verdict.new.made.items)
          (took line_told c.args.lines.now i told c.loop-told-test.true c.told-item.is)
          (none_when c.in_ok-found.found c.in_ok-found.ensures.same c.in_default.not-Some)
          c.loop-told.invariant.said;
      short = c.in_ok-found.ensures.short;
    }

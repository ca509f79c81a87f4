use Rattle.std.proofs.Common.{◌≡◌, ◌≢◌, rules, length, inl, inr, ap, arith}
use Rattle.std.proofs.lemmas.List.{length-map, nil_from_length}
use Rattle.slot_execution.specs.Replaying.{replies_in}
use Rattle.audit_core.specs.Answers.{reply_in}
use Rattle.audit_core.specs.Gateway.{reply_due}
use Rattle.audit_core.specs.Meant.{line_told, lines_of}
use Rattle.audit_core.specs.Played.{reply_made}
use Rattle.audit_core.proofs.CountLemmas.{mapped_parts}
use Rattle.audit_core.proofs.Differing.{took}
use Rattle.audit_core.proofs.ReplyLemmas.{said_all, said_next, said_other, said_too_few}
use Rattle.audit_core.proofs.WhyFound.{none_when}
use Rattle.audit_core.proofs.replies.reply_broken.Goals as goal

pub returns-in-Some-clause-some : goal.returns-in-Some-clause-some
returns-in-Some-clause-some c =
    let i = c.loop-told.told-index in
    let told = c.told-item.result in
    inl (said_other reply_in (replies_in c.args.made.now.items) (lines_of c.args.lines.now) reply_due i (line_told told)
    (replies_in c.loop-told.made.items) (reply_made c.in-Some.own) c.in_ok-reply_differs.field-0
    (mapped_parts line_told c.args.lines.now i told c.loop-told-test.true c.told-item.is)
    c.in-Some.ensures.other c.loop-told.invariant c.in_ok-reply_differs.ensures)

pub returns-then-is_empty-clause-none : goal.returns-then-is_empty-clause-none
returns-then-is_empty-clause-none c =
    let none : length c.loop-told.made.items ≡ 0 = search rules in
    said_all reply_in (replies_in c.args.made.now.items) (lines_of c.args.lines.now) c.loop-told.told-index
    (replies_in c.loop-told.made.items) (omega (arith, length-map c.args.lines.now line_told))
    (ap replies_in (nil_from_length c.loop-told.made.items none)) c.loop-told.invariant

pub returns-clause-some : goal.returns-clause-some
returns-clause-some c =
    let some : length c.loop-told.made.items ≢ 0 = search rules in
    inr (said_too_few reply_in (replies_in c.args.made.now.items) (lines_of c.args.lines.now) c.args.slot
    c.loop-told.told-index (replies_in c.loop-told.made.items) c.in_ok-missing.field-0
    (omega (arith, length-map c.args.lines.now line_told)) (λ none. some (simp length-map at none)) c.loop-told.invariant
    c.in_ok-missing.ensures)

pub loop-told-preserved : goal.loop-told-preserved
loop-told-preserved c =
    let i = c.loop-told.told-index in
    let told = c.told-item.result in
    said_next reply_in (replies_in c.args.made.now.items) (lines_of c.args.lines.now) i (line_told told)
    (replies_in c.loop-told.made.items) (replies_in c.other_reply.new.made.items)
    (took line_told c.args.lines.now i told c.loop-told-test.true c.told-item.is)
    (none_when c.other_reply.result c.other_reply.ensures.same c.in_default.not-Some) c.loop-told.invariant

use Rattle.std.proofs.Common.{length, sym, subst}
use Rattle.audit_core.specs.Belonging.{AreThose, placed_in}
use Rattle.audit_core.proofs.EvidenceSteps.{comes_next}
use Rattle.audit_core.proofs.evidence.judge_epoch.Goals as goal

pub entries_of-requires : goal.entries_of-requires
entries_of-requires c =
    let own = c.requires.next.0 in
    let at = c.requires.next.1 in
    let next = c.requires.next.2 in
    (own.made, next.held.texts, length at.prefix, next.held.taken, next.held.all, next.runs_are)

pub returns-clause-judged : goal.returns-clause-judged
returns-clause-judged c = λ own at next.
    c.epoch.ensures.judged own at
    (comes_next own at c.args.octets.now c.args.lines.now c.args.report.now c.args.runs.now c.as_slice.result.now
    c.args.subscribers.now.items c.args.judge.now next
    (subst (λ es. AreThose es (placed_in own.made (length at.prefix) own.entries)) (sym c.as_slice.ensures.value)
    (c.in_ok-entries.ensures own.made next.held.texts own.entries (length at.prefix) next.held.taken next.held.are
    next.runs_are)))

pub returns-clause-stands : goal.returns-clause-stands
returns-clause-stands c = λ own at next.
    c.epoch.ensures.stands own at
    (comes_next own at c.args.octets.now c.args.lines.now c.args.report.now c.args.runs.now c.as_slice.result.now
    c.args.subscribers.now.items c.args.judge.now next
    (subst (λ es. AreThose es (placed_in own.made (length at.prefix) own.entries)) (sym c.as_slice.ensures.value)
    (c.in_ok-entries.ensures own.made next.held.texts own.entries (length at.prefix) next.held.taken next.held.are
    next.runs_are)))

pub epoch-requires-clause-next : goal.epoch-requires-clause-next
epoch-requires-clause-next c =
    let own = c.requires.next.0 in
    let at = c.requires.next.1 in
    let next = c.requires.next.2 in (
      own,
      at,
      comes_next own at c.args.octets.now c.args.lines.now c.args.report.now c.args.runs.now
          c.as_slice.result.now c.args.subscribers.now.items c.args.judge.now next
          (subst (λ es. AreThose es (placed_in own.made (length at.prefix) own.entries)) (sym c.as_slice.ensures.value)
          (c.in_ok-entries.ensures own.made next.held.texts own.entries (length at.prefix) next.held.taken next.held.are
          next.runs_are)),
    )

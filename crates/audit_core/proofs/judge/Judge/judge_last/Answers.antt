use Rattle.std.proofs.Common.{◌<◌, length, sym, subst, arith}
use Rattle.audit_core.specs.Judged.{Behind, HoldsWhole, Partly, asked_of, due_of, told_of}
use Rattle.audit_core.specs.Ranks.{rank_of}
use Rattle.audit_core.specs.declared.sentence.Sentence.TheVariants as of
use Rattle.audit_core.proofs.BelongLemmas.{stand_in}
use Rattle.audit_core.proofs.EndSteps.{order_end, stands_end, waits_pass}
use Rattle.audit_core.proofs.JudgeSteps.{not_wanted}
use Rattle.audit_core.proofs.OfferLemmas.{all_done}
use Rattle.audit_core.proofs.judge.Judge.judge_last.Goals as goal

pub returns-then-not-wants : goal.returns-then-not-wants
returns-then-not-wants c = λ own held belong due_is ended.
    all_done own (Behind own) (HoldsWhole own) c.args.self.now.broken 10
    (not_wanted c.wants.result (rank_of of.Order) (asked_of c.args.self.now.broken) c.wants.ensures
    c.if-not-wants.true)
    (waits_pass own c.args.self.now.broken ended.partly)

pub last_order-requires : goal.last_order-requires
last_order-requires c =
    let own = c.requires.0 in
    let low : rank_of of.Order < asked_of c.args.self.now.broken = c.wants.ensures.0 c.if-not-wants.false in (
      own.made,
      own.entries,
      due_of own (told_of own),
      c.requires.1,
      stand_in own.made own.entries c.args.entries.now (length own.made) c.requires.2,
      stands_end own c.args.self.now.entries (c.requires.3.partly.old of.Order low (omega arith))
          (c.requires.3.counted low),
    )

pub returns : goal.returns
returns c = λ own held belong due_is ended.
    let low : rank_of of.Order < asked_of c.args.self.now.broken = c.wants.ensures.0 c.if-not-wants.false in
    let stood = stand_in own.made own.entries c.args.entries.now (length own.made) belong in
    let so = stands_end own c.args.self.now.entries (ended.partly.old of.Order low (omega arith)) (ended.counted low) in
    subst (Partly own (Behind own) (HoldsWhole own) 11) (sym c.offer.ensures.broken)
    (order_end own c.args.self.now.broken c.in_ok-found.found c.args.due.now due_is
    (c.in_ok-found.ensures.some own.made own.entries (due_of own (told_of own)) held stood so)
    (c.in_ok-found.ensures.none own.made own.entries (due_of own (told_of own)) held stood so)
    (waits_pass own c.args.self.now.broken ended.partly))

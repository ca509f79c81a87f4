use Rattle.std.proofs.Common.{◌≡◌, ◌∙◌, None, Some, sym}
use Rattle.audit_core.specs.Dues.{StandsSo}
use Rattle.audit_core.specs.Telling.{tells_said}
use Rattle.audit_core.proofs.TellLemmas.{tells_is}
use Rattle.audit_core.proofs.OrderLemmas.{no_more, one_more}
use Rattle.audit_core.proofs.OrderSteps.{ended_broken, held_none, no_some, not_ended, unbroken}
use Rattle.audit_core.proofs.order.EntryOrder.end.Goals as goal

pub returns-then-is_some-clause-some : goal.returns-then-is_some-clause-some
returns-then-is_some-clause-some c = λ made entries asked asks.
    ended_broken entries asked c.args.self.now.broken (sym c.is_some.ensures ∙ c.if-is_some.true) asks.some

pub returns-then-is_some-clause-none : goal.returns-then-is_some-clause-none
returns-then-is_some-clause-none c = λ made entries asked asks.
    not_ended (entries ≡ asked) c.args.self.now.broken (sym c.is_some.ensures ∙ c.if-is_some.true)

pub at-requires : goal.at-requires
at-requires c =
    let held = c.requires.3.held in
    (c.requires.0, held.texts, held.taken, held.all)

pub returns-clause-some : goal.returns-clause-some
returns-clause-some c = λ made entries asked asks.
    let so = unbroken c.args.self.now.broken (StandsSo entries asked c.args.self.now.place)
    (sym c.is_some.ensures ∙ c.if-is_some.false) asks.none in
    let there = c.in_ok-told.ensures made asks.held.texts entries asks.held.taken asks.held.are in
    one_more entries asked c.args.self.now.place c.in-Some.entry c.in_ok-tells.field-0 so (sym there ∙ c.in-Some.is)
    (c.in_ok-tells.ensures ∙ (λ i. tells_said (Some (c.in_ok-said.ensures i)) None) ∙ tells_is (Some c.in-Some.entry) None)

pub returns-in_default-clause-none : goal.returns-in_default-clause-none
returns-in_default-clause-none c = λ made entries asked asks.
    let so = unbroken c.args.self.now.broken (StandsSo entries asked c.args.self.now.place)
    (sym c.is_some.ensures ∙ c.if-is_some.false) asks.none in
    let there = c.in_ok-told.ensures made asks.held.texts entries asks.held.taken asks.held.are in
    held_none (entries ≡ asked) c.args.self.now.broken
    (no_more entries asked c.args.self.now.place so (sym there ∙ no_some c.in_ok-told.told c.in_default.not-Some))

use Rattle.std.proofs.Common.{[], ◌∷◌, sym, ◌∙◌}
use Rattle.audit_core.specs.Dues.{StandsSo, entry_due}
use Rattle.audit_core.proofs.OrderSteps.{asks_on, next_differs, next_stands, unbroken}
use Rattle.audit_core.proofs.order.EntryOrder.ask.Goals as goal

pub returns-then-is_some : goal.returns-then-is_some
returns-then-is_some c = λ made entries asked asks.
    asks_on made entries asked (entry_due c.args.due.now ∷ []) c.args.self.now
    (sym c.is_some.ensures ∙ c.if-is_some.true) asks

pub differs-requires : goal.differs-requires
differs-requires c = (c.requires.0, c.requires.1, c.requires.3.held, c.requires.3.stood)

pub returns : goal.returns
returns c = λ made entries asked asks.
    let so = unbroken c.args.self.now.broken (StandsSo entries asked c.args.self.now.place)
    (sym c.is_some.ensures ∙ c.if-is_some.false) asks.none in
    record {
      held = asks.held;
      stood = asks.stood;
      some = next_differs entries asked c.args.self.now.place (entry_due c.args.due.now) c.in_ok-found.found so
          (c.in_ok-found.ensures.some made entries asks.held asks.stood);
      none = next_stands entries asked c.args.self.now.place (entry_due c.args.due.now) c.in_ok-found.found so
          (c.in_ok-found.ensures.none made entries asks.held asks.stood);
    }

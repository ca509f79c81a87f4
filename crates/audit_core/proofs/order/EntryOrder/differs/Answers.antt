use Rattle.audit_core.proofs.order.EntryOrder.differs.Goals as goal

pub told_differs-requires : goal.told_differs-requires
told_differs-requires c = (c.requires.0, c.requires.1, c.requires.2)

pub returns-in-None-clause-some : goal.returns-in-None-clause-some
returns-in-None-clause-some c = λ made entries held stood. c.told_differs.ensures.some made entries held

pub returns-in-None-clause-none : goal.returns-in-None-clause-none
returns-in-None-clause-none c = λ made entries held stood. c.told_differs.ensures.none made entries held

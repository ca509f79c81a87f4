use Rattle.audit_core.proofs.order.EntryOrder.new.Goals as goal

pub returns : goal.returns
returns c = λ made entries asked held stood so. record { held = held; stood = stood; some = tt; none = so }

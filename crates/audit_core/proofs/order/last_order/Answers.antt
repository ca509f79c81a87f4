use Rattle.std.proofs.Common.{◌++◌, map}
use Rattle.report_lines.specs.declared.entry.Entry.TheVariants as entry
use Rattle.audit_core.proofs.order.last_order.Goals as goal

pub ask_charges-requires : goal.ask_charges-requires
ask_charges-requires c =
    let q = c.requires in
    (q.0, q.1, q.2, c.new-order.ensures q.0 q.1 q.2 q.3 q.4 q.5)

pub end-requires : goal.end-requires
end-requires c =
    let q = c.requires in (
      q.0,
      q.1,
      q.2 ++ map entry.Charge c.args.opens.now,
      c.in_ok-ask_charges.ensures q.0 q.1 q.2 (c.new-order.ensures q.0 q.1 q.2 q.3 q.4 q.5),
    )

pub returns-clause-some : goal.returns-clause-some
returns-clause-some c = λ made entries asked held stood so.
    c.in_ok-end.ensures.some made entries (asked ++ map entry.Charge c.args.opens.now)
    (c.in_ok-ask_charges.ensures made entries asked (c.new-order.ensures made entries asked held stood so))

pub returns-clause-none : goal.returns-clause-none
returns-clause-none c = λ made entries asked held stood so.
    c.in_ok-end.ensures.none made entries (asked ++ map entry.Charge c.args.opens.now)
    (c.in_ok-ask_charges.ensures made entries asked (c.new-order.ensures made entries asked held stood so))

use Rattle.std.proofs.Common.{◌++◌, IfNone, IfSome, map, subst}
use Rattle.report_lines.specs.declared.entry.Entry.TheVariants as entry
use Rattle.lawful_run.specs.LinesTold.{LineTold}
use Rattle.audit_core.specs.Dues.{DiffersAt, StandsSo, effects_lent}
use Rattle.audit_core.specs.Meant.{lines_of}
use Rattle.audit_core.proofs.OrderSteps.{asked_parts}
use Rattle.audit_core.proofs.order.epoch_order.Goals as goal

pub ask_lines-requires : goal.ask_lines-requires
ask_lines-requires c =
    let q = c.requires in
    (q.0, q.1, q.2, c.new-order.ensures q.0 q.1 q.2 q.3 q.4 q.5)

pub ask_effects-requires : goal.ask_effects-requires
ask_effects-requires c =
    let q = c.requires in
    let lines = map entry.Line (map (λ (told : LineTold). told.entry) (lines_of c.args.lines.now)) in
    (q.0, q.1, q.2 ++ lines, c.in_ok-ask_lines.ensures q.0 q.1 q.2 (c.new-order.ensures q.0 q.1 q.2 q.3 q.4 q.5))

pub ask_charges-requires : goal.ask_charges-requires
ask_charges-requires c =
    let q = c.requires in
    let lines = map entry.Line (map (λ (told : LineTold). told.entry) (lines_of c.args.lines.now)) in
    let effects = map entry.Effect (effects_lent c.args.effects.now) in (
      q.0,
      q.1,
      (q.2 ++ lines) ++ effects,
      c.in_ok-ask_effects.ensures q.0 q.1 (q.2 ++ lines)
          (c.in_ok-ask_lines.ensures q.0 q.1 q.2 (c.new-order.ensures q.0 q.1 q.2 q.3 q.4 q.5)),
    )

pub returns-clause-some : goal.returns-clause-some
returns-clause-some c = λ made entries asked held stood so.
    let lines = map entry.Line (map (λ (told : LineTold). told.entry) (lines_of c.args.lines.now)) in
    let effects = map entry.Effect (effects_lent c.args.effects.now) in
    let rows = map entry.Charge c.args.rows.now in
    let asks = c.in_ok-ask_charges.ensures made entries ((asked ++ lines) ++ effects)
    (c.in_ok-ask_effects.ensures made entries (asked ++ lines)
    (c.in_ok-ask_lines.ensures made entries asked (c.new-order.ensures made entries asked held stood so))) in
    subst (λ a. IfSome c.ask_charges.new.self.broken (DiffersAt entries a)) (asked_parts asked lines effects rows) asks.some

pub returns-clause-none : goal.returns-clause-none
returns-clause-none c = λ made entries asked held stood so.
    let lines = map entry.Line (map (λ (told : LineTold). told.entry) (lines_of c.args.lines.now)) in
    let effects = map entry.Effect (effects_lent c.args.effects.now) in
    let rows = map entry.Charge c.args.rows.now in
    let asks = c.in_ok-ask_charges.ensures made entries ((asked ++ lines) ++ effects)
    (c.in_ok-ask_effects.ensures made entries (asked ++ lines)
    (c.in_ok-ask_lines.ensures made entries asked (c.new-order.ensures made entries asked held stood so))) in
    subst (λ a. IfNone c.ask_charges.new.self.broken (StandsSo entries a c.ask_charges.new.self.place))
    (asked_parts asked lines effects rows) asks.none

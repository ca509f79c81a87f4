use Rattle.std.proofs.Common.{◌<◌, length, subst, sym, ◌∙◌, arith}
use Rattle.std.proofs.lemmas.Bool.{ltb-true, ltb-false}
use Rattle.epoch_schedule.specs.Rounds.{place_held}
use Rattle.epoch_schedule.proofs.Busied.{order_at, before_middle, behind_middle}
use Rattle.epoch_schedule.proofs.busy.place_among.Goals as goal

pub is_before-requires-clause-one : goal.is_before-requires-clause-one
is_before-requires-clause-one c =
    let held = c.args.roster.now.held in
    let middle = c.middle_of-middle.result in
    let within : middle < length c.args.list.now =
    omega (arith, c.middle_of-middle.ensures.to, c.loop-from.invariant.few) in
    subst (λ t. place_held t held < length held) (sym c.at-own.ensures)
    (order_at 0 (length held) held c.args.list.now middle c.requires.ordered within).1

pub loop-from-preserved-then-is_before : goal.loop-from-preserved-then-is_before
loop-from-preserved-then-is_before c =
    let held = c.args.roster.now.held in
    let middle = c.middle_of-middle.result in
    let below = c.middle_of-middle.ensures.to in
    let within : middle < length c.args.list.now = omega (arith, below, c.loop-from.invariant.few) in
    record {
      order = omega (arith, below);
      few = c.loop-from.invariant.few;
      before = before_middle (length held) held c.args.list.now middle c.at-own.result _ c.at-own.ensures c.requires.ordered
          within (ltb-true _ _ (sym c.is_before.ensures ∙ c.if-is_before.true));
      behind = c.loop-from.invariant.behind;
    }

pub loop-from-preserved : goal.loop-from-preserved
loop-from-preserved c =
    let held = c.args.roster.now.held in
    let middle = c.middle_of-middle.result in
    let below = c.middle_of-middle.ensures.to in
    record {
      order = c.middle_of-middle.ensures.from;
      few = omega (arith, below, c.loop-from.invariant.few);
      before = c.loop-from.invariant.before;
      behind = behind_middle (length held) held c.args.list.now middle c.at-own.result _ c.at-own.ensures c.requires.ordered
          (ltb-false _ _ (sym c.is_before.ensures ∙ c.if-is_before.false));
    }

use Rattle.std.proofs.Common.{rules, ◌<◌, ◌≤◌, length, subst, sym, ◌∙◌, arith}
use Rattle.std.proofs.lemmas.Bool.{ltb-true, ltb-false}
use Rattle.epoch_schedule.specs.Rounds.{place_held}
use Rattle.epoch_schedule.proofs.Busied.{order_at, before_middle, behind_middle, first_on, first_round}
use Rattle.epoch_schedule.proofs.busy.next_among.Goals as goal

pub is_past-requires : goal.is_past-requires
is_past-requires c =
    let held = c.args.roster.now.held in
    let middle = c.middle_of-middle.result in
    let within : middle < length c.args.list.now =
    omega (arith, c.middle_of-middle.ensures.to, c.loop-from.invariant.few) in
    subst (λ t. place_held t held < length held) (sym c.at-own.ensures)
    (order_at 0 (length held) held c.args.list.now middle c.requires.ordered within).1

pub loop-from-preserved-then-is_past : goal.loop-from-preserved-then-is_past
loop-from-preserved-then-is_past c =
    let held = c.args.roster.now.held in
    let middle = c.middle_of-middle.result in
    let below = c.middle_of-middle.ensures.to in
    let within : middle < length c.args.list.now = omega (arith, below, c.loop-from.invariant.few) in
    record {
      order = omega (arith, below);
      few = c.loop-from.invariant.few;
      before = before_middle (length held) held c.args.list.now middle c.at-own.result _ c.at-own.ensures c.requires.ordered
          within (ltb-true _ _ (sym c.is_past.ensures ∙ c.if-is_past.true));
      behind = c.loop-from.invariant.behind;
    }

pub loop-from-preserved : goal.loop-from-preserved
loop-from-preserved c =
    let held = c.args.roster.now.held in
    let middle = c.middle_of-middle.result in
    let below = c.middle_of-middle.ensures.to in
    record {
      order = c.middle_of-middle.ensures.from;
      few = omega (arith, below, c.loop-from.invariant.few);
      before = c.loop-from.invariant.before;
      behind = behind_middle (length held) held c.args.list.now middle c.at-own.result _ c.at-own.ensures c.requires.ordered
          (ltb-false _ _ (sym c.is_past.ensures ∙ c.if-is_past.false));
    }

pub returns-then-from-len-clause-first : goal.returns-then-from-len-clause-first
returns-then-from-len-clause-first c =
    let list = c.args.list.now in
    let within : c.loop-from.from < length list = search rules in
    let past : c.loop-from.to ≤ c.loop-from.from = search rules in
    first_on c.args.roster.now list c.loop-from.from c.requires.ordered within c.loop-from.invariant.before
    (λ j more below. c.loop-from.invariant.behind j (omega (arith, more, past)) below)

pub returns-else-from-len-clause-first : goal.returns-else-from-len-clause-first
returns-else-from-len-clause-first c =
    let list = c.args.list.now in
    let past : length list ≤ c.loop-from.from = search rules in
    first_round c.args.roster.now list c.requires.ordered
    (λ j below. c.loop-from.invariant.before j (omega (arith, below, past)))

use Rattle.std.proofs.Common.{◌≡◌, ◌+◌, ◌∙◌, length, refl, subst, sym, ap}
use Rattle.std.specs.Prelude.{Option, Some}
use Rattle.front_core.specs.declared.lot.Lot.{Lot}
use Rattle.front_core.specs.declared.lot.Lot.TheVariants.{Split}
use Rattle.subscriber.specs.Standing.{commands_met}
use Rattle.front_core.specs.Lots.{LotMoves, commands_at}
use Rattle.front_core.proofs.lot.move_on.Goals as goal

pub returns-in-Some-Split-clause-moves : goal.returns-in-Some-Split-clause-moves
returns-in-Some-Split-clause-moves c =
    let is : c.args.lot.now ≡ Some (Split c.in-Some-Split.end) = cc in
    subst (λ (l : Option Lot). LotMoves l (Some (Split c.moved.new.self))) (sym is) (
      c.moved.new.self,
      refl,
      record {
        same = c.moved.ensures.same;
        commands = c.moved.ensures.commands;
        packets = c.moved.ensures.packets;
        hop = c.moved.ensures.hop;
        floors = c.moved.ensures.floors;
      },
    )

pub returns-in-Some-Split-clause-commands : goal.returns-in-Some-Split-clause-commands
returns-in-Some-Split-clause-commands c =
    let is : c.args.lot.now ≡ Some (Split c.in-Some-Split.end) = cc in
    subst (λ (l : Option Lot). Some c.commands.result ≡ commands_at l) (sym is)
    (ap Some (c.commands.ensures ∙ (λ i. commands_met (c.moved.ensures.same.started i).value
    + length (c.moved.ensures.commands.0 i))))

use Rattle.std.proofs.Common.{◌≡◌, refl, subst, sym}
use Rattle.std.specs.Prelude.{Option, Some}
use Rattle.front_core.specs.declared.lot.Lot.{Lot}
use Rattle.front_core.specs.declared.lot.Lot.TheVariants.{Split}
use Rattle.front_core.specs.Lots.{LotAccepts}
use Rattle.front_core.proofs.lot.accept.Goals as goal

pub returns : goal.returns
returns c =
    let is : c.args.lot.now ≡ Some (Split c.in-Some-Split.end) = cc in
    subst (λ (l : Option Lot). LotAccepts l (Some (Split c.accepted.new.self))) (sym is) (
      c.accepted.new.self,
      refl,
      record {
        same = c.accepted.ensures.same;
        commands = c.accepted.ensures.commands;
        packets = c.accepted.ensures.packets;
        hop = c.accepted.ensures.hop;
        floors = c.accepted.ensures.floors;
      },
    )

-- What pumps and refused tries leave of each slot.
use Rattle.std.proofs.Common.{◌≡◌, refl, sym, ap, subst, ◌∙◌}
use Rattle.std.specs.Prelude.{Option, Some, None}
use Rattle.split_record.specs.declared.front.FrontEnd.{FrontEnd}
use Rattle.front_core.specs.declared.lot.Lot.{Lot}
use Rattle.front_core.specs.declared.lot.Lot.TheVariants.{Moved, Split}
use Rattle.front_core.specs.declared.halves.Halves.{Halves}
use Rattle.front_core.specs.Lots.{EndSettles, LotSettles}
use Rattle.front_core.specs.Steps.{ViewSettles, SidesKeep, Settles}
use Rattle.front_core.specs.Views.{View, view_at}

pub end_same : (end : FrontEnd) → EndSettles end end
end_same end = record {
  same = record { slot = refl; started = refl; destination = refl; lane = refl };
  commands = (refl, refl);
  packets = refl;
  hop = refl;
  floors = (refl, refl);
}

pub end_then : (end mid after : FrontEnd) → EndSettles end mid → EndSettles mid after → EndSettles end after
end_then end mid after first second = record {
  same = record {
    slot = second.same.slot ∙ first.same.slot;
    started = second.same.started ∙ first.same.started;
    destination = second.same.destination ∙ first.same.destination;
    lane = second.same.lane ∙ first.same.lane;
  };
  commands = (second.commands.0 ∙ first.commands.0, second.commands.1 ∙ first.commands.1);
  packets = second.packets ∙ first.packets;
  hop = second.hop ∙ first.hop;
  floors = (second.floors.0 ∙ first.floors.0, second.floors.1 ∙ first.floors.1);
}

pub lot_same : (lot : Option Lot) → LotSettles lot lot
lot_same None = refl
lot_same (Some Moved) = refl
lot_same (Some (Split end)) = (end, refl, end_same end)

pub lot_still : (old new : Option Lot) → new ≡ old → LotSettles old new
lot_still old new same = subst (LotSettles old) (sym same) (lot_same old)

pub lot_then : (old mid new : Option Lot) → LotSettles old mid → LotSettles mid new → LotSettles old new
lot_then None mid new first second = subst (λ l. LotSettles l new) first second
lot_then (Some Moved) mid new first second = subst (λ l. LotSettles l new) first second
lot_then (Some (Split end)) mid new first second =
    let rest : LotSettles (Some (Split first.0)) new = subst (λ l. LotSettles l new) first.1 second in
    (rest.0, rest.1, end_then end first.0 rest.0 first.2 rest.2)

pub view_then : (old mid new : View) → ViewSettles old mid → ViewSettles mid new → ViewSettles old new
view_then old mid new first second = record {
  lot = lot_then old.lot mid.lot new.lot first.lot second.lot;
  control = second.control ∙ first.control;
  data_half = second.data_half ∙ first.data_half;
  accepted = second.accepted ∙ first.accepted;
  moved = second.moved ∙ first.moved;
  parks = λ rests. second.parks (first.parks rests);
}

pub view_same : (old new : View) → new ≡ old → ViewSettles old new
view_same old new same = record {
  lot = lot_still old.lot new.lot (ap (λ (v : View). v.lot) same);
  control = ap (λ (v : View). v.control) same;
  data_half = ap (λ (v : View). v.data_half) same;
  accepted = ap (λ (v : View). v.accepted) same;
  moved = ap (λ (v : View). v.moved) same;
  parks = λ rests. ap (λ (v : View). v.parks) same ∙ rests;
}

pub sides_then : (old mid new : Halves) → SidesKeep old mid → SidesKeep mid new → SidesKeep old new
sides_then old mid new first second = record {
  control_lanes = second.control_lanes ∙ first.control_lanes;
  data_lanes = second.data_lanes ∙ first.data_lanes;
  queues = second.queues ∙ first.queues;
  room = second.room ∙ first.room;
}

pub settles_then : (old mid new : Halves) → Settles old mid → Settles mid new → Settles old new
settles_then old mid new first second = record {
  views = λ slot. view_then (view_at old slot) (view_at mid slot) (view_at new slot) (first.views slot)
      (second.views slot);
  sides = sides_then old mid new first.sides second.sides;
  lots = second.lots ∙ first.lots;
  load = second.load ∙ first.load;
  asked = second.asked ∙ first.asked;
}

pub settles_none : (halves : Halves) → Settles halves halves
settles_none halves = record {
  views = λ slot. view_same (view_at halves slot) (view_at halves slot) refl;
  sides = record { control_lanes = refl; data_lanes = refl; queues = refl; room = refl };
  lots = refl;
  load = refl;
  asked = refl;
}

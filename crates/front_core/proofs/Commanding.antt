-- A command was sent, or its lane was full.
use Rattle.std.proofs.Common.{◌≡◌, ℕ, ◌^◌, ◌<◌, List, length, length-set, get_or, set, sym, ap, subst, ◌∙◌, inl, inr}
use Rattle.std.specs.Prelude.{Option, Some}
use Rattle.std.proofs.lemmas.Bool.{cases_eq}
use Rattle.control_steps.specs.declared.command.CommandKind.{CommandKind}
use Rattle.lane_core.specs.Ends.{raised}
use Rattle.control_half.specs.Half as control_half
use Rattle.counter_half.specs.Half as counter_half
use Rattle.split_record.specs.declared.front.FrontEnd.{FrontEnd}
use Rattle.split_record.specs.Rejoined.{commands_sent}
use Rattle.front_core.specs.Sides as sides
use Rattle.front_core.specs.declared.lot.Lot.{Lot}
use Rattle.front_core.specs.declared.lot.Lot.TheVariants.{Split}
use Rattle.front_core.specs.declared.halves.Halves.{Halves}
use Rattle.front_core.specs.Lots.{IsFullEnd, LotRefuses, LotSends, LotSettles, MaySend, OfSplit, fulls_at, lot_of}
use Rattle.front_core.specs.Steps.{Commanded, CommandsFull, MayGive, OthersSettle, Settles, ViewSettles}
use Rattle.front_core.specs.Tries.{RisesBy, lane_fulls}
use Rattle.front_core.specs.Views.{both, view_at}
use Rattle.front_core.proofs.Lots.{of_split}
use Rattle.front_core.proofs.Trying.{rises_one}
use Rattle.front_core.proofs.Setting.{Sides, keeps_sides, lot_here, lot_low, lot_read, others_settle, same_grown, same_settles, split_here}

-- all slots settle, where one does and all others do
pub all_settle : (old new : Halves) (slot : ℕ) → ViewSettles (view_at old slot) (view_at new slot)
    → OthersSettle slot old new → (other : ℕ) → ViewSettles (view_at old other) (view_at new other)
all_settle old new slot here there other = elim (cases_eq other slot) [
  | inl same ↦ subst (λ (s : ℕ). ViewSettles (view_at old s) (view_at new s)) (sym same) here
  | inr ne ↦ there other ne
]

module _ (old : Halves) (at slot : ℕ) (is : at ≡ slot) (may : MayGive slot old) (was : Option Lot)
    (read : was ≡ get_or old.lots.items at was) where
  pub may_send : MaySend was
  may_send =
      of_split (λ (end : FrontEnd). length (commands_sent end) < 2 ^ 50) may.end was
      (split_here old at slot is may was read) may.sent_few

  module _ (new : Halves) (lot : Option Lot) (changed : new.lots.items ≡ set old.lots.items at lot)
      (room : new.room ≡ old.room) (same : both new ≡ both old) where
    low : slot < length old.lots.items
    low = lot_low old at slot is may

    set_there : new.lots.items ≡ set old.lots.items slot lot
    set_there = changed ∙ ap (λ (k : ℕ). set old.lots.items k lot) is

    here : lot_of new.lots.items slot ≡ lot
    here = lot_here old new old.lots.items slot lot (same_grown old.lots.items) low set_there

    before : lot_of old.lots.items slot ≡ was
    before = lot_read old.lots.items at slot was is low read

    others : OthersSettle slot old new
    others =
        others_settle old new old.lots.items slot lot (same_grown old.lots.items) low set_there
        (λ other ne. (same_settles old new same).views other)

    as_many : length new.lots.items ≡ length old.lots.items
    as_many = ap (λ (l : List (Option Lot)). length l) changed ∙ length-set old.lots.items at lot

    pub commanded : (line : ℕ) (c : CommandKind) → LotSends line c was lot → Commanded slot line c old new
    commanded line c sends =
        let settles = same_settles old new same in
        let view = settles.views slot in
        let goes : LotSends line c (Some (Split may.end)) lot =
        subst (λ (l : Option Lot). LotSends line c l lot) (split_here old at slot is may was read) sends in
        record {
          others = others;
          sides = keeps_sides old new settles.sides room;
          lots = as_many;
          end = may.end;
          after = goes.0;
          was = may.lot;
          is = here ∙ goes.1;
          control = view.control;
          data_half = view.data_half;
          accepted = view.accepted;
          moved = view.moved;
          parks = ap (λ (b : Sides). (sides.view_of control_half.name_of counter_half.name_of b slot).parks) same;
          sends = goes.2;
          load = settles.load;
          asked = settles.asked;
        }

    refused : LotRefuses was lot → Settles old new
    refused refuses =
        let settles = same_settles old new same in
        let view = settles.views slot in
        record {
          views = all_settle old new slot (record {
            lot = subst (λ (l : Option Lot). LotSettles l (lot_of new.lots.items slot)) (sym before)
                (subst (LotSettles was) (sym here) refuses.0);
            control = view.control;
            data_half = view.data_half;
            accepted = view.accepted;
            moved = view.moved;
            parks = view.parks;
          }) others;
          sides = keeps_sides old new settles.sides room;
          lots = as_many;
          load = settles.load;
          asked = settles.asked;
        }

    lane_rises : LotRefuses was lot → RisesBy 1 (lane_fulls slot old) (lane_fulls slot new)
    lane_rises refuses =
        rises_one (lane_fulls slot old) (lane_fulls slot new)
        (ap fulls_at here ∙ refuses.2 ∙ ap (λ (l : Option Lot). raised (fulls_at l)) (sym before))

    found_full : LotRefuses was lot → CommandsFull slot new
    found_full refuses =
        let settles : LotSettles (Some (Split may.end)) lot =
        subst (λ (l : Option Lot). LotSettles l lot) (split_here old at slot is may was read) refuses.0 in
        record {
          end = settles.0;
          lot = here ∙ settles.1;
          full = subst (OfSplit IsFullEnd) settles.1 refuses.1;
        }

    pub came_back : (back c : CommandKind) → back ≡ c → LotRefuses was lot → new.fulls ≡ raised old.fulls
        → (back ≡ c) × Settles old new × CommandsFull slot new × RisesBy 1 old.fulls new.fulls
        × RisesBy 1 (lane_fulls slot old) (lane_fulls slot new)
    came_back back c same_back refuses fulls =
        (same_back, refused refuses, found_full refuses, rises_one old.fulls new.fulls fulls, lane_rises refuses)

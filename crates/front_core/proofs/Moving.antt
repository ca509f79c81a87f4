-- A slot moved.
use Rattle.std.proofs.Common.{◌≡◌, ℕ, ◌<◌, true, true≢false, is_some, List, length, get_or, set, sym, ap, subst, ◌∙◌, arith}
use Rattle.std.specs.Prelude.{Option, Some, None}
use Rattle.worker_core.specs.BySlot.{Grown}
use Rattle.control_half.specs.Half as control_half
use Rattle.counter_half.specs.Half as counter_half
use Rattle.front_core.specs.Sides as sides
use Rattle.front_core.specs.Placing.{HalvesGo}
use Rattle.front_core.specs.SidesSteps as step
use Rattle.front_core.specs.declared.lot.Lot.{Lot}
use Rattle.front_core.specs.declared.halves.Halves.{Halves}
use Rattle.front_core.specs.declared.lot.Lot.TheVariants.{Moved, Split}
use Rattle.front_core.specs.Lots.{LotMoves, MayMoveLot, commands_at, commands_of, lot_of, end_of}
use Rattle.front_core.specs.Steps.{GoesTo, MayMove, SlotMoves}
use Rattle.front_core.specs.Views.{both, view_at}
use Rattle.front_core.proofs.Lots.{may_move_lot, moved_when}
use Rattle.front_core.proofs.Lists.{at_grown}
use Rattle.front_core.proofs.Setting.{Sides, keeps_sides, lot_here, lot_read, others_settle, same_settles}

-- what stands at its place may move
module _ (halves : Halves) (mid : List (Option Lot)) (at slot slice : ℕ) (was : Option Lot)
    (grown : Grown halves.lots.items mid) (is : at ≡ slot) (low : slot < length mid) (read : was ≡ get_or mid at was)
    (may : MayMove slot slice halves) where
  there : lot_of halves.lots.items slot ≡ was
  there = sym (at_grown halves.lots.items mid slot grown) ∙ lot_read mid at slot was is low read

  pub lot_may_move : MayMoveLot was
  lot_may_move = may_move_lot was (λ end found. (may.admitted end (there ∙ found)).2)

-- to which slice its halves go
goes_rest : (slot slice : ℕ) (lot : Option Lot) (old new : Halves) → end_of lot ≡ None → both new ≡ both old
    → GoesTo slot slice lot old new
goes_rest slot slice None old new rests same = same
goes_rest slot slice (Some Moved) old new rests same = same
goes_rest slot slice (Some (Split end)) old new rests same = absurd (true≢false (ap is_some rests))

no_count : (until : ℕ) → ◌≡◌ {A = Option ℕ} None (Some until) → ⊥
no_count until is = let none : ⊥ = cc in none

goes_split : (slot slice until : ℕ) (lot : Option Lot) (old new : Halves) → commands_at lot ≡ Some until
    → HalvesGo slot slice until (both old) (both new) → GoesTo slot slice lot old new
goes_split slot slice until None old new is goes = absurd (no_count until is)
goes_split slot slice until (Some Moved) old new is goes = absurd (no_count until is)
goes_split slot slice until (Some (Split end)) old new is goes =
    let same : until ≡ commands_of end = cc in
    subst (λ (n : ℕ). HalvesGo slot slice n (both old) (both new)) same goes

module _ (old new : Halves) (mid : List (Option Lot)) (at slot slice : ℕ) (was lot : Option Lot)
    (grown : Grown old.lots.items mid) (is : at ≡ slot) (low : slot < length mid) (read : was ≡ get_or mid at was)
    (changed : new.lots.items ≡ set mid at lot) (room : new.room ≡ old.room) (moves : LotMoves was lot) where
  before : lot_of old.lots.items slot ≡ was
  before = sym (at_grown old.lots.items mid slot grown) ∙ lot_read mid at slot was is low read

  set_there : new.lots.items ≡ set mid slot lot
  set_there = changed ∙ ap (λ (k : ℕ). set mid k lot) is

  lot_moves : LotMoves (lot_of old.lots.items slot) (lot_of new.lots.items slot)
  lot_moves =
      subst (λ (l : Option Lot). LotMoves l (lot_of new.lots.items slot)) (sym before)
      (subst (LotMoves was) (sym (lot_here old new mid slot lot grown low set_there)) moves)

  -- of a subscriber that rests the sides have nothing
  pub moved_rest : end_of was ≡ None → both new ≡ both old → SlotMoves slot slice old new
  moved_rest rests same =
      let settles = same_settles old new same in
      let view = settles.views slot in
      let none : end_of (lot_of old.lots.items slot) ≡ None = ap end_of before ∙ rests in
      record {
        goes = goes_rest slot slice (lot_of old.lots.items slot) old new none same;
        others = others_settle old new mid slot lot grown low set_there (λ other ne. settles.views other);
        sides = keeps_sides old new settles.sides room;
        lot = lot_moves;
        control = view.control;
        data_half = view.data_half;
        accepted = view.accepted;
        moved = moved_when (lot_of old.lots.items slot) (lot_of new.lots.items slot) (view_at new slot).moved
            lot_moves (λ some. absurd (true≢false (sym some ∙ ap is_some none)));
        parks = λ unsplit.
            ap (λ (b : Sides). (sides.view_of control_half.name_of counter_half.name_of b slot).parks) same;
        load_accepted = ap (λ (b : Sides). (sides.load_of counter_half.name_of b).accepted) same;
        load_admitted = ap (λ (b : Sides). (sides.load_of counter_half.name_of b).admitted) same;
        asked = (let asked = ap (λ (b : Sides). b.asked) same in omega (arith, asked));
        control_asked = (let asked = ap (λ (b : Sides). b.control_asked) same in omega (arith, asked));
      }

  -- a split one is moved by the sides
  pub moved_split : (until : ℕ) → is_some (end_of was) ≡ true → commands_at was ≡ Some until
      → step.SlotMoves control_half.name_of counter_half.name_of slot slice until (both old) (both new)
      → SlotMoves slot slice old new
  moved_split until split commands goes =
      let asked = goes.asked in
      let control_asked = goes.control_asked in
      record {
        goes = goes_split slot slice until (lot_of old.lots.items slot) old new (ap commands_at before ∙ commands)
            goes.goes;
        others = others_settle old new mid slot lot grown low set_there goes.others;
        sides = keeps_sides old new goes.sides room;
        lot = lot_moves;
        control = goes.control;
        data_half = goes.data_half;
        accepted = goes.accepted;
        moved = moved_when (lot_of old.lots.items slot) (lot_of new.lots.items slot) (view_at new slot).moved
            lot_moves (λ some. goes.moved);
        parks = λ unsplit.
            absurd (true≢false (sym split ∙ ap (λ (l : Option Lot). is_some (end_of l)) (sym before)
            ∙ ap is_some unsplit));
        load_accepted = goes.load_accepted;
        load_admitted = goes.load_admitted;
        asked = omega (arith, asked);
        control_asked = omega (arith, control_asked);
      }

-- What is kept lets a line be taken.
use Rattle.std.proofs.Common.{◌≡◌, ℕ, ◌^◌, ◌<◌, ◌≤◌, true≢false, is_some, List, length, get_or, sym, ap, subst, ◌∙◌, arith}
use Rattle.std.specs.Prelude.{Option, Some, None}
use Rattle.std.proofs.lemmas.List.{length-map, length-replicate}
use Rattle.worker_core.specs.Desks.{lanes_of}
use Rattle.worker_core.specs.Workers.{Lanes, desk_lanes}
use Rattle.gate_model.specs.Events.{FewEvents}
use Rattle.subscriber.specs.Standing.{SubscriberState}
use Rattle.at_rest.specs.Rest.{AreAtRest, RestLeavesRoom}
use Rattle.split_record.specs.declared.front.FrontEnd.{FrontEnd}
use Rattle.front_core.specs.declared.lot.Lot.{Lot}
use Rattle.front_core.specs.declared.lot.Lot.TheVariants.{Moved, Split}
use Rattle.front_core.specs.declared.halves.Halves.{Halves}
use Rattle.front_core.specs.Lots.{end_of}
use Rattle.front_core.specs.Steps.{MayAdmit, MayGive, MayMove}
use Rattle.front_core.specs.Views.{both, View, view_at}
use Rattle.front_core.specs.Keeping.{HalvesKeep, LotKeeps, SplitKeeps}

rests_fresh : (slot lines latest : ℕ) (lot : Option Lot) (view : View) → LotKeeps slot lines latest lot view
    → end_of lot ≡ None → (view.control ≡ None) × (view.data_half ≡ None)
rests_fresh slot lines latest None view keeps none = (keeps.no_control, keeps.no_data)
rests_fresh slot lines latest (Some Moved) view keeps none = (keeps.no_control, keeps.no_data)
rests_fresh slot lines latest (Some (Split end)) view keeps none = absurd (true≢false (ap is_some none))

module _ (slices room lane slots lines latest asks : ℕ) (halves : Halves)
    (keeps : HalvesKeep slices room lane slots lines latest asks halves) where
  controls_count : length (both halves).control_desks ≡ slices
  controls_count = sym (length-map (both halves).control_desks desk_lanes) ∙ keeps.controls_are

  desks_count : length (both halves).desks ≡ slices
  desks_count =
      let rooms = ap length keeps.lanes_are in
      let count = length-map (lanes_of (both halves).desks) (λ (lanes : Lanes). lanes.0.room) in
      let lanes = length-map (both halves).desks desk_lanes in
      let slices_count = length-replicate slices lane in
      omega (arith, rooms, count, lanes, slices_count)

  pub may_move : (slot slice : ℕ) → slice < slices → asks < 2 ^ 48 → lines < 2 ^ 61 → MayMove slot slice halves
  may_move slot slice low few short =
      let controls = controls_count in
      let desks = desks_count in
      let control = keeps.control_asked in
      let data_half = keeps.asked in
      record {
        control_slice = omega (arith, controls, low);
        data_slice = omega (arith, desks, low);
        control_asked = omega (arith, control, few);
        data_asked = omega (arith, data_half, few);
        admitted = λ end is.
            let split : SplitKeeps slot lines latest end (view_at halves slot) =
            subst (λ (l : Option Lot). LotKeeps slot lines latest l (view_at halves slot)) is (keeps.views slot) in
            let hops = split.hops_few in
            (split.control_admitted, split.data_admitted, omega (arith, hops, short));
      }

  pub may_give : (slot : ℕ) (end : FrontEnd) → (view_at halves slot).lot ≡ Some (Split end) → asks < 2 ^ 48
      → lines < 2 ^ 50 → MayGive slot halves
  may_give slot end is few short =
      let split : SplitKeeps slot lines latest end (view_at halves slot) =
      subst (λ (l : Option Lot). LotKeeps slot lines latest l (view_at halves slot)) is (keeps.views slot) in
      let all = split.few in
      let counted = split.accepted.counted in
      let data_half = keeps.asked in
      record {
        end = end;
        lot = is;
        own = split.own;
        sent_few = omega (arith, all, short);
        packets_few = omega (arith, all, counted, short);
        admitted = split.data_admitted;
        asked = omega (arith, data_half, few);
      }

  pub may_admit : (slot all : ℕ) (subscribers : List SubscriberState) (was : SubscriberState) → RestLeavesRoom
      → FewEvents all → (1 ≤ room) × (room ≤ 256) → AreAtRest slices all latest subscribers
      → slot < length subscribers → was ≡ get_or subscribers slot was → asks < 2 ^ 48 → MayAdmit slot was halves
  may_admit slot all subscribers was leaves_room few roomy rest low is asked_few =
      let own = rest slot was low in
      let controls = controls_count in
      let desks = desks_count in
      let control = keeps.control_asked in
      let data_half = keeps.asked in
      let room_is = keeps.room_is in
      let least = roomy.0 in
      let most = roomy.1 in
      subst (λ (s : SubscriberState). MayAdmit slot s halves) (sym is) (record {
        own = own.own;
        room = (omega (arith, room_is, least), omega (arith, room_is, most));
        leaves_room = leaves_room slices all latest slot (get_or subscribers slot was) few own;
        control_slice = (let bound = own.bound in omega (arith, bound, controls));
        data_slice = (let bound = own.bound in omega (arith, bound, desks));
        control_asked = omega (arith, control, asked_few);
        data_asked = omega (arith, data_half, asked_few);
        fresh = rests_fresh slot lines latest (view_at halves slot).lot (view_at halves slot) (keeps.views slot);
      })

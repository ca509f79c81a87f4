-- What is known of one slot.
use Rattle.std.proofs.Common.{◌≡◌, ℕ, ◌^◌, ◌<◌, ◌≤◌, Bool, true, false, true≢false, is_some, length, refl, sym, ap, subst, ◌∙◌, arith}
use Rattle.std.specs.Prelude.{Option, Some, None, Result, Ok, Err, OnOk, OnErr, IfErr}
use Rattle.control_steps.specs.declared.command.CommandKind.{CommandKind}
use Rattle.lane_core.specs.Ends.{Lane, full_answers, raised, sender_lane}
use Rattle.lane_core.specs.declared.ends.Full.{Full}
use Rattle.split_record.specs.declared.front.FrontEnd.{FrontEnd}
use Rattle.split_record.specs.Rejoined.{IsSameFront, KeepsFloors, Sends, commands_sent}
use Rattle.front_core.specs.declared.lot.Lot.{Lot}
use Rattle.front_core.specs.declared.lot.Lot.TheVariants.{Moved, Split}
use Rattle.front_core.specs.Lots.{EndSends, LotMoves, LotRefuses, LotSends, LotSettles, MayMoveLot, OfSplit, end_of, fulls_at, lot_moved}
use Rattle.front_core.specs.Views.{moved_by}

-- something of a front end is so of its lot
pub of_split : (P : FrontEnd → Type 0) (end : FrontEnd) (lot : Option Lot) → lot ≡ Some (Split end) → P end
    → OfSplit P lot
of_split P end lot is so = subst (OfSplit P) (sym is) so

-- a split subscriber has a front end
pub split_is : (lot : Option Lot) → is_some (end_of lot) ≡ true → (end : FrontEnd) × (lot ≡ Some (Split end))
split_is None some = absurd (true≢false (sym some))
split_is (Some Moved) some = absurd (true≢false (sym some))
split_is (Some (Split end)) some = (end, refl)

-- one that isn't has none
pub unsplit_is : (lot : Option Lot) → is_some (end_of lot) ≡ false → end_of lot ≡ None
unsplit_is None none = refl
unsplit_is (Some Moved) none = refl
unsplit_is (Some (Split end)) none = absurd (true≢false none)

-- where no front end is, it is told that its subscriber moved
pub rest_moved : (lot : Option Lot) (moved : Bool) → end_of lot ≡ None → moved_by lot moved ≡ lot_moved lot
rest_moved None moved none = refl
rest_moved (Some Moved) moved none = refl
rest_moved (Some (Split end)) moved none = absurd (true≢false (ap is_some none))

-- a lot that moved, where the sides know of a split one that it did
pub moved_when : (was is : Option Lot) (moved : Bool) → LotMoves was is
    → (is_some (end_of was) ≡ true → moved ≡ true) → moved_by is moved ≡ true
moved_when None is moved moves knows = ap (λ l. moved_by l moved) moves
moved_when (Some Moved) is moved moves knows = ap (λ l. moved_by l moved) moves
moved_when (Some (Split end)) is moved moves knows = ap (λ l. moved_by l moved) moves.1 ∙ knows refl

pub may_move_lot : (lot : Option Lot) → ((end : FrontEnd) → lot ≡ Some (Split end) → end.hop < 2 ^ 61) → MayMoveLot lot
may_move_lot None few = tt
may_move_lot (Some Moved) few = tt
may_move_lot (Some (Split end)) few = few end refl

-- a command was offered by the front end of a lot
pub lot_sends : {T E : Type 0} (r : Result T E) (line : ℕ) (c : CommandKind) (end after : FrontEnd) (lot : Option Lot)
    → lot ≡ Some (Split end) → IsSameFront end after → after.packets ≡ end.packets → after.hop ≡ end.hop
    → KeepsFloors end after → OnOk r (Sends end line c after) → OnOk r (LotSends line c lot (Some (Split after)))
lot_sends (Ok _) line c end after lot is same packets hop floors sends =
    of_split (λ (e : FrontEnd). (a : FrontEnd) × (Some (Split after) ≡ Some (Split a)) × EndSends line c e a) end lot is
    (after, refl, record { same = same; sends = sends; packets = packets; hop = hop; floors = floors })
lot_sends (Err _) line c end after lot is same packets hop floors sends = tt

pub lot_refuses : {T : Type 0} (r : Result T (Full CommandKind)) (c : CommandKind) (end after : FrontEnd)
    (lot : Option Lot) → lot ≡ Some (Split end) → IsSameFront end after → after.packets ≡ end.packets
    → after.hop ≡ end.hop → KeepsFloors end after
    → IfErr r (λ full. (full.0 ≡ c) × (commands_sent after ≡ commands_sent end) × (after.commands ≡ end.commands)
    × (full_answers after.lane ≡ raised (full_answers end.lane)))
    → OnErr r ((sender_lane end.lane).room ≤ length (commands_sent end))
    → IfErr r (λ full. (full.0 ≡ c) × LotRefuses lot (Some (Split after)))
lot_refuses (Ok _) c end after lot is same packets hop floors full room = tt
lot_refuses (Err back) c end after lot is same packets hop floors full room =
    let sent = ap length full.1 in
    let rooms = ap (λ (l : Lane). l.room) same.lane in (
      full.0,
      (
        subst (λ (l : Option Lot). LotSettles l (Some (Split after))) (sym is) (
          after,
          refl,
          record {
            same = same;
            commands = (full.1, full.2);
            packets = packets;
            hop = hop;
            floors = floors;
          },
        ),
        omega (arith, room, sent, rooms),
        subst (λ (l : Option Lot). full_answers after.lane ≡ raised (fulls_at l)) (sym is) full.3,
      ),
    )

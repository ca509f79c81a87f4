-- Lists of busy halves behind what a data worker does.
use Rattle.std.proofs.Common.{◌≡◌, ℕ, Option, Some, None, List, [], ◌∷◌, ◌++◌, sym, subst}
use Rattle.epoch_schedule.specs.Slots.{SlotNow}
use Rattle.epoch_schedule.specs.Halves.{may_handle, handle}
use Rattle.epoch_schedule.specs.World.{World, ControlNow, home_room, has_room, slot_at, on_slot, data_at, on_data}
use Rattle.epoch_schedule.specs.DataTurns.{Doing, doing, more, round, over, go_home, handled}
use Rattle.pc_base.specs.declared.packet.Place.TheVariants.{At}
use Rattle.epoch_schedule.proofs.Keeping.{cond_keeps}
use Rattle.epoch_schedule.specs.Busy.{AreBusyBut}
use Rattle.epoch_schedule.proofs.Busying.{same_busy}

pub worlds_busy : (room : ℕ) (busy : List (List ℕ)) (old new : World) → new.slots ≡ old.slots
    → new.controls ≡ old.controls → AreBusyBut room [] busy old → AreBusyBut room [] busy new
worlds_busy room busy old new slots controls are =
    subst (λ (xs : List SlotNow). AreBusyBut room [] busy (record new { slots = xs })) (sym slots)
    (subst (λ (ws : List ControlNow). AreBusyBut room [] busy (record new { slots = old.slots; controls = ws }))
    (sym controls) are)

pub go_home_busy : (room : ℕ) (busy : List (List ℕ)) (slice : ℕ) (world : World) (waiting : Option ℕ)
    → AreBusyBut room [] busy world → AreBusyBut room [] busy (go_home slice world waiting).world
go_home_busy room busy slice world None are = are
go_home_busy room busy slice world (Some slot) are =
    cond_keeps (λ (now : Doing). AreBusyBut room [] busy now.world) (has_room home_room (data_at world slice).home)
    (doing (on_data world slice (λ worker. record worker { home = worker.home ++ slot ∷ []; waiting = None })) more)
    (doing world over) are are

pub handled_busy : (room : ℕ) (busy : List (List ℕ)) (slice : ℕ) (world : World) (slot : ℕ)
    → AreBusyBut room [] busy world → AreBusyBut room [] busy (handled slice world slot).world
handled_busy room busy slice world slot are =
    cond_keeps (λ (now : Doing). AreBusyBut room [] busy now.world) (may_handle (slot_at world slot))
    (doing (on_slot world slot (handle (At slice))) more)
    (doing (on_data world slice (λ worker. record worker { kept = Some slot })) round)
    (same_busy room busy world slot (handle (At slice)) (λ is. is) are) are

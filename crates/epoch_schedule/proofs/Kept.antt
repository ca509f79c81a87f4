-- What is listed beside the world stays so behind turns, and behind what is done at one slot but for that slot.
use Rattle.std.proofs.Common.{◌≡◌, ℕ, zero, suc, ◌+◌, ◌==◌, true, false, nat_lt, Result, Ok, Err, OnOk, IfOk, Option, Some, None, List, [], ◌∷◌, ◌++◌, length, get_or, refl, sym, subst, ◌∙◌}
use Rattle.epoch_schedule.specs.Slots.{Standing, absent, front, placed, recalled, leaving, SlotNow, fresh_slot}
use Rattle.epoch_schedule.specs.Halves.{send, apply_some, next_batch, apply_batch, Worked, work_behind, control_work, take_batch, learn_batch, learn_one, batches_learnt, learn, handle}
use Rattle.epoch_schedule.specs.World.{World, DataNow, HeldControl, item, has_room, slot_at, on_slot, data_at, on_data}
use Rattle.epoch_schedule.specs.Front.{Asks, nothing, command, packet, move, Done, accepted, refused, with_packet, send_packet_at, send_packet, line_done, control_back, data_back}
use Rattle.epoch_schedule.specs.Schedule.{turned}
use Rattle.pc_base.specs.declared.packet.Place.TheVariants.{At}
use Rattle.epoch_schedule.proofs.Keeping.{put_each, cond_keeps, times_keeps}
use Rattle.epoch_schedule.proofs.Steps.{TurnSteps}
use Rattle.epoch_schedule.proofs.TurnsKept.{turned_keeps}
use Rattle.epoch_schedule.specs.Busy.{is_still, IsLively, AreBusyBut}
use Rattle.epoch_schedule.specs.Listed.{IsWithin, AreWithin, AreListedBut, AreListed, slots_asked}
use Rattle.epoch_schedule.specs.Setups.{EpochSetup, bounds_of}
use Rattle.epoch_schedule.specs.Waiting.{is_in, Calls, calls_of, wanted, Stands, AreWaiting, waits_of}
use Rattle.epoch_schedule.specs.declared.waiting.Pass.{Pass}
use Rattle.epoch_schedule.specs.declared.waiting.Pass.TheVariants as pass
use Rattle.epoch_schedule.specs.declared.waiting.WaitingSlots.{WaitingSlots}
use Rattle.epoch_schedule.specs.declared.waiting.PassWaits.{PassWaits}
use Rattle.epoch_schedule.proofs.Touched.{Touches, on_slot_within, on_data_within, command_line_touches, packet_line_touches, move_line_touches, control_back_touches, data_back_touches}
use Rattle.epoch_schedule.proofs.SlotSets.{or_none}

-- turns leave where halves are
send_calls : (room : ℕ) (slot : SlotNow) (n : ℕ) → calls_of (send room slot n) ≡ calls_of slot
send_calls room slot zero = refl
send_calls room slot (suc n) =
    cond_keeps (λ (new : SlotNow). calls_of new ≡ calls_of slot) (nat_lt (length slot.sent) room)
    (record slot { sent = slot.sent ++ suc n ∷ [] }) (record slot { unsent = Some (suc n) }) refl refl

work_calls : (room : ℕ) (slot : SlotNow) (unsent : Option ℕ) → calls_of (work_behind room slot unsent).slot ≡ calls_of slot
work_calls room slot None = send_calls room (apply_some slot (next_batch slot)) (next_batch slot)
work_calls room slot (Some n) =
    let sent : SlotNow = record slot { unsent = None; sent = slot.sent ++ n ∷ [] } in
    cond_keeps (λ (w : Worked). calls_of w.slot ≡ calls_of slot) (nat_lt (length slot.sent) room)
    (record { slot = apply_batch room sent; worked = true }) (record { slot = slot; worked = false })
    (send_calls room (apply_some sent (next_batch sent)) (next_batch sent)) refl

take_calls : (slot : SlotNow) (batch : Option ℕ) (sent : List ℕ) → calls_of (take_batch slot batch sent) ≡ calls_of slot
take_calls slot (Some n) sent = refl
take_calls slot None [] = refl
take_calls slot None (n ∷ sent) = refl

learnt_calls : (slot : SlotNow) (batch : Option ℕ) → calls_of (learn_batch slot batch) ≡ calls_of slot
learnt_calls slot None = refl
learnt_calls slot (Some n) =
    cond_keeps (λ (new : SlotNow). calls_of new ≡ calls_of slot) _
    (record slot { batch = None; learnt = slot.learnt + n }) slot refl refl

learn_calls : (slot : SlotNow) → calls_of (learn slot) ≡ calls_of slot
unfolding learn
learn_calls slot =
    times_keeps (λ (new : SlotNow). calls_of new ≡ calls_of slot) learn_one
    (λ new is.
    let taken = take_batch new new.batch new.sent in
    learnt_calls taken taken.batch ∙ take_calls new new.batch new.sent ∙ is)
    batches_learnt slot refl

-- the same halves are where they were
abbrev SameCalls : World → World → Type 0
SameCalls old new = (s : ℕ) → calls_of (slot_at new s) ≡ calls_of (slot_at old s)

same_put : (old new : World) (s : ℕ) (change : SlotNow → SlotNow)
    → ((slot : SlotNow) → calls_of (change slot) ≡ calls_of slot) → SameCalls old new
    → SameCalls old (on_slot new s change)
same_put old new s change keeps same =
    put_each (λ m (slot : SlotNow). calls_of slot ≡ calls_of (slot_at old m)) fresh_slot new.slots s
    (change (slot_at new s)) same (keeps (slot_at new s) ∙ same s)

calls_kept : (old : World) → TurnSteps (SameCalls old)
calls_kept old = record {
  controls = λ world slice change same. same;
  datas = λ world slice change fewer same. same;
  works = λ room world s same.
      same_put old world s (λ slot. (control_work room slot).slot) (λ slot. work_calls room slot slot.unsent) same;
  learns = λ world s same. same_put old world s learn learn_calls same;
  handles = λ slice world s may same. same_put old world s (handle (At slice)) (λ slot. refl) same;
}

data_same : (old new : SlotNow) → calls_of new ≡ calls_of old → (count : ℕ) → IsWithin count old.data_half
    → IsWithin count new.data_half
data_same old new same count within = subst (λ (calls : Calls). IsWithin count calls.data_half) (sym same) within

within_kept : TurnSteps AreWithin
within_kept = record {
  controls = λ world slice change are. are;
  datas = λ world slice change fewer are. on_data_within world slice change are;
  works = λ room world s are.
      on_slot_within world s (λ slot. (control_work room slot).slot)
      (data_same (slot_at world s) (control_work room (slot_at world s)).slot
      (work_calls room (slot_at world s) (slot_at world s).unsent) (length world.datas) (are s)) are;
  learns = λ world s are.
      on_slot_within world s learn
      (data_same (slot_at world s) (learn (slot_at world s)) (learn_calls (slot_at world s)) (length world.datas) (are s))
      are;
  handles = λ slice world s may are. on_slot_within world s (handle (At slice)) (are s) are;
}

waiting_same : (of : Pass) (bounds : ℕ → ℕ) (but : List ℕ) (waits : PassWaits) (old new : World) → SameCalls old new
    → AreWaiting of bounds but waits old → AreWaiting of bounds but waits new
waiting_same of bounds but waits old new same waiting =
    λ s off. subst (λ (calls : Calls). Stands (wanted of bounds s calls) waits s) (sym (same s)) (waiting s off)

pub turn_listed : (setup : EpochSetup) (old new : WaitingSlots) (world : World) (worker : ℕ)
    → new.controls ≡ old.controls → new.datas ≡ old.datas → new.queues ≡ old.queues
    → AreListed setup old world
    → AreBusyBut setup.rooms.room [] new.busy.items (turned setup.rooms world worker)
    → AreListed setup new (turned setup.rooms world worker)
turn_listed setup old new world worker controls datas queues listed busy = record {
  waits = λ of. subst (λ (waits : PassWaits). AreWaiting of (bounds_of setup) [] waits (turned setup.rooms world worker))
      (sym (by of))
      (waiting_same of (bounds_of setup) [] (waits_of of old) world (turned setup.rooms world worker)
      (turned_keeps (SameCalls world) (calls_kept world) setup.rooms world worker (λ s. refl)) (listed.waits of));
  busy = busy;
  within = turned_keeps AreWithin within_kept setup.rooms world worker listed.within;
}
  where
    by : (of : Pass) → waits_of of new ≡ waits_of of old
    by pass.Controls = controls
    by pass.Datas = datas
    by pass.Queues = queues

-- what is done at a slot
pub one_off : (s t : ℕ) → is_in (s ∷ []) t ≡ false → (s == t) ≡ false
one_off s t off = (or_none (s == t) false off).0

pub busy_one : (room s : ℕ) (busy : List (List ℕ)) (world : World) → AreBusyBut room [] busy world
    → AreBusyBut room (s ∷ []) busy world
busy_one room s busy world are = λ slice. record {
  ordered = (are slice).ordered;
  still = λ q within awake off. (are slice).still q within awake refl;
}

pub busy_touched : (room s : ℕ) (busy : List (List ℕ)) (old new : World) → Touches s old new
    → AreBusyBut room (s ∷ []) busy old → AreBusyBut room (s ∷ []) busy new
busy_touched room s busy old new touches are = λ slice.
    subst (λ (held : List HeldControl). IsLively room (s ∷ []) held (get_or busy slice []) new.slots)
    (sym (touches.held slice)) (record {
      ordered = (are slice).ordered;
      still = λ q within awake off.
          subst (λ (slot : SlotNow). is_still room slot ≡ true)
          (sym (touches.others _ (one_off s _ off))) ((are slice).still q within awake off);
    })

pub touched_but : (setup : EpochSetup) (waiting : WaitingSlots) (s : ℕ) (old new : World) → Touches s old new
    → AreListedBut (s ∷ []) setup waiting old → AreListedBut (s ∷ []) setup waiting new
touched_but setup waiting s old new touches listed = record {
  waits = λ of t off.
      subst (λ (slot : SlotNow). Stands (wanted of (bounds_of setup) t (calls_of slot)) (waits_of of waiting) t)
      (sym (touches.others t (one_off s t off))) (listed.waits of t off);
  busy = busy_touched setup.rooms.room s waiting.busy.items old new touches listed.busy;
  within = touches.within listed.within;
}

pub touched_listed : (setup : EpochSetup) (waiting : WaitingSlots) (s : ℕ) (old new : World) → Touches s old new
    → AreListed setup waiting old → AreListedBut (s ∷ []) setup waiting new
touched_listed setup waiting s old new touches listed =
    touched_but setup waiting s old new touches (record {
      waits = λ of t off. listed.waits of t refl;
      busy = busy_one setup.rooms.room s waiting.busy.items old listed.busy;
      within = listed.within;
    })

pub line_listed : (setup : EpochSetup) (waiting : WaitingSlots) (world : World) (asks : Asks) → AreListed setup waiting world
    → AreListedBut (slots_asked asks) setup waiting (line_done setup.rooms (bounds_of setup) world asks).world
line_listed setup waiting world nothing listed = listed
line_listed setup waiting world (command s) listed =
    touched_listed setup waiting s world (line_done setup.rooms (bounds_of setup) world (command s)).world
    (command_line_touches s setup.rooms (bounds_of setup) world) listed
line_listed setup waiting world (packet s) listed =
    touched_listed setup waiting s world (line_done setup.rooms (bounds_of setup) world (packet s)).world
    (packet_line_touches s setup.rooms (bounds_of setup) world) listed
line_listed setup waiting world (move s slice) listed =
    touched_listed setup waiting s world (line_done setup.rooms (bounds_of setup) world (move s slice)).world
    (move_line_touches s setup.rooms (bounds_of setup) world slice) listed

pub control_back_listed : (setup : EpochSetup) (waiting : WaitingSlots) (world : World) (s : ℕ) → AreListed setup waiting world
    → AreListedBut (s ∷ []) setup waiting (control_back world s)
control_back_listed setup waiting world s listed =
    touched_listed setup waiting s world (control_back world s) (control_back_touches s world) listed

pub data_back_listed : (setup : EpochSetup) (waiting : WaitingSlots) (world : World) (s : ℕ) → AreListed setup waiting world
    → AreListedBut (s ∷ []) setup waiting (data_back world s)
data_back_listed setup waiting world s listed =
    touched_listed setup waiting s world (data_back world s) (data_back_touches s world) listed

-- a packet that is sent
sent_listed : (setup : EpochSetup) (waiting : WaitingSlots) (world : World) (s : ℕ) (standing : Standing)
    → AreListed setup waiting world → AreListed setup waiting (send_packet_at setup.rooms world s standing).world
sent_listed setup waiting world s absent listed = listed
sent_listed setup waiting world s front listed = listed
sent_listed setup waiting world s (placed slice) listed =
    let pushes : DataNow → DataNow = λ worker. record worker { orders = worker.orders ++ item s ∷ [] } in
    let given = on_data world slice pushes in
    let new = on_slot given s with_packet in
    let same = same_put world given s with_packet (λ slot. refl) (λ t. refl) in
    cond_keeps (λ (done : Done). AreListed setup waiting done.world) (has_room setup.rooms.lane (data_at world slice).orders)
    (accepted new) (refused world)
    (record {
      waits = λ of. waiting_same of (bounds_of setup) [] (waits_of of waiting) world new same (listed.waits of);
      busy = λ own. record {
        ordered = (listed.busy own).ordered;
        still = λ q within awake off.
            put_each (λ m (slot : SlotNow). is_still setup.rooms.room (slot_at world m) ≡ true
            → is_still setup.rooms.room slot ≡ true) fresh_slot world.slots s (with_packet (slot_at world s))
            (λ m is. is) (λ is. is) _ ((listed.busy own).still q within awake off);
      };
      within = on_slot_within given s with_packet (on_data_within world slice pushes listed.within s)
          (on_data_within world slice pushes listed.within);
    })
    listed
sent_listed setup waiting world s (recalled slice until) listed = listed
sent_listed setup waiting world s leaving listed = listed

pub send_listed : (setup : EpochSetup) (waiting : WaitingSlots) (world : World) (s : ℕ) → AreListed setup waiting world
    → AreListed setup waiting (send_packet setup.rooms world s).world
send_listed setup waiting world s listed = sent_listed setup waiting world s (slot_at world s).data_half listed

-- what follows where a call succeeds
pub on_ok : {X Y P Q : Type 0} (result : Result X Y) → (P → Q) → OnOk result P → OnOk result Q
on_ok (Ok x) step is = step is
on_ok (Err y) step is = tt

pub on_both : {X Y P Q R : Type 0} (result : Result X Y) → (P → Q → R) → OnOk result P → OnOk result Q → OnOk result R
on_both (Ok x) step one other = step one other
on_both (Err y) step one other = tt

pub if_ok : {X Y Q : Type 0} {P : X → Type 0} (result : Result X Y) → ((x : X) → P x → Q) → IfOk result P
    → OnOk result Q
if_ok (Ok x) step is = step x is
if_ok (Err y) step is = tt

-- What the halves of a slot do when they are turned, and what is left of a slot as its epoch closes.
use Rattle.std.specs.Prelude.{ℕ, zero, suc, ◌+◌, ◌-◌, ◌==◌, ◌&&◌, Bool, true, false, if◌then◌else◌, nat_lt, nat_le, min}
use Rattle.std.specs.Prelude.{Option, Some, None, List, [], ◌∷◌, ◌++◌, length, drop, get_or}
use Rattle.std.specs.List.{prefix_len}
use Rattle.pc_base.specs.declared.packet.Place.{Place}
use Rattle.pc_base.specs.declared.packet.Place.TheVariants.{Closing}
use Rattle.epoch_schedule.specs.Numbers.{times}
use Rattle.epoch_schedule.specs.Slots.{CommandTags, SlotNow}

-- how many versions a batch has at most, and how many batches a data half learns in one turn
abbrev pub batch_size : ℕ
batch_size = 16

abbrev pub batches_learnt : ℕ
batches_learnt = 16

-- Versions of one batch have one floor, and their commands no more moves before them than the half knows of.
abbrev pub fits : (hop floor : ℕ) → CommandTags → Bool
fits hop floor tags = nat_le tags.hop hop && (tags.floor == floor)

abbrev pub batch_of : ℕ → List CommandTags → ℕ
batch_of hop [] = 0
batch_of hop (first ∷ tags) = min batch_size (prefix_len (fits hop first.floor) (first ∷ tags))

abbrev pub next_batch : SlotNow → ℕ
next_batch slot = batch_of slot.arrived (drop slot.applied slot.commands)

-- A control half applies so many commands. Behind fewer than a whole batch it has looked at the next one, and keeps it.
abbrev pub apply_some : SlotNow → ℕ → SlotNow
apply_some slot n = record slot {
  taken = if n == batch_size then slot.applied + n else min (slot.applied + n + 1) (length slot.commands);
  applied = slot.applied + n;
}

-- it sends the batch of so many, or keeps it where its lane is full
abbrev pub send : ℕ → SlotNow → ℕ → SlotNow
send room slot zero = slot
send room slot (suc n) =
    if nat_lt (length slot.sent) room then record slot { sent = slot.sent ++ suc n ∷ [] }
    else record slot { unsent = Some (suc n) }

-- a slot behind a turn of its control half, and whether that worked
pub record Worked : Type 0 where
  pub slot : SlotNow
  pub worked : Bool

abbrev pub apply_batch : ℕ → SlotNow → SlotNow
apply_batch room slot = send room (apply_some slot (next_batch slot)) (next_batch slot)

abbrev pub work_behind : ℕ → SlotNow → Option ℕ → Worked
work_behind room slot None = record { slot = apply_batch room slot; worked = nat_lt 0 (next_batch slot) }
work_behind room slot (Some n) =
    if nat_lt (length slot.sent) room
    then record { slot = apply_batch room (record slot { unsent = None; sent = slot.sent ++ n ∷ [] }); worked = true }
    else record { slot = slot; worked = false }

-- a kept batch is sent first, and while it can't be sent nothing is applied
abbrev pub control_work : ℕ → SlotNow → Worked
control_work room slot = work_behind room slot slot.unsent

-- the packets that the command of this number waits for
abbrev pub floor_of : SlotNow → ℕ → ℕ
floor_of slot n = (get_or slot.commands n (record { hop = 0; floor = 0 })).floor

-- A data half takes a batch unless it keeps one, and learns it once its last version waits for no packet that isn't
-- handled.
abbrev pub take_batch : SlotNow → Option ℕ → List ℕ → SlotNow
take_batch slot (Some n) sent = slot
take_batch slot None [] = slot
take_batch slot None (n ∷ sent) = record slot { batch = Some n; sent = sent }

abbrev pub learn_batch : SlotNow → Option ℕ → SlotNow
learn_batch slot None = slot
learn_batch slot (Some n) =
    if nat_le (floor_of slot (slot.learnt + n - 1)) (length slot.met)
    then record slot { batch = None; learnt = slot.learnt + n } else slot

abbrev pub learn_taken : SlotNow → SlotNow
learn_taken slot = learn_batch slot slot.batch

abbrev pub learn_one : SlotNow → SlotNow
learn_one slot = learn_taken (take_batch slot slot.batch slot.sent)

unfoldable pub learn : SlotNow → SlotNow
learn slot = times batches_learnt learn_one slot

-- its next packet may be handled once the commands that it waits for are learnt
abbrev pub may_handle : SlotNow → Bool
may_handle slot =
    nat_lt (length slot.met) (length slot.packets) && nat_le (get_or slot.packets (length slot.met) 0) slot.learnt

abbrev pub handle : Place → SlotNow → SlotNow
handle place slot = record slot { met = slot.met ++ record { commands = slot.learnt; place = place } ∷ [] }

-- As the epoch closes each version is learnt that waits for no later packet, then the next packet is handled, until
-- none is left.
abbrev pub learn_all : SlotNow → SlotNow
learn_all slot = record slot {
  learnt = slot.learnt + prefix_len (λ (tags : CommandTags). nat_le tags.floor (length slot.met))
      (drop slot.learnt slot.commands);
}

abbrev pub close_one : SlotNow → SlotNow
close_one slot = handle Closing (learn_all slot)

abbrev pub closed : SlotNow → SlotNow
closed slot = times (length slot.packets - length slot.met) close_one slot

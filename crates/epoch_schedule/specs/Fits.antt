-- What holds of each slot, whatever the schedule: each packet is handled once and in order, behind no fewer commands
-- than it waits for, and behind none that waits for it or for a later one.
use Rattle.std.specs.Prelude.{◌≡◌, ℕ, ◌+◌, ◌<◌, ◌≤◌, Option, List, length, map, sum, get_or}
use Rattle.std.specs.Prelude.{unwrap_or}
use Rattle.pc_base.specs.declared.packet.Place.TheVariants.{Closing}
use Rattle.epoch_schedule.specs.Slots.{CommandTags, Met, SlotNow}
use Rattle.epoch_schedule.specs.World.{Rooms, start, slot_at}
use Rattle.epoch_schedule.specs.Accounts.{Account, no_account, account_of}
use Rattle.epoch_schedule.specs.Schedule.{Driven, behind_lines, outcomes, slot_behind}

-- by number: the packets that a command waits for, the commands that a packet waits for, and those that it met
abbrev pub floor_at : List CommandTags → ℕ → ℕ
floor_at commands n = (get_or commands n (record { hop = 0; floor = 0 })).floor

abbrev pub packet_at : List ℕ → ℕ → ℕ
packet_at packets n = get_or packets n 0

abbrev pub count_at : List Met → ℕ → ℕ
count_at met n = (get_or met n (record { commands = 0; place = Closing })).commands

-- the commands that were applied are those whose versions are learnt, in the kept batch, sent, or not sent
pub record Sizes (learnt : ℕ) (batch : Option ℕ) (sent : List ℕ) (unsent : Option ℕ)
    (applied commands : ℕ) : Type 0 where
  pub all : learnt + unwrap_or batch 0 + sum sent + unwrap_or unsent 0 ≡ applied
  pub few : applied ≤ commands

-- The commands' floors rise, and none is above the packets before the last move. A packet waits for commands that were
-- accepted, and these for none but the packets before it.
pub record Floors (commands : List CommandTags) (packets : List ℕ) (commands_before packets_before : ℕ) : Type 0 where
  pub rise : (i j : ℕ) → i ≤ j → j < length commands → floor_at commands i ≤ floor_at commands j
  pub commands_wait : (j : ℕ) → j < length commands → floor_at commands j ≤ packets_before
  pub packets_few : packets_before ≤ length packets
  pub commands_few : commands_before ≤ length commands
  pub packets_wait : (k : ℕ) → k < length packets → packet_at packets k ≤ length commands
  pub early : (k j : ℕ) → k < length packets → j < packet_at packets k → floor_at commands j ≤ k

-- Learnt commands wait for handled packets alone. Counts rise, and none is above what is learnt; each is at least the
-- packet's floor, and the commands that the packet met wait for none but the packets before it.
pub record Handles (commands : List CommandTags) (packets : List ℕ) (learnt : ℕ) (met : List Met) : Type 0 where
  pub few : length met ≤ length packets
  pub learnt_wait : (j : ℕ) → j < learnt → floor_at commands j ≤ length met
  pub known : learnt ≤ length commands
  pub within : (k : ℕ) → k < length met → count_at met k ≤ learnt
  pub rise : (i k : ℕ) → i ≤ k → k < length met → count_at met i ≤ count_at met k
  pub least : (k : ℕ) → k < length met → packet_at packets k ≤ count_at met k
  pub most : (k j : ℕ) → k < length met → j < count_at met k → floor_at commands j ≤ k

pub record SlotFits (slot : SlotNow) : Type 0 where
  pub sizes : Sizes slot.learnt slot.batch slot.sent slot.unsent slot.applied (length slot.commands)
  pub floors : Floors slot.commands slot.packets slot.commands_before slot.packets_before
  pub handles : Handles slot.commands slot.packets slot.learnt slot.met

-- so behind any lines and turns
abbrev pub EachSlotFits : Type 0
EachSlotFits = (rooms : Rooms) (bounds : ℕ → ℕ) (lines : List Driven) (s : ℕ)
    → SlotFits (slot_at (behind_lines rooms bounds start lines) s)

-- Behind the epoch each packet that was taken is handled. What commands and packets wait for is what the lines say, by
-- which of them were taken.
pub record IsDone (slot : SlotNow) (account : Account) : Type 0 where
  pub commands : map (λ (tags : CommandTags). tags.floor) slot.commands ≡ account.commands
  pub packets : slot.packets ≡ account.packets
  pub all : length slot.met ≡ length account.packets
  pub handles : Handles slot.commands slot.packets slot.learnt slot.met

abbrev pub EachPacketIsHandled : Type 0
EachPacketIsHandled = (rooms : Rooms) (bounds : ℕ → ℕ) (lines : List Driven) (s : ℕ)
    → IsDone (slot_behind rooms bounds lines s)
    (account_of s no_account lines (outcomes rooms bounds start lines))

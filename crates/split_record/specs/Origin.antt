-- What a clause says of parts, and of what they come from.
use Rattle.std.specs.Prelude.{◌≡◌, ℕ, ◌+◌, ◌≤◌, ◌^◌, None, List, [], ◌++◌, length, drop, option_to_list}
use Rattle.lane_core.specs.Ends.{sender_lane, receiver_lane, sent}
use Rattle.subscriber.specs.Standing.{SubscriberState, commands_met}
use Rattle.control_half.specs.Applied.{HasRoomFor}
use Rattle.control_half.specs.Half as control
use Rattle.control_half.specs.Published.{in_batches, in_kept}
use Rattle.control_half.specs.declared.items.CommandItem.{CommandItem}
use Rattle.pc_base.specs.declared.packet.Place.{Place}
use Rattle.counter_half.specs.Half as data_half
use Rattle.counter_half.specs.Handled.{places_in}
use Rattle.counter_half.specs.State.{learnt_by}
use Rattle.counter_half.specs.declared.items.DataItem.{DataItem}
use Rattle.counter_half.specs.declared.items.PacketDone.{PacketDone}
use Rattle.split_record.specs.Closing.{HasLeft, AreItems}
use Rattle.split_record.specs.Finishing.{AllMeetBehind, handled_as, counts_told}
use Rattle.split_record.specs.Places.{at_closing}
use Rattle.split_record.specs.Rejoined.{start_of, commands_sent}
use Rattle.split_record.specs.declared.origin.Origin.{Origin}
use Rattle.split_record.specs.declared.parts.Stage.{Stage}
use Rattle.split_record.specs.declared.parts.Stage.TheVariants as stages
use Rattle.split_record.specs.declared.parts.OpenHalves.{OpenHalves}
use Rattle.split_record.specs.declared.parts.Halfway.{Halfway}
use Rattle.split_record.specs.declared.parts.Commanded.{Commanded}
use Rattle.split_record.specs.declared.closing.Closing.{Closing}

-- the subscriber at the split, the commands and the items accepted since
abbrev pub start_in : Origin → SubscriberState
start_in origin = start_of origin.front.value

abbrev pub commands_in : Origin → List CommandItem
commands_in origin = commands_sent origin.front.value

abbrev pub items_in_all : Origin → List DataItem
items_in_all origin = data_half.handled_by origin.data_half.value ++ origin.left.value.items

-- how many of them the half had handled
abbrev pub handled_early : Origin → ℕ
handled_early origin = length (data_half.handled_by origin.data_half.value)

-- what is told of the packets that were left
abbrev pub LeftMeetAll : Origin → List PacketDone → Type 0
LeftMeetAll origin judged = AllMeetBehind (handled_early origin) (commands_met (start_in origin)) (commands_in origin)
    (handled_as (items_in_all origin) (counts_told judged))

-- the slice that the subscriber was bound for at the split
abbrev pub bound_for : Origin → ℕ
bound_for origin = origin.front.value.destination

-- where those that the half had handled were handled, and where those that were left will be
abbrev pub places_in_all : Origin → List Place
places_in_all origin = data_half.places_of origin.data_half.value ++ at_closing origin.left.value.items

-- both lanes are open: nothing is changed yet
pub record IsOpen (origin : Origin) (open_now : OpenHalves) : Type 0 where
  pub session : (control.end_name open_now.control).session ≡ (start_in origin).session
  pub number : (control.end_name open_now.control).number ≡ commands_met (start_in origin)
  pub commands : (control.end_name open_now.control).commands ≡ sender_lane open_now.lane
  pub versions : (control.end_name open_now.control).versions ≡ (data_half.rest_name open_now.data_half).versions
  pub started : (data_half.rest_name open_now.data_half).started ≡ start_in origin
  pub sent_are : sent open_now.lane ≡ commands_in origin
  pub items : AreItems (items_in_all origin) open_now.data_half.state.handled.items open_now.left.items
  pub places : places_in open_now.data_half.state.notes.items ++ at_closing open_now.left.items ≡ places_in_all origin
  pub early : length open_now.data_half.state.handled.items ≡ handled_early origin

-- the commands that a control half has still to apply
abbrev pub waiting_in : Commanded → ℕ → List CommandItem
waiting_in commanded applied = option_to_list commanded.head ++ drop applied commanded.rest.items

abbrev pub commands_left : Closing → List CommandItem
commands_left closing = waiting_in closing.control closing.applied

-- the packets that it has still to handle
abbrev pub items_left : Closing → List DataItem
items_left closing = drop closing.handled closing.left.items

-- the lane of commands is closed
pub record IsHalfway (origin : Origin) (half : Halfway) : Type 0 where
  pub left_to_do : HasLeft (start_in origin) (commands_in origin) half.control.controller.session
      half.control.controller.number half.control.controller.notes.items half.control.due (waiting_in half.control 0)
      (in_batches (sent half.versions) ++ in_kept half.control.kept)
  pub versions : sender_lane half.versions ≡ receiver_lane half.data_half.versions
  pub roomy : HasRoomFor (start_in origin).session (commands_met (start_in origin))
  pub started : (data_half.rest_name half.data_half).started ≡ start_in origin
  pub items : AreItems (items_in_all origin) half.data_half.state.handled.items half.left.items
  pub places : places_in half.data_half.state.notes.items ++ at_closing half.left.items ≡ places_in_all origin
  pub early : length half.data_half.state.handled.items ≡ handled_early origin

-- both are
pub record IsClosing (origin : Origin) (closing : Closing) : Type 0 where
  pub left_to_do : HasLeft (start_in origin) (commands_in origin) closing.control.controller.session
      closing.control.controller.number closing.control.controller.notes.items closing.control.due
      (commands_left closing)
      (learnt_by closing.state ++ (in_kept closing.taken ++ (in_batches closing.batches.items
      ++ in_kept closing.control.kept)))
  pub roomy : HasRoomFor (start_in origin).session (commands_met (start_in origin))
  pub few : (start_in origin).packets ≤ 2 ^ 60
  pub started : closing.state.started ≡ start_in origin
  pub items : AreItems (items_in_all origin) closing.state.handled.items (items_left closing)
  pub places : places_in closing.state.notes.items ++ at_closing (items_left closing) ≡ places_in_all origin
  pub met : AllMeetBehind (handled_early origin) (commands_met (start_in origin)) (commands_in origin)
      closing.state.handled.items

-- every command is applied, and its version is learnt or in a batch
pub record IsApplied (origin : Origin) (closing : Closing) : Type 0 where
  pub number : closing.control.controller.number ≡ commands_met (start_in origin) + length (commands_in origin)
  pub none_due : closing.control.due ≡ None
  pub none_kept : closing.control.kept ≡ None

-- nothing is left to do
pub record IsDone (origin : Origin) (closing : Closing) : Type 0 where
  pub applied : IsApplied origin closing
  pub learnt : (closing.taken ≡ None) × (closing.batches.items ≡ [])
  pub handled : items_left closing ≡ []

-- how far they are together
pub record IsAt (origin : Origin) (stage : Stage) : Type 0 where
  pub opens : (open_now : OpenHalves) → stage ≡ stages.Open open_now → IsOpen origin open_now
  pub halfway : (half : Halfway) → stage ≡ stages.Halfway half → IsHalfway origin half
  pub closing : (closing_now : Closing) → stage ≡ stages.Closing closing_now → IsClosing origin closing_now

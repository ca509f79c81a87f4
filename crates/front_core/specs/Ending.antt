-- The subscribers of an epoch are one again, slot after slot.
use Rattle.std.specs.Prelude.{◌≡◌, ℕ, ◌+◌, Option, Some, None}
use Rattle.std.specs.Prelude.{List, [], ◌∷◌, ◌++◌, length, map, get_or, flat_map, reverse}
use Rattle.report_lines.specs.Records.{Effected}
use Rattle.report_lines.specs.declared.entry.ChargeEntry.{ChargeEntry}
use Rattle.report_lines.specs.declared.entry.ChargeEntry.TheVariants.{R}
use Rattle.subscriber.specs.Standing.{SubscriberState}
use Rattle.lawful_run.specs.Run.{by_slot}
use Rattle.slot_execution.specs.Replaying.{effects_told, rows_told}
use Rattle.control_half.specs.declared.half.ControlHalf.{ControlHalf}
use Rattle.control_half.specs.declared.items.CommandDone.{CommandDone}
use Rattle.counter_half.specs.Half.{handled_by}
use Rattle.counter_half.specs.Tells.{effect_entries}
use Rattle.counter_half.specs.declared.half.DataHalf.{DataHalf}
use Rattle.counter_half.specs.declared.items.DataItem.{DataItem}
use Rattle.counter_half.specs.declared.items.PacketDone.{PacketDone}
use Rattle.gather_home.specs.declared.data_home.Home.{Home}
use Rattle.split_record.specs.Rejoined.{AreAccepted, AreOfOneSplit, Finishes, commands_sent, start_of}
use Rattle.split_record.specs.declared.finishing.Finished.{Finished}
use Rattle.split_record.specs.declared.front.FrontEnd.{FrontEnd}
use Rattle.front_core.specs.declared.lot.Lot.{Lot}
use Rattle.front_core.specs.declared.lot.Lot.TheVariants.{Moved, Split}
use Rattle.front_core.specs.Lots.{end_of, lot_of}
use Rattle.front_core.specs.declared.answers.SlotAnswers.{SlotAnswers}
use Rattle.front_core.specs.declared.told.ToldSlots.{ToldSlots}

-- what is told, the next of each kind first
abbrev pub answers_told : SlotAnswers → List CommandDone × List PacketDone
answers_told answers = (reverse answers.replies.items, reverse answers.packets.items)

-- a slot's halves came home, and come to these items
pub record CanEnd (slot : ℕ) (end : FrontEnd) (items : List DataItem) (control : ControlHalf)
    (home : Home DataHalf DataItem) : Type 0 where
  pub own : end.slot ≡ slot
  pub one : AreOfOneSplit end control home.half
  pub accepted : AreAccepted end items
  pub items_are : handled_by home.half ++ home.left.items ≡ items

-- the next halves are those of the next split subscriber, from this slot on
abbrev pub CanEndAll : ℕ → (ℕ → List DataItem) → List (Option Lot) → List ControlHalf → List (Home DataHalf DataItem)
    → Type 0
CanEndAll slot items [] controls homes = Unit {0}
CanEndAll slot items (None ∷ lots) controls homes = CanEndAll (slot + 1) items lots controls homes
CanEndAll slot items (Some Moved ∷ lots) controls homes = CanEndAll (slot + 1) items lots controls homes
CanEndAll slot items (Some (Split end) ∷ lots) [] homes = ⊥
CanEndAll slot items (Some (Split end) ∷ lots) (control ∷ controls) [] = ⊥
CanEndAll slot items (Some (Split end) ∷ lots) (control ∷ controls) (home ∷ homes) =
    CanEnd slot end (items slot) control home × CanEndAll (slot + 1) items lots controls homes

-- what came of a slot
pub record Came : Type 0 where
  pub replies : List CommandDone
  pub packets : List PacketDone
  pub effects : List Effected
  pub rows : List ChargeEntry

abbrev pub nothing_came : Came
nothing_came = record { replies = []; packets = []; effects = []; rows = [] }

abbrev pub came_of : ℕ → Finished → Came
came_of slot finished = record {
  replies = finished.commands.items;
  packets = finished.packets.items;
  effects = flat_map (effect_entries slot) finished.effects.items;
  rows = map (R slot) finished.rows.items;
}

-- a split subscriber is one again; where it is bound for stays as it was
pub record SplitEnds (slot : ℕ) (end : FrontEnd) (items : List DataItem) (old new : SubscriberState) (came : Came) :
    Type 0 where
  pub finished : Finished
  pub finishes : Finishes (start_of end) (commands_sent end) items end.destination finished
  pub record_is : new ≡ record finished.record { destination = old.destination }
  pub came_is : came ≡ came_of slot finished

-- all of so many first slots
pub record AllEnd (items : ℕ → List DataItem) (lots : List (Option Lot)) (old new : List SubscriberState)
    (answers : List SlotAnswers) (effects : List Effected) (rows : List ChargeEntry) : Type 0 where
  pub came : ℕ → Came
  pub many : length new ≡ length old
  pub answered : length answers ≡ length lots
  pub split : (slot : ℕ) (end : FrontEnd) (none : SubscriberState) → lot_of lots slot ≡ Some (Split end)
      → SplitEnds slot end (items slot) (get_or old slot none) (get_or new slot none) (came slot)
  pub rests : (slot : ℕ) → end_of (lot_of lots slot) ≡ None → came slot ≡ nothing_came
  pub stays : (slot : ℕ) (none : SubscriberState) → end_of (lot_of lots slot) ≡ None
      → get_or new slot none ≡ get_or old slot none
  pub answers_are : (slot : ℕ) → get_or (map answers_told answers) slot ([], [])
      ≡ ((came slot).replies, (came slot).packets)
  pub effects_are : effects ≡ by_slot (length lots) (λ slot. (came slot).effects)
  pub rows_are : rows ≡ by_slot (length lots) (λ slot. (came slot).rows)

abbrev pub HaveEnded : (ℕ → List DataItem) → List (Option Lot) → List SubscriberState → List SubscriberState → ToldSlots
    → Type 0
HaveEnded items lots old new told = AllEnd items lots old new told.answers.items (effects_told told.effects.items)
    (rows_told told.rows.items)

-- what came of the next slot is told
pub record Tells (came : Came) (old new : ToldSlots) : Type 0 where
  pub answer : SlotAnswers
  pub answers : new.answers.items ≡ old.answers.items ++ answer ∷ []
  pub answered : answers_told answer ≡ (came.replies, came.packets)
  pub effects : effects_told new.effects.items ≡ effects_told old.effects.items ++ came.effects
  pub rows : rows_told new.rows.items ≡ rows_told old.rows.items ++ came.rows

-- the next split subscriber is one again, and the halves of later ones are left, in the order from the last
pub record EndsSplit (slot : ℕ) (end : FrontEnd) (items : ℕ → List DataItem) (lots : List (Option Lot))
    (controls : List ControlHalf) (homes : List (Home DataHalf DataItem)) (old new : SubscriberState)
    (told now : ToldSlots) : Type 0 where
  pub came : Came
  pub ends : SplitEnds slot end (items slot) old new came
  pub tells : Tells came told now
  pub rest : CanEndAll (slot + 1) items lots (reverse controls) (reverse homes)

-- the same of the next slot, whether its subscriber is split or rests
pub record EndsNext (slot : ℕ) (items : ℕ → List DataItem) (before after : List (Option Lot))
    (controls : List ControlHalf) (homes : List (Home DataHalf DataItem)) (old new : SubscriberState)
    (told now : ToldSlots) : Type 0 where
  pub lot : Option Lot
  pub first : reverse before ≡ lot ∷ reverse after
  pub came : Came
  pub tells : Tells came told now
  pub rest : CanEndAll (slot + 1) items (reverse after) (reverse controls) (reverse homes)
  pub split : (end : FrontEnd) → lot ≡ Some (Split end) → SplitEnds slot end (items slot) old new came
  pub rests : end_of lot ≡ None → (came ≡ nothing_came) × (new ≡ old)

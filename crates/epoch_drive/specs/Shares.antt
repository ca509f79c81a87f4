-- The commands and packets of each slot that were taken, with what the packets meet.
use Rattle.std.specs.Prelude.{◌≡◌, ℕ, ◌+◌, ◌≤◌, ◌<◌, List, [], ◌∷◌, ◌++◌, length, map, take, get_or, set, All}
use Rattle.control_steps.specs.declared.command.CommandKind.{CommandKind}
use Rattle.demux.specs.Trace.{Meaning, command, packet, move, note}
use Rattle.demux.specs.declared.packet.LentPacket.{LentPacket}
use Rattle.gate_model.specs.Events.{FewEvents}
use Rattle.lawful_run.specs.Accepted as accepted
use Rattle.lawful_run.specs.LinesTold.{LineTold}
use Rattle.epoch_schedule.specs.Slots.{Met}
use Rattle.epoch_schedule.specs.Plan.{Plan, mets_of}
use Rattle.slot_execution.specs.Replaying.{commands_lent, counts_of, places_of}
use Rattle.slot_execution.specs.declared.placed.Placed.{Placed}
use Rattle.subscriber.specs.Standing.{SubscriberState, commands_met}
use Rattle.epoch_drive.specs.declared.sharing.Share.{Share}

abbrev pub packets_lent : List Placed → List LentPacket
packets_lent packets = map (λ (placed : Placed). placed.packet) packets

abbrev pub packets_alone : List accepted.Placed → List LentPacket
packets_alone packets = map (λ (placed : accepted.Placed). placed.packet) packets

-- a slot's share of lines: what was taken of it, each packet with the next of these counts, behind so many commands
-- before the epoch, and of these places
pub record IsShare (share : Share) (base : ℕ) (mets : List Met) (told : List LineTold) (slot : ℕ) : Type 0 where
  pub commands : commands_lent share.commands.items ≡ accepted.commands_accepted slot told
  pub packets : packets_lent share.packets.items ≡ packets_alone (accepted.packets_accepted slot told)
  pub counts : counts_of share.packets.items
      ≡ map (λ (m : Met). base + m.commands) (take (length share.packets.items) mets)
  pub places : places_of share.packets.items ≡ map (λ (m : Met). m.place) (take (length share.packets.items) mets)

-- how many commands of a slot came before the epoch
abbrev pub base_at : List SubscriberState → ℕ → ℕ
base_at subscribers slot = get_or (map commands_met subscribers) slot 0

abbrev pub AreShares : List Share → List SubscriberState → Plan → List LineTold → Type 0
AreShares shares subscribers plan told = (slot : ℕ) (share : Share) → slot < length shares
    → IsShare (get_or shares slot share) (base_at subscribers slot) (mets_of plan slot) told slot

-- there are mets for all packets that are taken, and few commands before each
pub record AreMet (plan : Plan) (subscribers : List SubscriberState) (told : List LineTold) : Type 0 where
  pub enough : (slot : ℕ) → length (accepted.packets_accepted slot told) ≤ length (mets_of plan slot)
  pub few : (slot : ℕ) → All (λ (m : Met). FewEvents m.commands) (mets_of plan slot)
  pub counts : All (λ (s : SubscriberState). FewEvents (commands_met s)) subscribers

abbrev pub IsEmpty : Share → Type 0
IsEmpty share = (share.commands.items ≡ []) × (share.packets.items ≡ [])

-- a slot's next packet has what it meets, behind few commands
pub record MayMeet (shares : List Share) (subscribers : List SubscriberState) (plan : Plan) (slot : ℕ) : Type 0 where
  pub within : (share : Share) → length (get_or shares slot share).packets.items < length (mets_of plan slot)
  pub few : All (λ (m : Met). FewEvents m.commands) (mets_of plan slot)
  pub counts : (subscriber : SubscriberState) → FewEvents (commands_met (get_or subscribers slot subscriber))

abbrev pub HasMet : List Share → List SubscriberState → Plan → Meaning → Type 0
HasMet shares subscribers plan (command slot c) = Unit {0}
HasMet shares subscribers plan (packet slot p) = MayMeet shares subscribers plan slot
HasMet shares subscribers plan (move slot slice text) = Unit {0}
HasMet shares subscribers plan (note text) = Unit {0}

-- a slot is given a command, or a packet with what it meets
pub record GivesCommand (old new : List Share) (slot : ℕ) (c : CommandKind) : Type 0 where
  pub share : Share
  pub after : Share
  pub found : share ≡ get_or old slot share
  pub is : new ≡ set old slot after
  pub commands : commands_lent after.commands.items ≡ commands_lent share.commands.items ++ c ∷ []
  pub packets : after.packets.items ≡ share.packets.items

pub record GivesPacket (old new : List Share) (subscribers : List SubscriberState) (plan : Plan) (slot : ℕ)
    (p : LentPacket) : Type 0 where
  pub share : Share
  pub after : Share
  pub subscriber : SubscriberState
  pub met : Met
  pub found : share ≡ get_or old slot share
  pub there : subscriber ≡ get_or subscribers slot subscriber
  pub meets : met ≡ get_or (mets_of plan slot) (length share.packets.items) met
  pub within : length share.packets.items < length (mets_of plan slot)
  pub is : new ≡ set old slot after
  pub commands : after.commands.items ≡ share.commands.items
  pub packets : packets_lent after.packets.items ≡ packets_lent share.packets.items ++ p ∷ []
  pub counts : counts_of after.packets.items
      ≡ counts_of share.packets.items ++ (commands_met subscriber + met.commands) ∷ []
  pub places : places_of after.packets.items ≡ places_of share.packets.items ++ met.place ∷ []

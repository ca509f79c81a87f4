-- No event changes a session's slot.
use Rattle.std.proofs.Common.{◌≡◌, ℕ, List, [], ◌∷◌, fold, Option, Some, None, refl, ◌∙◌}
use Rattle.pc_base.specs.declared.packet.Peer.{Peer}
use Rattle.tft_codec.specs.declared.filter.Filter.{Filter}
use Rattle.bearer_state.specs.declared.qos.Qos.{Qos}
use Rattle.bearer_state.specs.Lookup.{least_free}
use Rattle.bearer_state.specs.Session.{SessionState}
use Rattle.control_steps.specs.declared.command.CommandKind.{CommandKind}
use Rattle.control_steps.specs.declared.command.CommandKind.TheVariants.{Attach, Create, Modify, AddBearer, Filters, Drop, Ambr, CreateAns}
use Rattle.control_steps.specs.Row.{Row, created, attached, modified, asked, refiltered, dropped, rerated, granted, denied, filters_given, filters_made, row_of}
use Rattle.control_steps.specs.Table.{effect, with_bearer, with_filters, with_enb, qos_asked, controlled}
use Rattle.gate_model.specs.declared.event.Event.{Event}
use Rattle.gate_model.specs.declared.event.Event.TheVariants as event
use Rattle.gate_model.specs.SlotPast.{SlotPast, new_slot, commanded, met, happens, behind, session_after}

of_bearer : (session : SessionState) (seq : ℕ) (qos : Qos) (index : Option ℕ) (filters : Option (List Filter))
    → (with_bearer session seq qos index filters).slot ≡ session.slot
of_bearer session seq qos (Some index) (Some filters) = refl
of_bearer session seq qos index filters = refl

of_filters : (session : SessionState) (ebi : ℕ) (filters : Option (List Filter))
    → (with_filters session ebi filters).slot ≡ session.slot
of_filters session ebi None = refl
of_filters session ebi (Some filters) = refl

of_enb : (session : SessionState) (seq ebi : ℕ) (enb : Option Peer) → (with_enb session seq ebi enb).slot ≡ session.slot
of_enb session seq ebi None = refl
of_enb session seq ebi (Some enb) = refl

of_effect : (row : Row) (session : SessionState) (command : CommandKind)
    → (effect row session command).slot ≡ session.slot
of_effect created session (Create seq mme pdn ebi qos enb up down) = refl
of_effect attached session (Attach enb up down) = refl
of_effect modified session (Modify seq mme asks) = refl
of_effect asked session (AddBearer seq qci mbr_up mbr_down gbr_up gbr_down tft) =
    of_bearer session seq (qos_asked session.bearers qci mbr_up mbr_down gbr_up gbr_down)
    (least_free session.bearers) (filters_given tft)
of_effect refiltered session (Filters seq ebi tft) = of_filters session ebi (filters_made session.bearers ebi tft)
of_effect dropped session (Drop seq ebi) = refl
of_effect rerated session (Ambr seq up down) = refl
of_effect granted session (CreateAns seq cause ebi row_cause enb) = of_enb session seq ebi enb
of_effect denied session (CreateAns seq cause ebi row_cause enb) = refl
of_effect row session command = refl

pub of_command : (session : SessionState) (command : CommandKind) → (controlled session command).0.slot ≡ session.slot
of_command session command = of_effect (row_of session command) session command

of_events : (past : SlotPast) (events : List Event) → (fold behind past events).session.slot ≡ past.session.slot
unfolding happens
of_events past [] = refl
of_events past (event.Command command ∷ later) =
    of_events (commanded past command) later ∙ of_command past.session command
of_events past (event.Packet packet ∷ later) = of_events (met past packet) later

pub slot_stays : (slot : ℕ) (events : List Event) → (session_after slot events).slot ≡ slot
slot_stays slot events = of_events (new_slot slot) events

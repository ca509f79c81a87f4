-- What is asked of a session, and the ranges that a command keeps.
use Rattle.std.specs.Prelude.{◌≡◌, ℕ, ◌≤◌, ◌⊎◌, Option, Some, None}
use Rattle.control_steps.specs.declared.command.CommandKind.{CommandKind}
use Rattle.control_steps.specs.declared.command.CommandKind.TheVariants.{Attach, Create, Modify, Release}
use Rattle.control_steps.specs.declared.command.CommandKind.TheVariants.{Delete, AddBearer}
use Rattle.control_steps.specs.declared.command.CommandKind.TheVariants.{Filters, Drop, Ambr, CreateAns}
use Rattle.control_steps.specs.declared.command.CommandKind.TheVariants.{UpdateAns, DeleteAns}
use Rattle.gtpv2_msg.specs.declared.kind.TheConstants.{CREATE_SESSION_REQUEST, MODIFY_BEARER_REQUEST}
use Rattle.gtpv2_msg.specs.declared.kind.TheConstants.{RELEASE_ACCESS_BEARERS_REQUEST, DELETE_SESSION_REQUEST}
use Rattle.bearer_state.specs.declared.qos.Qos.{Qos}
use Rattle.bearer_state.specs.Ask.{AreAsks}
use Rattle.bearer_state.specs.Bearer.{IsEbi, IsSeq}
use Rattle.bearer_state.specs.Qos.{IsQos}
use Rattle.bearer_state.specs.Session.{IsAmbr}

pub record AreRates (up down : ℕ) : Type 0 where
  pub up_fits : IsAmbr up
  pub down_fits : IsAmbr down

pub record IsCreate (seq pdn ebi : ℕ) (qos : Qos) (up down : ℕ) : Type 0 where
  pub seq_fits : IsSeq seq
  pub pdn_least : 1 ≤ pdn
  pub pdn_most : pdn ≤ 3
  pub ebi_fits : IsEbi ebi
  pub qos_fits : IsQos qos
  pub rates_fit : AreRates up down

-- the EBI in an answer: none was given, or one
abbrev pub IsEbiOrNone : ℕ → Type 0
IsEbiOrNone ebi = (ebi ≡ 0) ⊎ IsEbi ebi

abbrev pub IsCommand : CommandKind → Type 0
IsCommand (Attach enb up down) = AreRates up down
IsCommand (Create seq mme pdn ebi qos enb up down) = IsCreate seq pdn ebi qos up down
IsCommand (Modify seq mme asks) = IsSeq seq × AreAsks asks
IsCommand (Release seq) = IsSeq seq
IsCommand (Delete seq) = IsSeq seq
IsCommand (AddBearer seq qci mbr_up mbr_down gbr_up gbr_down tft) = IsSeq seq
IsCommand (Filters seq ebi tft) = IsSeq seq × IsEbi ebi
IsCommand (Drop seq ebi) = IsSeq seq × IsEbi ebi
IsCommand (Ambr seq up down) = IsSeq seq × AreRates up down
IsCommand (CreateAns seq cause ebi row_cause enb) = IsSeq seq × IsEbiOrNone ebi
IsCommand (UpdateAns seq) = IsSeq seq
IsCommand (DeleteAns seq) = IsSeq seq

-- The requests of an MME, by message type and sequence number: their answers are kept.
abbrev pub request_of : CommandKind → Option (ℕ × ℕ)
request_of (Create seq mme pdn ebi qos enb up down) = Some (CREATE_SESSION_REQUEST, seq)
request_of (Modify seq mme asks) = Some (MODIFY_BEARER_REQUEST, seq)
request_of (Release seq) = Some (RELEASE_ACCESS_BEARERS_REQUEST, seq)
request_of (Delete seq) = Some (DELETE_SESSION_REQUEST, seq)
request_of command = None

-- That a written message reads back, and the ranges that its numbers have by the types of their fields.
use Rattle.std.specs.Prelude.{ℕ, ◌<◌, ◌≤◌, ◌^◌, ◌++◌, List, IfSome}
use Rattle.pc_base.specs.declared.packet.Peer.{Peer}
use Rattle.tft_codec.specs.Tft.{IsTft}
use Rattle.gtpv2_msg.specs.Message.{Message}
use Rattle.gtpv2_msg.specs.Reading.{Spells}
use Rattle.gtpv2_msg.specs.Spelling.{spelling}
use Rattle.bearer_state.specs.Session.{SessionState}
use Rattle.control_steps.specs.declared.command.CommandKind.{CommandKind}
use Rattle.control_steps.specs.declared.command.CommandKind.TheVariants.{Create, Modify, AddBearer, Filters}

-- its octets spell it, whatever octets follow
abbrev pub ReadsBack : Message → Type 0
ReadsBack message = (more : List ℕ) → Spells (spelling message ++ more) message

abbrev pub HasTeid : Peer → Type 0
HasTeid peer = peer.teid < 2 ^ 32

pub record HasNumbers (session : SessionState) : Type 0 where
  pub slot : session.slot ≤ 65532
  pub mme : IfSome session.mme HasTeid

pub record AreOrderNumbers (qci mbr_up mbr_down gbr_up gbr_down : ℕ) : Type 0 where
  pub class_fits : qci < 2 ^ 8
  pub mbr_up_fits : mbr_up < 2 ^ 40
  pub mbr_down_fits : mbr_down < 2 ^ 40
  pub gbr_up_fits : gbr_up < 2 ^ 40
  pub gbr_down_fits : gbr_down < 2 ^ 40

abbrev pub HasOwnNumbers : CommandKind → Type 0
HasOwnNumbers (Create seq mme pdn ebi qos enb up down) = HasTeid mme
HasOwnNumbers (Modify seq mme asks) = IfSome mme HasTeid
HasOwnNumbers (AddBearer seq qci mbr_up mbr_down gbr_up gbr_down tft) =
    AreOrderNumbers qci mbr_up mbr_down gbr_up gbr_down × IsTft tft
HasOwnNumbers (Filters seq ebi tft) = IsTft tft
HasOwnNumbers command = Unit {0}

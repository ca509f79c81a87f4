-- The ranges of what a line means.
use Rattle.std.specs.Prelude.{ℕ, ◌<◌, ◌≤◌, ◌^◌, length, All, IfSome}
use Rattle.bearer_state.specs.declared.ask.Ask.{Ask}
use Rattle.control_steps.specs.declared.command.CommandKind.{CommandKind}
use Rattle.control_steps.specs.declared.command.CommandKind.TheVariants as commands
use Rattle.demux.specs.Resolved.{IsNote}
use Rattle.demux.specs.Trace.{Meaning, command, packet, move, note}
use Rattle.demux.specs.declared.packet.LentPacket.{LentPacket}
use Rattle.pc_base.specs.declared.packet.Peer.{Peer}
use Rattle.tft_codec.specs.Tft.{IsTft}

-- one of the pool's 65,533 slots
abbrev pub IsSlot : ℕ → Type 0
IsSlot slot = slot ≤ 65532

abbrev pub IsOctet : ℕ → Type 0
IsOctet octet = octet < 256

abbrev pub HasAddress : Peer → Type 0
HasAddress peer = peer.addr < 2 ^ 32

abbrev pub IsAskInRange : Ask → Type 0
IsAskInRange ask = IsOctet ask.ebi × IfSome ask.enb HasAddress

-- the numbers of a command that its message or line has in one octet, and the addresses of eNodeBs
abbrev pub IsCommandInRange : CommandKind → Type 0
IsCommandInRange (commands.Attach enb up down) = HasAddress enb
IsCommandInRange (commands.Create seq mme pdn ebi qos enb up down) =
    IsOctet ebi × IsOctet qos.arp × IsOctet qos.qci × IfSome enb HasAddress
IsCommandInRange (commands.Modify seq mme asks) = All IsAskInRange asks
IsCommandInRange (commands.Release seq) = Unit {0}
IsCommandInRange (commands.Delete seq) = Unit {0}
IsCommandInRange (commands.AddBearer seq qci mbr_up mbr_down gbr_up gbr_down tft) = IsOctet qci × IsTft tft
IsCommandInRange (commands.Filters seq ebi tft) = IsOctet ebi × IsTft tft
IsCommandInRange (commands.Drop seq ebi) = IsOctet ebi
IsCommandInRange (commands.Ambr seq up down) = Unit {0}
IsCommandInRange (commands.CreateAns seq cause ebi row_cause enb) = IsOctet ebi × IfSome enb HasAddress
IsCommandInRange (commands.UpdateAns seq) = Unit {0}
IsCommandInRange (commands.DeleteAns seq) = Unit {0}

-- a packet no longer than IPv4 allows, at a moment of a trace
pub record IsPacketInRange (lent : LentPacket) : Type 0 where
  pub octets : All IsOctet lent.ip
  pub short : length lent.ip < 2 ^ 16
  pub moment : lent.moment < 2 ^ 50

-- so of what a line means, with the note of a move or of what is neither a command nor a packet
abbrev pub IsInRange : Meaning → Type 0
IsInRange (command slot c) = IsSlot slot × IsCommandInRange c
IsInRange (packet slot lent) = IsSlot slot × IsPacketInRange lent
IsInRange (move slot slice text) = IsSlot slot × IsNote text
IsInRange (note text) = IsNote text

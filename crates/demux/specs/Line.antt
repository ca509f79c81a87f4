-- What a line asks, by its kind.
use Rattle.std.specs.Prelude.{ℕ, codes}
use Rattle.trace_lines.specs.Kind.{LineKind}
use Rattle.trace_lines.specs.Kind as kind
use Rattle.trace_lines.specs.Line.{Line}
use Rattle.control_steps.specs.declared.command.CommandKind.TheVariants as commands
use Rattle.demux.specs.Asked.{Asked, note, admission, command, move}
use Rattle.demux.specs.Mme.{mme_asked}
use Rattle.demux.specs.Tunnel.{tunnel_asked, packet_asked}
use Rattle.demux.specs.Instructions.{seq_of_line, templated, instructed}

abbrev pub kind_asks : ℕ → ℕ → LineKind → Asked
kind_asks number moment (kind.S11 octets) = mme_asked octets
kind_asks number moment (kind.S1u octets) = tunnel_asked moment octets
kind_asks number moment (kind.Sgi octets) = packet_asked moment octets
kind_asks number moment (kind.Attach imsi enb up down) = admission imsi (commands.Attach enb up down) (codes "pool")
kind_asks number moment (kind.Bearer imsi qci mbr_up mbr_down gbr_up gbr_down tft) =
    instructed imsi (templated (λ template. commands.AddBearer
    (seq_of_line number) qci mbr_up mbr_down gbr_up gbr_down template) tft)
kind_asks number moment (kind.Filters imsi ebi tft) =
    instructed imsi (templated (λ template. commands.Filters (seq_of_line number) ebi template) tft)
kind_asks number moment (kind.Drop imsi ebi) = instructed imsi (command (commands.Drop (seq_of_line number) ebi))
kind_asks number moment (kind.Ambr imsi up down) =
    instructed imsi (command (commands.Ambr (seq_of_line number) up down))
kind_asks number moment (kind.Move imsi slice) = instructed imsi (move slice)
kind_asks number moment kind.Fence = note (codes "fence")

-- what a line asks
unfoldable pub asked : Line → Asked
asked line = kind_asks line.number line.moment line.kind

-- What a command or packet waits for, as the lines of its epoch tell it.
use Rattle.std.specs.Prelude.{ℕ, ◌+◌, Option, Some, None, List, [], ◌∷◌, ◌++◌, length}
use Rattle.std.specs.List.{cons_option}
use Rattle.lawful_run.specs.Accepted.{accepted_command, accepted_packet, packets_accepted, command_count}
use Rattle.lawful_run.specs.LinesTold.{LineTold}
use Rattle.lawful_run.specs.Moves.{before_last_move}

-- A command waits for the packets of its slot that were accepted before the slot's last move, and a packet for its
-- commands. So many packets, or commands, were accepted before the epoch.
abbrev pub command_floor : (slot packets : ℕ) → List LineTold → ℕ
command_floor slot packets before = packets + length (packets_accepted slot (before_last_move slot before))

abbrev pub packet_floor : (slot commands : ℕ) → List LineTold → ℕ
packet_floor slot commands before = commands + command_count slot (before_last_move slot before)

-- a floor for what a line brings, if anything
abbrev pub floor_for : {X : Type 0} → Option X → ℕ → Option ℕ
floor_for None floor = None
floor_for (Some x) floor = Some floor

-- the floors of a slot's accepted commands, and of its packets, among later lines and in line order
abbrev pub command_floors : (slot packets : ℕ) → (before later : List LineTold) → List ℕ
command_floors slot packets before [] = []
command_floors slot packets before (now ∷ later) =
    cons_option (floor_for (accepted_command slot now) (command_floor slot packets before))
    (command_floors slot packets (before ++ now ∷ []) later)

abbrev pub packet_floors : (slot commands : ℕ) → (before later : List LineTold) → List ℕ
packet_floors slot commands before [] = []
packet_floors slot commands before (now ∷ later) =
    cons_option (floor_for (accepted_packet slot now) (packet_floor slot commands before))
    (packet_floors slot commands (before ++ now ∷ []) later)

-- The order of a slot's events where packets meet the commands before them.
use Rattle.std.proofs.Common.{◌≡◌, ℕ, suc, ◌+◌, ◌-◌, ◌≤◌, List, [], ◌∷◌, map, take, refl, arith}
use Rattle.control_steps.specs.declared.command.CommandKind.{CommandKind}
use Rattle.gate_model.specs.declared.event.Event.TheVariants as event
use Rattle.lawful_run.specs.Accepted.{Placed}
use Rattle.lawful_run.specs.Bounds.{Rises}
use Rattle.demux.specs.Packets.{numbered}
use Rattle.lawful_run.specs.Merging.{merged}

-- how many commands stand before each packet
abbrev pub counts_of : List Placed → List ℕ
counts_of packets = map (λ (p : Placed). p.commands) packets

-- from a lower least on they rise too
pub rises_lower : (low least : ℕ) (counts : List ℕ) → low ≤ least → Rises least counts → Rises low counts
rises_lower low least [] below rises = tt
rises_lower low least (count ∷ counts) below rises = (omega (arith, below, rises.0), rises.1)

take-all_but : {X : Type 0} (n : ℕ) (x : X) (xs : List X) → take (suc n) (x ∷ xs) ≡ x ∷ take n xs
take-all_but n x xs = refl

-- a command that all packets meet stands first
pub merged-command : (done next : ℕ) (c : CommandKind) (commands : List CommandKind) (packets : List Placed)
    → Rises (done + 1) (counts_of packets)
    → merged done next (c ∷ commands) packets ≡ event.Command c ∷ merged (done + 1) next commands packets
merged-command done next c commands [] rises = refl
merged-command done next c commands (p ∷ packets) rises =
    let more : p.commands - done ≡ suc (p.commands - (done + 1)) = omega (arith, rises.0) in
    rw more refl

-- a packet that meets no further command stands first
pub merged-packet : (done next : ℕ) (commands : List CommandKind) (p : Placed) (packets : List Placed)
    → p.commands ≡ done
    → merged done next commands (p ∷ packets) ≡ event.Packet (numbered next p.packet)
    ∷ merged done (next + 1) commands packets
merged-packet done next commands p packets is =
    let none : p.commands - done ≡ 0 = omega (arith, is) in
    rw none (rw is refl)

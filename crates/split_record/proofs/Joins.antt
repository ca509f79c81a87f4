-- What halves tell is interleaved as the lines of an epoch are merged.
use Rattle.std.proofs.Common.{◌≡◌, ℕ, ◌+◌, ◌-◌, List, [], ◌∷◌, ◌++◌, map, take, drop, refl, ap, sym, ◌∙◌}
use Rattle.pc_base.specs.declared.packet.Packet.{Packet}
use Rattle.control_steps.specs.declared.command.CommandKind.{CommandKind}
use Rattle.demux.specs.Packets.{numbered}
use Rattle.gate_model.specs.declared.event.Event.{Event}
use Rattle.gate_model.specs.declared.event.Event.TheVariants as event
use Rattle.lawful_run.specs.Accepted.{Placed, commands_accepted, packets_accepted}
use Rattle.lawful_run.specs.Merging.{merged}
use Rattle.subscriber.specs.Standing.{commands_met}
use Rattle.counter_half.specs.declared.items.DataItem.{DataItem}
use Rattle.counter_half.specs.Handled.{met_in}
use Rattle.counter_half.specs.Interleaved.{interleaved}
use Rattle.split_record.specs.Finishing.{commands_in, counts_told, handled_as}
use Rattle.split_record.specs.Joined.{numbered_from, with_counts, events_met, EventsAreOfLines, CountsAreTold}

abbrev packet_in : DataItem → Packet
packet_in item = item.packet

none_left : {X Y : Type 0} (x : X) (xs : List X) → [] ≡ x ∷ xs → Y
none_left x xs is = absurd (let no : ⊥ = cc in no)

some_left : {X Y : Type 0} (x : X) (xs : List X) → x ∷ xs ≡ [] → Y
some_left x xs is = absurd (let no : ⊥ = cc in no)

interleaved_as : (done next : ℕ) (commands : List CommandKind) (items : List DataItem) (placed : List Placed)
    (counts : List ℕ) → map packet_in items ≡ numbered_from next placed
    → interleaved done commands (met_in (handled_as items counts)) ≡ merged done next commands (with_counts counts placed)
interleaved_as done next commands [] [] counts are = refl
interleaved_as done next commands [] (p ∷ placed) counts are =
    none_left (numbered next p.packet) (numbered_from (next + 1) placed) are
interleaved_as done next commands (item ∷ items) [] counts are =
    some_left (packet_in item) (map packet_in items) are
interleaved_as done next commands (item ∷ items) (p ∷ placed) [] are =
    let here : item.packet ≡ numbered next p.packet = cc in
    let rest : map packet_in items ≡ numbered_from (next + 1) placed = cc in
    let later = interleaved_as 0 (next + 1) (drop (0 - done) commands) items placed [] rest in
    λ i. map event.Command (take (0 - done) commands) ++ event.Packet (here i) ∷ later i
interleaved_as done next commands (item ∷ items) (p ∷ placed) (count ∷ counts) are =
    let here : item.packet ≡ numbered next p.packet = cc in
    let rest : map packet_in items ≡ numbered_from (next + 1) placed = cc in
    let later = interleaved_as count (next + 1) (drop (count - done) commands) items placed counts rest in
    λ i. map event.Command (take (count - done) commands) ++ event.Packet (here i) ∷ later i

pub events_are : EventsAreOfLines
events_are start slot before taken lines commands items judged stands are =
    interleaved_as (commands_met start) start.packets (commands_in commands) items (packets_accepted slot lines)
    (counts_told judged) are.packets_are
    ∙ (λ i. merged (stands.commands i) (stands.packets i) (are.commands_are i)
    (with_counts (counts_told judged) (packets_accepted slot lines)))

same_counts : (placed : List Placed) → with_counts (map (λ (p : Placed). p.commands) placed) placed ≡ placed
same_counts [] = refl
same_counts (p ∷ placed) = ap (λ (l : List Placed). p ∷ l) (same_counts placed)

pub counts_are : CountsAreTold
counts_are slot before lines counts told =
    (λ i. events_met slot before lines (sym told i))
    ∙ ap (merged _ _ (commands_accepted slot lines)) (same_counts (packets_accepted slot lines))

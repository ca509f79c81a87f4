-- A packet that isn't earlier than the last one is judged at its own moment.
use Rattle.std.proofs.Common.{◌≡◌, ℕ, ◌<◌, ◌≤◌, arith, List, [], ◌∷◌, ◌++◌, Option, Some, None, IfSome, refl, ap, sym, ◌∙◌}
use Rattle.std.proofs.lemmas.List.{map-append}
use Rattle.pc_base.specs.declared.packet.Packet.{Packet}
use Rattle.pc_base.specs.declared.packet.Way.{Way}
use Rattle.pc_base.specs.declared.packet.Verdict.{Verdict}
use Rattle.counter_half.specs.declared.items.PacketDone.{PacketDone}
use Rattle.counter_half.specs.Moments.{later, not_before, verdicts_in}

pub later_same : (last : Option ℕ) (moment : ℕ) → IfSome last (λ l. l ≤ moment) → later last moment ≡ moment
later_same None moment late = refl
later_same (Some l) moment late = omega (arith, late)

pub later_last : (last : Option ℕ) (l moment : ℕ) → last ≡ Some l → moment < l → later last moment ≡ l
later_last last l moment is before = ap (λ o. later o moment) is ∙ omega arith

pub same_packet : (last : Option ℕ) (packet : Packet) → IfSome last (λ l. l ≤ packet.moment)
    → not_before last packet ≡ packet
same_packet last packet late = ap (λ (m : ℕ). record packet { moment = m }) (later_same last packet.moment late)

-- a note more is a verdict more
pub verdict_more : (notes new_notes : List PacketDone) (note : PacketDone) (verdict : Verdict)
    → new_notes ≡ notes ++ note ∷ [] → note.verdict ≡ verdict
    → verdicts_in new_notes ≡ verdicts_in notes ++ verdict ∷ []
verdict_more notes new_notes note verdict more is =
    ap verdicts_in more ∙ map-append (λ (done : PacketDone). done.verdict) notes (note ∷ [])
    ∙ ap (λ (v : Verdict). verdicts_in notes ++ v ∷ []) is

abbrev packet_at : ℕ → Way → List ℕ → ℕ → Packet
packet_at number way octets moment = record { number = number; moment = moment; way = way; octets = octets }

-- a packet of these parts, judged behind the last one, is that of the later moment
pub moved_to : (last : Option ℕ) (packet : Packet) (number moment at : ℕ) (way : Way) (octets : List ℕ)
    → packet ≡ packet_at number way octets moment → at ≡ later last moment
    → not_before last packet ≡ packet_at number way octets at
moved_to last packet number moment at way octets is later_is =
    ap (not_before last) is ∙ ap (packet_at number way octets) (sym later_is)

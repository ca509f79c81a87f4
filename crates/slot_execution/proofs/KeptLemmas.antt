-- What lines mean stays where more octets come behind those of their packets.
use Rattle.std.proofs.Common.{◌≡◌, ℕ, ◌-◌, ◌≤◌, List, [], ◌∷◌, ◌++◌, map, length, take, drop, slice_range, refl, sym, ap, subst, ◌∙◌, arith, length-append}
use Rattle.std.specs.List.{All}
use Rattle.std.proofs.lemmas.List.{drop-append-le, length-drop, take-append-le}
use Rattle.std.proofs.lemmas.List.Elements.{All-head, All-tail}
use Rattle.ipv4_packet.specs.Packet.{IsPacket}
use Rattle.demux.specs.Trace.{packet}
use Rattle.slot_execution.specs.Kept.{IsPlaced, IsPlacedPacket, meaning_in, packet_in}
use Rattle.slot_execution.specs.declared.kept.KeptMeaning.{KeptMeaning}
use Rattle.slot_execution.specs.declared.kept.KeptMeaning.TheVariants as kept
use Rattle.slot_execution.specs.declared.kept.KeptPacket.{KeptPacket}

-- a part of octets stays where more come behind them
part_stays : (octets more : List ℕ) (from to : ℕ) → from ≤ to → to ≤ length octets
    → slice_range (octets ++ more) from to ≡ slice_range octets from to
part_stays octets more from to ordered within =
    ap (take (to - from)) (drop-append-le from octets more (omega (arith, ordered, within)))
    ∙ take-append-le (to - from) (drop from octets) more (omega (arith, ordered, within, length-drop from octets))

packet_stays : (octets more : List ℕ) (p : KeptPacket) → IsPlacedPacket octets p
    → packet_in (octets ++ more) p ≡ packet_in octets p
packet_stays octets more p is =
    λ i. record { moment = p.moment; way = p.way; ip = part_stays octets more p.from p.to is.ordered is.within i }

stands_still : (octets more : List ℕ) (p : KeptPacket) → IsPlacedPacket octets p → IsPlacedPacket (octets ++ more) p
stands_still octets more p is = record {
  ordered = is.ordered;
  within = omega (arith, is.within, length-append octets more);
  whole = subst IsPacket (sym (part_stays octets more p.from p.to is.ordered is.within)) is.whole;
}

pub placed_still : (octets more : List ℕ) (it : KeptMeaning) → IsPlaced octets it → IsPlaced (octets ++ more) it
placed_still octets more (kept.Command slot c) is = tt
placed_still octets more (kept.Packet slot p) is = stands_still octets more p is
placed_still octets more (kept.Move slot slice text) is = tt
placed_still octets more (kept.Note text) is = tt

meaning_stays : (octets more : List ℕ) (it : KeptMeaning) → IsPlaced octets it
    → meaning_in (octets ++ more) it ≡ meaning_in octets it
meaning_stays octets more (kept.Command slot c) is = refl
meaning_stays octets more (kept.Packet slot p) is = ap (λ own. packet slot own) (packet_stays octets more p is)
meaning_stays octets more (kept.Move slot slice text) is = refl
meaning_stays octets more (kept.Note text) is = refl

pub meanings_stay : (octets more : List ℕ) (all : List KeptMeaning) → All (IsPlaced octets) all
    → map (meaning_in (octets ++ more)) all ≡ map (meaning_in octets) all
meanings_stay octets more [] are = refl
meanings_stay octets more (it ∷ all) are =
    let here = meaning_stays octets more it (All-head (IsPlaced octets) it all are) in
    let rest = meanings_stay octets more all (All-tail (IsPlaced octets) it all are) in
    λ i. here i ∷ rest i

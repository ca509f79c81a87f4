-- What was accepted, as one command or one packet more is.
use Rattle.std.proofs.Common.{◌≡◌, ℕ, ◌+◌, ◌-◌, ◌≤◌, length, arith, unwrap_or, List, [], ◌∷◌, ◌++◌, map, All}
use Rattle.std.proofs.Common.{sym, ap, ◌∙◌, subst, append_assoc, length-append}
use Rattle.std.proofs.lemmas.List.{map-append, take-append-le}
use Rattle.std.proofs.lemmas.List.Elements.{All-nil, All-cons, All-head, All-tail, All-push}
use Rattle.subscriber.specs.Standing.{commands_met, last_of}
use Rattle.control_half.specs.declared.items.CommandItem.{CommandItem}
use Rattle.counter_half.specs.declared.items.DataItem.{DataItem}
use Rattle.counter_half.specs.Tells.{AreLate}
use Rattle.split_record.specs.Accepted.{MayStand, AreNumbered}
use Rattle.split_record.specs.Rejoined.{start_of, unbound, commands_sent, AreAccepted, IsSameFront}
use Rattle.split_record.specs.declared.front.FrontEnd.{FrontEnd}

abbrev Early : ℕ → ℕ → Type 0
Early last moment = moment ≤ last

-- moments that don't fall, and one that isn't earlier
pub late_push : (least last moment : ℕ) (moments : List ℕ) → AreLate least moments → All (Early last) moments
    → least ≤ last → last ≤ moment → AreLate least (moments ++ moment ∷ [])
late_push least last moment [] late early low high = (omega (arith, low, high), tt)
late_push least last moment (m ∷ moments) late early low high = (
  late.0,
  late_push m last moment moments late.1 (All-tail (Early last) m moments early)
      (All-head (Early last) m moments early) high,
)

-- items of a slot, and one of the next number
pub numbered_push : (slot number : ℕ) (items : List DataItem) (item : DataItem) → AreNumbered slot number items
    → item.slot ≡ slot → item.number ≡ number + length items → item.packet.number ≡ number + length items
    → AreNumbered slot number (items ++ item ∷ [])
numbered_push slot number [] item are of_slot next packet_next = (
  of_slot,
  omega (arith, next),
  omega (arith, packet_next),
  tt,
)
numbered_push slot number (first ∷ items) item are of_slot next packet_next = (
  are.0,
  are.1,
  are.2,
  numbered_push slot (number + 1) items item are.3 of_slot (omega (arith, next)) (omega (arith, packet_next)),
)

-- whatever more is accepted, an item may stand among the commands
pub standing_more : (first : ℕ) (commands more : List CommandItem) (item : DataItem) → MayStand first commands item
    → MayStand first (commands ++ more) item
standing_more first commands more item is = record {
  floor = omega (arith, is.floor, length-append commands more);
  below = subst (λ (l : List CommandItem). All (λ (c : CommandItem). c.floor ≤ item.number) l)
      (sym (take-append-le (item.floor - first) commands more (omega (arith, is.floor)))) is.below;
}

abbrev moment_of : DataItem → ℕ
moment_of item = item.packet.moment

-- what holds of the items' moments
all_moments : (items : List DataItem) (last : ℕ) → All (λ (i : DataItem). i.packet.moment ≤ last) items
    → All (Early last) (map moment_of items)
all_moments [] last early = All-nil (Early last)
all_moments (item ∷ items) last early =
    let P : DataItem → Type 0 = λ i. i.packet.moment ≤ last in
    All-cons (Early last) (moment_of item) (map moment_of items) (All-head P item items early)
    (all_moments items last (All-tail P item items early))

module _ (old new : FrontEnd) (items : List DataItem) (same : IsSameFront old new) (are : AreAccepted old items) where
  -- a packet more is accepted
  pub accepted_packet : (item : DataItem) (last : ℕ) → commands_sent new ≡ commands_sent old
      → new.packets ≡ old.packets + 1 → item.slot ≡ old.slot → item.number ≡ old.packets
      → item.packet.number ≡ old.packets → MayStand (commands_met (start_of old)) (commands_sent old) item
      → unwrap_or (last_of (start_of old)) 0 ≤ last → All (λ (i : DataItem). i.packet.moment ≤ last) items
      → last ≤ item.packet.moment → AreAccepted new (items ++ item ∷ [])
  accepted_packet item last sent packets of_slot number packet_number stands low early high = record {
    counted = packets ∙ omega (arith, are.counted, length-append items (item ∷ []))
        ∙ (λ i. (sym same.started i).value.packets + length (items ++ item ∷ []));
    numbered = subst (λ (p : ℕ × ℕ). AreNumbered p.0 p.1 (items ++ item ∷ []))
        (λ i. (sym same.slot i, (sym same.started i).value.packets))
        (numbered_push old.slot (start_of old).packets items item are.numbered of_slot (number ∙ are.counted)
        (packet_number ∙ are.counted));
    standing = subst (λ (p : ℕ × List CommandItem). All (MayStand p.0 p.1) (items ++ item ∷ []))
        (λ i. ((sym same.started i).value.version.number, sym sent i))
        (All-push (MayStand (commands_met (start_of old)) (commands_sent old)) items item are.standing stands);
    late = subst (λ (p : ℕ × List ℕ). AreLate p.0 p.1)
        (λ i. (
          unwrap_or (last_of (unbound (sym same.started i).value)) 0,
          sym (map-append moment_of items (item ∷ [])) i,
        ))
        (late_push (unwrap_or (last_of (start_of old)) 0) last (moment_of item) (map moment_of items) are.late
        (all_moments items last early) low high);
  }

-- the first item that was left is handled
pub handled_one : {X : Type 0} (before left rest : List X) (x : X) → left ≡ x ∷ rest
    → (before ++ x ∷ []) ++ rest ≡ before ++ left
handled_one {X} before left rest x is = append_assoc before (x ∷ []) rest ∙ ap (λ (l : List X). before ++ l) (sym is)

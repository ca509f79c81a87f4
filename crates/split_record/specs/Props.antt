-- That items are those accepted is a fact with at most one proof.
use Rattle.std.specs.Prelude.{ℕ, ◌+◌, ◌≤◌, List, [], ◌∷◌, All}
use Rattle.std.specs.Coded.{Coded-set, coded_ℕ, le_prop, ×_prop, Π_prop, Unit-prop}
use Rattle.control_half.specs.declared.items.CommandItem.{CommandItem}
use Rattle.counter_half.specs.declared.items.DataItem.{DataItem}
use Rattle.counter_half.specs.Tells.{AreLate}
use Rattle.split_record.specs.Accepted.{MayStand, AreNumbered}
use Rattle.split_record.specs.Rejoined.{AreAccepted}
use Rattle.split_record.specs.declared.front.FrontEnd.{FrontEnd}

All_prop : {X : Type 0} (P : X → Type 0) → ((x : X) → IsProp (P x)) → (xs : List X) → IsProp (All P xs)
All_prop P each xs = Π_prop (λ k. Π_prop (λ d. Π_prop (λ below. each _)))

late_prop : (least : ℕ) (moments : List ℕ) → IsProp (AreLate least moments)
late_prop least [] = Unit-prop
late_prop least (moment ∷ moments) = ×_prop le_prop (late_prop moment moments)

numbered_prop : (slot number : ℕ) (items : List DataItem) → IsProp (AreNumbered slot number items)
numbered_prop slot number [] = Unit-prop
numbered_prop slot number (item ∷ items) = λ a b i. (
  Coded-set coded_ℕ item.slot slot a.0 b.0 i,
  Coded-set coded_ℕ item.number number a.1 b.1 i,
  Coded-set coded_ℕ item.packet.number number a.2 b.2 i,
  numbered_prop slot (number + 1) items a.3 b.3 i,
)

standing_prop : (first : ℕ) (commands : List CommandItem) (item : DataItem) → IsProp (MayStand first commands item)
standing_prop first commands item = λ a b i. record {
  floor = le_prop a.floor b.floor i;
  below = All_prop (λ (c : CommandItem). c.floor ≤ item.number) (λ c. le_prop {n = c.floor} {m = item.number}) _ a.below
      b.below i;
}

pub accepted_prop : {front : FrontEnd} {items : List DataItem} → IsProp (AreAccepted front items)
accepted_prop {front} {items} = λ a b i. record {
  counted = Coded-set coded_ℕ _ _ a.counted b.counted i;
  numbered = numbered_prop _ _ items a.numbered b.numbered i;
  standing = All_prop (MayStand _ _) (standing_prop _ _) items a.standing b.standing i;
  late = late_prop _ _ a.late b.late i;
}

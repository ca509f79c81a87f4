-- The loads of the slots of a book.
use Rattle.std.proofs.Common.{◌≡◌, ℕ, ◌+◌, ◌<◌, ◌≤◌, ◌==◌, ◌&&◌, Bool, true, false, cond, zero, suc, List, [], ◌∷◌, inl, inr, length, map, get_or, refl, sym, ap, ◌∙◌, subst, arith}
use Rattle.std.specs.List.{All, range_with_len, sum_by}
use Rattle.std.proofs.lemmas.Bool.{cases_eq, ne_eqb}
use Rattle.std.proofs.lemmas.List.Folds.{fold-map}
use Rattle.std.proofs.lemmas.List.FromFn.{get_or-map-range_with_len, length-map-range_with_len}
use Rattle.std.proofs.lemmas.List.Sums.{sum_by-cons}
use Rattle.balance_plan.specs.Loads.{IsBelow, SlotsRise}
use Rattle.balance_plan.specs.declared.load.Load.{Load}
use Rattle.report_lines.specs.declared.entry.Entry.{Entry}
use Rattle.report_lines.specs.declared.entry.Entry.TheVariants as entry
use Rattle.report_lines.specs.declared.entry.LineEntry.TheVariants as of_line
use Rattle.balance_plan.specs.Packets.{is_between, packets_between, packets_on, tells_packet}
use Rattle.balance_plan.specs.Plans.{load_at, loads_at}
use Rattle.balance_plan.specs.Written.{Written, lines_of}
use Rattle.balance_plan.specs.Writing.{AreCounts, IsWriter, Stands}
use Rattle.balance_plan.specs.declared.writing.Writer.{Writer}
use Rattle.balance_plan.proofs.PacketLemmas.{count-cons}

-- a load of what was read
abbrev pub load_read : List ℕ → List ℕ → ℕ → Load
load_read bound counts slot = record { slot = slot; slice = get_or bound slot 0; packets = get_or counts slot 0 }

abbrev pub loads_read : List ℕ → List ℕ → ℕ → List Load
loads_read bound counts slots = map (load_read bound counts) (range_with_len 0 slots)

-- lists from functions that agree
same_from : {X : Type 0} (f g : ℕ → X) (first count : ℕ)
    → ((k : ℕ) → first ≤ k → k < first + count → f k ≡ g k)
    → map f (range_with_len first count) ≡ map g (range_with_len first count)
same_from f g first zero same = refl
same_from f g first (suc count) same =
    (λ i. same first (omega arith) (omega arith) i
    ∷ same_from f g (first + 1) count (λ k low high. same k (omega (arith, low)) (omega (arith, high))) i)

pub loads_are : (writer : Writer) (written : List Written) (counts : List ℕ) (slots since until : ℕ)
    (entries : List Entry) → IsWriter writer → Stands writer written → slots ≡ length writer.book → slots ≤ 65533
    → AreCounts counts slots since until entries
    → loads_read writer.bound.items counts slots ≡ loads_at writer.slices since until entries (lines_of written)
loads_are writer written counts slots since until entries is stands many few counted =
    same_from (load_read writer.bound.items counts)
    (load_at writer.slices since until entries (lines_of written)) 0 slots
    (λ slot low high.
    let below : slot < slots = omega (arith, high) in
    (λ i. record {
      slot = slot;
      slice = stands.bound slot (omega (arith, below, few)) i;
      packets = counted.each slot below i;
    }))
    ∙ ap (λ n. map (load_at writer.slices since until entries (lines_of written)) (range_with_len 0 n))
    (many ∙ ap length stands.book)

pub read_at : (bound counts : List ℕ) (slots i : ℕ) (none : Load) → i < slots
    → get_or (loads_read bound counts slots) i none ≡ load_read bound counts i
read_at bound counts slots i none below =
    get_or-map-range_with_len (load_read bound counts) 0 slots i i none below (omega arith)

pub length-read : (bound counts : List ℕ) (slots : ℕ) → length (loads_read bound counts slots) ≡ slots
length-read bound counts slots = length-map-range_with_len (load_read bound counts) 0 slots

pub read_rise : (bound counts : List ℕ) (slots : ℕ) → SlotsRise (loads_read bound counts slots)
read_rise bound counts slots i j none before within =
    let inside : j < slots = omega (arith, within, length-read bound counts slots) in
    omega (
      arith,
      before,
      ap (λ (l : Load). l.slot) (read_at bound counts slots i none (omega (arith, before, inside))),
      ap (λ (l : Load). l.slot) (read_at bound counts slots j none inside),
    )

pub read_below : (bound counts : List ℕ) (slots slices : ℕ) → ((slot : ℕ) → slot < 65533 → get_or bound slot 0 < slices)
    → slots ≤ 65533 → All (IsBelow slices) (loads_read bound counts slots)
read_below bound counts slots slices below few i none within =
    let inside : i < slots = omega (arith, within, length-read bound counts slots) in
    subst (IsBelow slices) (sym (read_at bound counts slots i none inside)) (below i (omega (arith, inside, few)))

pub read_slots : (bound counts : List ℕ) (slots : ℕ)
    → All (λ (load : Load). load.slot < slots) (loads_read bound counts slots)
read_slots bound counts slots i none within =
    let inside : i < slots = omega (arith, within, length-read bound counts slots) in
    subst (λ (load : Load). load.slot < slots) (sym (read_at bound counts slots i none inside)) inside

-- each packet is one slot's
sum_both : {X : Type 0} (f g : X → ℕ) (xs : List X) → sum_by (λ x. f x + g x) xs ≡ sum_by f xs + sum_by g xs
sum_both f g [] = refl
sum_both f g (x ∷ xs) =
    omega (
      arith,
      sum_by-cons (λ x. f x + g x) x xs,
      sum_by-cons f x xs,
      sum_by-cons g x xs,
      sum_both f g xs,
    )

sum_nothing : {X : Type 0} (xs : List X) → sum_by (λ x. 0) xs ≡ 0
sum_nothing [] = refl
sum_nothing (x ∷ xs) = omega (arith, sum_by-cons (λ y. 0) x xs, sum_nothing xs)

abbrev is_slot : ℕ → Bool → ℕ → ℕ
is_slot own on slot = cond ((own == slot) && on) 1 0

is_slot_not : (own : ℕ) (on : Bool) (slot : ℕ) → (own ≡ slot → ⊥) → is_slot own on slot ≡ 0
is_slot_not own on slot other = ap (λ b. cond (b && on) 1 0) (ne_eqb own slot other)

is_slot_most : (own : ℕ) (on : Bool) (slot : ℕ) → is_slot own on slot ≤ 1
is_slot_most own on slot = by ((own == slot) && on)
  where
    by : (b : Bool) → cond b 1 0 ≤ 1
    by true = omega arith
    by false = omega arith

none_past : (own : ℕ) (on : Bool) (first count : ℕ) → own < first
    → sum_by (is_slot own on) (range_with_len first count) ≡ 0
none_past own on first zero past = refl
none_past own on first (suc count) past =
    omega (
      arith,
      sum_by-cons (is_slot own on) first (range_with_len (first + 1) count),
      is_slot_not own on first (λ is. absurd (omega (arith, is, past))),
      none_past own on (first + 1) count (omega (arith, past)),
    )

one_slot : (own : ℕ) (on : Bool) (first count : ℕ) → sum_by (is_slot own on) (range_with_len first count) ≤ 1
one_slot own on first zero = omega arith
one_slot own on first (suc count) =
    elim (cases_eq own first) [
      | inl is ↦ omega (
        arith,
        sum_by-cons (is_slot own on) first (range_with_len (first + 1) count),
        is_slot_most own on first,
        none_past own on (first + 1) count (omega (arith, is)),
      )
      | inr other ↦ omega (
        arith,
        sum_by-cons (is_slot own on) first (range_with_len (first + 1) count),
        is_slot_not own on first other,
        one_slot own on (first + 1) count,
      )
    ]

tells_one : (on : ℕ → Bool) (one : Entry) (first count : ℕ)
    → sum_by (λ slot. cond (tells_packet on slot one) 1 0) (range_with_len first count) ≤ 1
tells_one on (entry.Line (of_line.N noted)) first count = omega (arith, sum_nothing (range_with_len first count))
tells_one on (entry.Line (of_line.C answered)) first count = omega (arith, sum_nothing (range_with_len first count))
tells_one on (entry.Line (of_line.P judged)) first count = one_slot judged.slot (on judged.line) first count
tells_one on (entry.Line (of_line.F refused)) first count = omega (arith, sum_nothing (range_with_len first count))
tells_one on (entry.Effect own) first count = omega (arith, sum_nothing (range_with_len first count))
tells_one on (entry.Charge own) first count = omega (arith, sum_nothing (range_with_len first count))

all_packets : (on : ℕ → Bool) (entries : List Entry) (first count : ℕ)
    → sum_by (packets_on on entries) (range_with_len first count) ≤ length entries
all_packets on [] first count = omega (arith, sum_nothing (range_with_len first count))
all_packets on (one ∷ entries) first count =
    omega (
      arith,
      ap (λ (f : ℕ → ℕ). sum_by f (range_with_len first count)) (λ i slot. count-cons (tells_packet on slot) one entries i),
      sum_both (λ slot. cond (tells_packet on slot one) 1 0) (packets_on on entries) (range_with_len first count),
      tells_one on one first count,
      all_packets on entries first count,
    )

pub read_packets : (bound counts : List ℕ) (slots since until : ℕ) (entries : List Entry)
    → AreCounts counts slots since until entries
    → sum_by (λ (l : Load). l.packets) (loads_read bound counts slots) ≤ length entries
read_packets bound counts slots since until entries counted =
    omega (
      arith,
      fold-map (λ a (l : Load). a + l.packets) (load_read bound counts) 0 (range_with_len 0 slots),
      ap (λ xs. sum_by (λ n. n) xs) (same_from (λ slot. get_or counts slot 0) (packets_between since until entries) 0 slots
          (λ slot low high. counted.each slot (omega (arith, high)))),
      fold-map (λ a n. a + n) (λ slot. get_or counts slot 0) 0 (range_with_len 0 slots),
      fold-map (λ a n. a + n) (packets_between since until entries) 0 (range_with_len 0 slots),
      all_packets (is_between since until) entries 0 slots,
    )

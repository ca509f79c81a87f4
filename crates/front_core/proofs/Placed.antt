-- At which slices packets were handled, from the halves that came home to the entries.
use Rattle.std.proofs.Common.{◌≡◌, ℕ, zero, suc, ◌+◌, ◌-◌, ◌<◌, ◌≤◌, ◌==◌, if◌then◌else◌, true, false, List, [], ◌∷◌, ◌++◌, length, map, drop, sym, ap, subst, arith}
use Rattle.std.specs.Prelude.{Option, Some, None, reverse, IfSome}
use Rattle.std.specs.List.{All}
use Rattle.std.proofs.lemmas.List.{get_or-reverse, length-reverse}
use Rattle.std.proofs.lemmas.List.Elements.{All-append, All-cons, All-head, All-nil, All-push, All-tail}
use Rattle.report_lines.specs.Records.{PacketTold}
use Rattle.report_lines.specs.declared.entry.LineEntry.{LineEntry}
use Rattle.report_lines.specs.declared.entry.LineEntry.TheVariants as line_entry
use Rattle.pc_base.specs.declared.packet.Place.TheVariants.{Closing}
use Rattle.counter_half.specs.Half.{places_of}
use Rattle.counter_half.specs.Handled.{places_in}
use Rattle.counter_half.specs.declared.half.DataHalf.{DataHalf}
use Rattle.counter_half.specs.declared.items.DataItem.{DataItem}
use Rattle.counter_half.specs.declared.items.PacketDone.{PacketDone}
use Rattle.lawful_run.specs.Filling.{Met, Mets, Replies, fill, filled, judged_with, met_slot, others_of, replied_slot}
use Rattle.gather_home.specs.DataPlaced.{IsPlaceBelow}
use Rattle.gather_home.specs.declared.data_home.Home.{Home}
use Rattle.split_record.specs.Places.{at_closing}
use Rattle.front_core.specs.Entries.{open_of, opens_of}
use Rattle.front_core.specs.Words.{first_slices}
use Rattle.front_core.specs.declared.taken.OpenEntry.{OpenEntry}
use Rattle.front_core.specs.declared.taken.OpenEntry.TheVariants as open_entry
use Rattle.front_core.specs.declared.taken.Taken.{Taken}
use Rattle.front_core.specs.declared.answers.SlotAnswers.{SlotAnswers}
use Rattle.front_core.specs.declared.told.ToldSlots.{ToldSlots}
use Rattle.front_core.specs.Ending.{Came, Tells}
use Rattle.front_core.specs.Filled.{met_so, mets_at}
use Rattle.front_core.specs.Placed.{AnswersBelow, HomesBelow, IsEntryBelow}

-- all but the last of a list, and a list from its end
module _ {X : Type 0} (P : X → Type 0) where
  but_last : (xs : List X) (x : X) → All P (xs ++ x ∷ []) → All P xs × P x
  but_last [] x all = (All-nil P, All-head P x [] all)
  but_last (y ∷ xs) x all =
      let rest = but_last xs x (All-tail P y (xs ++ x ∷ []) all) in
      (All-cons P y xs (All-head P y (xs ++ x ∷ []) all) rest.0, rest.1)

  pub all_reverse : (xs : List X) → All P xs → All P (reverse xs)
  all_reverse xs all k d low =
      let long = length-reverse xs in
      subst P (sym (get_or-reverse xs k d (omega (arith, low, long))))
      (all (length xs - 1 - k) d (omega (arith, low, long)))

-- the slices of an epoch
pub slices_below : (n : ℕ) → All (λ slice. slice < n) (first_slices n)
slices_below n = below n n (omega arith) where
  below : (k n : ℕ) → k ≤ n → All (λ slice. slice < n) (first_slices k)
  below zero n few = All-nil (λ slice. slice < n)
  below (suc k) n few =
      All-push (λ slice. slice < n) (first_slices k) k (below k n (omega (arith, few))) (omega (arith, few))

-- a subscriber is one again, and what became of it is told
closing_below : (n : ℕ) (left : List DataItem) → All (IsPlaceBelow n) (at_closing left)
closing_below n [] = All-nil (IsPlaceBelow n)
closing_below n (item ∷ left) = All-cons (IsPlaceBelow n) Closing (at_closing left) tt (closing_below n left)

pub told_below : (n : ℕ) (came : Came) (old new : ToldSlots) → Tells came old new
    → All (IsPlaceBelow n) (places_in came.packets) → AnswersBelow n old.answers.items
    → AnswersBelow n new.answers.items
told_below n came old new tells packets below =
    let P : SlotAnswers → Type 0 = λ a. All (IsPlaceBelow n) (places_in (reverse a.packets.items)) in
    let here : reverse tells.answer.packets.items ≡ came.packets =
    ap (λ (p : List _ × List PacketDone). p.1) tells.answered in
    subst (All P) (sym tells.answers)
    (All-push P old.answers.items tells.answer below
    (subst (λ (ps : List PacketDone). All (IsPlaceBelow n) (places_in ps)) (sym here) packets))

module _ (n : ℕ) (homes left : List (Home DataHalf DataItem)) (home : Home DataHalf DataItem)
    (is : homes ≡ left ++ home ∷ []) (below : HomesBelow n homes) where
  pub others_below : HomesBelow n left
  others_below = (but_last (λ (h : Home DataHalf DataItem). All (IsPlaceBelow n) (places_of h.half)) left home
      (subst (HomesBelow n) is below)).0

  pub packets_below : (packets : List PacketDone) → places_in packets ≡ places_of home.half ++ at_closing home.left.items
      → All (IsPlaceBelow n) (places_in packets)
  packets_below packets placed =
      subst (All (IsPlaceBelow n)) (sym placed)
      (All-append (IsPlaceBelow n) (places_of home.half) (at_closing home.left.items)
      ((but_last (λ (h : Home DataHalf DataItem). All (IsPlaceBelow n) (places_of h.half)) left home
      (subst (HomesBelow n) is below)).1) (closing_below n home.left.items))

-- the entries
abbrev MetsBelow : ℕ → Mets → Type 0
MetsBelow n mets = (slot : ℕ) → All (λ (m : Met). IfSome m.place (IsPlaceBelow n)) (mets slot)

judged_below : (n : ℕ) (judged : PacketTold) (mets : List Met) → IfSome judged.place (IsPlaceBelow n)
    → All (λ (m : Met). IfSome m.place (IsPlaceBelow n)) mets
    → IfSome (judged_with judged mets).place (IsPlaceBelow n)
judged_below n judged [] own all = own
judged_below n judged (first ∷ others) own all = All-head (λ (m : Met). IfSome m.place (IsPlaceBelow n)) first others all

fill_below : (n : ℕ) (entry : LineEntry) (replies : Replies) (mets : Mets) → IsEntryBelow n entry → MetsBelow n mets
    → IsEntryBelow n (fill entry replies mets)
fill_below n (line_entry.N noted) replies mets own all = tt
fill_below n (line_entry.C answered) replies mets own all = tt
fill_below n (line_entry.P judged) replies mets own all = judged_below n judged (mets judged.slot) own (all judged.slot)
fill_below n (line_entry.F refused) replies mets own all = tt

drop_below : (n : ℕ) (mets : List Met) → All (λ (m : Met). IfSome m.place (IsPlaceBelow n)) mets
    → All (λ (m : Met). IfSome m.place (IsPlaceBelow n)) (drop 1 mets)
drop_below n [] all = all
drop_below n (first ∷ others) all = All-tail (λ (m : Met). IfSome m.place (IsPlaceBelow n)) first others all

others_met : (n : ℕ) (own : Option ℕ) (mets : Mets) → MetsBelow n mets → MetsBelow n (others_of own mets)
others_met n None mets all slot = all slot
others_met n (Some own) mets all slot =
    elim (own == slot) as (λ b. All (λ (m : Met). IfSome m.place (IsPlaceBelow n))
    (if b then drop 1 (mets slot) else mets slot)) [
      | true ↦ drop_below n (mets slot) (all slot)
      | false ↦ all slot
    ]

open_below : (n line : ℕ) (open_ : OpenEntry) → IsEntryBelow n (open_of line open_)
open_below n line (open_entry.Note text) = tt
open_below n line (open_entry.Command slot) = tt
open_below n line (open_entry.Packet slot parked) = tt
open_below n line (open_entry.Full slot packet) = tt

pub filled_below : (n first : ℕ) (entries : List Taken) (replies : Replies) (mets : Mets) → MetsBelow n mets
    → All (IsEntryBelow n) (filled (opens_of first entries) replies mets)
filled_below n first [] replies mets all = All-nil (IsEntryBelow n)
filled_below n first (taken ∷ entries) replies mets all =
    let entry : LineEntry = open_of first taken.open in
    let more : Replies = others_of (replied_slot entry) replies in
    let later : Mets = others_of (met_slot entry) mets in
    All-cons (IsEntryBelow n) (fill entry replies mets) (filled (opens_of (first + 1) entries) more later)
    (fill_below n entry replies mets (open_below n first taken.open) all)
    (filled_below n (first + 1) entries more later (others_met n (met_slot entry) mets all))

met_below : (n : ℕ) (packets : List PacketDone) → All (IsPlaceBelow n) (places_in packets)
    → All (λ (m : Met). IfSome m.place (IsPlaceBelow n)) (map met_so packets)
met_below n [] all = All-nil (λ (m : Met). IfSome m.place (IsPlaceBelow n))
met_below n (done ∷ packets) all =
    All-cons (λ (m : Met). IfSome m.place (IsPlaceBelow n)) (met_so done) (map met_so packets)
    (All-head (IsPlaceBelow n) done.place (places_in packets) all)
    (met_below n packets (All-tail (IsPlaceBelow n) done.place (places_in packets) all))

pub answers_met : (n : ℕ) (answers : List SlotAnswers) → AnswersBelow n answers → MetsBelow n (mets_at answers)
answers_met n [] all slot = All-nil (λ (m : Met). IfSome m.place (IsPlaceBelow n))
answers_met n (a ∷ answers) all zero =
    met_below n (reverse a.packets.items)
    (All-head (λ (x : SlotAnswers). All (IsPlaceBelow n) (places_in (reverse x.packets.items))) a answers all)
answers_met n (a ∷ answers) all (suc slot) =
    answers_met n answers
    (All-tail (λ (x : SlotAnswers). All (IsPlaceBelow n) (places_in (reverse x.packets.items))) a answers all) slot

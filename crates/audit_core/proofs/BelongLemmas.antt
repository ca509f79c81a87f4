-- The entries that belong to an epoch, among all.
use Rattle.std.proofs.Common.{◌≡◌, ℕ, zero, suc, ◌+◌, ◌-◌, ◌==◌, ◌<◌, ◌≤◌, Bool, true, false, Option, Some, None, List, [], ◌∷◌, ◌++◌, cond, length, length-append, map, drop, refl, sym, ap, ◌∙◌, arith, append_assoc}
use Rattle.std.specs.List.{All, cons_option, filter, filter_map}
use Rattle.std.proofs.lemmas.Bool.{eq-eqb, eqb-true, le-leb, lt-leb}
use Rattle.std.proofs.lemmas.List.{drop_at}
use Rattle.std.proofs.lemmas.List.Elements.{All-cons, All-filter, All-head, All-nil, All-tail}
use Rattle.demux.specs.Trace.{Meaning}
use Rattle.report_lines.specs.declared.entry.ChargeEntry.TheVariants as charge
use Rattle.report_lines.specs.declared.entry.Entry.{Entry}
use Rattle.report_lines.specs.declared.entry.Entry.TheVariants as entry
use Rattle.audit_core.specs.Belonging.{AreThose, Placed, effect_of, own_epoch, placed_from, placed_in, row_of}
use Rattle.audit_core.specs.Dues.{AreStood}
use Rattle.audit_core.specs.Entries.{all_lines, as_line, effect_in, effects_told, epoch_at, epoch_behind, line_entries, line_of, open_of, opens_told, row_in, rows_told, told_in_epoch}
use Rattle.audit_core.specs.Matched.{entries_stood, in_range, of_number}
use Rattle.audit_core.specs.Places.{first_of}
use Rattle.audit_core.specs.declared.report.Stood.{Stood}

abbrev entries_placed : List Placed → List Entry
entries_placed placed = map (λ (p : Placed). p.entry) placed

-- an entry that is passed over, or taken where it belongs
module _ {X : Type 0} (of : Entry → Option X) where
  passed : (test : Bool) (p : Placed) (rest : List Placed) → of p.entry ≡ None
      → filter_map of (entries_placed (cond test (p ∷ rest) rest)) ≡ filter_map of (entries_placed rest)
  passed true p rest none = ap (λ o. cons_option o (filter_map of (entries_placed rest))) none
  passed false p rest none = refl

  taken : (test : Bool) (p : Placed) (rest : List Placed) (x : X) → of p.entry ≡ Some x
      → filter_map of (entries_placed (cond test (p ∷ rest) rest))
      ≡ cons_option (cond test (Some x) None) [] ++ filter_map of (entries_placed rest)
  taken true p rest x some = ap (λ o. cons_option o (filter_map of (entries_placed rest))) some
  taken false p rest x some = refl

module _ (made : List (List Meaning)) where
  abbrev those : ℕ → (place now : ℕ) → List Entry → List Placed
  those epoch place now entries = filter (λ (p : Placed). p.epoch == epoch) (placed_from made place now entries)

  abbrev first_placed : (place now : ℕ) → Entry → Placed
  first_placed place now first = record { place = place; epoch = own_epoch made now first; entry = first }

  effects_from : (epoch place now : ℕ) (entries : List Entry)
      → filter_map effect_of (entries_placed (those epoch place now entries))
      ≡ told_in_epoch (effect_in epoch) made now entries
  effects_from epoch place now [] = refl
  effects_from epoch place now (entry.Line of_line ∷ later) =
      let next = epoch_behind made now (entry.Line of_line) in
      passed effect_of (next == epoch) (first_placed place now (entry.Line of_line))
      (those epoch (place + 1) next later) refl
      ∙ effects_from epoch (place + 1) next later
  effects_from epoch place now (entry.Effect effect ∷ later) =
      taken effect_of (now == epoch) (first_placed place now (entry.Effect effect))
      (those epoch (place + 1) now later) effect refl
      ∙ ap (λ rest. cons_option (cond (now == epoch) (Some effect) None) [] ++ rest)
      (effects_from epoch (place + 1) now later)
  effects_from epoch place now (entry.Charge (charge.R slot row) ∷ later) =
      passed effect_of (now == epoch) (first_placed place now (entry.Charge (charge.R slot row)))
      (those epoch (place + 1) now later) refl
      ∙ effects_from epoch (place + 1) now later
  effects_from epoch place now (entry.Charge (charge.O slot counters) ∷ later) =
      passed effect_of (length made == epoch) (first_placed place now (entry.Charge (charge.O slot counters)))
      (those epoch (place + 1) now later) refl
      ∙ effects_from epoch (place + 1) now later

  rows_from : (epoch place now : ℕ) (entries : List Entry)
      → filter_map row_of (entries_placed (those epoch place now entries))
      ≡ told_in_epoch (row_in epoch) made now entries
  rows_from epoch place now [] = refl
  rows_from epoch place now (entry.Line of_line ∷ later) =
      let next = epoch_behind made now (entry.Line of_line) in
      passed row_of (next == epoch) (first_placed place now (entry.Line of_line))
      (those epoch (place + 1) next later) refl
      ∙ rows_from epoch (place + 1) next later
  rows_from epoch place now (entry.Effect effect ∷ later) =
      passed row_of (now == epoch) (first_placed place now (entry.Effect effect))
      (those epoch (place + 1) now later) refl
      ∙ rows_from epoch (place + 1) now later
  rows_from epoch place now (entry.Charge (charge.R slot row) ∷ later) =
      taken row_of (now == epoch) (first_placed place now (entry.Charge (charge.R slot row)))
      (those epoch (place + 1) now later) (charge.R slot row) refl
      ∙ ap (λ rest. cons_option (cond (now == epoch) (Some (charge.R slot row)) None) [] ++ rest)
      (rows_from epoch (place + 1) now later)
  rows_from epoch place now (entry.Charge (charge.O slot counters) ∷ later) =
      passed row_of (length made == epoch) (first_placed place now (entry.Charge (charge.O slot counters)))
      (those epoch (place + 1) now later) refl
      ∙ rows_from epoch (place + 1) now later

  opens_from : (place now : ℕ) (entries : List Entry)
      → filter_map open_of (entries_placed (those (length made) place now entries)) ≡ filter_map open_of entries
  opens_from place now [] = refl
  opens_from place now (entry.Line of_line ∷ later) =
      let next = epoch_behind made now (entry.Line of_line) in
      passed open_of (next == length made) (first_placed place now (entry.Line of_line))
      (those (length made) (place + 1) next later) refl
      ∙ opens_from (place + 1) next later
  opens_from place now (entry.Effect effect ∷ later) =
      passed open_of (now == length made) (first_placed place now (entry.Effect effect))
      (those (length made) (place + 1) now later) refl
      ∙ opens_from (place + 1) now later
  opens_from place now (entry.Charge (charge.R slot row) ∷ later) =
      passed open_of (now == length made) (first_placed place now (entry.Charge (charge.R slot row)))
      (those (length made) (place + 1) now later) refl
      ∙ opens_from (place + 1) now later
  opens_from place now (entry.Charge (charge.O slot counters) ∷ later) =
      taken open_of (length made == length made) (first_placed place now (entry.Charge (charge.O slot counters)))
      (those (length made) (place + 1) now later) (charge.O slot counters) refl
      ∙ (λ i. cons_option (cond (eq-eqb (length made) (length made) refl i) (Some (charge.O slot counters)) None) []
      ++ opens_from (place + 1) now later i)

  -- the entries of a line of the epoch
  of_number_from : (n epoch : ℕ) → epoch_at made n ≡ epoch → (place now : ℕ) (entries : List Entry)
      → of_number n (line_entries (entries_placed (those epoch place now entries))) ≡ of_number n (line_entries entries)
  of_number_from n epoch at place now [] = refl
  of_number_from n epoch at place now (entry.Line of_line ∷ later) =
      let next = epoch_at made (line_of of_line) in
      by_epoch (next == epoch) refl (of_number_from n epoch at (place + 1) next later)
    where
      rest : List Placed
      rest = those epoch (place + 1) (epoch_at made (line_of of_line)) later

      by_number : (own : Bool) → (line_of of_line == n) ≡ own → (epoch_at made (line_of of_line) == epoch) ≡ false
          → of_number n (line_entries (entries_placed rest)) ≡ of_number n (line_entries later)
          → of_number n (line_entries (entries_placed rest))
          ≡ cond own (of_line ∷ of_number n (line_entries later)) (of_number n (line_entries later))
      by_number true is other same =
          let here : (epoch_at made (line_of of_line) == epoch) ≡ true =
          eq-eqb (epoch_at made (line_of of_line)) epoch (ap (epoch_at made) (eqb-true (line_of of_line) n is) ∙ at) in
          let no : true ≡ false = sym here ∙ other in
          absurd (cc)
      by_number false is other same = same

      by_epoch : (test : Bool) → (epoch_at made (line_of of_line) == epoch) ≡ test
          → of_number n (line_entries (entries_placed rest)) ≡ of_number n (line_entries later)
          → of_number n (line_entries (entries_placed (cond test (first_placed place now (entry.Line of_line) ∷ rest) rest)))
          ≡ of_number n (of_line ∷ line_entries later)
      by_epoch true is same =
          ap (λ own. cond (line_of of_line == n) (of_line ∷ own) own) same
      by_epoch false is same = by_number (line_of of_line == n) refl is same
  of_number_from n epoch at place now (entry.Effect effect ∷ later) =
      ap (of_number n) (passed as_line (now == epoch) (first_placed place now (entry.Effect effect))
      (those epoch (place + 1) now later) refl)
      ∙ of_number_from n epoch at (place + 1) now later
  of_number_from n epoch at place now (entry.Charge (charge.R slot row) ∷ later) =
      ap (of_number n) (passed as_line (now == epoch) (first_placed place now (entry.Charge (charge.R slot row)))
      (those epoch (place + 1) now later) refl)
      ∙ of_number_from n epoch at (place + 1) now later
  of_number_from n epoch at place now (entry.Charge (charge.O slot counters) ∷ later) =
      ap (of_number n) (passed as_line (length made == epoch)
      (first_placed place now (entry.Charge (charge.O slot counters)))
      (those epoch (place + 1) now later) refl)
      ∙ of_number_from n epoch at (place + 1) now later

  range_from : (epoch first count : ℕ)
      → ((n : ℕ) → first ≤ n → n < first + count → epoch_at made n ≡ epoch) → (entries : List Entry)
      → in_range first count (line_entries (entries_placed (placed_in made epoch entries)))
      ≡ in_range first count (line_entries entries)
  range_from epoch first zero at entries = refl
  range_from epoch first (suc count) at entries =
      (λ i. of_number_from first epoch (at first (omega arith) (omega arith)) 0 0 entries i
      ++ range_from epoch (first + 1) count (λ n low high. at n (omega (arith, low)) (omega (arith, high))) entries i)

-- the lines of an epoch
pub epoch_of_line : (prefix : List (List Meaning)) (now : List Meaning) (left : List (List Meaning)) (n : ℕ)
    → length (all_lines prefix) + 1 ≤ n → n < length (all_lines prefix) + 1 + length now
    → epoch_at (prefix ++ now ∷ left) n ≡ length prefix
epoch_of_line [] now left n low high =
    ap (λ here. cond here 0 (epoch_at left (n - length now) + 1)) (le-leb n (length now) (omega (arith, high)))
epoch_of_line (first ∷ prefix) now left n low high =
    let count : length (all_lines (first ∷ prefix)) ≡ length first + length (all_lines prefix) =
    length-append first (all_lines prefix) in
    ap (λ here. cond here 0 (epoch_at (prefix ++ now ∷ left) (n - length first) + 1))
    (lt-leb n (length first) (omega (arith, low, count)))
    ∙ ap (λ k. k + 1) (epoch_of_line prefix now left (n - length first) (omega (arith, low, count))
    (omega (arith, low, high, count)))
    ∙ more (length prefix)
  where
    more : (k : ℕ) → k + 1 ≡ suc k
    more k = omega arith

-- those of the entries that were read
module _ (made : List (List Meaning)) (entries : List Entry) (read : List Stood) where
  pub effects_belong : (epoch : ℕ) → AreThose read (placed_in made epoch entries)
      → filter_map effect_of (entries_stood read) ≡ effects_told made epoch entries
  effects_belong epoch are = ap (filter_map effect_of) are.entries ∙ effects_from made epoch 0 0 entries

  pub rows_belong : (epoch : ℕ) → AreThose read (placed_in made epoch entries)
      → filter_map row_of (entries_stood read) ≡ rows_told made epoch entries
  rows_belong epoch are = ap (filter_map row_of) are.entries ∙ rows_from made epoch 0 0 entries

  pub opens_belong : AreThose read (placed_in made (length made) entries)
      → opens_told (entries_stood read) ≡ opens_told entries
  opens_belong are = ap (filter_map open_of) are.entries ∙ opens_from made 0 0 entries

  pub range_belongs : (epoch first count : ℕ)
      → ((n : ℕ) → first ≤ n → n < first + count → epoch_at made n ≡ epoch)
      → AreThose read (placed_in made epoch entries)
      → in_range first count (line_entries (entries_stood read)) ≡ in_range first count (line_entries entries)
  range_belongs epoch first count at are =
      ap (λ es. in_range first count (line_entries es)) are.entries ∙ range_from made epoch first count at entries

-- each stands at its place
abbrev StandsAt : List Entry → ℕ → Entry → Type 0
StandsAt entries place one = first_of (drop place entries) ≡ Some one

placed_stand : (made : List (List Meaning)) (entries : List Entry) (place now : ℕ) (before later : List Entry)
    → entries ≡ before ++ later → length before ≡ place
    → All (λ (p : Placed). StandsAt entries p.place p.entry) (placed_from made place now later)
placed_stand made entries place now before [] parts at = All-nil (λ (p : Placed). StandsAt entries p.place p.entry)
placed_stand made entries place now before (first ∷ later) parts at =
    All-cons (λ (p : Placed). StandsAt entries p.place p.entry)
    (record { place = place; epoch = own_epoch made now first; entry = first })
    (placed_from made (place + 1) (epoch_behind made now first) later)
    (ap (λ es. first_of (drop place es)) parts ∙ ap first_of (drop_at before (first ∷ later) place at))
    (placed_stand made entries (place + 1) (epoch_behind made now first) (before ++ first ∷ []) later
    (parts ∙ sym (append_assoc before (first ∷ []) later))
    (length-append before (first ∷ []) ∙ ap (λ k. k + 1) at))

stood_as : (entries : List Entry) (read : List Stood) (placed : List Placed)
    → map (λ (s : Stood). s.entry) read ≡ map (λ (p : Placed). p.entry) placed
    → map (λ (s : Stood). s.place) read ≡ map (λ (p : Placed). p.place) placed
    → All (λ (p : Placed). StandsAt entries p.place p.entry) placed → AreStood entries read
stood_as entries [] placed same places all = All-nil (λ (s : Stood). StandsAt entries s.place s.entry)
stood_as entries (s ∷ read) [] same places all = absurd (cc)
stood_as entries (s ∷ read) (p ∷ placed) same places all =
    let entry_is : s.entry ≡ p.entry = cc in
    let place_is : s.place ≡ p.place = cc in
    let others : map (λ (x : Stood). x.entry) read ≡ map (λ (x : Placed). x.entry) placed = cc in
    let other_places : map (λ (x : Stood). x.place) read ≡ map (λ (x : Placed). x.place) placed = cc in
    All-cons (λ (x : Stood). StandsAt entries x.place x.entry) s read
    (ap (λ k. first_of (drop k entries)) place_is
    ∙ All-head (λ (x : Placed). StandsAt entries x.place x.entry) p placed all ∙ ap Some (sym entry_is))
    (stood_as entries read placed others other_places
    (All-tail (λ (x : Placed). StandsAt entries x.place x.entry) p placed all))

pub stand_in : (made : List (List Meaning)) (entries : List Entry) (read : List Stood) (epoch : ℕ)
    → AreThose read (placed_in made epoch entries) → AreStood entries read
stand_in made entries read epoch are =
    stood_as entries read (placed_in made epoch entries) are.entries are.places
    (All-filter (λ (p : Placed). p.epoch == epoch) (λ (p : Placed). StandsAt entries p.place p.entry)
    (placed_from made 0 0 entries) (placed_stand made entries 0 0 [] entries refl refl))

-- How many packets a report tells, line by line.
use Rattle.std.proofs.Common.{◌≡◌, ℕ, ◌+◌, ◌<◌, ◌≤◌, ◌==◌, ◌&&◌, Bool, true, false, cond, nat_lt, zero, suc, List, [], ◌∷◌, inl, inr, length, map, filter, get_or, take, refl, sym, ap, ◌∙◌, arith}
use Rattle.std.specs.Global.{Vec}
use Rattle.std.specs.List.{count_by, filter_map}
use Rattle.std.proofs.lemmas.Bool.{and_from, and_left, and_right, cases_eq, cases_lt, eq-eqb, le-ltb, lt-ltb, ne_eqb}
use Rattle.std.proofs.lemmas.List.{get_or-map}
use Rattle.std.proofs.lemmas.List.Sums.{sum_by-cons, sum_by_more_le}
use Rattle.audit_core.specs.Sharing.{shares, under}
use Rattle.audit_core.specs.declared.sharing.Keyed.{Keyed}
use Rattle.lawful_run.specs.Telling.{counted}
use Rattle.report_lines.specs.declared.entry.Entry.{Entry}
use Rattle.report_lines.specs.declared.entry.Entry.TheVariants as entry
use Rattle.report_lines.specs.declared.entry.LineEntry.{LineEntry}
use Rattle.report_lines.specs.declared.entry.LineEntry.TheVariants as of_line
use Rattle.balance_plan.specs.Packets.{is_between, packet_in, packets_between, packets_on, tells_packet}

-- a count, one item more at the start
pub count-cons : {X : Type 0} (p : X → Bool) (x : X) (xs : List X)
    → count_by p (x ∷ xs) ≡ cond (p x) 1 0 + count_by p xs
count-cons p x xs = sum_by-cons (λ y. cond (p y) 1 0) x xs

one_if : (b : Bool) → b ≡ true → cond {A = ℕ} b 1 0 ≡ 1
one_if true is = refl
one_if false is = cc

none_if : (b : Bool) → b ≡ false → cond {A = ℕ} b 1 0 ≡ 0
none_if true is = cc
none_if false is = refl

-- an item under a number counts where its number is this and it passes
under_is : (n : ℕ) (one : Keyed ℕ) (keyed : List (Keyed ℕ))
    → under n (one ∷ keyed) ≡ cond (one.key == n) (one.item ∷ under n keyed) (under n keyed)
under_is n one keyed = by (one.key == n) (filter (λ (k : Keyed ℕ). k.key == n) keyed)
  where
    by : (b : Bool) (others : List (Keyed ℕ))
        → map (λ (k : Keyed ℕ). k.item) (cond b (one ∷ others) others)
        ≡ cond b (one.item ∷ map (λ (k : Keyed ℕ). k.item) others) (map (λ (k : Keyed ℕ). k.item) others)
    by true others = refl
    by false others = refl

count_if : (slot item : ℕ) (b : Bool) (items : List ℕ)
    → count_by (λ s. s == slot) (cond b (item ∷ items) items)
    ≡ cond {A = ℕ} ((item == slot) && b) 1 0 + count_by (λ s. s == slot) items
count_if slot item true items =
    count-cons (λ s. s == slot) item items
    ∙ ap (λ t. cond {A = ℕ} t 1 0 + count_by (λ s. s == slot) items) (sym (and-true (item == slot)))
  where
    and-true : (b : Bool) → (b && true) ≡ b
    and-true true = refl
    and-true false = refl
count_if slot item false items = omega (arith, none_if ((item == slot) && false) (and_right (item == slot) false refl))

under_by : (n slot : ℕ) (one : Keyed ℕ) (keyed : List (Keyed ℕ))
    → count_by (λ s. s == slot) (under n (one ∷ keyed))
    ≡ cond {A = ℕ} ((one.item == slot) && (one.key == n)) 1 0 + count_by (λ s. s == slot) (under n keyed)
under_by n slot one keyed =
    ap (count_by (λ s. s == slot)) (under_is n one keyed) ∙ count_if slot one.item (one.key == n) (under n keyed)

pub on_line : (n slot : ℕ) (entries : List Entry)
    → count_by (λ s. s == slot) (under n (filter_map packet_in entries)) ≡ packets_on (λ line. line == n) entries slot
on_line n slot [] = refl
on_line n slot (entry.Line (of_line.N noted) ∷ entries) =
    omega (arith, on_line n slot entries, count-cons (tells_packet (λ line. line == n) slot) (entry.Line (of_line.N noted)) entries)
on_line n slot (entry.Line (of_line.C answered) ∷ entries) =
    omega (arith, on_line n slot entries, count-cons (tells_packet (λ line. line == n) slot) (entry.Line (of_line.C answered)) entries)
on_line n slot (entry.Line (of_line.P judged) ∷ entries) =
    under_by n slot (record { key = judged.line; item = judged.slot }) (filter_map packet_in entries)
    ∙ ap (λ m. cond {A = ℕ} ((judged.slot == slot) && (judged.line == n)) 1 0 + m) (on_line n slot entries)
    ∙ sym (count-cons (tells_packet (λ line. line == n) slot) (entry.Line (of_line.P judged)) entries)
on_line n slot (entry.Line (of_line.F refused) ∷ entries) =
    omega (arith, on_line n slot entries, count-cons (tells_packet (λ line. line == n) slot) (entry.Line (of_line.F refused)) entries)
on_line n slot (entry.Effect own ∷ entries) =
    omega (arith, on_line n slot entries, count-cons (tells_packet (λ line. line == n) slot) (entry.Effect own) entries)
on_line n slot (entry.Charge own ∷ entries) =
    omega (arith, on_line n slot entries, count-cons (tells_packet (λ line. line == n) slot) (entry.Charge own) entries)

pub length-shares : (keyed : List (Keyed ℕ)) (first count : ℕ)
    → length (map (λ k. under k keyed) (counted first count)) ≡ count
length-shares keyed first zero = refl
length-shares keyed first (suc count) = ap suc (length-shares keyed (first + 1) count)

pub room_for : (slots : List ℕ) (i slot : ℕ) → i < length slots → slot ≡ get_or slots i slot
    → count_by (λ s. s == slot) (take i slots) + 1 ≤ count_by (λ s. s == slot) slots
room_for slots i slot within is =
    omega (
      arith,
      sum_by_more_le (λ s. cond {A = ℕ} (s == slot) 1 0) slots i slot within,
      one_if (get_or slots i slot == slot) (eq-eqb (get_or slots i slot) slot (sym is)),
    )

-- the list under a number
under_at : (keyed : List (Keyed ℕ)) (first count n : ℕ) (none : List ℕ) → n < count
    → get_or (map (λ k. under k keyed) (counted first count)) n none ≡ under (first + n) keyed
under_at keyed first zero n none below = absurd (omega (arith, below))
under_at keyed first (suc count) zero none below = ap (λ k. under k keyed) (omega arith)
under_at keyed first (suc count) (suc n) none below =
    under_at keyed (first + 1) count n none (omega (arith, below)) ∙ ap (λ k. under k keyed) (omega arith)

pub told_each : (lines : List (Vec ℕ)) (count : ℕ) (entries : List Entry)
    → map (λ (v : Vec ℕ). v.items) lines ≡ shares count (filter_map packet_in entries)
    → (n slot : ℕ) (none : Vec ℕ) → n < length lines → n < count
    → count_by (λ s. s == slot) (get_or lines n none).items ≡ packets_on (λ line. line == n) entries slot
told_each lines count entries are n slot none within below =
    ap (count_by (λ s. s == slot))
    (sym (get_or-map (λ (v : Vec ℕ). v.items) lines n none none.items within)
    ∙ ap (λ ls. get_or ls n none.items) are
    ∙ under_at (filter_map packet_in entries) 0 count n none.items below
    ∙ ap (λ k. under k (filter_map packet_in entries)) (omega arith))
    ∙ on_line n slot entries

-- one line more between two
between_by : (since n line : ℕ) → since < n
    → cond (is_between since (n + 1) line) 1 0 ≡ cond (is_between since n line) 1 0 + cond (line == n) 1 0
between_by since n line order =
    elim (cases_eq line n) [
      | inl is ↦ omega (
        arith,
        one_if (is_between since (n + 1) line) (and_from _ _ (lt-ltb since line (omega (arith, is, order)))
            (lt-ltb line (n + 1) (omega (arith, is)))),
        none_if (is_between since n line) (and_right (nat_lt since line) (nat_lt line n)
            (le-ltb line n (omega (arith, is)))),
        one_if (line == n) (eq-eqb line n is),
      )
      | inr other ↦ elim (cases_lt line n) [
        | inl before ↦ omega (
          arith,
          ap (λ b. cond {A = ℕ} (nat_lt since line && b) 1 0) (lt-ltb line (n + 1) (omega (arith, before))
              ∙ sym (lt-ltb line n before)),
          none_if (line == n) (ne_eqb line n other),
        )
        | inr behind ↦ omega (
          arith,
          ap (λ b. cond {A = ℕ} (nat_lt since line && b) 1 0) (le-ltb line (n + 1) (omega (arith, behind, other))
              ∙ sym (le-ltb line n behind)),
          none_if (line == n) (ne_eqb line n other),
        )
      ]
    ]

cond_and : (slot_is between_ on_it more : Bool) → cond more 1 0 ≡ cond between_ 1 0 + cond on_it 1 0
    → cond (slot_is && more) 1 0 ≡ cond (slot_is && between_) 1 0 + cond (slot_is && on_it) 1 0
cond_and true between_ on_it more is = is
cond_and false between_ on_it more is = refl

tells_more : (since n slot : ℕ) (one : Entry) → since < n
    → cond (tells_packet (is_between since (n + 1)) slot one) 1 0
    ≡ cond (tells_packet (is_between since n) slot one) 1 0 + cond (tells_packet (λ line. line == n) slot one) 1 0
tells_more since n slot (entry.Line (of_line.N noted)) order = refl
tells_more since n slot (entry.Line (of_line.C answered)) order = refl
tells_more since n slot (entry.Line (of_line.P judged)) order =
    cond_and (judged.slot == slot) (is_between since n judged.line) (judged.line == n)
    (is_between since (n + 1) judged.line) (between_by since n judged.line order)
tells_more since n slot (entry.Line (of_line.F refused)) order = refl
tells_more since n slot (entry.Effect own) order = refl
tells_more since n slot (entry.Charge own) order = refl

pub between_more : (since n : ℕ) (entries : List Entry) (slot : ℕ) → since < n
    → packets_between since (n + 1) entries slot
    ≡ packets_between since n entries slot + packets_on (λ line. line == n) entries slot
between_more since n [] slot order = refl
between_more since n (one ∷ entries) slot order =
    omega (
      arith,
      count-cons (tells_packet (is_between since (n + 1)) slot) one entries,
      count-cons (tells_packet (is_between since n) slot) one entries,
      count-cons (tells_packet (λ line. line == n) slot) one entries,
      tells_more since n slot one order,
      between_more since n entries slot order,
    )

-- none stands between a line and the next
nothing_by : (since line : ℕ) → is_between since (since + 1) line ≡ false
nothing_by since line =
    elim (cases_lt since line) [
      | inl behind ↦ and_right (nat_lt since line) (nat_lt line (since + 1)) (le-ltb line (since + 1) (omega (arith, behind)))
      | inr before ↦ and_left (nat_lt since line) (nat_lt line (since + 1)) (le-ltb since line before)
    ]

tells_none : (since slot : ℕ) (one : Entry) → tells_packet (is_between since (since + 1)) slot one ≡ false
tells_none since slot (entry.Line (of_line.N noted)) = refl
tells_none since slot (entry.Line (of_line.C answered)) = refl
tells_none since slot (entry.Line (of_line.P judged)) = and_right (judged.slot == slot) _ (nothing_by since judged.line)
tells_none since slot (entry.Line (of_line.F refused)) = refl
tells_none since slot (entry.Effect own) = refl
tells_none since slot (entry.Charge own) = refl

pub between_none : (since : ℕ) (entries : List Entry) (slot : ℕ)
    → packets_between since (since + 1) entries slot ≡ 0
between_none since [] slot = refl
between_none since (one ∷ entries) slot =
    count-cons (tells_packet (is_between since (since + 1)) slot) one entries
    ∙ (λ i. cond (tells_none since slot one i) 1 0 + between_none since entries slot i)

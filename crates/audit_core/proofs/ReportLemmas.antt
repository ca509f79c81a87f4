-- The lines of a report that were taken, with one more.
use Rattle.std.proofs.Common.{◌≡◌, ◌≢◌, ℕ, zero, suc, ◌+◌, ◌-◌, ◌==◌, ◌||◌, ◌<◌, ◌≤◌, ◌^◌, nat_le, nat_lt, if◌then◌else◌, Bool, true, false, Option, None, Some, Result, Ok, Err, OnOk, List, [], ◌∷◌, ◌++◌, All, find, get_or, length, map, refl, sym, ap, subst, ◌∙◌, arith, length-append}
use Rattle.std.specs.List.Sorted.{IsPartitionPoint, IsPartitionedBy}
use Rattle.std.proofs.lemmas.Bool.{eq-eqb, leb-false, leb-true, lt-ltb, ltb-false, ltb-true, ne_eqb}
use Rattle.std.proofs.lemmas.List.{length-map, map-append}
use Rattle.std.proofs.lemmas.List.Elements.{All-nil}
use Rattle.demux.specs.Trace.{Meaning}
use Rattle.report_lines.specs.Ranges.{IsEntry}
use Rattle.report_lines.specs.Text.{entry_text}
use Rattle.report_lines.specs.declared.entry.Entry.{Entry}
use Rattle.report_lines.specs.declared.entry.Entry.TheVariants as entry
use Rattle.report_lines.specs.declared.entry.ChargeEntry.TheVariants as charge
use Rattle.report_lines.specs.declared.entry.LineEntry.TheVariants as line
use Rattle.pc_base.specs.declared.effect.Effect.{Effect}
use Rattle.pc_base.specs.declared.effect.Effect.TheVariants as effect
use Rattle.std.specs.declared.alloc.AllocError.{AllocError}
use Rattle.audit_core.specs.Belonging.{AreRunsFrom, HasOutside, HasTaken, IsRunOf, Placed, ends_from, epoch_from, epochs_of, is_outside_entry, own_epoch, placed_from}
use Rattle.audit_core.specs.Entries.{all_lines, epoch_at, epoch_behind}
use Rattle.audit_core.specs.Heard.{SaysReport}
use Rattle.audit_core.specs.Packed.{KeepsFrom}
use Rattle.pc_outside.specs.Texts.{Text}
use Rattle.audit_core.specs.declared.report.Report.{Report}
use Rattle.audit_core.specs.declared.report.Run.{Run}
use Rattle.audit_core.specs.declared.sharing.Keyed.{Keyed}
use Rattle.audit_core.proofs.HeardLemmas.{now_outside, still_outside}
use Rattle.audit_core.proofs.NoEpoch.{at_below}
use Rattle.audit_core.proofs.RunLemmas.{epoch_more, length-placed, placed_more}
use Rattle.audit_core.proofs.SaidLemmas.{next_entry}

-- the ends of epochs rise
ends_least : (before : ℕ) (made : List (List Meaning)) (k d : ℕ) → k < length (ends_from before made)
    → before ≤ get_or (ends_from before made) k d
ends_least before [] k d within = absurd (omega (arith, within))
ends_least before (lines ∷ made) zero d within = omega arith
ends_least before (lines ∷ made) (suc k) d within =
    omega (arith, ends_least (before + length lines) made k d (omega (arith, within)))

pub ends_rise : (before : ℕ) (made : List (List Meaning)) (i j d : ℕ) → i ≤ j → j < length (ends_from before made)
    → get_or (ends_from before made) i d ≤ get_or (ends_from before made) j d
ends_rise before [] i j d order within = absurd (omega (arith, within))
ends_rise before (lines ∷ made) zero zero d order within = omega arith
ends_rise before (lines ∷ made) zero (suc j) d order within =
    ends_least (before + length lines) made j d (omega (arith, within))
ends_rise before (lines ∷ made) (suc i) zero d order within = absurd (omega (arith, order))
ends_rise before (lines ∷ made) (suc i) (suc j) d order within =
    ends_rise (before + length lines) made i j d (omega (arith, order)) (omega (arith, within))

pub ends_parted : (ends : List ℕ) (made : List (List Meaning)) (line : ℕ) → ends ≡ ends_from 0 made
    → IsPartitionedBy (λ end. nat_lt end line) ends
ends_parted ends made line are i j d order within below =
    let rise : get_or ends i d ≤ get_or ends j d =
    subst (λ l. get_or l i d ≤ get_or l j d) (sym are)
    (ends_rise 0 made i j d order (omega (arith, within, ap length are))) in
    lt-ltb (get_or ends i d) line (omega (arith, rise, ltb-true (get_or ends j d) line below))

-- how many epochs end before a line
ends_at : (before line n p : ℕ) (made : List (List Meaning)) → line ≡ before + n → p ≤ length (ends_from before made)
    → ((k d : ℕ) → k < p → nat_lt (get_or (ends_from before made) k d) line ≡ true)
    → ((k d : ℕ) → p ≤ k → k < length (ends_from before made) → nat_lt (get_or (ends_from before made) k d) line ≡ false)
    → p ≡ epoch_at made n
ends_at before line n p [] is within low high = omega (arith, within)
ends_at before line n p (lines ∷ made) is within low high =
    by_first p (nat_le n (length lines)) refl within low high
    (λ q past. ends_at (before + length lines) line (n - length lines) q made (omega (arith, is, past)))
  where
    by_first : (p : ℕ) (test : Bool) → nat_le n (length lines) ≡ test → p ≤ length (ends_from before (lines ∷ made))
        → ((k d : ℕ) → k < p → nat_lt (get_or (ends_from before (lines ∷ made)) k d) line ≡ true)
        → ((k d : ℕ) → p ≤ k → k < length (ends_from before (lines ∷ made))
        → nat_lt (get_or (ends_from before (lines ∷ made)) k d) line ≡ false)
        → ((q : ℕ) → length lines < n → q ≤ length (ends_from (before + length lines) made)
        → ((k d : ℕ) → k < q → nat_lt (get_or (ends_from (before + length lines) made) k d) line ≡ true)
        → ((k d : ℕ) → q ≤ k → k < length (ends_from (before + length lines) made)
        → nat_lt (get_or (ends_from (before + length lines) made) k d) line ≡ false)
        → q ≡ epoch_at made (n - length lines))
        → p ≡ (if test then 0 else epoch_at made (n - length lines) + 1)
    by_first zero true here within low high rest = refl
    by_first (suc p) true here within low high rest =
        let below : before + length lines < line = ltb-true (before + length lines) line (low 0 0 (omega arith)) in
        absurd (omega (arith, below, is, leb-true n (length lines) here))
    by_first zero false here within low high rest =
        let past : length lines < n = leb-false n (length lines) here in
        let clash : true ≡ false =
        sym (lt-ltb (before + length lines) line (omega (arith, is, past))) ∙ high 0 0 (omega arith) (omega arith) in
        cc
    by_first (suc p) false here within low high rest =
        let past : length lines < n = leb-false n (length lines) here in
        let there : p ≡ epoch_at made (n - length lines) =
        rest p past (omega (arith, within)) (λ k d below. low (suc k) d (omega (arith, below)))
        (λ k d above below. high (suc k) d (omega (arith, above)) (omega (arith, below))) in
        omega (arith, there)

pub epoch_there : (ends : List ℕ) (made : List (List Meaning)) (line p : ℕ) → ends ≡ ends_from 0 made
    → p ≤ length ends
    → IsPartitionPoint (λ end. nat_lt end line ≡ true) (λ end. nat_lt end line ≡ false) ends p → p ≡ epoch_at made line
epoch_there ends made line p are within point =
    ends_at 0 line line p made (omega arith) (omega (arith, within, ap length are))
    (λ k d below. subst (λ l. nat_lt (get_or l k d) line ≡ true) are (point.0 k d (omega arith) below))
    (λ k d above below. subst (λ l. nat_lt (get_or l k d) line ≡ false) are
    (point.1 k d above (omega (arith, below, ap length are))))

-- a line behind all of them
pub length-ends : (before : ℕ) (made : List (List Meaning)) → length (ends_from before made) ≡ length made
length-ends before [] = refl
length-ends before (lines ∷ made) = ap suc (length-ends (before + length lines) made)

at_end : (made : List (List Meaning)) (n : ℕ) → length (all_lines made) < n → epoch_at made n ≡ length made
at_end [] n past = refl
at_end (lines ∷ made) n past =
    let count : length (all_lines (lines ∷ made)) ≡ length lines + length (all_lines made) =
    length-append lines (all_lines made) in
    by_test (nat_le n (length lines)) refl (omega (arith, past, count))
    (at_end made (n - length lines) (omega (arith, past, count)))
  where
    by_test : (test : Bool) → nat_le n (length lines) ≡ test → length lines < n
        → epoch_at made (n - length lines) ≡ length made
        → (if test then 0 else epoch_at made (n - length lines) + 1) ≡ suc (length made)
    by_test true here behind rest = absurd (omega (arith, behind, leb-true n (length lines) here))
    by_test false here behind rest = omega (arith, rest)

outside_by : (made : List (List Meaning)) (line : ℕ) (test : Bool) → nat_lt (length (all_lines made)) line ≡ test
    → (line == 0 || epoch_at made line == length made) ≡ (line == 0 || test)
outside_by made zero test is = refl
outside_by made (suc n) true is =
    ap (λ t. suc n == 0 || t)
    (eq-eqb (epoch_at made (suc n)) (length made)
    (at_end made (suc n) (ltb-true (length (all_lines made)) (suc n) is)))
outside_by made (suc n) false is =
    let low : suc n ≤ length (all_lines made) = ltb-false (length (all_lines made)) (suc n) is in
    let there = at_below made (suc n) (omega arith) low in
    ap (λ t. suc n == 0 || t)
    (ne_eqb (epoch_at made (suc n)) (length made) (λ same. omega (arith, same, there)))

pub is_outside_so : (ends : List ℕ) (made : List (List Meaning)) (line epoch count : ℕ) → ends ≡ ends_from 0 made
    → epoch ≡ epoch_at made line → count ≡ length ends
    → (line == 0 || epoch == count) ≡ (line == 0 || nat_lt (length (all_lines made)) line)
is_outside_so ends made line epoch count are is count_is =
    let many : count ≡ length made = count_is ∙ ap length are ∙ length-ends 0 made in
    (λ i. line == 0 || is i == many i)
    ∙ outside_by made line (nat_lt (length (all_lines made)) line) refl

-- the first entry of a line that there isn't, with one entry more
find-none : {X : Type 0} (test : X → Bool) (xs : List X) (x : X) → find test xs ≡ None
    → find test (xs ++ x ∷ []) ≡ (if test x then Some x else None)
find-none test [] x none = refl
find-none test (y ∷ xs) x none = by_first (test y) none (find-none test xs x)
  where
    by_first : (t : Bool) → (if t then Some y else find test xs) ≡ None
        → (find test xs ≡ None → find test (xs ++ x ∷ []) ≡ (if test x then Some x else None))
        → (if t then Some y else find test (xs ++ x ∷ [])) ≡ (if test x then Some x else None)
    by_first true none rest = absurd (cc)
    by_first false none rest = rest none

find-some : {X : Type 0} (test : X → Bool) (xs : List X) (x found : X) → find test xs ≡ Some found
    → find test (xs ++ x ∷ []) ≡ Some found
find-some test [] x found is = absurd (cc)
find-some test (y ∷ xs) x found is = by_first (test y) is (find-some test xs x found)
  where
    by_first : (t : Bool) → (if t then Some y else find test xs) ≡ Some found
        → (find test xs ≡ Some found → find test (xs ++ x ∷ []) ≡ Some found)
        → (if t then Some y else find test (xs ++ x ∷ [])) ≡ Some found
    by_first true is rest = is
    by_first false is rest = rest is

module _ (octets new text : List ℕ) (count : ℕ) (entries : List Entry) (one : Entry)
    (adds : (at : ℕ) (texts : List (List ℕ)) → KeepsFrom octets at texts → KeepsFrom new at (texts ++ text ∷ []))
    (is : text ≡ entry_text one) (end : KeepsFrom octets (length octets) []) where
  outside_none : (test : Bool) → is_outside_entry count one ≡ test → find (is_outside_entry count) entries ≡ None
      → HasOutside new count (entries ++ one ∷ []) (if test then Some (length octets) else None)
  outside_none true outside none = (
    one,
    [],
    find-none (is_outside_entry count) entries one none ∙ ap (λ t. if t then Some one else None) outside,
    subst (λ t. KeepsFrom new (length octets) (t ∷ [])) is (adds (length octets) [] end),
  )
  outside_none false outside none =
      find-none (is_outside_entry count) entries one none ∙ ap (λ t. if t then Some one else None) outside

  pub outside_more : (old next : Option ℕ) → HasOutside octets count entries old → (old ≢ None → next ≡ old)
      → (old ≡ None → next ≡ (if is_outside_entry count one then Some (length octets) else None))
      → HasOutside new count (entries ++ one ∷ []) next
  outside_more None next has kept found =
      subst (HasOutside new count (entries ++ one ∷ [])) (sym (found refl))
      (outside_none (is_outside_entry count one) refl has)
  outside_more (Some at) next has kept found =
      let same : next ≡ Some at = kept (λ none. cc) in
      subst (HasOutside new count (entries ++ one ∷ [])) (sym same) (
        has.0,
        has.1 ++ text ∷ [],
        find-some (is_outside_entry count) entries one has.0 has.2,
        adds at (entry_text has.0 ∷ has.1) has.3,
      )

-- no texts
pub taken_nothing : (made : List (List Meaning)) (report : Report) → report.none ≡ false → report.count ≡ 0
    → KeepsFrom report.texts 0 [] → report.runs.items ≡ [] → report.epoch ≡ 0 → report.outside ≡ None
    → HasTaken made [] report
taken_nothing made report none count kept runs now outside = record {
  entries = [];
  says = subst (λ b. SaysReport b [] []) (sym none) (record { same = refl; ranges = All-nil IsEntry });
  count = count;
  kept = kept;
  follow = subst (AreRunsFrom 0) (sym runs) tt;
  epochs = ap epochs_of runs;
  each = subst (All (λ (run : Keyed Run). IsRunOf report.texts [] run.item)) (sym runs)
      (All-nil (λ (run : Keyed Run). IsRunOf report.texts [] run.item));
  goes_on = now;
  outside = subst (HasOutside report.texts (length (all_lines made)) []) (sym outside) refl;
  few = omega arith;
}

-- a line behind one that is none, and one that is none
pub taken_behind : (made : List (List Meaning)) (texts : List Text) (text : Text) (report : Report)
    → HasTaken made texts report → report.none ≡ true → HasTaken made (texts ++ text ∷ []) report
taken_behind made texts text report taken none =
    let ends = subst (λ b. SaysReport b texts taken.entries) none taken.says in
    record {
      entries = taken.entries;
      says = subst (λ b. SaysReport b (texts ++ text ∷ []) taken.entries) (sym none)
          (still_outside texts taken.entries text ends);
      count = taken.count;
      kept = taken.kept;
      follow = taken.follow;
      epochs = taken.epochs;
      each = taken.each;
      goes_on = taken.goes_on;
      outside = taken.outside;
      few = taken.few;
    }

pub taken_no_entry : (made : List (List Meaning)) (texts : List Text) (text : Text) (old new : Report)
    → HasTaken made texts old → old.none ≡ false → new.none ≡ true
    → ((entry : Entry) → IsEntry entry → text ≡ entry_text entry → ⊥)
    → new.texts ≡ old.texts → new.runs ≡ old.runs → new.count ≡ old.count → new.epoch ≡ old.epoch
    → new.outside ≡ old.outside → HasTaken made (texts ++ text ∷ []) new
taken_no_entry made texts text old new taken was none other same_texts same_runs same_count same_now same_outside =
    let are = subst (λ b. SaysReport b texts taken.entries) was taken.says in
    record {
      entries = taken.entries;
      says = subst (λ b. SaysReport b (texts ++ text ∷ []) taken.entries) (sym none)
          (now_outside texts taken.entries text are other);
      count = same_count ∙ taken.count;
      kept = rw same_texts taken.kept;
      follow = rw same_runs taken.follow;
      epochs = rw same_runs taken.epochs;
      each = rw (same_texts, same_runs) taken.each;
      goes_on = same_now ∙ taken.goes_on;
      outside = rw (same_texts, same_outside) taken.outside;
      few = taken.few;
    }

-- one entry more
pub taken_entry : (made : List (List Meaning)) (texts : List Text) (text : Text) (old new : Report) (entry : Entry)
    (epoch : ℕ) (taken : HasTaken made texts old) → old.none ≡ false → new.none ≡ false → text ≡ entry_text entry
    → IsEntry entry
    → ((at : ℕ) (more : List Text) → KeepsFrom old.texts at more → KeepsFrom new.texts at (more ++ text ∷ []))
    → KeepsFrom old.texts (length old.texts) []
    → new.count ≡ old.count + 1 → old.count + 1 < 2 ^ 40 → epoch ≡ own_epoch made old.epoch entry
    → new.epoch ≡ epoch_behind made old.epoch entry
    → (AreRunsFrom 0 old.runs.items → length (epochs_of old.runs.items) ≡ old.count → AreRunsFrom 0 new.runs.items)
    → epochs_of new.runs.items ≡ epochs_of old.runs.items ++ epoch ∷ []
    → (All (λ (run : Keyed Run). IsRunOf old.texts taken.entries run.item) old.runs.items
    → All (λ (run : Keyed Run). IsRunOf new.texts (taken.entries ++ entry ∷ []) run.item) new.runs.items)
    → (old.outside ≢ None → new.outside ≡ old.outside)
    → (old.outside ≡ None → new.outside
    ≡ (if is_outside_entry (length (all_lines made)) entry then Some (length old.texts) else None))
    → HasTaken made (texts ++ text ∷ []) new
taken_entry made texts text old new entry epoch taken was none is range adds end count few epoch_is now follow epochs each
    kept_outside outside =
    let are = subst (λ b. SaysReport b texts taken.entries) was taken.says in
    let before = epoch_from made 0 taken.entries in
    let many : length (epochs_of old.runs.items) ≡ old.count =
    ap length taken.epochs ∙ length-map (placed_from made 0 0 taken.entries) (λ (p : Placed). p.epoch)
    ∙ length-placed made 0 0 taken.entries ∙ sym taken.count in
    record {
      entries = taken.entries ++ entry ∷ [];
      says = subst (λ b. SaysReport b (texts ++ text ∷ []) (taken.entries ++ entry ∷ [])) (sym none)
          (next_entry texts text taken.entries entry are is range);
      count = omega (arith, count, taken.count, length-append taken.entries (entry ∷ []));
      kept = subst (KeepsFrom new.texts 0)
          (ap (λ t. map entry_text taken.entries ++ t ∷ []) is
          ∙ sym (map-append entry_text taken.entries (entry ∷ [])))
          (adds 0 (map entry_text taken.entries) taken.kept);
      follow = follow taken.follow many;
      epochs = epochs ∙ (λ i. taken.epochs i
          ++ (epoch_is ∙ ap (λ k. own_epoch made k entry) taken.goes_on) i ∷ [])
          ∙ sym (placed_more made 0 0 taken.entries entry);
      each = each taken.each;
      goes_on = now ∙ ap (λ k. epoch_behind made k entry) taken.goes_on ∙ sym (epoch_more made 0 taken.entries entry);
      outside = outside_more old.texts new.texts text (length (all_lines made)) taken.entries entry adds is end
          old.outside new.outside taken.outside kept_outside outside;
      few = omega (arith, few, taken.count, length-append taken.entries (entry ∷ []));
    }

-- whether a line is one that there isn't, by parts
pub outside_zero : (line most : ℕ) → line ≡ 0 → true ≡ (line == 0 || nat_lt most line)
outside_zero line most is = sym (ap (λ t. t || nat_lt most line) (eq-eqb line 0 is))

pub outside_other : (ends : List ℕ) (made : List (List Meaning)) (line epoch count : ℕ) → (line ≡ 0 → ⊥)
    → ends ≡ ends_from 0 made → epoch ≡ epoch_at made line → count ≡ length ends
    → (epoch == count) ≡ (line == 0 || nat_lt (length (all_lines made)) line)
outside_other ends made line epoch count other are is count_is =
    sym (ap (λ t. t || epoch == count) (ne_eqb line 0 other)) ∙ is_outside_so ends made line epoch count are is count_is

-- an entry has a text
pub entry_some : (one : Entry) → 0 < length (entry_text one)
entry_some (entry.Line (line.N noted)) = omega arith
entry_some (entry.Line (line.C answered)) = omega arith
entry_some (entry.Line (line.P judged)) = omega arith
entry_some (entry.Line (line.F refused)) = omega arith
entry_some (entry.Effect told) = by_effect told.effect
  where
    by_effect : (its : Effect) → 0 < length (entry_text (entry.Effect (record { slot = told.slot; command = told.command; effect = its })))
    by_effect (effect.Marker life peer octets) = omega arith
    by_effect (effect.Fate packet its_fate) = omega arith
entry_some (entry.Charge (charge.R slot row)) = omega arith
entry_some (entry.Charge (charge.O slot counters)) = omega arith

-- an entry was taken, unless memory ran out
pub entry_taken : (result : Result Unit AllocError) (made : List (List Meaning)) (texts : List Text) (text : Text)
    (old mid new : Report) (entry : Entry) (epoch : ℕ) (taken : HasTaken made texts old) → old.none ≡ false
    → text ≡ entry_text entry → IsEntry entry → old.count + 1 < 2 ^ 40
    → mid.texts ≡ old.texts → mid.runs ≡ old.runs → mid.count ≡ old.count → mid.none ≡ old.none
    → KeepsFrom old.texts (length old.texts) []
    → epoch ≡ own_epoch made old.epoch entry → mid.epoch ≡ epoch_behind made old.epoch entry
    → (old.outside ≢ None → mid.outside ≡ old.outside)
    → (old.outside ≡ None → mid.outside
    ≡ (if is_outside_entry (length (all_lines made)) entry then Some (length old.texts) else None))
    → ((at : ℕ) (more : List Text) → KeepsFrom mid.texts at more
    → OnOk result (KeepsFrom new.texts at (more ++ text ∷ [])))
    → OnOk result (new.count ≡ mid.count + 1)
    → (AreRunsFrom 0 mid.runs.items → length (epochs_of mid.runs.items) ≡ mid.count
    → OnOk result (AreRunsFrom 0 new.runs.items))
    → OnOk result (epochs_of new.runs.items ≡ epochs_of mid.runs.items ++ epoch ∷ [])
    → ((entries : List Entry) (one : Entry) → text ≡ entry_text one → length entries ≡ mid.count
    → All (λ (run : Keyed Run). IsRunOf mid.texts entries run.item) mid.runs.items
    → OnOk result (All (λ (run : Keyed Run). IsRunOf new.texts (entries ++ one ∷ []) run.item) new.runs.items))
    → new.epoch ≡ mid.epoch → new.outside ≡ mid.outside → new.none ≡ mid.none
    → OnOk result (HasTaken made (texts ++ text ∷ []) new)
entry_taken (Err e) made texts text old mid new entry epoch taken was is range few same_texts same_runs same_count same_none
    end epoch_is goes_on kept_outside outside adds count follow epochs each same_epoch same_outside still = tt
entry_taken (Ok done) made texts text old mid new entry epoch taken was is range few same_texts same_runs same_count
    same_none end epoch_is goes_on kept_outside outside adds count follow epochs each same_epoch same_outside still =
    taken_entry made texts text old new entry epoch taken was (still ∙ same_none ∙ was) is range
    (λ at more keeps. adds at more (subst (λ t. KeepsFrom t at more) (sym same_texts) keeps)) end
    (omega (arith, count, same_count)) few epoch_is (same_epoch ∙ goes_on)
    (λ runs many. follow (subst (λ v. AreRunsFrom 0 v.items) (sym same_runs) runs)
    (subst (λ v. length (epochs_of v.items) ≡ mid.count) (sym same_runs) (many ∙ sym same_count)))
    (epochs ∙ ap (λ v. epochs_of v.items ++ epoch ∷ []) same_runs)
    (λ runs. each taken.entries entry is (sym taken.count ∙ sym same_count)
    (subst (λ v. All (λ (run : Keyed Run). IsRunOf mid.texts taken.entries run.item) v.items) (sym same_runs)
    (subst (λ t. All (λ (run : Keyed Run). IsRunOf t taken.entries run.item) old.runs.items) (sym same_texts) runs)))
    (λ some. same_outside ∙ kept_outside some) (λ none. same_outside ∙ outside none)

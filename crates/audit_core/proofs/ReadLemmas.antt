-- Entries that are read again from their texts: those of some runs, and one at a place.
use Rattle.std.proofs.Common.{◌≡◌, ℕ, zero, suc, ◌+◌, ◌-◌, ◌==◌, ◌<◌, ◌≤◌, false, true, if◌then◌else◌, Bool, Option, None, Some, List, [], ◌∷◌, ◌++◌, All, cond, drop, find, flat_map, get_or, length, map, take, refl, sym, ap, subst, ◌∙◌, arith, append-nil, append_assoc, length-append}
use Rattle.std.specs.List.{filter}
use Rattle.std.proofs.lemmas.Grind.{flat_map-append}
use Rattle.std.proofs.lemmas.List.{drop-drop, drop_all, drop_more, length-drop, length-map, length-replicate, map_push, take_all, take_more}
use Rattle.std.proofs.lemmas.List.Elements.{All-cons, All-head, All-nil, All-tail}
use Rattle.demux.specs.Trace.{Meaning}
use Rattle.report_lines.specs.Ranges.{IsEntry}
use Rattle.report_lines.specs.Text.{entry_text}
use Rattle.report_lines.specs.declared.entry.Entry.{Entry}
use Rattle.lawful_run.specs.Telling.{counted}
use Rattle.audit_core.specs.Belonging.{AreRunsFrom, AreThose, HasOutside, HasTaken, IsRunOf, Placed, epochs_of, is_outside_entry, placed_from, placed_in, places_of, slice_of}
use Rattle.audit_core.specs.Heard.{SaysReport}
use Rattle.audit_core.specs.Matched.{entries_stood, places_stood}
use Rattle.audit_core.specs.Packed.{KeepsFrom}
use Rattle.audit_core.specs.Places.{first_of}
use Rattle.audit_core.specs.Said.{AreEntries}
use Rattle.audit_core.specs.Sharing.{under}
use Rattle.pc_outside.specs.Texts.{Text}
use Rattle.audit_core.specs.declared.report.Report.{Report}
use Rattle.audit_core.specs.declared.report.Run.{Run}
use Rattle.audit_core.specs.declared.report.Stood.{Stood}
use Rattle.audit_core.specs.declared.sharing.Keyed.{Keyed}
use Rattle.audit_core.proofs.NumberSteps.{counted-push}
use Rattle.audit_core.proofs.RunLemmas.{are_read, entries-placed, its_epochs, length-placed, places-placed, runs_prefix}
use Rattle.audit_core.proofs.SaidLemmas.{one_list}

-- Entries that are kept so, with runs of them.
pub record AreKept (octets : List ℕ) (runs : List Run) (entries : List Entry) : Type 0 where
  pub ranges : All IsEntry entries
  pub each : All (IsRunOf octets entries) runs

-- so far the first runs were read
pub record AreReadTo (entries : List Entry) (runs : List Run) (k : ℕ) (all : List Stood) : Type 0 where
  pub entries_are : entries_stood all ≡ flat_map (slice_of entries) (take k runs)
  pub places_are : places_stood all ≡ flat_map places_of (take k runs)

abbrev pub ReadsTo : List ℕ → List Run → ℕ → List Stood → Type 0
ReadsTo octets runs k all = (entries : List Entry) → AreKept octets runs entries → AreReadTo entries runs k all

pub reads_none : (octets : List ℕ) (runs : List Run) → ReadsTo octets runs 0 []
reads_none octets runs = λ entries kept. record { entries_are = refl; places_are = refl }

flat_more : {X : Type 0} (f : Run → List X) (runs : List Run) (k : ℕ) (d : Run) → k < length runs
    → flat_map f (take (k + 1) runs) ≡ flat_map f (take k runs) ++ f (get_or runs k d)
flat_more f runs k d within =
    ap (flat_map f) (take_more runs k d within) ∙ flat_map-append f (take k runs) (get_or runs k d ∷ [])
    ∙ ap (λ l. flat_map f (take k runs) ++ l) (append-nil (f (get_or runs k d)))

pub reads_run : (octets : List ℕ) (runs : List Run) (k : ℕ) (d : Run) (old new : List Stood) → k < length runs
    → ((entries : List Entry) → All IsEntry entries → IsRunOf octets entries (get_or runs k d)
    → entries_stood new ≡ entries_stood old ++ slice_of entries (get_or runs k d))
    → places_stood new ≡ places_stood old ++ places_of (get_or runs k d) → ReadsTo octets runs k old
    → ReadsTo octets runs (k + 1) new
reads_run octets runs k d old new within entries_are places_are reads = λ entries kept.
    let so = reads entries kept in
    record {
      entries_are = entries_are entries kept.ranges (kept.each k d within)
          ∙ ap (λ l. l ++ slice_of entries (get_or runs k d)) so.entries_are
          ∙ sym (flat_more (slice_of entries) runs k d within);
      places_are = places_are ∙ ap (λ l. l ++ places_of (get_or runs k d)) so.places_are
          ∙ sym (flat_more places_of runs k d within);
    }

-- of a run so many entries were read, behind others
pub record AreReadIn (octets : List ℕ) (entries : List Entry) (run : Run) (prefix : List Entry) (at i : ℕ)
    (all : List Stood) : Type 0 where
  pub here : KeepsFrom octets at (map entry_text (drop (run.first + i) entries))
  pub entries_are : entries_stood all ≡ prefix ++ take i (drop run.first entries)

abbrev pub ReadsIn : List ℕ → Run → List Entry → ℕ → ℕ → List Stood → Type 0
ReadsIn octets run prefix at i all =
    (entries : List Entry) → All IsEntry entries → IsRunOf octets entries run
    → AreReadIn octets entries run prefix at i all

pub reads_begin : (octets : List ℕ) (run : Run) (all : List Stood)
    → ReadsIn octets run (entries_stood all) run.from 0 all
reads_begin octets run all = λ entries ranges is.
    let same : run.first ≡ run.first + 0 = omega arith in
    record {
      here = subst (λ n. KeepsFrom octets run.from (map entry_text (drop n entries))) same is.texts;
      entries_are = sym (append-nil (entries_stood all));
    }

-- the next entry
pub record NextEntry (octets : List ℕ) (at : ℕ) (entries : List Entry) (n : ℕ) : Type 0 where
  pub one : Entry
  pub range : IsEntry one
  pub is : drop n entries ≡ one ∷ drop (n + 1) entries
  pub keeps : KeepsFrom octets at (entry_text one ∷ map entry_text (drop (n + 1) entries))

first_is : (xs : List Entry) (m : ℕ) (x : Entry) (later : List Entry) → drop m xs ≡ x ∷ later → x ≡ get_or xs m x
first_is [] zero x later is = absurd (cc)
first_is [] (suc m) x later is = absurd (cc)
first_is (y ∷ xs) zero x later is = let same : y ≡ x = cc in sym same
first_is (y ∷ xs) (suc m) x later is = first_is xs m x later is

pub next_entry_at : (octets : List ℕ) (at : ℕ) (entries : List Entry) (n : ℕ) → n < length entries
    → All IsEntry entries → KeepsFrom octets at (map entry_text (drop n entries)) → NextEntry octets at entries n
next_entry_at octets at entries n within ranges keeps = by_rest (drop n entries) refl
  where
    by_rest : (rest : List Entry) → drop n entries ≡ rest → NextEntry octets at entries n
    by_rest [] is = absurd (omega (arith, ap length is, length-drop n entries, within))
    by_rest (one ∷ rest) is =
        let same : one ≡ get_or entries n one = first_is entries n one rest is in
        let whole : drop n entries ≡ one ∷ drop (n + 1) entries =
        drop_more entries n one within ∙ ap (λ e. e ∷ drop (n + 1) entries) (sym same) in
        record {
          one = one;
          range = subst IsEntry (sym same) (ranges n one within);
          is = whole;
          keeps = subst (λ l. KeepsFrom octets at (map entry_text l)) whole keeps;
        }

one_taken : (xs : List Entry) (m : ℕ) (x : Entry) → drop m xs ≡ x ∷ drop (suc m) xs
    → take (suc m) xs ≡ take m xs ++ x ∷ []
one_taken [] zero x is = absurd (cc)
one_taken [] (suc m) x is = absurd (cc)
one_taken (y ∷ xs) zero x is = let same : y ≡ x = cc in ap (λ z. z ∷ []) same
one_taken (y ∷ xs) (suc m) x is = ap (λ l. y ∷ l) (one_taken xs m x is)

pub next_in_run : (octets : List ℕ) (entries : List Entry) (run : Run) (prefix : List Entry) (at i : ℕ)
    (all : List Stood) → All IsEntry entries → IsRunOf octets entries run → i < run.count
    → AreReadIn octets entries run prefix at i all → NextEntry octets at entries (run.first + i)
next_in_run octets entries run prefix at i all ranges is low so =
    next_entry_at octets at entries (run.first + i) (omega (arith, is.within, low)) ranges so.here

pub reads_next : (octets : List ℕ) (run : Run) (prefix : List Entry) (at next i : ℕ) (all : List Stood)
    (stood : Stood) → i < run.count
    → ((own : Entry) (later : List Text) → IsEntry own → KeepsFrom octets at (entry_text own ∷ later)
    → (stood.entry ≡ own) × KeepsFrom octets next later)
    → ReadsIn octets run prefix at i all → ReadsIn octets run prefix next (i + 1) (all ++ stood ∷ [])
reads_next octets run prefix at next i all stood low read reads = λ entries ranges is.
    let so = reads entries ranges is in
    let found = next_in_run octets entries run prefix at i all ranges is low so in
    let told = read found.one (map entry_text (drop (run.first + i + 1) entries)) found.range found.keeps in
    let tail = drop run.first entries in
    let order : run.first + i + 1 ≡ run.first + (i + 1) = omega arith in
    let count : suc i ≡ i + 1 = omega arith in
    let own : drop i tail ≡ found.one ∷ drop (suc i) tail =
    drop-drop i run.first entries ∙ found.is
    ∙ ap (λ l. found.one ∷ l) (ap (λ n. drop n entries) order ∙ sym (drop-drop (i + 1) run.first entries)
    ∙ ap (λ n. drop n tail) (sym count)) in
    record {
      here = subst (λ n. KeepsFrom octets next (map entry_text (drop n entries))) order told.1;
      entries_are = map_push (λ (s : Stood). s.entry) all stood
          ∙ (λ j. so.entries_are j ++ told.0 j ∷ [])
          ∙ append_assoc prefix (take i tail) (found.one ∷ [])
          ∙ ap (λ l. prefix ++ l) (sym (one_taken tail i found.one own) ∙ ap (λ n. take n tail) count);
    }

pub places_next : (run : Run) (prefix : List ℕ) (i : ℕ) (all : List Stood) (stood : Stood)
    → stood.place ≡ run.first + i → places_stood all ≡ prefix ++ counted run.first i
    → places_stood (all ++ stood ∷ []) ≡ prefix ++ counted run.first (i + 1)
places_next run prefix i all stood place so =
    let count : suc i ≡ i + 1 = omega arith in
    map_push (λ (s : Stood). s.place) all stood ∙ (λ j. so j ++ place j ∷ [])
    ∙ append_assoc prefix (counted run.first i) ((run.first + i) ∷ [])
    ∙ ap (λ l. prefix ++ l) (sym (counted-push run.first i) ∙ ap (counted run.first) count)

-- the runs of an epoch
all_under : {T : Type 0} (P : T → Type 0) (k : ℕ) (keyed : List (Keyed T)) → All (λ (one : Keyed T). P one.item) keyed
    → All P (under k keyed)
all_under P k [] all = All-nil P
all_under {T = T} P k (one ∷ keyed) all =
    by_test (one.key == k) (All-head (λ (o : Keyed T). P o.item) one keyed all)
    (all_under P k keyed (All-tail (λ (o : Keyed T). P o.item) one keyed all))
  where
    by_test : (test : Bool) → P one.item → All P (under k keyed)
        → All P (map (λ (o : Keyed T). o.item)
        (cond test (one ∷ filter (λ (o : Keyed T). o.key == k) keyed) (filter (λ (o : Keyed T). o.key == k) keyed)))
    by_test true here rest = All-cons P one.item (under k keyed) here rest
    by_test false here rest = rest

pub are_kept : (made : List (List Meaning)) (texts : List Text) (epoch : ℕ) (report : Report) (runs : List Run)
    (taken : HasTaken made texts report) → report.none ≡ false → runs ≡ under epoch report.runs.items
    → AreKept report.texts runs taken.entries
are_kept made texts epoch report runs taken none are =
    let said = subst (λ b. SaysReport b texts taken.entries) none taken.says in
    record {
      ranges = said.ranges;
      each = subst (All (IsRunOf report.texts taken.entries)) (sym are)
          (all_under (IsRunOf report.texts taken.entries) epoch report.runs.items taken.each);
    }

pub same_entries : (made : List (List Meaning)) (texts : List Text) (report : Report) (entries : List Entry)
    (taken : HasTaken made texts report) → report.none ≡ false → AreEntries texts entries → taken.entries ≡ entries
same_entries made texts report entries taken none are =
    one_list texts taken.entries entries (subst (λ b. SaysReport b texts taken.entries) none taken.says) are

pub those_read : (made : List (List Meaning)) (texts : List Text) (epoch : ℕ) (report : Report) (runs : List Run)
    (entries : List Entry) (all : List Stood) → HasTaken made texts report → report.none ≡ false
    → AreEntries texts entries → runs ≡ under epoch report.runs.items
    → ReadsTo report.texts runs (length runs) all → AreThose all (placed_in made epoch entries)
those_read made texts epoch report runs entries all taken none said are reads =
    let same = same_entries made texts report entries taken none said in
    let to = reads taken.entries (are_kept made texts epoch report runs taken none are) in
    let placed = placed_from made 0 0 taken.entries in
    let whole = are_read taken.entries epoch 0 report.runs.items placed taken.follow taken.epochs
    (sym (entries-placed made 0 0 taken.entries))
    (places-placed made 0 0 taken.entries ∙ ap (counted 0) (sym (length-placed made 0 0 taken.entries))) in
    let full : take (length runs) runs ≡ under epoch report.runs.items = take_all (length runs) runs (omega arith) ∙ are in
    subst (λ es. AreThose all (placed_in made epoch es)) same (record {
      entries = to.entries_are ∙ ap (flat_map (slice_of taken.entries)) full ∙ whole.entries_are;
      places = to.places_are ∙ ap (flat_map places_of) full ∙ whole.places_are;
    })

-- an entry at a place: the run that has it
pub run_has : (octets : List ℕ) (entries : List Entry) (run : Run) (place : ℕ) → IsRunOf octets entries run
    → run.first ≤ place → place - run.first < run.count
    → (place - run.first < length (drop run.first entries))
    × (drop (place - run.first) (drop run.first entries) ≡ drop place entries)
run_has octets entries run place of_run low within = (
  omega (arith, of_run.within, within, length-drop run.first entries),
  drop-drop (place - run.first) run.first entries ∙ ap (λ n. drop n entries) (omega (arith, low)),
)

-- or none has it
runs_take : (place k : ℕ) (runs : List (Keyed Run)) → AreRunsFrom place runs → AreRunsFrom place (take k runs)
runs_take place zero runs follow = tt
runs_take place (suc k) [] follow = tt
runs_take place (suc k) (run ∷ runs) follow = (follow.0, runs_take (place + run.item.count) k runs follow.1)

pub passes_run : (runs : List (Keyed Run)) (k place : ℕ) (run : Keyed Run) → k < length runs → run ≡ get_or runs k run
    → AreRunsFrom 0 runs → length (epochs_of (take k runs)) ≤ place
    → (run.item.first ≤ place → run.item.count ≤ place - run.item.first)
    → length (epochs_of (take (k + 1) runs)) ≤ place
passes_run runs k place run within is follow before other =
    let more : take (k + 1) runs ≡ take k runs ++ run ∷ [] =
    take_more runs k run within ∙ ap (λ r. take k runs ++ r ∷ []) (sym is) in
    let first = (runs_prefix 0 (take k runs) run (subst (AreRunsFrom 0) more (runs_take 0 (k + 1) runs follow))).1 in
    let past = other (omega (arith, first, before)) in
    let count : length (epochs_of (take (k + 1) runs)) ≡ length (epochs_of (take k runs)) + run.item.count =
    ap (λ l. length (epochs_of l)) more
    ∙ ap length (flat_map-append its_epochs (take k runs) (run ∷ []))
    ∙ length-append (epochs_of (take k runs)) (its_epochs run ++ [])
    ∙ ap (λ n. length (epochs_of (take k runs)) + n)
    (ap length (append-nil (its_epochs run)) ∙ length-replicate run.item.count run.key) in
    omega (arith, count, past, first, before)

pub none_there : (made : List (List Meaning)) (texts : List Text) (report : Report) (place : ℕ)
    (taken : HasTaken made texts report) → length (epochs_of report.runs.items) ≤ place
    → first_of (drop place taken.entries) ≡ None
none_there made texts report place taken past =
    let many : length (epochs_of report.runs.items) ≡ length taken.entries =
    ap length taken.epochs ∙ length-map (placed_from made 0 0 taken.entries) (λ (p : Placed). p.epoch)
    ∙ length-placed made 0 0 taken.entries in
    ap first_of (drop_all place taken.entries (omega (arith, past, many)))

-- an entry of a line that there isn't
outside_found : (count : ℕ) (entries : List Entry) (one : Entry) → find (is_outside_entry count) entries ≡ Some one
    → All IsEntry entries → IsEntry one
outside_found count [] one is ranges = absurd (cc)
outside_found count (first ∷ entries) one is ranges =
    by_test (is_outside_entry count first) is (λ same. outside_found count entries one same
    (All-tail IsEntry first entries ranges))
  where
    by_test : (test : Bool) → (if test then Some first else find (is_outside_entry count) entries) ≡ Some one
        → (find (is_outside_entry count) entries ≡ Some one → IsEntry one) → IsEntry one
    by_test true same rest = let its : first ≡ one = cc in subst IsEntry its (All-head IsEntry first entries ranges)
    by_test false same rest = rest same

pub record OutsideAt (octets : List ℕ) (count : ℕ) (entries : List Entry) (at : ℕ) : Type 0 where
  pub one : Entry
  pub later : List Text
  pub range : IsEntry one
  pub found : find (is_outside_entry count) entries ≡ Some one
  pub keeps : KeepsFrom octets at (entry_text one ∷ later)

pub outside_at : (octets : List ℕ) (count : ℕ) (entries : List Entry) (at : ℕ) (held : Option ℕ) → held ≡ Some at
    → All IsEntry entries → HasOutside octets count entries held → OutsideAt octets count entries at
outside_at octets count entries at held is ranges has =
    let there = subst (HasOutside octets count entries) is has in
    record {
      one = there.0;
      later = there.1;
      range = outside_found count entries there.0 there.2 ranges;
      found = there.2;
      keeps = there.3;
    }

pub said_ranges : (made : List (List Meaning)) (texts : List Text) (report : Report) (taken : HasTaken made texts report)
    → report.none ≡ false → All IsEntry taken.entries
said_ranges made texts report taken none =
    (subst (λ b. SaysReport b texts taken.entries) none taken.says).ranges

pub all_drop : {X : Type 0} (P : X → Type 0) (n : ℕ) (xs : List X) → All P xs → All P (drop n xs)
all_drop P zero xs all = all
all_drop P (suc n) [] all = all
all_drop P (suc n) (x ∷ xs) all = all_drop P n xs (All-tail P x xs all)

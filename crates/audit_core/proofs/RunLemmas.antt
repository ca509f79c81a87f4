-- Entries that follow one another in an epoch, as runs of them are kept.
use Rattle.std.proofs.Common.{◌≡◌, ◌≢◌, ℕ, zero, suc, ◌+◌, ◌==◌, ◌<◌, ◌≤◌, ◌⊎◌, Bool, true, false, List, [], ◌∷◌, ◌++◌, cond, drop, flat_map, get_or, length, map, replicate, set, take, refl, sym, ap, subst, ◌∙◌, inl, inr, arith, append_assoc, append-nil, length-append}
use Rattle.std.specs.List.{All, filter}
use Rattle.std.proofs.lemmas.Bool.{eq-eqb, eqb-true, ne_eqb}
use Rattle.std.proofs.lemmas.Grind.{flat_map-append}
use Rattle.std.proofs.lemmas.List.{drop-append-le, drop-drop, drop-map, drop_at, length-drop, length-map, length-replicate, map-append, take-append-drop, take-map, take_at}
use Rattle.std.proofs.lemmas.List.Elements.{All-cons, All-head, All-nil, All-push, All-tail, All-weaker, filter-append}
use Rattle.demux.specs.Trace.{Meaning}
use Rattle.report_lines.specs.Text.{entry_text}
use Rattle.report_lines.specs.declared.entry.Entry.{Entry}
use Rattle.lawful_run.specs.Telling.{counted}
use Rattle.audit_core.specs.Belonging.{AreRunsFrom, IsRunOf, Placed, epoch_from, epochs_of, own_epoch, placed_from, places_of, slice_of}
use Rattle.audit_core.specs.Entries.{epoch_behind}
use Rattle.audit_core.specs.Packed.{KeepsFrom}
use Rattle.audit_core.specs.Sharing.{under}
use Rattle.audit_core.specs.declared.report.Run.{Run}
use Rattle.audit_core.specs.declared.sharing.Keyed.{Keyed}

-- what entries belong to, with one more
pub epoch_more : (made : List (List Meaning)) (now : ℕ) (entries : List Entry) (one : Entry)
    → epoch_from made now (entries ++ one ∷ []) ≡ epoch_behind made (epoch_from made now entries) one
epoch_more made now [] one = refl
epoch_more made now (first ∷ entries) one = epoch_more made (epoch_behind made now first) entries one

pub placed_more : (made : List (List Meaning)) (place now : ℕ) (entries : List Entry) (one : Entry)
    → map (λ (p : Placed). p.epoch) (placed_from made place now (entries ++ one ∷ []))
    ≡ map (λ (p : Placed). p.epoch) (placed_from made place now entries)
    ++ own_epoch made (epoch_from made now entries) one ∷ []
placed_more made place now [] one = refl
placed_more made place now (first ∷ entries) one =
    ap (λ l. own_epoch made now first ∷ l) (placed_more made (place + 1) (epoch_behind made now first) entries one)

pub length-placed : (made : List (List Meaning)) (place now : ℕ) (entries : List Entry)
    → length (placed_from made place now entries) ≡ length entries
length-placed made place now [] = refl
length-placed made place now (first ∷ entries) =
    ap suc (length-placed made (place + 1) (epoch_behind made now first) entries)

pub entries-placed : (made : List (List Meaning)) (place now : ℕ) (entries : List Entry)
    → map (λ (p : Placed). p.entry) (placed_from made place now entries) ≡ entries
entries-placed made place now [] = refl
entries-placed made place now (first ∷ entries) =
    ap (λ l. first ∷ l) (entries-placed made (place + 1) (epoch_behind made now first) entries)

pub places-placed : (made : List (List Meaning)) (place now : ℕ) (entries : List Entry)
    → map (λ (p : Placed). p.place) (placed_from made place now entries) ≡ counted place (length entries)
places-placed made place now [] = refl
places-placed made place now (first ∷ entries) =
    ap (λ l. place ∷ l) (places-placed made (place + 1) (epoch_behind made now first) entries)

-- the last of a list, in another's place
pub set_last : {X : Type 0} (xs : List X) (m : ℕ) (x : X) → length xs ≡ suc m → set xs m x ≡ take m xs ++ x ∷ []
set_last [] m x many = absurd (omega (arith, many))
set_last (y ∷ []) zero x many = refl
set_last (y ∷ z ∷ xs) zero x many = absurd (omega (arith, many))
set_last (y ∷ xs) (suc m) x many = ap (λ l. y ∷ l) (set_last xs m x (omega (arith, many)))

pub split_last : {X : Type 0} (xs : List X) (m : ℕ) (x : X) → length xs ≡ suc m → x ≡ get_or xs m x
    → xs ≡ take m xs ++ x ∷ []
split_last [] m x many is = absurd (omega (arith, many))
split_last (y ∷ []) zero x many is = ap (λ z. z ∷ []) (sym is)
split_last (y ∷ z ∷ xs) zero x many is = absurd (omega (arith, many))
split_last (y ∷ xs) (suc m) x many is = ap (λ l. y ∷ l) (split_last xs m x (omega (arith, many)) is)

-- runs with one more, and with a longer one at their end
abbrev pub its_epochs : Keyed Run → List ℕ
its_epochs run = replicate run.item.count run.key

pub runs_push : (place : ℕ) (runs : List (Keyed Run)) (run : Keyed Run) → AreRunsFrom place runs
    → run.item.first ≡ place + length (epochs_of runs) → AreRunsFrom place (runs ++ run ∷ [])
runs_push place [] run follow is = (omega (arith, is), tt)
runs_push place (first ∷ runs) run follow is =
    let count = length-append (its_epochs first) (epochs_of runs) in
    let own = length-replicate first.item.count first.key in
    (follow.0, runs_push (place + first.item.count) runs run follow.1 (omega (arith, is, count, own)))

pub runs_prefix : (place : ℕ) (runs : List (Keyed Run)) (run : Keyed Run) → AreRunsFrom place (runs ++ run ∷ [])
    → AreRunsFrom place runs × (run.item.first ≡ place + length (epochs_of runs))
runs_prefix place [] run follow = (tt, omega (arith, follow.0))
runs_prefix place (first ∷ runs) run follow =
    let rest = runs_prefix (place + first.item.count) runs run follow.1 in
    let count = length-append (its_epochs first) (epochs_of runs) in
    let own = length-replicate first.item.count first.key in
    ((follow.0, rest.0), omega (arith, rest.1, count, own))

pub epochs_push : (runs : List (Keyed Run)) (run : Keyed Run) → epochs_of (runs ++ run ∷ []) ≡ epochs_of runs ++ its_epochs run
epochs_push runs run =
    flat_map-append its_epochs runs (run ∷ []) ∙ ap (λ l. epochs_of runs ++ l) (append-nil (its_epochs run))

replicate-push : (count key : ℕ) → replicate (count + 1) key ≡ replicate count key ++ key ∷ []
replicate-push zero key = refl
replicate-push (suc count) key =
    let one : suc count + 1 ≡ suc (count + 1) = omega arith in
    ap (λ n. replicate n key) one ∙ ap (λ l. key ∷ l) (replicate-push count key)

-- the last run, with one entry more
module _ (runs : List (Keyed Run)) (m : ℕ) (last new : Keyed Run) (many : length runs ≡ suc m)
    (is : last ≡ get_or runs m last) (key : new.key ≡ last.key) (first : new.item.first ≡ last.item.first)
    (count : new.item.count ≡ last.item.count + 1) where
  pub longer_epochs : epochs_of (set runs m new) ≡ epochs_of runs ++ last.key ∷ []
  longer_epochs =
      ap epochs_of (set_last runs m new many) ∙ epochs_push (take m runs) new
      ∙ (λ i. epochs_of (take m runs) ++ replicate (count i) (key i))
      ∙ ap (λ l. epochs_of (take m runs) ++ l) (replicate-push last.item.count last.key)
      ∙ sym (append_assoc (epochs_of (take m runs)) (its_epochs last) (last.key ∷ []))
      ∙ ap (λ l. l ++ last.key ∷ []) (sym (epochs_push (take m runs) last))
      ∙ ap (λ l. epochs_of l ++ last.key ∷ []) (sym (split_last runs m last many is))

  pub longer_follow : AreRunsFrom 0 runs → AreRunsFrom 0 (set runs m new)
  longer_follow follow =
      let parts = runs_prefix 0 (take m runs) last
      (subst (AreRunsFrom 0) (split_last runs m last many is) follow) in
      subst (AreRunsFrom 0) (sym (set_last runs m new many))
      (runs_push 0 (take m runs) new parts.0 (first ∙ parts.1))

-- what is kept of runs, with one entry more behind them
drop_within : {X : Type 0} (n : ℕ) (xs : List X) (x : X) → n ≤ length xs → drop n (xs ++ x ∷ []) ≡ drop n xs ++ x ∷ []
drop_within n xs x within = drop-append-le n xs (x ∷ []) within

abbrev pub Adds : List ℕ → List ℕ → List ℕ → Type 0
Adds old new text = (at : ℕ) (texts : List (List ℕ)) → KeepsFrom old at texts → KeepsFrom new at (texts ++ text ∷ [])

module _ (old new text : List ℕ) (entries : List Entry) (one : Entry) (adds : Adds old new text)
    (is : text ≡ entry_text one) where
  run_stays : (run more : Run) → more.first ≡ run.first → more.from ≡ run.from → more.count ≤ run.count + 1
      → (more.count ≡ run.count ⊎ more.first + more.count ≤ length entries + 1)
      → IsRunOf old entries run → IsRunOf new (entries ++ one ∷ []) more
  run_stays run more first from count within of_run =
      let low : run.first ≤ length entries = omega (arith, of_run.within) in
      let count_all = length-append entries (one ∷ []) in
      let texts : map entry_text (drop run.first entries) ++ text ∷ [] ≡ map entry_text (drop more.first (entries ++ one ∷ [])) =
      ap (λ t. map entry_text (drop run.first entries) ++ t ∷ []) is
      ∙ sym (map-append entry_text (drop run.first entries) (one ∷ []))
      ∙ ap (map entry_text) (sym (drop_within run.first entries one low))
      ∙ ap (λ k. map entry_text (drop k (entries ++ one ∷ []))) (sym first) in
      record {
        within = elim within [
          | inl same ↦ omega (arith, of_run.within, first, same, count_all)
          | inr fits ↦ omega (arith, fits, count_all)
        ];
        texts = subst (λ at. KeepsFrom new at (map entry_text (drop more.first (entries ++ one ∷ [])))) (sym from)
            (subst (KeepsFrom new run.from) texts (adds run.from (map entry_text (drop run.first entries)) of_run.texts));
      }

  pub each_stays : (runs : List (Keyed Run)) → All (λ (run : Keyed Run). IsRunOf old entries run.item) runs
      → All (λ (run : Keyed Run). IsRunOf new (entries ++ one ∷ []) run.item) runs
  each_stays runs each =
      All-weaker (λ (run : Keyed Run). IsRunOf old entries run.item)
      (λ (run : Keyed Run). IsRunOf new (entries ++ one ∷ []) run.item)
      (λ run of_run. run_stays run.item run.item refl refl (omega arith) (inl refl) of_run) runs each

  pub each_new : (runs : List (Keyed Run)) (run : Keyed Run) → run.item.first ≡ length entries → run.item.count ≡ 1
      → KeepsFrom old run.item.from []
      → All (λ (r : Keyed Run). IsRunOf old entries r.item) runs
      → All (λ (r : Keyed Run). IsRunOf new (entries ++ one ∷ []) r.item) (runs ++ run ∷ [])
  each_new runs run first count none each =
      let own : text ∷ [] ≡ map entry_text (drop run.item.first (entries ++ one ∷ [])) =
      ap (λ t. t ∷ []) is
      ∙ ap (map entry_text) (sym (drop_at entries (one ∷ []) run.item.first (sym first))) in
      All-push (λ (r : Keyed Run). IsRunOf new (entries ++ one ∷ []) r.item) runs run (each_stays runs each) (record {
        within = omega (arith, first, count, length-append entries (one ∷ []));
        texts = subst (KeepsFrom new run.item.from) own (adds run.item.from [] none);
      })

  pub each_longer : (runs : List (Keyed Run)) (m : ℕ) (last longer : Keyed Run) → length runs ≡ suc m
      → last ≡ get_or runs m last → longer.item.first ≡ last.item.first → longer.item.from ≡ last.item.from
      → longer.item.count ≡ last.item.count + 1
      → All (λ (r : Keyed Run). IsRunOf old entries r.item) runs
      → All (λ (r : Keyed Run). IsRunOf new (entries ++ one ∷ []) r.item) (set runs m longer)
  each_longer runs m last longer many at first from count each =
      let of_last : IsRunOf old entries last.item =
      subst (λ (r : Keyed Run). IsRunOf old entries r.item) (sym at) (each m last (omega (arith, many))) in
      subst (All (λ (r : Keyed Run). IsRunOf new (entries ++ one ∷ []) r.item)) (sym (set_last runs m longer many))
      (All-push (λ (r : Keyed Run). IsRunOf new (entries ++ one ∷ []) r.item) (take m runs) longer
      (all_prefix (λ (r : Keyed Run). IsRunOf new (entries ++ one ∷ []) r.item) (take m runs) last
      (subst (All (λ (r : Keyed Run). IsRunOf new (entries ++ one ∷ []) r.item)) (split_last runs m last many at)
      (each_stays runs each)))
      (run_stays last.item longer.item first from (omega (arith, count))
      (inr (omega (arith, of_last.within, first, count))) of_last))
    where
      all_prefix : {X : Type 0} (P : X → Type 0) (xs : List X) (x : X) → All P (xs ++ x ∷ []) → All P xs
      all_prefix P [] x all = All-nil P
      all_prefix P (y ∷ xs) x all =
          All-cons P y xs (All-head P y (xs ++ x ∷ []) all)
          (all_prefix P xs x (All-tail P y (xs ++ x ∷ []) all))

-- the runs of a number
under_cons : {T : Type 0} (k : ℕ) (one : Keyed T) (runs : List (Keyed T)) (test : Bool) → (one.key == k) ≡ test
    → under k (one ∷ runs) ≡ cond test (one.item ∷ under k runs) (under k runs)
under_cons {T = T} k one runs true is = ap (λ t. map (λ (o : Keyed T). o.item) (cond t (one ∷ filter (λ (o : Keyed T). o.key == k) runs)
    (filter (λ (o : Keyed T). o.key == k) runs))) is
under_cons {T = T} k one runs false is = ap (λ t. map (λ (o : Keyed T). o.item) (cond t (one ∷ filter (λ (o : Keyed T). o.key == k) runs)
    (filter (λ (o : Keyed T). o.key == k) runs))) is

-- placed entries that are all of an epoch, or all of another
same_epoch : (count key epoch : ℕ) (placed : List Placed) → map (λ (p : Placed). p.epoch) placed ≡ replicate count key
    → key ≡ epoch → filter (λ (p : Placed). p.epoch == epoch) placed ≡ placed
same_epoch count key epoch [] are is = refl
same_epoch zero key epoch (one ∷ placed) are is = absurd (cc)
same_epoch (suc count) key epoch (one ∷ placed) are is =
    let own : one.epoch ≡ key = cc in
    let rest : map (λ (p : Placed). p.epoch) placed ≡ replicate count key = cc in
    ap (λ t. cond t (one ∷ filter (λ (p : Placed). p.epoch == epoch) placed)
    (filter (λ (p : Placed). p.epoch == epoch) placed)) (eq-eqb one.epoch epoch (own ∙ is))
    ∙ ap (λ l. one ∷ l) (same_epoch count key epoch placed rest is)

other_epoch : (count key epoch : ℕ) (placed : List Placed) → map (λ (p : Placed). p.epoch) placed ≡ replicate count key
    → key ≢ epoch → filter (λ (p : Placed). p.epoch == epoch) placed ≡ []
other_epoch count key epoch [] are other = refl
other_epoch zero key epoch (one ∷ placed) are other = absurd (cc)
other_epoch (suc count) key epoch (one ∷ placed) are other =
    let own : one.epoch ≡ key = cc in
    let rest : map (λ (p : Placed). p.epoch) placed ≡ replicate count key = cc in
    ap (λ t. cond t (one ∷ filter (λ (p : Placed). p.epoch == epoch) placed)
    (filter (λ (p : Placed). p.epoch == epoch) placed))
    (ne_eqb one.epoch epoch (λ is. other (sym own ∙ is)))
    ∙ other_epoch count key epoch placed rest other

-- counted numbers, in two parts
counted_take : (first n c : ℕ) → c ≤ n → take c (counted first n) ≡ counted first c
counted_take first n zero low = refl
counted_take first zero (suc c) low = absurd (omega (arith, low))
counted_take first (suc n) (suc c) low = ap (λ l. first ∷ l) (counted_take (first + 1) n c (omega (arith, low)))

counted_drop : (first n c m : ℕ) → n ≡ c + m → drop c (counted first n) ≡ counted (first + c) m
counted_drop first n zero m is =
    let same : n ≡ m = omega (arith, is) in
    let begin : first ≡ first + 0 = omega arith in
    λ i. counted (begin i) (same i)
counted_drop first zero (suc c) m is = absurd (omega (arith, is))
counted_drop first (suc n) (suc c) m is =
    let begin : first + 1 + c ≡ first + suc c = omega arith in
    counted_drop (first + 1) n c m (omega (arith, is)) ∙ ap (λ k. counted k m) begin

-- the entries of the runs of an epoch are those that belong to it
abbrev of_epoch : ℕ → List Placed → List Placed
of_epoch epoch placed = filter (λ (p : Placed). p.epoch == epoch) placed

pub record AreRead (entries : List Entry) (epoch : ℕ) (runs : List (Keyed Run)) (placed : List Placed) : Type 0 where
  pub entries_are : flat_map (slice_of entries) (under epoch runs) ≡ map (λ (p : Placed). p.entry) (of_epoch epoch placed)
  pub places_are : flat_map places_of (under epoch runs) ≡ map (λ (p : Placed). p.place) (of_epoch epoch placed)

no_placed : (placed : List Placed) → [] ≡ map (λ (p : Placed). p.epoch) placed → placed ≡ []
no_placed [] is = refl
no_placed (one ∷ placed) is = absurd (cc)

module _ (entries : List Entry) (epoch place : ℕ) (run : Keyed Run) (runs : List (Keyed Run)) (placed : List Placed)
    (first : run.item.first ≡ place)
    (epochs : epochs_of (run ∷ runs) ≡ map (λ (p : Placed). p.epoch) placed)
    (stand : drop place entries ≡ map (λ (p : Placed). p.entry) placed)
    (places : map (λ (p : Placed). p.place) placed ≡ counted place (length placed)) where
  abbrev c : ℕ
  c = run.item.count

  own_len : length (its_epochs run) ≡ c
  own_len = length-replicate c run.key

  fits : c ≤ length placed
  fits =
      omega (
        arith,
        ap length epochs,
        length-append (its_epochs run) (epochs_of runs),
        own_len,
        length-map placed (λ (p : Placed). p.epoch),
      )

  own_epochs : map (λ (p : Placed). p.epoch) (take c placed) ≡ replicate c run.key
  own_epochs =
      sym (take-map (λ (p : Placed). p.epoch) c placed) ∙ ap (take c) (sym epochs)
      ∙ take_at (its_epochs run) (epochs_of runs) c own_len

  rest_epochs : epochs_of runs ≡ map (λ (p : Placed). p.epoch) (drop c placed)
  rest_epochs =
      sym (drop_at (its_epochs run) (epochs_of runs) c own_len) ∙ ap (drop c) epochs
      ∙ drop-map (λ (p : Placed). p.epoch) c placed

  own_entries : slice_of entries run.item ≡ map (λ (p : Placed). p.entry) (take c placed)
  own_entries =
      ap (λ k. take c (drop k entries)) first ∙ ap (take c) stand ∙ take-map (λ (p : Placed). p.entry) c placed

  own_places : places_of run.item ≡ map (λ (p : Placed). p.place) (take c placed)
  own_places =
      ap (λ k. counted k c) first ∙ sym (counted_take place (length placed) c fits) ∙ ap (take c) (sym places)
      ∙ take-map (λ (p : Placed). p.place) c placed

  rest_entries : drop (place + c) entries ≡ map (λ (p : Placed). p.entry) (drop c placed)
  rest_entries =
      sym (drop-drop c place entries) ∙ ap (drop c) stand ∙ drop-map (λ (p : Placed). p.entry) c placed

  rest_places : map (λ (p : Placed). p.place) (drop c placed) ≡ counted (place + c) (length (drop c placed))
  rest_places =
      sym (drop-map (λ (p : Placed). p.place) c placed) ∙ ap (drop c) places
      ∙ counted_drop place (length placed) c (length (drop c placed)) (omega (arith, length-drop c placed, fits))

  parted : of_epoch epoch placed ≡ of_epoch epoch (take c placed) ++ of_epoch epoch (drop c placed)
  parted =
      ap (of_epoch epoch) (sym (take-append-drop c placed))
      ∙ filter-append (λ (p : Placed). p.epoch == epoch) (take c placed) (drop c placed)

  read_by : (test : Bool) → (run.key == epoch) ≡ test → AreRead entries epoch runs (drop c placed)
      → AreRead entries epoch (run ∷ runs) placed
  read_by true is rest =
      let all : of_epoch epoch placed ≡ take c placed ++ of_epoch epoch (drop c placed) =
      parted ∙ ap (λ l. l ++ of_epoch epoch (drop c placed))
      (same_epoch c run.key epoch (take c placed) own_epochs (eqb-true run.key epoch is)) in
      let here = under_cons epoch run runs true is in
      record {
        entries_are = ap (flat_map (slice_of entries)) here
            ∙ (λ i. own_entries i ++ rest.entries_are i)
            ∙ sym (map-append (λ (p : Placed). p.entry) (take c placed) (of_epoch epoch (drop c placed)))
            ∙ ap (map (λ (p : Placed). p.entry)) (sym all);
        places_are = ap (flat_map places_of) here
            ∙ (λ i. own_places i ++ rest.places_are i)
            ∙ sym (map-append (λ (p : Placed). p.place) (take c placed) (of_epoch epoch (drop c placed)))
            ∙ ap (map (λ (p : Placed). p.place)) (sym all);
      }
  read_by false is rest =
      let all : of_epoch epoch placed ≡ of_epoch epoch (drop c placed) =
      parted ∙ ap (λ l. l ++ of_epoch epoch (drop c placed))
      (other_epoch c run.key epoch (take c placed) own_epochs (λ same. let no : true ≡ false = sym (eq-eqb run.key epoch same) ∙ is in cc)) in
      let here = under_cons epoch run runs false is in
      record {
        entries_are = ap (flat_map (slice_of entries)) here ∙ rest.entries_are
            ∙ ap (map (λ (p : Placed). p.entry)) (sym all);
        places_are = ap (flat_map places_of) here ∙ rest.places_are ∙ ap (map (λ (p : Placed). p.place)) (sym all);
      }

pub are_read : (entries : List Entry) (epoch place : ℕ) (runs : List (Keyed Run)) (placed : List Placed)
    → AreRunsFrom place runs → epochs_of runs ≡ map (λ (p : Placed). p.epoch) placed
    → drop place entries ≡ map (λ (p : Placed). p.entry) placed
    → map (λ (p : Placed). p.place) placed ≡ counted place (length placed)
    → AreRead entries epoch runs placed
are_read entries epoch place [] placed follow epochs stand places =
    let none : placed ≡ [] = no_placed placed epochs in
    subst (AreRead entries epoch []) (sym none) (record { entries_are = refl; places_are = refl })
are_read entries epoch place (run ∷ runs) placed follow epochs stand places =
    read_by entries epoch place run runs placed follow.0 epochs stand places (run.key == epoch) refl
    (are_read entries epoch (place + run.item.count) runs (drop run.item.count placed) follow.1
    (rest_epochs entries epoch place run runs placed follow.0 epochs stand places)
    (rest_entries entries epoch place run runs placed follow.0 epochs stand places)
    (rest_places entries epoch place run runs placed follow.0 epochs stand places))

-- the item at a place, whatever stands for none
pub at_same : {X : Type 0} (xs : List X) (i : ℕ) (d e : X) → i < length xs → get_or xs i d ≡ get_or xs i e
at_same [] i d e within = absurd (omega (arith, within))
at_same (x ∷ xs) zero d e within = refl
at_same (x ∷ xs) (suc i) d e within = at_same xs i d e (omega (arith, within))

pub same_item : {X : Type 0} (xs : List X) (i : ℕ) (one other : X) → i < length xs → one ≡ get_or xs i one
    → other ≡ get_or xs i other → one ≡ other
same_item xs i one other within is also = is ∙ at_same xs i one other within ∙ sym also

-- One slot more has ended.
use Rattle.std.proofs.Common.{◌≡◌, ℕ, zero, suc, ◌+◌, ◌==◌, ◌<◌, ◌≤◌, Bool, true≢false, is_some, if◌then◌else◌, List, [], ◌∷◌, ◌++◌, flat_map, length, map, get_or, length-append, refl, sym, ap, subst, ◌∙◌, inl, inr, arith, append_assoc, append-nil}
use Rattle.std.specs.Prelude.{Option, Some, None}
use Rattle.std.proofs.lemmas.Bool.{cases_eq, cases_lt, eq-eqb, ne_eqb}
use Rattle.std.proofs.lemmas.List.{get_or_append_left, get_or_at, get_or_past, length-map, map-append}
use Rattle.report_lines.specs.Records.{Effected}
use Rattle.report_lines.specs.declared.entry.ChargeEntry.{ChargeEntry}
use Rattle.subscriber.specs.Standing.{SubscriberState}
use Rattle.lawful_run.specs.Run.{by_slot}
use Rattle.lawful_run.specs.Telling.{counted}
use Rattle.control_half.specs.declared.items.CommandDone.{CommandDone}
use Rattle.counter_half.specs.declared.items.DataItem.{DataItem}
use Rattle.counter_half.specs.declared.items.PacketDone.{PacketDone}
use Rattle.split_record.specs.declared.front.FrontEnd.{FrontEnd}
use Rattle.front_core.specs.declared.lot.Lot.{Lot}
use Rattle.front_core.specs.declared.lot.Lot.TheVariants.{Split}
use Rattle.front_core.specs.Lots.{end_of, lot_of}
use Rattle.front_core.specs.declared.answers.SlotAnswers.{SlotAnswers}
use Rattle.front_core.specs.Ending.{AllEnd, Came, SplitEnds, answers_told, nothing_came}

-- what came of each slot, with that of one more
abbrev pub came_with : ℕ → Came → (ℕ → Came) → ℕ → Came
came_with own now came slot = if slot == own then now else came slot

with_own : (own : ℕ) (now : Came) (came : ℕ → Came) → came_with own now came own ≡ now
with_own own now came = ap (λ (t : Bool). if t then now else came own) (eq-eqb own own refl)

with_other : (own slot : ℕ) (now : Came) (came : ℕ → Came) → (slot ≡ own → ⊥) → came_with own now came slot ≡ came slot
with_other own slot now came ne = ap (λ (t : Bool). if t then now else came slot) (ne_eqb slot own ne)

-- no lot, and one lot more
no_lot_past : (done : List (Option Lot)) (slot : ℕ) → length done ≤ slot → lot_of done slot ≡ None
no_lot_past done slot past = get_or_past done slot None past

lot_before : (done : List (Option Lot)) (lot : Option Lot) (slot : ℕ) → slot < length done
    → lot_of (done ++ lot ∷ []) slot ≡ lot_of done slot
lot_before done lot slot low = get_or_append_left done (lot ∷ []) None slot low

lot_own : (done : List (Option Lot)) (lot : Option Lot) → lot_of (done ++ lot ∷ []) (length done) ≡ lot
lot_own done lot = get_or_at done lot [] None (length done) refl

-- before anything was done
pub none_end : (items : ℕ → List DataItem) (subs : List SubscriberState) → AllEnd items [] subs subs [] [] []
none_end items subs = record {
  came = λ slot. nothing_came;
  many = refl;
  answered = refl;
  split = λ slot end none is. absurd (true≢false (sym (ap is_some is)));
  rests = λ slot unsplit. refl;
  stays = λ slot none unsplit. refl;
  answers_are = λ slot. refl;
  effects_are = refl;
  rows_are = refl;
}

-- below, at and above a slot
by_place : (P : ℕ → Type 0) (n : ℕ) → ((slot : ℕ) → slot < n → P slot) → P n → ((slot : ℕ) → n < slot → P slot)
    → (slot : ℕ) → P slot
by_place P n below here above slot = elim (cases_lt slot n) [
  | inl low ↦ below slot low
  | inr past ↦
      elim (cases_eq slot n) [
        | inl same ↦ subst P (sym same) here
        | inr ne ↦ above slot (let other = ne in omega (arith, past, other))
      ]
]

counted_next : (first n : ℕ) → counted first (suc n) ≡ counted first n ++ (first + n) ∷ []
counted_next first zero = ap (λ (k : ℕ). k ∷ []) (omega arith)
counted_next first (suc n) =
    ap (λ (l : List ℕ). first ∷ l) (counted_next (first + 1) n
    ∙ ap (λ (k : ℕ). counted (first + 1) n ++ k ∷ []) (omega arith))

flat_append : {X : Type 0} (f : ℕ → List X) (xs : List ℕ) (x : ℕ) → flat_map f (xs ++ x ∷ []) ≡ flat_map f xs ++ f x
flat_append f [] x = append-nil (f x)
flat_append f (y ∷ xs) x =
    ap (λ (l : List _). f y ++ l) (flat_append f xs x) ∙ sym (append_assoc (f y) (flat_map f xs) (f x))

flat_below : {X : Type 0} (f g : ℕ → List X) (first n : ℕ) → ((slot : ℕ) → slot < first + n → f slot ≡ g slot)
    → flat_map f (counted first n) ≡ flat_map g (counted first n)
flat_below f g first zero same = refl
flat_below f g first (suc n) same =
    let here : f first ≡ g first = same first (omega arith) in
    let rest = flat_below f g (first + 1) n (λ slot low. same slot (omega (arith, low))) in
    λ i. here i ++ rest i

by_slot_push : {X : Type 0} (n : ℕ) (f g : ℕ → List X) → ((slot : ℕ) → slot < n → g slot ≡ f slot)
    → by_slot (n + 1) g ≡ by_slot n f ++ g n
by_slot_push n f g same =
    let next : n + 1 ≡ suc n = omega arith in
    ap (λ (k : ℕ). by_slot k g) next ∙ ap (flat_map g) (counted_next 0 n)
    ∙ flat_append g (counted 0 n) (0 + n)
    ∙ (λ i. flat_below g f 0 n (λ slot low. same slot (omega (arith, low))) i ++ g (zero_plus n i))
  where
    zero_plus : (n : ℕ) → 0 + n ≡ n
    zero_plus n = omega arith

module _ (items : ℕ → List DataItem) (done : List (Option Lot)) (old mid new : List SubscriberState)
    (answers : List SlotAnswers) (effects : List Effected) (rows : List ChargeEntry)
    (ends : AllEnd items done old mid answers effects rows) (lot : Option Lot) (now : Came) (answer : SlotAnswers)
    (answered_so : answers_told answer ≡ (now.replies, now.packets)) (count : length new ≡ length mid)
    (kept : (slot : ℕ) (none : SubscriberState) → (slot ≡ length done → ⊥) → get_or new slot none ≡ get_or mid slot none)
    (own_split : (end : FrontEnd) (none : SubscriberState) → lot ≡ Some (Split end)
    → SplitEnds (length done) end (items (length done)) (get_or old (length done) none)
    (get_or new (length done) none) now)
    (own_rests : end_of lot ≡ None → now ≡ nothing_came)
    (own_stays : (none : SubscriberState) → end_of lot ≡ None
    → get_or new (length done) none ≡ get_or mid (length done) none) where
  abbrev came : ℕ → Came
  came = came_with (length done) now ends.came

  more : length (done ++ lot ∷ []) ≡ length done + 1
  more = length-append done (lot ∷ [])

  past : (slot : ℕ) → length done < slot → lot_of (done ++ lot ∷ []) slot ≡ None
  past slot above = get_or_past (done ++ lot ∷ []) slot None (let all = more in omega (arith, all, above))

  below_ne : (slot : ℕ) → slot < length done → slot ≡ length done → ⊥
  below_ne slot low same = omega (arith, low, same)

  above_ne : (slot : ℕ) → length done < slot → slot ≡ length done → ⊥
  above_ne slot above same = omega (arith, above, same)

  split_push : (slot : ℕ) (end : FrontEnd) (none : SubscriberState) → lot_of (done ++ lot ∷ []) slot ≡ Some (Split end)
      → SplitEnds slot end (items slot) (get_or old slot none) (get_or new slot none) (came slot)
  split_push slot end none = by_place
      (λ (k : ℕ). lot_of (done ++ lot ∷ []) k ≡ Some (Split end)
      → SplitEnds k end (items k) (get_or old k none) (get_or new k none) (came k)) (length done)
      (λ k low is.
      subst (λ (c : Came). SplitEnds k end (items k) (get_or old k none) (get_or new k none) c)
      (sym (with_other (length done) k now ends.came (below_ne k low)))
      (subst (λ (s : SubscriberState). SplitEnds k end (items k) (get_or old k none) s (ends.came k))
      (sym (kept k none (below_ne k low))) (ends.split k end none (sym (lot_before done lot k low) ∙ is))))
      (λ is.
      subst (λ (c : Came). SplitEnds (length done) end (items (length done)) (get_or old (length done) none)
      (get_or new (length done) none) c) (sym (with_own (length done) now ends.came))
      (own_split end none (sym (lot_own done lot) ∙ is)))
      (λ k above is. absurd (true≢false (sym (ap is_some (sym (past k above) ∙ is))))) slot

  rests_push : (slot : ℕ) → end_of (lot_of (done ++ lot ∷ []) slot) ≡ None → came slot ≡ nothing_came
  rests_push slot = by_place
      (λ (k : ℕ). end_of (lot_of (done ++ lot ∷ []) k) ≡ None → came k ≡ nothing_came) (length done)
      (λ k low is.
      with_other (length done) k now ends.came (below_ne k low)
      ∙ ends.rests k (ap end_of (sym (lot_before done lot k low)) ∙ is))
      (λ is. with_own (length done) now ends.came ∙ own_rests (ap end_of (sym (lot_own done lot)) ∙ is))
      (λ k above is.
      with_other (length done) k now ends.came (above_ne k above)
      ∙ ends.rests k (ap end_of (no_lot_past done k (omega (arith, above))))) slot

  stays_push : (slot : ℕ) (none : SubscriberState) → end_of (lot_of (done ++ lot ∷ []) slot) ≡ None
      → get_or new slot none ≡ get_or old slot none
  stays_push slot none = by_place
      (λ (k : ℕ). end_of (lot_of (done ++ lot ∷ []) k) ≡ None → get_or new k none ≡ get_or old k none) (length done)
      (λ k low is.
      kept k none (below_ne k low) ∙ ends.stays k none (ap end_of (sym (lot_before done lot k low)) ∙ is))
      (λ is.
      own_stays none (ap end_of (sym (lot_own done lot)) ∙ is)
      ∙ ends.stays (length done) none (ap end_of (no_lot_past done (length done) (omega arith))))
      (λ k above is.
      kept k none (above_ne k above)
      ∙ ends.stays k none (ap end_of (no_lot_past done k (omega (arith, above))))) slot

  abbrev Answered : Type 0
  Answered = List CommandDone × List PacketDone

  answers_push : (slot : ℕ) → get_or (map answers_told (answers ++ answer ∷ [])) slot ([], [])
      ≡ ((came slot).replies, (came slot).packets)
  answers_push slot =
      let parts = map-append answers_told answers (answer ∷ []) in
      let count_map = length-map answers answers_told in
      let as_many = ends.answered in
      ap (λ (l : List Answered). get_or l slot ([], [])) parts
      ∙ by_place
      (λ (k : ℕ). get_or (map answers_told answers ++ answers_told answer ∷ []) k ([], [])
      ≡ ((came k).replies, (came k).packets)) (length done)
      (λ k low.
      get_or_append_left (map answers_told answers) (answers_told answer ∷ []) ([], []) k
      (omega (arith, low, count_map, as_many))
      ∙ ends.answers_are k
      ∙ ap (λ (c : Came). (c.replies, c.packets)) (sym (with_other (length done) k now ends.came (below_ne k low))))
      (get_or_at (map answers_told answers) (answers_told answer) [] ([], []) (length done)
      (omega (arith, count_map, as_many))
      ∙ answered_so ∙ ap (λ (c : Came). (c.replies, c.packets)) (sym (with_own (length done) now ends.came)))
      (λ k above.
      let all = length-append (map answers_told answers) (answers_told answer ∷ []) in
      get_or_past (map answers_told answers ++ answers_told answer ∷ []) k ([], [])
      (omega (arith, above, all, count_map, as_many))
      ∙ ap (λ (c : Came). (c.replies, c.packets))
      (sym (with_other (length done) k now ends.came (above_ne k above)
      ∙ ends.rests k (ap end_of (no_lot_past done k (omega (arith, above))))))) slot

  pub all_push : AllEnd items (done ++ lot ∷ []) old new (answers ++ answer ∷ []) (effects ++ now.effects)
      (rows ++ now.rows)
  all_push = record {
    came = came;
    many = count ∙ ends.many;
    answered = (let as_many = ends.answered in
        let first = length-append answers (answer ∷ []) in
        let second = more in
        omega (arith, as_many, first, second));
    split = split_push;
    rests = rests_push;
    stays = stays_push;
    answers_are = answers_push;
    effects_are =
        ap (λ (l : List Effected). l ++ now.effects) ends.effects_are
        ∙ ap (λ (c : Came). by_slot (length done) (λ (k : ℕ). (ends.came k).effects) ++ c.effects)
        (sym (with_own (length done) now ends.came))
        ∙ sym (by_slot_push (length done) (λ (k : ℕ). (ends.came k).effects) (λ (k : ℕ). (came k).effects)
        (λ k low. ap (λ (c : Came). c.effects) (with_other (length done) k now ends.came (below_ne k low))))
        ∙ ap (λ (n : ℕ). by_slot n (λ (k : ℕ). (came k).effects)) (sym more);
    rows_are =
        ap (λ (l : List ChargeEntry). l ++ now.rows) ends.rows_are
        ∙ ap (λ (c : Came). by_slot (length done) (λ (k : ℕ). (ends.came k).rows) ++ c.rows)
        (sym (with_own (length done) now ends.came))
        ∙ sym (by_slot_push (length done) (λ (k : ℕ). (ends.came k).rows) (λ (k : ℕ). (came k).rows)
        (λ k low. ap (λ (c : Came). c.rows) (with_other (length done) k now ends.came (below_ne k low))))
        ∙ ap (λ (n : ℕ). by_slot n (λ (k : ℕ). (came k).rows)) (sym more);
  }

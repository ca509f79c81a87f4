-- Counts of packets, of split subscribers and of moves, with one line more.
use Rattle.std.proofs.Common.{◌≡◌, ℕ, ◌+◌, ◌≤◌, ◌==◌, ◌||◌, Bool, true, false, Option, Some, None, List, [], ◌∷◌, ◌++◌, cond, is_some, refl, sym, ap, ◌∙◌, arith, true≢false, inl, inr}
use Rattle.std.specs.List.{cons_option, filter_map, list_any}
use Rattle.std.proofs.lemmas.Bool.{cases_eq, eq-eqb, ne_eqb}
use Rattle.std.proofs.lemmas.List.Elements.{filter_map-append}
use Rattle.std.proofs.lemmas.List.Folds.{list_any-append}
use Rattle.std.proofs.lemmas.List.Sums.{sum_by-append}
use Rattle.lawful_run.specs.Accepted.{is_refused}
use Rattle.lawful_run.specs.LinesTold.{LineTold}
use Rattle.lawful_run.specs.Refusals.{slot_of, packet_count, is_packet, slot_count, different, move_count, is_move, lane_load}
use Rattle.front_core.specs.Kept.{Ends, Load, LoadTold, is_seen}
use Rattle.front_core.specs.Lines.{LaneWasFull, newly}
use Rattle.front_core.proofs.Pushes.{none_more}

-- one slot more
different_by : (first again here there : Bool) (rest more : ℕ) → there ≡ here → (here ≡ true → first ≡ again)
    → more ≡ rest + cond again 0 1
    → cond (first || (here || false)) more (more + 1) ≡ cond first rest (rest + 1) + cond (there || again) 0 1
different_by true true true true rest more is same count = omega (arith, count)
different_by true true false false rest more is same count = omega (arith, count)
different_by true false true there rest more is same count = absurd (true≢false (same refl))
different_by true false false false rest more is same count = omega (arith, count)
different_by false true true there rest more is same count = absurd (true≢false (sym (same refl)))
different_by false true false false rest more is same count = omega (arith, count)
different_by false false true true rest more is same count = omega (arith, count)
different_by false false false false rest more is same count = omega (arith, count)
different_by true true true false rest more is same count = absurd (true≢false (sym is))
different_by true true false true rest more is same count = absurd (true≢false is)
different_by true false false true rest more is same count = absurd (true≢false is)
different_by false true false true rest more is same count = absurd (true≢false is)
different_by false false true false rest more is same count = absurd (true≢false (sym is))
different_by false false false true rest more is same count = absurd (true≢false is)

eqb_sym : (a b : ℕ) → (a == b) ≡ (b == a)
eqb_sym a b = elim (cases_eq a b) [
  | inl same ↦ eq-eqb a b same ∙ sym (eq-eqb b a (sym same))
  | inr other ↦ ne_eqb a b other ∙ sym (ne_eqb b a (λ same. other (sym same)))
]

any_same : (x slot : ℕ) (slots : List ℕ) → (slot == x) ≡ true
    → list_any (λ other. other == x) slots ≡ list_any (λ other. other == slot) slots
any_same x slot slots is = elim (cases_eq slot x) [
  | inl same ↦ ap (λ k. list_any (λ other. other == k) slots) (sym same)
  | inr other ↦ absurd (true≢false (sym is ∙ ne_eqb slot x other))
]

different_push : (slots : List ℕ) (slot : ℕ)
    → different (slots ++ slot ∷ []) ≡ different slots + cond (list_any (λ other. other == slot) slots) 0 1
different_push [] slot = refl
different_push (x ∷ slots) slot =
    ap (λ test. cond test (different (slots ++ slot ∷ [])) (different (slots ++ slot ∷ []) + 1))
    (list_any-append (λ other. other == x) slots (slot ∷ []))
    ∙ different_by (list_any (λ other. other == x) slots) (list_any (λ other. other == slot) slots) (slot == x)
    (x == slot) (different slots) (different (slots ++ slot ∷ [])) (eqb_sym x slot) (any_same x slot slots)
    (different_push slots slot)

slots_more : (taken : List LineTold) (now : LineTold) (slot : ℕ) → slot_of now ≡ Some slot
    → slot_count (taken ++ now ∷ []) ≡ slot_count taken + cond (is_seen slot taken) 0 1
slots_more taken now slot is =
    ap different (filter_map-append slot_of taken (now ∷ [])
    ∙ ap (λ own. filter_map slot_of taken ++ cons_option own []) is)
    ∙ different_push (filter_map slot_of taken) slot

slots_still : (taken : List LineTold) (now : LineTold) → slot_of now ≡ None
    → slot_count (taken ++ now ∷ []) ≡ slot_count taken
slots_still taken now none = ap different (none_more slot_of taken now none)

-- packets and moves
abbrev pub is_accepted : LineTold → Bool
is_accepted now = cond (is_refused now.entry) false (is_packet now.meaning)

packets_push : (taken : List LineTold) (now : LineTold)
    → packet_count (taken ++ now ∷ []) ≡ packet_count taken + cond (is_accepted now) 1 0
packets_push taken now =
    let parts = sum_by-append (λ (told : LineTold). cond (is_accepted told) 1 0) taken (now ∷ []) in omega (arith, parts)

moves_push : (taken : List LineTold) (now : LineTold)
    → move_count (taken ++ now ∷ []) ≡ move_count taken + cond (is_move now.meaning) 1 0
moves_push taken now =
    let parts = sum_by-append (λ (told : LineTold). cond (is_move told.meaning) 1 0) taken (now ∷ []) in
    omega (arith, parts)

-- a line of no slot
pub load_still : (load after : Load) (taken : List LineTold) (now : LineTold) (moved : ℕ) → slot_of now ≡ None
    → is_accepted now ≡ false → cond (is_move now.meaning) 1 0 ≡ moved → after.accepted ≡ load.accepted
    → after.admitted ≡ load.admitted → after.asked ≤ load.asked + moved
    → LoadTold load taken → LoadTold after (taken ++ now ∷ [])
load_still load after taken now moved none rest count accepted admitted asked told =
    let packets = packets_push taken now in
    let no_packet : ◌≡◌ {A = ℕ} (cond (is_accepted now) 1 0) 0 = ap {B = ℕ} (λ test. cond test 1 0) rest in
    let slots = slots_still taken now none in
    let moves = moves_push taken now in
    let accepted_are = told.accepted_are in
    let admitted_are = told.admitted_are in
    let few = told.asked_few in
    record {
      accepted_are = omega (arith, packets, no_packet, accepted, accepted_are);
      admitted_are = omega (arith, slots, admitted, admitted_are);
      asked_few = omega (arith, moves, count, accepted, admitted, asked, few);
    }

-- a line of a slot
pub newly_seen : (own : Option Ends) (seen : Bool) → seen ≡ is_some own → newly own ≡ cond seen 0 1
newly_seen None seen is = ap {B = ℕ} (λ test. cond test 0 1) (sym is)
newly_seen (Some ends) seen is = ap {B = ℕ} (λ test. cond test 0 1) (sym is)

pub load_of : (load after : Load) (taken : List LineTold) (now : LineTold) (slot : ℕ) (own : Option Ends)
    (packets : ℕ) → slot_of now ≡ Some slot → is_seen slot taken ≡ is_some own
    → cond (is_accepted now) 1 0 ≡ packets → is_move now.meaning ≡ false → after.accepted ≡ load.accepted + packets
    → after.admitted ≡ load.admitted + newly own → after.asked ≤ load.asked + newly own + packets
    → LoadTold load taken → LoadTold after (taken ++ now ∷ [])
load_of load after taken now slot own packets is seen count still accepted admitted asked told =
    let packets_are = packets_push taken now in
    let slots = slots_more taken now slot is in
    let fresh = newly_seen own (is_seen slot taken) seen in
    let moves = moves_push taken now in
    let no_move : ◌≡◌ {A = ℕ} (cond (is_move now.meaning) 1 0) 0 = ap {B = ℕ} (λ test. cond test 1 0) still in
    let accepted_are = told.accepted_are in
    let admitted_are = told.admitted_are in
    let few = told.asked_few in
    record {
      accepted_are = omega (arith, packets_are, count, accepted, accepted_are);
      admitted_are = omega (arith, slots, fresh, admitted, admitted_are);
      asked_few = omega (arith, moves, no_move, accepted, admitted, asked, few);
    }

-- a lane that was full
pub lane_was_full : (lane : ℕ) (after : Load) (taken : List LineTold) (now : LineTold) → is_accepted now ≡ false
    → is_move now.meaning ≡ false → LoadTold after (taken ++ now ∷ []) → LaneWasFull lane after
    → lane ≤ lane_load taken now
lane_was_full lane after taken now rest still told full =
    let packets = packets_push taken now in
    let no_packet : ◌≡◌ {A = ℕ} (cond (is_accepted now) 1 0) 0 = ap {B = ℕ} (λ test. cond test 1 0) rest in
    let moves = moves_push taken now in
    let no_move : ◌≡◌ {A = ℕ} (cond (is_move now.meaning) 1 0) 0 = ap {B = ℕ} (λ test. cond test 1 0) still in
    let accepted = told.accepted_are in
    let admitted = told.admitted_are in
    let asked = told.asked_few in
    let most = full.full in
    let few = full.few in
    omega (arith, packets, no_packet, moves, no_move, accepted, admitted, asked, most, few)

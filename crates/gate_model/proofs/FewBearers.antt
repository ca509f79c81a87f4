-- A session has at most eleven bearers: their indices rise, and are at most ten.
use Rattle.std.proofs.Common.{◌≡◌, ◌≢◌, ℕ, ◌+◌, ◌<◌, ◌≤◌, ◌==◌, Bool, true, false, not, ◌||◌, if◌then◌else◌, nat_lt, List, [], ◌∷◌, map, length, Option, Some, None, refl, sym, subst, arith}
use Rattle.std.specs.List.{range_with_len, cons_option}
use Rattle.std.proofs.lemmas.Bool.{false≢true}
use Rattle.std.proofs.lemmas.Bool.Decides.{nat_tests}
use Rattle.pc_base.specs.declared.packet.Peer.{Peer}
use Rattle.tft_codec.specs.declared.filter.Filter.{Filter}
use Rattle.bearer_state.specs.declared.bearer.Bearer.{Bearer}
use Rattle.bearer_state.specs.declared.bearer.Phase.{Phase}
use Rattle.bearer_state.specs.declared.bearer.Phase.TheVariants.{Asked, Active}
use Rattle.bearer_state.specs.declared.qos.Qos.{Qos}
use Rattle.bearer_state.specs.Bearer.{index_of, is_active, is_asked}
use Rattle.bearer_state.specs.Changes as changes
use Rattle.bearer_state.specs.Changes.{with_first, without_first, placed}
use Rattle.bearer_state.specs.Lookup.{has_index, least_free, is_dedicated}
use Rattle.bearer_state.specs.Session.{SessionState}
use Rattle.bearer_state.specs.Version.{active_in, actives}
use Rattle.control_steps.specs.declared.command.CommandKind.{CommandKind}
use Rattle.control_steps.specs.declared.command.CommandKind.TheVariants.{Attach, Create, Modify, AddBearer, Filters, Drop, Ambr, CreateAns}
use Rattle.control_steps.proofs.WrittenTable.{few_indices}
use Rattle.control_steps.specs.Row.{Row, created, attached, modified, released, deleted, asked, refiltered, dropped, rerated, granted, denied, filters_given, filters_made, row_of}
use Rattle.control_steps.specs.Table.{qos_asked, with_bearer, with_filters, with_enb, effect, controlled}
use Rattle.gate_model.proofs.Members.{at_each, of_find}

-- indices rise, from a number on, and are at most ten
abbrev pub Rise : ℕ → List Bearer → Type 0
Rise low [] = Unit {0}
Rise low (b ∷ bs) = (low ≤ index_of b) × (index_of b ≤ 10) × Rise (index_of b + 1) bs

pub few_risen : (low : ℕ) (bearers : List Bearer) → low ≤ 11 → Rise low bearers → low + length bearers ≤ 11
few_risen low [] fits rise = omega arith
few_risen low (b ∷ bs) fits rise =
    let least : low ≤ index_of b = rise.0 in
    let most : index_of b ≤ 10 = rise.1 in
    let behind : (index_of b + 1) + length bs ≤ 11 = few_risen (index_of b + 1) bs (omega arith) rise.2 in
    omega arith

lower : (low high : ℕ) (bearers : List Bearer) → low ≤ high → Rise high bearers → Rise low bearers
lower low high [] below rise = tt
lower low high (b ∷ bs) below rise = let least : high ≤ index_of b = rise.0 in (omega arith, rise.1, rise.2)

-- indices stay where bearers change
risen_mapped : (change : Bearer → Bearer) → ((b : Bearer) → index_of (change b) ≡ index_of b)
    → (low : ℕ) (bearers : List Bearer) → Rise low bearers
    → Rise low (map change bearers)
risen_mapped change same low [] rise = tt
risen_mapped change same low (b ∷ bs) rise =
    let is : index_of (change b) ≡ index_of b = same b in
    let least : low ≤ index_of b = rise.0 in
    let most : index_of b ≤ 10 = rise.1 in
    let behind : Rise (index_of b + 1) (map change bs) = risen_mapped change same (index_of b + 1) bs rise.2 in
    (omega arith, omega arith, subst (λ index. Rise (index + 1) (map change bs)) (sym is) behind)

changed_if : (passes : Bool) (change : Bearer → Bearer) (low : ℕ) (b : Bearer) (bs rest : List Bearer)
    → index_of (change b) ≡ index_of b → Rise low (b ∷ bs)
    → Rise (index_of b + 1) rest → Rise low (if passes then change b ∷ bs else b ∷ rest)
changed_if true change low b bs rest same rise behind =
    let least : low ≤ index_of b = rise.0 in
    let most : index_of b ≤ 10 = rise.1 in
    (omega arith, omega arith, subst (λ index. Rise (index + 1) bs) (sym same) rise.2)
changed_if false change low b bs rest same rise behind = (rise.0, rise.1, behind)

risen_with : (test : Bearer → Bool) (change : Bearer → Bearer) → ((b : Bearer) → index_of (change b) ≡ index_of b)
    → (low : ℕ) (bearers : List Bearer) → Rise low bearers
    → Rise low (with_first test change bearers)
risen_with test change same low [] rise = tt
risen_with test change same low (b ∷ bs) rise =
    changed_if (test b) change low b bs (with_first test change bs) (same b) rise
    (risen_with test change same (index_of b + 1) bs rise.2)

left_if : (passes : Bool) (low : ℕ) (b : Bearer) (bs rest : List Bearer) → Rise low (b ∷ bs)
    → Rise (index_of b + 1) rest → Rise low (if passes then bs else b ∷ rest)
left_if true low b bs rest rise behind =
    let least : low ≤ index_of b = rise.0 in lower low (index_of b + 1) bs (omega arith) rise.2
left_if false low b bs rest rise behind = (rise.0, rise.1, behind)

risen_without : (test : Bearer → Bool) (low : ℕ) (bearers : List Bearer) → Rise low bearers
    → Rise low (without_first test bearers)
risen_without test low [] rise = tt
risen_without test low (b ∷ bs) rise =
    left_if (test b) low b bs (without_first test bs) rise (risen_without test (index_of b + 1) bs rise.2)

-- one bearer more, of an index that is free
neither : (x y : Bool) → (x || y) ≡ false → (x ≡ false) × (y ≡ false)
neither true y is = absurd (false≢true (sym is))
neither false y is = (refl, is)

is_below : (m n : ℕ) → nat_lt m n ≡ true → m < n
is_below m n holds = grind (arith, nat_tests)

is_above : (m n : ℕ) → (n == m) ≡ false → nat_lt m n ≡ false → n + 1 ≤ m
is_above m n differs fails = grind (arith, nat_tests)

placed_if : (below : Bool) (low : ℕ) (new b : Bearer) (bs rest : List Bearer)
    → nat_lt (index_of new) (index_of b) ≡ below → low ≤ index_of new → index_of new ≤ 10
    → Rise low (b ∷ bs) → (nat_lt (index_of new) (index_of b) ≡ false → Rise (index_of b + 1) rest)
    → Rise low (if below then new ∷ b ∷ bs else b ∷ rest)
placed_if true low new b bs rest is least most rise behind =
    let before : index_of new < index_of b = is_below (index_of new) (index_of b) is in
    let next : index_of new + 1 ≤ index_of b = omega arith in
    (least, most, (next, rise.1, rise.2))
placed_if false low new b bs rest is least most rise behind = (rise.0, rise.1, behind is)

risen_placed : (low : ℕ) (new : Bearer) (bearers : List Bearer) → low ≤ index_of new → index_of new ≤ 10
    → has_index bearers (index_of new) ≡ false → Rise low bearers
    → Rise low (placed new bearers)
risen_placed low new [] least most free rise = (least, most, tt)
risen_placed low new (b ∷ bs) least most free rise =
    let both = neither (index_of b == index_of new) (has_index bs (index_of new)) free in
    placed_if (nat_lt (index_of new) (index_of b)) low new b bs (placed new bs) refl least most rise
    (λ above. risen_placed (index_of b + 1) new bs (is_above (index_of new) (index_of b) both.0 above) most both.1
    rise.2)

-- the least index that is free
record IsFree (bearers : List Bearer) (index : ℕ) : Type 0 where
  most : index ≤ 10
  free : has_index bearers index ≡ false

freed : (b : Bool) → not b ≡ true → b ≡ false
freed true is = absurd (false≢true is)
freed false is = refl

free_found : (bearers : List Bearer) (index : ℕ) → least_free bearers ≡ Some index → IsFree bearers index
free_found bearers index is =
    let found = of_find (λ (i : ℕ). not (has_index bearers i)) index (range_with_len 0 11) is in
    record {
      most = at_each (λ i. i ≤ 10) index (range_with_len 0 11) few_indices found.0;
      free = freed (has_index bearers index) found.1;
    }

-- what a command leaves
bearer_rises : (session : SessionState) (seq : ℕ) (qos : Qos) (index : Option ℕ) (filters : Option (List Filter))
    → ((i : ℕ) → index ≡ Some i → IsFree session.bearers i)
    → Rise 0 session.bearers → Rise 0 (with_bearer session seq qos index filters).bearers
bearer_rises session seq qos None filters found rise = rise
bearer_rises session seq qos (Some index) None found rise = rise
bearer_rises session seq qos (Some index) (Some filters) found rise =
    let is = found index refl in
    risen_placed 0 (changes.asked_bearer session.lives index seq qos filters) session.bearers
    (omega arith) is.most is.free rise

filters_rise : (session : SessionState) (ebi : ℕ) (filters : Option (List Filter)) → Rise 0 session.bearers
    → Rise 0 (with_filters session ebi filters).bearers
filters_rise session ebi None rise = rise
filters_rise session ebi (Some filters) rise =
    risen_with (is_active ebi) (changes.filtered filters) (λ b. refl) 0 session.bearers rise

enb_rises : (session : SessionState) (seq ebi : ℕ) (enb : Option Peer) → Rise 0 session.bearers
    → Rise 0 (with_enb session seq ebi enb).bearers
enb_rises session seq ebi None rise = rise
enb_rises session seq ebi (Some enb) rise =
    risen_with (is_asked seq) (changes.granted_bearer ebi enb) (λ b. refl) 0 session.bearers rise

effect_rises : (row : Row) (session : SessionState) (command : CommandKind) → Rise 0 session.bearers
    → Rise 0 (effect row session command).bearers
effect_rises created session (Create seq mme pdn ebi qos enb up down) rise = (omega arith, omega arith, tt)
effect_rises attached session (Attach enb up down) rise = (omega arith, omega arith, tt)
effect_rises modified session (Modify seq mme asks) rise =
    risen_mapped (changes.rebound_bearer asks) (λ b. refl) 0 session.bearers rise
effect_rises released session command rise = risen_mapped changes.unbound (λ b. refl) 0 session.bearers rise
effect_rises deleted session command rise = tt
effect_rises asked session (AddBearer seq qci mbr_up mbr_down gbr_up gbr_down tft) rise =
    bearer_rises session seq (qos_asked session.bearers qci mbr_up mbr_down gbr_up gbr_down)
    (least_free session.bearers) (filters_given tft)
    (λ i is. free_found session.bearers i is) rise
effect_rises refiltered session (Filters seq ebi tft) rise =
    filters_rise session ebi (filters_made session.bearers ebi tft) rise
effect_rises dropped session (Drop seq ebi) rise = risen_without (is_dedicated ebi) 0 session.bearers rise
effect_rises rerated session (Ambr seq up down) rise = rise
effect_rises granted session (CreateAns seq cause ebi row_cause enb) rise = enb_rises session seq ebi enb rise
effect_rises denied session (CreateAns seq cause ebi row_cause enb) rise =
    risen_without (is_asked seq) 0 session.bearers rise
effect_rises row session command rise = rise

pub bearers_rise : (session : SessionState) (command : CommandKind) → Rise 0 session.bearers
    → Rise 0 (controlled session command).0.bearers
bearers_rise session command rise = effect_rises (row_of session command) session command rise

-- the active ones are no more
active_if : (b : Bearer) (phase : Phase) (bs : List Bearer) → length (actives bs) ≤ length bs
    → length (cons_option (active_in b phase) (actives bs)) ≤ length bs + 1
active_if b (Asked seq) bs behind = omega arith
active_if b (Active ebi) bs behind = omega arith

fewer_active : (bearers : List Bearer) → length (actives bearers) ≤ length bearers
fewer_active [] = omega arith
fewer_active (b ∷ bs) = omega (arith, active_if b b.phase bs (fewer_active bs))

pub few_active : (bearers : List Bearer) → Rise 0 bearers → length (actives bearers) ≤ 11
few_active bearers rise = omega (arith, fewer_active bearers, few_risen 0 bearers (omega arith) rise)

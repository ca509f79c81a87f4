-- The subscribers as they were at the epoch's start.
use Rattle.std.proofs.Common.{◌≡◌, ◌≢◌, ℕ, zero, suc, ◌<◌, true≢false, is_some, if◌then◌else◌, Bool, List, [], ◌∷◌, length, length-set, get_or, get_or-set_other, get_or-set_same, set, refl, sym, ap, subst, ◌∙◌, inl, inr, arith}
use Rattle.std.specs.Prelude.{Option, Some, None, slice_get}
use Rattle.std.proofs.lemmas.Bool.{cases_eq}
use Rattle.trace_lines.specs.Line.{Line}
use Rattle.gate_model.specs.declared.event.Event.{Event}
use Rattle.lawful_run.specs.Merging.{Histories}
use Rattle.subscriber.specs.Standing.{SubscriberState, Represents, last_of}
use Rattle.at_rest.specs.Meant.{Stand}
use Rattle.at_rest.specs.Rest.{AreAtRest, IsAtRest, NewOneIsAtRest, destination_or}
use Rattle.at_rest.proofs.Places.{all_set}
use Rattle.demux.specs.Destinations.{start_slice}
use Rattle.split_record.specs.declared.front.FrontEnd.{FrontEnd}
use Rattle.front_core.specs.declared.lot.Lot.{Lot}
use Rattle.front_core.specs.declared.lot.Lot.TheVariants.{Moved, Split}
use Rattle.front_core.specs.declared.halves.Halves.{Halves}
use Rattle.front_core.specs.Lots.{LotMoves, LotSettles, end_of}
use Rattle.front_core.specs.Steps.{Commanded, OthersSettle, Received, Settles, SlotMoves}
use Rattle.front_core.specs.Views.{view_at}
use Rattle.front_core.specs.Keeping.{AreStarts, start_in, starts_of, unless_split}

-- what stays as it was of each step
start_settles : (old new : Option Lot) → LotSettles old new → start_in new ≡ start_in old
start_settles None new settles = ap start_in settles
start_settles (Some Moved) new settles = ap start_in settles
start_settles (Some (Split end)) new settles =
    ap start_in settles.1 ∙ ap (λ s. Some s.value) settles.2.same.started

start_moves : (old new : Option Lot) → LotMoves old new → start_in new ≡ start_in old
start_moves None new moves = ap start_in moves
start_moves (Some Moved) new moves = ap start_in moves
start_moves (Some (Split end)) new moves = ap start_in moves.1 ∙ ap (λ s. Some s.value) moves.2.same.started

pub start_split : (lot : Option Lot) (end : FrontEnd) → lot ≡ Some (Split end) → start_in lot ≡ Some end.started.value
start_split lot end is = ap start_in is

pub start_none : (lot : Option Lot) → end_of lot ≡ None → start_in lot ≡ None
start_none None none = refl
start_none (Some Moved) none = refl
start_none (Some (Split end)) none = absurd (true≢false (ap is_some none))

-- one slot and all others
pub at_each : {X : Type 0} (old new : ℕ → X) (slot : ℕ) → new slot ≡ old slot
    → ((other : ℕ) → other ≢ slot → new other ≡ old other) → new ≡ old
at_each {X} old new slot own rest =
    let each : (other : ℕ) → new other ≡ old other = λ other. elim (cases_eq other slot) [
      | inl same ↦ ap new same ∙ own ∙ ap old (sym same)
      | inr ne ↦ rest other ne
    ] in
    λ i other. each other i

pub starts_settle : (old new : Halves) → Settles old new → starts_of new ≡ starts_of old
starts_settle old new settles = λ i slot.
    start_settles (view_at old slot).lot (view_at new slot).lot (settles.views slot).lot i

pub others_start : (slot : ℕ) (old new : Halves) → OthersSettle slot old new → (other : ℕ) → other ≢ slot
    → starts_of new other ≡ starts_of old other
others_start slot old new others other ne =
    start_settles (view_at old other).lot (view_at new other).lot (others other ne).lot

pub starts_move : {slice : ℕ} (slot : ℕ) (old new : Halves) → SlotMoves slot slice old new → starts_of new ≡ starts_of old
starts_move slot old new moves =
    at_each (starts_of old) (starts_of new) slot (start_moves (view_at old slot).lot (view_at new slot).lot moves.lot)
    (others_start slot old new moves.others)

pub starts_command : {line : ℕ} {c : _} (slot : ℕ) (old new : Halves) → Commanded slot line c old new
    → starts_of new ≡ starts_of old
starts_command slot old new does =
    at_each (starts_of old) (starts_of new) slot
    (start_split (view_at new slot).lot does.after does.is ∙ ap (λ s. Some s.value) does.sends.same.started
    ∙ sym (start_split (view_at old slot).lot does.end does.was))
    (others_start slot old new does.others)

pub starts_receive : {line : ℕ} {packet : _} {parked : Bool} (slot : ℕ) (old new : Halves)
    → Received slot line packet parked old new → starts_of new ≡ starts_of old
starts_receive slot old new does =
    at_each (starts_of old) (starts_of new) slot
    (start_split (view_at new slot).lot does.after does.is ∙ ap (λ s. Some s.value) does.accepts.same.started
    ∙ sym (start_split (view_at old slot).lot does.end does.was))
    (others_start slot old new does.others)

-- a subscriber was split, and one without events stands in its place
module _ (subscribers : List SubscriberState) (starts now : ℕ → Option SubscriberState) (slot : ℕ)
    (was is : SubscriberState) (before : Histories) (low : slot < length subscribers)
    (found : was ≡ get_or subscribers slot was) (fresh : starts slot ≡ None) (split : now slot ≡ Some was)
    (others : (other : ℕ) → other ≢ slot → now other ≡ starts other) (represents : Represents is slot []) where
  pub starts_admit : AreStarts subscribers starts before → AreStarts (set subscribers slot is) now before
  starts_admit are =
      let events_were : unless_split starts before slot ≡ before slot =
      ap (λ (o : Option SubscriberState). if is_some o then [] else before slot) fresh in
      let events_are : unless_split now before slot ≡ [] =
      ap (λ (o : Option SubscriberState). if is_some o then [] else before slot) split in
      let rest : (other : ℕ) → other ≢ slot → unless_split now before other ≡ unless_split starts before other =
      λ other ne. ap (λ (o : Option SubscriberState). if is_some o then [] else before other) (others other ne) in
      let many = length-set subscribers slot is in
      record {
        standing = record {
          each = λ k none within. elim (cases_eq k slot) [
            | inl same ↦
                subst (λ (n : ℕ). Represents (get_or (set subscribers slot is) n none) n (unless_split now before n))
                (sym same)
                (subst (λ (s : SubscriberState). Represents s slot (unless_split now before slot))
                (sym (get_or-set_same subscribers slot is none low))
                (subst (λ (events : List Event). Represents is slot events) (sym events_are) represents))
            | inr ne ↦
                subst (λ (s : SubscriberState). Represents s k (unless_split now before k))
                (sym (get_or-set_other subscribers slot k is none ne))
                (subst (λ (events : List Event). Represents (get_or subscribers k none) k events) (sym (rest k ne))
                (are.standing.each k none (omega (arith, within, many))))
          ];
          beyond = λ k past.
              rest k (λ same. omega (arith, same, past, low, many)) ∙ are.standing.beyond k (omega (arith, past, many));
        };
        split = λ k start starts_so. elim (cases_eq k slot) [
          | inl same ↦
              let start_is : was ≡ start = (let both_are = sym split ∙ ap now (sym same) ∙ starts_so in cc) in
              subst (λ (n : ℕ). Represents start n (before n)) (sym same)
              (subst (λ (s : SubscriberState). Represents s slot (before slot)) (sym found ∙ start_is)
              (subst (λ (events : List Event). Represents (get_or subscribers slot was) slot events) events_were
              (are.standing.each slot was low)))
          | inr ne ↦ are.split k start (sym (others k ne) ∙ starts_so)
        ];
      }

  pub rest_admit : NewOneIsAtRest → (slices lines latest : ℕ) → is.destination ≡ was.destination → last_of is ≡ None
      → AreAtRest slices lines latest subscribers → AreAtRest slices lines latest (set subscribers slot is)
  rest_admit fresh_rests slices lines latest bound last rest =
      let here : IsAtRest slices lines latest slot was =
      subst (λ (s : SubscriberState). IsAtRest slices lines latest slot s) (sym found) (rest slot was low) in
      all_set (λ k s. IsAtRest slices lines latest k s) subscribers slot is rest
      (λ within. fresh_rests slices lines latest slot is represents
      (subst (λ (d : ℕ). d < slices) (sym bound) here.bound) last)

-- where slots are bound for
pub bound_same : (subscribers : List SubscriberState) (slot k home : ℕ) (was is : SubscriberState)
    → was ≡ get_or subscribers slot was → is.destination ≡ was.destination
    → destination_or home (slice_get (set subscribers slot is) k) ≡ destination_or home (slice_get subscribers k)
bound_same [] slot k home was is found bound = refl
bound_same (s ∷ subscribers) zero zero home was is found bound =
    bound ∙ ap (λ (x : SubscriberState). x.destination) found
bound_same (s ∷ subscribers) zero (suc k) home was is found bound = refl
bound_same (s ∷ subscribers) (suc slot) zero home was is found bound = refl
bound_same (s ∷ subscribers) (suc slot) (suc k) home was is found bound =
    bound_same subscribers slot k home was is found bound

pub stand_admit : (slices : ℕ) (book : List (List ℕ)) (subscribers : List SubscriberState) (slot : ℕ)
    (was is : SubscriberState) (prior : List Line) → was ≡ get_or subscribers slot was
    → is.destination ≡ was.destination → Stand slices book subscribers prior
    → Stand slices book (set subscribers slot is) prior
stand_admit slices book subscribers slot was is prior found bound stand = record {
  book_is = stand.book_is;
  bounds = λ k. bound_same subscribers slot k (start_slice slices k) was is found bound ∙ stand.bounds k;
}

-- The gateway behind an epoch.
use Rattle.std.proofs.Common.{◌≡◌, ℕ, ◌+◌, ◌<◌, ◌≤◌, List, [], ◌++◌, length, get_or, sym, ap, subst, ◌∙◌, inl, inr, arith, append-nil}
use Rattle.std.proofs.lemmas.Bool.{cases_lt}
use Rattle.std.proofs.lemmas.Option.{slice_get-get_or, slice_get_past}
use Rattle.trace_lines.specs.Line.{Line}
use Rattle.demux.specs.Destinations.{start_slice}
use Rattle.demux.specs.Trace.{destination_after}
use Rattle.lawful_run.specs.LinesTold.{LineTold}
use Rattle.lawful_run.specs.Merging.{Histories, behind, events_in}
use Rattle.lawful_run.specs.Trace.{meant_from}
use Rattle.epoch_drive.specs.Runs.{bounds_behind}
use Rattle.subscriber.specs.Standing.{SubscriberState, Represents}
use Rattle.at_rest.specs.Rest.{IsBehind, RepresentsAll, Rest, bound_at, destination_or}
use Rattle.at_rest.specs.Meant.{AreStanding, Stand, bound_of}
use Rattle.epoch_drive.specs.Replays.{HasDone, events_shared}
use Rattle.epoch_drive.specs.declared.replays.SlotReplays.{SlotReplays}
use Rattle.epoch_drive.specs.declared.sharing.Share.{Share}
use Rattle.epoch_drive.proofs.Bounds.{bounds_on}
use Rattle.epoch_drive.proofs.Driven.{some_at}

pub standing_so : (rest : Rest) (before : Histories) → RepresentsAll rest before → AreStanding rest.subscribers before
standing_so rest before is = record { each = is.each; beyond = is.beyond }

pub stand_start : (rest : Rest) (prior : List Line) → IsBehind rest prior
    → Stand rest.slices rest.book rest.subscribers prior
stand_start rest prior is = record { book_is = is.book; bounds = is.bounds }

-- what each subscriber did, with the answers of its slot
abbrev pub EachDid : List SubscriberState → List SubscriberState → List Share → Type 0
EachDid old new shares = (slot : ℕ) (none : SubscriberState) → slot < length old
    → (a : SlotReplays) × HasDone (get_or old slot none) (get_or new slot none) shares a slot

pub represents_behind : (old new : List SubscriberState) (before : Histories) (lines : List LineTold)
    (shares : List Share) (count more : ℕ) (rest : Rest)
    → EachDid old new shares → length new ≡ length old → AreStanding old before
    → ((slot : ℕ) → events_in (before slot) lines slot ≡ events_shared shares slot (before slot))
    → ((slot : ℕ) → length old ≤ slot → events_shared shares slot (before slot) ≡ [])
    → ((slot : ℕ) → length (before slot) ≤ count)
    → ((slot : ℕ) → slot < length old
    → length (before slot ++ events_shared shares slot (before slot)) ≤ count + more)
    → rest.subscribers ≡ new → rest.lines ≡ count + more → RepresentsAll rest (behind before lines)
represents_behind old new before lines shares count more rest did many standing events none few fews subs_are
    lines_are = record {
      each = λ slot s low.
          let below : slot < length old = omega (arith, low, ap length subs_are, many) in
          let represents : Represents (get_or new slot s) slot (before slot ++ events_shared shares slot (before slot)) =
          (did slot s below).1.represents (before slot) (standing.each slot s below) in
          subst (λ ss. Represents (get_or ss slot s) slot (before slot ++ events_in (before slot) lines slot)) (sym subs_are)
          (subst (λ es. Represents (get_or new slot s) slot (before slot ++ es)) (sym (events slot)) represents);
      beyond = λ slot past.
          let over : length old ≤ slot = omega (arith, past, ap length subs_are, many) in
          ap (λ es. before slot ++ es) (events slot ∙ none slot over) ∙ append-nil (before slot)
          ∙ standing.beyond slot over;
      few = λ slot.
          let long : length (before slot ++ events_in (before slot) lines slot)
          ≡ length (before slot ++ events_shared shares slot (before slot)) =
          ap (λ es. length (before slot ++ es)) (events slot) in
          elim (cases_lt slot (length old)) [
            | inl low ↦ omega (arith, long, fews slot low, lines_are)
            | inr past ↦
                let short : length (before slot ++ events_shared shares slot (before slot)) ≡ length (before slot) =
                ap (λ es. length (before slot ++ es)) (none slot past) ∙ ap length (append-nil (before slot)) in
                omega (arith, long, short, few slot, lines_are)
          ];
    }

-- where they are bound for
bounds_kept : (slices : ℕ) (old new : List SubscriberState) (shares : List Share) → EachDid old new shares
    → length new ≡ length old → (slot : ℕ) → bound_of slices new slot ≡ bound_of slices old slot
bounds_kept slices old new shares did many slot = elim (cases_lt slot (length old)) [
  | inl low ↦
      let s = (some_at old slot low).0 in
      ap (destination_or (start_slice slices slot)) (slice_get-get_or new slot s (omega (arith, low, many)))
      ∙ (did slot s low).1.destination
      ∙ ap (destination_or (start_slice slices slot)) (sym (slice_get-get_or old slot s low))
  | inr past ↦
      ap (destination_or (start_slice slices slot)) (slice_get_past new slot (omega (arith, past, many)))
      ∙ ap (destination_or (start_slice slices slot)) (sym (slice_get_past old slot past))
]

pub behind_so : (slices count more : ℕ) (book_now : List (List ℕ)) (old new : List SubscriberState)
    (shares : List Share) (all : List Line) (rest : Rest) → EachDid old new shares → length new ≡ length old
    → Stand slices book_now old all → rest.slices ≡ slices → rest.book ≡ book_now → rest.subscribers ≡ new
    → rest.lines ≡ length all → IsBehind rest all
behind_so slices count more book_now old new shares all rest did many stand slices_are book_is subs_are lines_are =
    record {
      book = book_is ∙ stand.book_is;
      bounds = λ slot.
          ap (λ k. bound_of k rest.subscribers slot) slices_are ∙ ap (λ ss. bound_of slices ss slot) subs_are
          ∙ bounds_kept slices old new shares did many slot ∙ stand.bounds slot
          ∙ ap (λ k. destination_after k slot all) (sym slices_are);
      count = lines_are;
    }

pub bounds_so : (rest driven : Rest) (prior lines : List Line) → IsBehind rest prior
    → IsBehind driven (prior ++ lines) → driven.slices ≡ rest.slices → (slot : ℕ)
    → bound_at driven slot ≡ bounds_behind (bound_at rest) (meant_from rest.slices prior lines) slot
bounds_so rest driven prior lines is now same slot =
    now.bounds slot ∙ ap (λ k. destination_after k slot (prior ++ lines)) same
    ∙ sym (bounds_on rest.slices slot prior lines)
    ∙ (λ i. bounds_behind (λ s. sym (is.bounds s) i) (meant_from rest.slices prior lines) slot)

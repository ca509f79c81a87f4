-- A gateway on one thread that represents the events of each slot, by what its subscribers hold alone.
use Rattle.std.proofs.Common.{◌≡◌, ◌≢◌, ℕ, ◌+◌, ◌<◌, ◌≤◌, IfSome, List, [], ◌∷◌, ◌++◌, length, set, refl, sym, ap, subst, ◌∙◌, inl, inr, arith, length-append, length-set}
use Rattle.std.proofs.lemmas.Bool.{cases_eq}
use Rattle.charging_book.specs.Accounts as book
use Rattle.packet_steps.specs.Meters.{no_meters, unused}
use Rattle.packet_steps.proofs.NewLemmas.{new_stands}
use Rattle.gate_model.specs.declared.event.Event.{Event}
use Rattle.subscriber.specs.Standing.{Represents, SubscriberState, last_of, new_subscriber}
use Rattle.demux.specs.Destinations.{start_slice}
use Rattle.demux.specs.declared.decision.Whose.TheVariants.{New}
use Rattle.lawful_run.specs.Merging.{Histories}
use Rattle.solo_command.specs.Gateway.{Gateway, admitting, no_subscribers}
use Rattle.solo_command.specs.Places.{HasAt}
use Rattle.solo_command.specs.Report.{slices}
use Rattle.solo_command.proofs.PlaceLemmas.{has_at_last, has_at_map, has_at_more, has_at_other, has_at_set}
use Rattle.solo_command.proofs.StoryLemmas.{later}
use Rattle.report_laws.proofs.SessionsKept.{SessionKept, new_kept}

-- A subscriber represents the events of its slot, its charging records taken out. It is bound for a slice, none of its
-- packets came later than this moment, and its session is in its ranges.
pub record SlotHolds (held : SubscriberState) (slot bound latest : ℕ) (events : List Event) : Type 0 where
  pub stands : Represents held slot events
  pub kept : SessionKept held.session
  pub bound_for : held.destination ≡ bound
  pub in_order : IfSome (last_of held) (λ last. last ≤ latest)

-- so does each of a gateway's, behind so many lines
pub record Holds (gateway : Gateway) (known : List (List ℕ)) (bound : ℕ → ℕ) (latest lines : ℕ)
    (histories : Histories) : Type 0 where
  pub same_book : gateway.book ≡ known
  pub places : length gateway.subscribers ≡ length known
  pub each : (slot : ℕ) → slot < length known
      → HasAt gateway.subscribers slot (λ held. SlotHolds held slot (bound slot) latest (histories slot))
  pub none_beyond : (slot : ℕ) → length known ≤ slot → histories slot ≡ []
  pub at_home : (slot : ℕ) → length known ≤ slot → bound slot ≡ start_slice slices slot
  pub few : (slot : ℕ) → length (histories slot) ≤ lines

pub nothing_holds : (latest : ℕ) → Holds no_subscribers [] (start_slice slices) latest 0 (λ slot. [])
nothing_holds latest = record {
  same_book = refl;
  places = refl;
  each = λ slot within. absurd (omega (arith, within));
  none_beyond = λ slot beyond. refl;
  at_home = λ slot beyond. refl;
  few = λ slot. omega arith;
}

-- nothing but time went by
slot_later : (held : SubscriberState) (slot bound other latest moment : ℕ) (events more : List Event)
    → more ≡ events → other ≡ bound → latest ≤ moment → SlotHolds held slot bound latest events
    → SlotHolds held slot other moment more
slot_later held slot bound other latest moment events more same bound_same late holds =
    subst (λ e. SlotHolds held slot other moment e) (sym same) (record {
      stands = holds.stands;
      kept = holds.kept;
      bound_for = holds.bound_for ∙ sym bound_same;
      in_order = later (last_of held) latest moment late holds.in_order;
    })

pub stay_holds : (gateway : Gateway) (known : List (List ℕ)) (bound : ℕ → ℕ) (latest moment lines : ℕ)
    (histories behind : Histories) → Holds gateway known bound latest lines histories → latest ≤ moment
    → ((slot : ℕ) → behind slot ≡ histories slot)
    → Holds gateway known bound moment (lines + 1) behind
stay_holds gateway known bound latest moment lines histories behind holds late same = record {
  same_book = holds.same_book;
  places = holds.places;
  each = λ slot within. has_at_map gateway.subscribers slot
      (λ held. SlotHolds held slot (bound slot) latest (histories slot))
      (λ held. SlotHolds held slot (bound slot) moment (behind slot))
      (λ held. slot_later held slot (bound slot) (bound slot) latest moment (histories slot) (behind slot) (same slot)
      refl late) (holds.each slot within);
  none_beyond = λ slot beyond. same slot ∙ holds.none_beyond slot beyond;
  at_home = holds.at_home;
  few = λ slot. omega (arith, ap length (same slot), holds.few slot);
}

-- the subscriber of one slot is another one
pub put_holds : (old new : Gateway) (known : List (List ℕ)) (bound to : ℕ → ℕ) (latest moment lines own : ℕ)
    (histories behind : Histories) (next : SubscriberState) → Holds old known bound latest lines histories
    → own < length known → latest ≤ moment → new.book ≡ old.book → new.subscribers ≡ set old.subscribers own next
    → SlotHolds next own (to own) moment (behind own)
    → ((slot : ℕ) → slot ≢ own → behind slot ≡ histories slot)
    → ((slot : ℕ) → slot ≢ own → to slot ≡ bound slot) → length (behind own) ≤ lines + 1
    → Holds new known to moment (lines + 1) behind
put_holds old new known bound to latest moment lines own histories behind next holds within late book put is others
    bounds few = record {
      same_book = book ∙ holds.same_book;
      places = ap length put ∙ length-set old.subscribers own next ∙ holds.places;
      each = λ slot inside.
          elim (cases_eq slot own) [
            | inl same ↦
                subst (λ s. HasAt new.subscribers s (λ held. SlotHolds held s (to s) moment (behind s))) (sym same)
                (subst (λ items. HasAt items own (λ held. SlotHolds held own (to own) moment (behind own))) (sym put)
                (has_at_set old.subscribers own (λ held. SlotHolds held own (to own) moment (behind own)) next
                (omega (arith, holds.places, within)) is))
            | inr other ↦
                subst (λ items. HasAt items slot (λ held. SlotHolds held slot (to slot) moment (behind slot))) (sym put)
                (has_at_map (set old.subscribers own next) slot
                (λ held. SlotHolds held slot (bound slot) latest (histories slot))
                (λ held. SlotHolds held slot (to slot) moment (behind slot))
                (λ held. slot_later held slot (bound slot) (to slot) latest moment (histories slot) (behind slot)
                (others slot other) (bounds slot other) late)
                (has_at_other old.subscribers own slot
                (λ held. SlotHolds held slot (bound slot) latest (histories slot)) next
                (omega (arith, holds.places, inside)) other (holds.each slot inside)))
          ];
      none_beyond = λ slot beyond.
          let other : slot ≢ own = λ same. absurd (omega (arith, same, beyond, within)) in
          others slot other ∙ holds.none_beyond slot beyond;
      at_home = λ slot beyond.
          let other : slot ≢ own = λ same. absurd (omega (arith, same, beyond, within)) in
          bounds slot other ∙ holds.at_home slot beyond;
      few = λ slot.
          elim (cases_eq slot own) [
            | inl same ↦ subst (λ s. length (behind s) ≤ lines + 1) (sym same) few
            | inr other ↦ omega (arith, ap length (others slot other), holds.few slot)
          ];
    }

-- a new subscriber has the next slot
new_represents : (slot destination : ℕ) → Represents (new_subscriber slot destination) slot []
new_represents slot destination = record {
  session = refl;
  version = refl;
  counters = new_stands (record { shared = unused; own = no_meters }) (record { opens = []; moments = []; rows = [] }) []
      slot refl refl (record { lawful = tt; opens = refl; moments = refl; rows = refl; within = omega arith }) refl;
  commands = refl;
  packets = refl;
}

pub admitted_holds : (old : Gateway) (known : List (List ℕ)) (bound : ℕ → ℕ) (latest lines : ℕ)
    (histories : Histories) (imsi : List ℕ) → Holds old known bound latest lines histories
    → Holds (admitting slices (New imsi) old) (known ++ imsi ∷ []) bound latest lines histories
admitted_holds old known bound latest lines histories imsi holds =
    let own = length old.book in
    let next = new_subscriber own (start_slice slices own) in
    let last : own ≡ length known = ap length holds.same_book in
    let more : length (known ++ imsi ∷ []) ≡ length known + 1 = length-append known (imsi ∷ []) in
    let new : SlotHolds next own (bound own) latest [] = record {
      stands = new_represents own (start_slice slices own);
      kept = new_kept own;
      bound_for = sym (holds.at_home own (omega (arith, last)));
      in_order = tt;
    } in
    record {
      same_book = ap (λ b. b ++ imsi ∷ []) holds.same_book;
      places = omega (arith, length-append old.subscribers (next ∷ []), holds.places, more);
      each = λ slot within.
          elim (cases_eq slot own) [
            | inl same ↦
                subst (λ s. HasAt (old.subscribers ++ next ∷ []) s
                (λ held. SlotHolds held s (bound s) latest (histories s))) (sym same)
                (subst (λ events. HasAt (old.subscribers ++ next ∷ []) own
                (λ held. SlotHolds held own (bound own) latest events))
                (sym (holds.none_beyond own (omega (arith, last))))
                (has_at_last old.subscribers (old.subscribers ++ next ∷ []) next own
                (λ held. SlotHolds held own (bound own) latest []) refl (omega (arith, last, holds.places)) new))
            | inr other ↦
                has_at_more old.subscribers (old.subscribers ++ next ∷ []) next slot
                (λ held. SlotHolds held slot (bound slot) latest (histories slot)) refl
                (holds.each slot (omega (arith, within, more, last, λ (is : slot ≡ own). other is)))
          ];
      none_beyond = λ slot beyond. holds.none_beyond slot (omega (arith, beyond, more));
      at_home = λ slot beyond. holds.at_home slot (omega (arith, beyond, more));
      few = holds.few;
    }

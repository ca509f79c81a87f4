-- Packets that are left are handled, each where its floor is met; and at last nothing is left to do.
use Rattle.std.proofs.Common.{◌≡◌, ℕ, ◌≤◌, ⊎_elim, length, arith, List, [], ◌∷◌, ◌++◌, take, All, ap, sym, ◌∙◌, subst}
use Rattle.std.proofs.Common.{append-nil, length-append}
use Rattle.std.proofs.lemmas.List.{length-map}
use Rattle.subscriber.specs.Standing.{SubscriberState, commands_met}
use Rattle.control_half.specs.Controlled.{versions_left}
use Rattle.control_half.specs.Published.{Published, in_batches, in_kept}
use Rattle.counter_half.specs.declared.items.DataItem.{DataItem}
use Rattle.counter_half.specs.Handled.{Handled, HasHandled, items_in}
use Rattle.counter_half.specs.State.{learnt_by}
use Rattle.counter_half.proofs.Facts.{last_or_before}
use Rattle.split_record.specs.Accepted.{AreNumbered, MayStand}
use Rattle.split_record.specs.Closing.{Waits}
use Rattle.split_record.specs.Origin.{start_in, commands_in, items_in_all, items_left, handled_early, IsClosing}
use Rattle.split_record.specs.Origin.{IsApplied, IsDone, commands_left}
use Rattle.split_record.specs.Finishing.{MeetsAll, AllMeetBehind}
use Rattle.split_record.specs.Rejoined.{AreAccepted}
use Rattle.split_record.specs.declared.closing.Closing.{Closing}
use Rattle.split_record.specs.declared.origin.Origin.{Origin}
use Rattle.split_record.specs.declared.parts.Commanded.{Commanded}
use Rattle.split_record.proofs.Floors.{Low}
use Rattle.split_record.proofs.Leaving.{all_applied}
use Rattle.split_record.proofs.Waiting.{floor_met, none_wait, waits_behind, numbered_at, all_at}

pub applied_same : (origin : Origin) (old new : Closing) → new.control ≡ old.control → IsApplied origin old
    → IsApplied origin new
applied_same origin old new same applied = record {
  number = ap (λ (c : Commanded). c.controller.number) same ∙ applied.number;
  none_due = ap (λ (c : Commanded). c.due) same ∙ applied.none_due;
  none_kept = ap (λ (c : Commanded). c.kept) same ∙ applied.none_kept;
}

module _ (origin : Origin) (now : Closing) (is : IsClosing origin now) where
  has : HasHandled (commands_met (start_in origin)) (start_in origin).packets (learnt_by now.state)
      now.state.handled.items now.state.met now.state.done now.state.notes.items
  has = subst (λ (s : SubscriberState). HasHandled s.version.number s.packets (learnt_by now.state)
      now.state.handled.items now.state.met now.state.done now.state.notes.items) is.started now.state.handles

  module _ (accepted : AreAccepted origin.front.value (items_in_all origin)) (applied : IsApplied origin now) where
    published_are : learnt_by now.state ++ (in_kept now.taken ++ in_batches now.batches.items)
        ≡ versions_left (commands_met (start_in origin)) (start_in origin).session (commands_in origin)
    published_are = (all_applied (start_in origin) (commands_in origin) now.control.controller.session
        now.control.controller.number now.control.controller.notes.items now.control.due (commands_left now)
        (learnt_by now.state ++ (in_kept now.taken ++ (in_batches now.batches.items ++ in_kept now.control.kept)))
        (learnt_by now.state ++ (in_kept now.taken ++ in_batches now.batches.items)) is.left_to_do applied.number
        applied.none_due
        (ap (λ (l : List Published). learnt_by now.state ++ (in_kept now.taken ++ l))
        ((λ i. in_batches now.batches.items ++ in_kept (applied.none_kept i))
        ∙ append-nil (in_batches now.batches.items)))).versions

    next_number : (item : DataItem) (rest : List DataItem) → items_left now ≡ item ∷ rest
        → item.number ≡ now.state.done
    next_number item rest next =
        let before = items_in now.state.handled.items in
        let are : items_in_all origin ≡ before ++ item ∷ rest =
        is.items ∙ ap (λ (l : List DataItem). before ++ l) next in
        omega (
          arith,
          numbered_at origin.front.value.slot (start_in origin).packets before item rest
              (subst (AreNumbered origin.front.value.slot (start_in origin).packets) are accepted.numbered),
          has.done_is,
          length-map now.state.handled.items (λ (h : Handled). h.0),
        )

    pub floor_is_met : (item : DataItem) (rest : List DataItem) → items_left now ≡ item ∷ rest
        → Waits now.state.done now.taken now.batches.items → item.floor ≤ now.state.met
    floor_is_met item rest next waits =
        let before = items_in now.state.handled.items in
        let are : items_in_all origin ≡ before ++ item ∷ rest =
        is.items ∙ ap (λ (l : List DataItem). before ++ l) next in
        let may = all_at (MayStand (commands_met (start_in origin)) (commands_in origin)) before item rest
        (subst (All (MayStand (commands_met (start_in origin)) (commands_in origin))) are accepted.standing) in
        let number = next_number item rest next in
        floor_met (commands_met (start_in origin)) now.state.done now.state.met (start_in origin).session
        (commands_in origin) (learnt_by now.state) now.taken now.batches.items item may number has.met_is
        published_are waits

    -- the next packet has each command before it whose floor it allows
    next_meets : (item : DataItem) → item.number ≡ now.state.done
        → Waits now.state.done now.taken now.batches.items
        → MeetsAll (commands_met (start_in origin)) (commands_in origin) (item, now.state.met)
    next_meets item number waits = λ k within low.
        let behind = waits_behind k now.state.done (commands_met (start_in origin)) (start_in origin).session
        (commands_in origin) (learnt_by now.state) (subst (λ (n : ℕ). All (Low n) (take k (commands_in origin))) number low)
        within now.taken now.batches.items published_are waits in
        omega (arith, behind, has.met_is)

    -- and so has each that was handled since the lanes were closed
    pub next_met : (item : DataItem) (rest : List DataItem) (handled : List Handled) → items_left now ≡ item ∷ rest
        → Waits now.state.done now.taken now.batches.items
        → handled ≡ now.state.handled.items ++ (item, now.state.met) ∷ []
        → AllMeetBehind (handled_early origin) (commands_met (start_in origin)) (commands_in origin) handled
    next_met item rest handled next waits more = λ before h after at early.
        ⊎_elim (λ (last : (before ≡ now.state.handled.items) × (h ≡ (item, now.state.met))).
        subst (MeetsAll (commands_met (start_in origin)) (commands_in origin)) (sym last.1)
        (next_meets item (next_number item rest next) waits))
        (λ (there : (others : List Handled) × (now.state.handled.items ≡ before ++ h ∷ others)).
        is.met before h there.0 there.1 early)
        (last_or_before now.state.handled.items (item, now.state.met) before h after (sym more ∙ at))

    pub all_done : items_left now ≡ [] → Waits now.state.done now.taken now.batches.items → IsDone origin now
    all_done none waits =
        let done : origin.front.value.packets ≡ now.state.done = omega (
          arith,
          accepted.counted,
          has.done_is,
          ap (λ (l : List DataItem). length l) is.items,
          ap (λ (l : List DataItem). length l) none,
          length-append (items_in now.state.handled.items) (items_left now),
          length-map now.state.handled.items (λ (h : Handled). h.0),
        ) in
        record {
          applied = applied;
          learnt = none_wait (commands_met (start_in origin)) now.state.done (start_in origin).session
              (commands_in origin) (learnt_by now.state) now.taken now.batches.items
              (subst (λ (n : ℕ). All (Low n) (commands_in origin)) done origin.front.value.floors)
              published_are waits;
          handled = none;
        }

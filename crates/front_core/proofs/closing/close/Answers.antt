use Rattle.std.proofs.Common.{◌≡◌, ℕ, ◌+◌, ◌-◌, ◌*◌, ◌<◌, List, length, map, refl, sym, ap, subst, ◌∙◌, arith}
use Rattle.std.specs.Prelude.{slice_index_or}
use Rattle.std.specs.List.{All}
use Rattle.std.proofs.lemmas.List.{with_items_is}
use Rattle.report_lines.specs.declared.entry.LineEntry.{LineEntry}
use Rattle.slot_execution.specs.Replaying.{effects_told, rows_told}
use Rattle.subscriber.specs.Standing.{SubscriberState}
use Rattle.at_rest.specs.Rest.{AreAtRest}
use Rattle.counter_half.specs.declared.items.DataItem.{DataItem}
use Rattle.lawful_run.specs.Filling.{filled}
use Rattle.front_core.specs.Views.{view_at}
use Rattle.front_core.specs.declared.taken.Taken.{Taken}
use Rattle.front_core.specs.Entries.{lines_of, opens_of}
use Rattle.front_core.specs.Words.{opened_of}
use Rattle.front_core.specs.Ending.{CanEndAll, HaveEnded}
use Rattle.front_core.specs.Filled.{IsWithin, mets_at, replies_at, took_told}
use Rattle.front_core.specs.Placed.{IsEntryBelow}
use Rattle.front_core.proofs.Answered.{answered_so}
use Rattle.front_core.proofs.Closed.{closes_as}
use Rattle.front_core.proofs.Joining.{each_rests}
use Rattle.front_core.proofs.Pairing.{front_can_end}
use Rattle.front_core.proofs.Placed.{answers_met, filled_below, slices_below}
use Rattle.front_core.proofs.Within.{entries_within}
use Rattle.front_core.proofs.closing.close.Goals as goal

pub finish_all-requires-clause-may : goal.finish_all-requires-clause-may
finish_all-requires-clause-may g c =
    let parts = c.args.front in
    let keeps = c.requires.whole in
    let subs : List SubscriberState = parts.subscribers.items in
    let entries : List Taken = parts.entries.items in
    let items : ℕ → List DataItem = λ slot. (view_at parts.halves slot).accepted in
    let can : CanEndAll 0 items parts.halves.lots.items c.in_ok-halves.halves.items c.in_ok-homes.homes.items =
    front_can_end parts.slices (opened_of c.args.front).room parts.lane (length subs) (length entries) parts.latest
    (2 * length entries) parts.halves keeps.halves_keep c.in_ok-halves.halves.items c.in_ok-homes.homes.items
    c.into_end.result.places.items c.into_end-2.result.places.items c.into_end.ensures.places c.into_end-2.ensures.places
    c.in_ok-halves.ensures.home c.in_ok-homes.ensures.home c.in_ok-homes.ensures.items in
    (items, can)

pub fill_all-requires-clause-within : goal.fill_all-requires-clause-within
fill_all-requires-clause-within g c =
    let parts = c.args.front in
    let keeps = c.requires.whole in
    let subs : List SubscriberState = parts.subscribers.items in
    let entries : List Taken = parts.entries.items in
    let items : ℕ → List DataItem = λ slot. (view_at parts.halves slot).accepted in
    let can : CanEndAll 0 items parts.halves.lots.items c.in_ok-halves.halves.items c.in_ok-homes.homes.items =
    front_can_end parts.slices (opened_of c.args.front).room parts.lane (length subs) (length entries) parts.latest
    (2 * length entries) parts.halves keeps.halves_keep c.in_ok-halves.halves.items c.in_ok-homes.homes.items
    c.into_end.result.places.items c.into_end-2.result.places.items c.into_end.ensures.places c.into_end-2.ensures.places
    c.in_ok-halves.ensures.home c.in_ok-homes.ensures.home c.in_ok-homes.ensures.items in
    let new : List SubscriberState = c.finish_all.new.subscribers in
    let ends : HaveEnded items parts.halves.lots.items subs new c.in_ok-answers.field-0 =
    subst (λ (l : List SubscriberState). HaveEnded items parts.halves.lots.items l new c.in_ok-answers.field-0)
    c.as_mut_slice.ensures.value (c.in_ok-answers.ensures.ends items can) in
    subst (λ (n : ℕ). (k : ℕ) (d : Taken) → k < length entries → IsWithin n (slice_index_or entries k d).open)
    (sym ends.answered)
    (entries_within (opened_of c.args.front) parts.slices parts.lane parts.lines parts.latest parts.book subs parts.halves
    entries keeps)

pub invariant_of-result : goal.invariant_of-result
invariant_of-result g c =
    let parts = c.args.front in
    let keeps = c.requires.whole in
    let subs : List SubscriberState = parts.subscribers.items in
    let entries : List Taken = parts.entries.items in
    let items : ℕ → List DataItem = λ slot. (view_at parts.halves slot).accepted in
    let can : CanEndAll 0 items parts.halves.lots.items c.in_ok-halves.halves.items c.in_ok-homes.homes.items =
    front_can_end parts.slices (opened_of c.args.front).room parts.lane (length subs) (length entries) parts.latest
    (2 * length entries) parts.halves keeps.halves_keep c.in_ok-halves.halves.items c.in_ok-homes.homes.items
    c.into_end.result.places.items c.into_end-2.result.places.items c.into_end.ensures.places c.into_end-2.ensures.places
    c.in_ok-halves.ensures.home c.in_ok-homes.ensures.home c.in_ok-homes.ensures.items in
    let new : List SubscriberState = c.finish_all.new.subscribers in
    let ends : HaveEnded items parts.halves.lots.items subs new c.in_ok-answers.field-0 =
    subst (λ (l : List SubscriberState). HaveEnded items parts.halves.lots.items l new c.in_ok-answers.field-0)
    c.as_mut_slice.ensures.value (c.in_ok-answers.ensures.ends items can) in
    let many : length new ≡ parts.subscribers.len =
    let count = ends.many in
    let own = parts.subscribers.ok.0 in
    omega (arith, count, own) in
    let rests : AreAtRest parts.slices parts.lines parts.latest new =
    each_rests (opened_of c.args.front) parts.slices parts.lane parts.lines parts.latest parts.book subs new parts.halves
    entries keeps c.in_ok-answers.field-0.answers.items (effects_told c.in_ok-answers.field-0.effects.items)
    (rows_told c.in_ok-answers.field-0.rows.items) ends keeps.first keeps.history keeps.behind keeps.represents
    keeps.events_few c.sessions_keep_their_slot.ensures in
    let room = keeps.halves_keep.room_is in
    let roomy = keeps.roomy in (
      keeps.slices_few,
      (
        (omega (arith, room, roomy), omega (arith, room, roomy)),
        (
          keeps.lane_roomy,
          (
            (let count = keeps.as_many in let own = parts.subscribers.ok.0 in omega (arith, count, own)),
            (
              keeps.few,
              (
                subst (AreAtRest parts.slices parts.lines parts.latest) (sym (with_items_is parts.subscribers new many)) rests,
                tt,
              ),
            ),
          ),
        ),
      ),
    )

pub returns-clause-closes : goal.returns-clause-closes
returns-clause-closes g c =
    let parts = c.args.front in
    let keeps = c.requires.whole in
    let subs : List SubscriberState = parts.subscribers.items in
    let entries : List Taken = parts.entries.items in
    let items : ℕ → List DataItem = λ slot. (view_at parts.halves slot).accepted in
    let can : CanEndAll 0 items parts.halves.lots.items c.in_ok-halves.halves.items c.in_ok-homes.homes.items =
    front_can_end parts.slices (opened_of c.args.front).room parts.lane (length subs) (length entries) parts.latest
    (2 * length entries) parts.halves keeps.halves_keep c.in_ok-halves.halves.items c.in_ok-homes.homes.items
    c.into_end.result.places.items c.into_end-2.result.places.items c.into_end.ensures.places c.into_end-2.ensures.places
    c.in_ok-halves.ensures.home c.in_ok-homes.ensures.home c.in_ok-homes.ensures.items in
    let new : List SubscriberState = c.finish_all.new.subscribers in
    let ends : HaveEnded items parts.halves.lots.items subs new c.in_ok-answers.field-0 =
    subst (λ (l : List SubscriberState). HaveEnded items parts.halves.lots.items l new c.in_ok-answers.field-0)
    c.as_mut_slice.ensures.value (c.in_ok-answers.ensures.ends items can) in
    let many : length new ≡ parts.subscribers.len =
    let count = ends.many in
    let own = parts.subscribers.ok.0 in
    omega (arith, count, own) in
    let told = c.in_ok-answers.field-0 in
    let first : parts.lines - c.len.result + 1 ≡ (opened_of c.args.front).lines + 1 =
    let counted = keeps.counted in
    let len = c.len.ensures in
    let own = parts.entries.ok.0 in
    omega (arith, counted, len, own) in
    closes_as (opened_of c.args.front) parts.slices parts.halves.room parts.lane parts.lines parts.latest
    parts.halves.fulls parts.book subs new _ parts.halves entries keeps refl (with_items_is parts.subscribers new many)
    (lines_of c.args.front.entries.items) refl
    told.answers.items (effects_told told.effects.items) (rows_told told.rows.items) ends _
    (c.in_ok-told.ensures ∙ ap (λ (n : ℕ). filled (opens_of n entries) (replies_at told.answers.items)
    (mets_at told.answers.items)) first) refl refl

pub returns-clause-answered : goal.returns-clause-answered
returns-clause-answered g c =
    let parts = c.args.front in
    let answers = c.in_ok-answers.field-0.answers.items in
    ap (λ (l : List LineEntry). map took_told l) c.in_ok-told.ensures
    ∙ answered_so (parts.lines - c.len.result + 1) parts.entries.items (replies_at answers) (mets_at answers)

pub returns-clause-placed : goal.returns-clause-placed
returns-clause-placed g c =
    let n = (opened_of c.args.front).slices in
    let answers = c.in_ok-answers.field-0.answers.items in
    let below = c.in_ok-answers.ensures.below n (c.in_ok-homes.ensures.placed n
    (subst (All (λ slice. slice < n)) (sym c.requires.places) (slices_below n))) in
    subst (All (IsEntryBelow n)) (sym c.in_ok-told.ensures)
    (filled_below n (c.args.front.lines - c.len.result + 1) c.args.front.entries.items
    (replies_at answers) (mets_at answers) (answers_met n answers below))

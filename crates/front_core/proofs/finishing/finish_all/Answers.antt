use Rattle.std.proofs.Common.{◌≡◌, ◌<◌, ◌∷◌, List, length, length-set, refl, subst, sym, ap, ◌∙◌, arith}
use Rattle.std.specs.Prelude.{Option, reverse}
use Rattle.std.specs.List.{All}
use Rattle.std.proofs.lemmas.List.Elements.{All-nil}
use Rattle.std.proofs.lemmas.List.{length-reverse}
use Rattle.subscriber.specs.Standing.{SubscriberState}
use Rattle.counter_half.specs.Half.{places_of}
use Rattle.counter_half.specs.Handled.{places_in}
use Rattle.counter_half.specs.declared.half.DataHalf.{DataHalf}
use Rattle.counter_half.specs.declared.items.DataItem.{DataItem}
use Rattle.gather_home.specs.DataPlaced.{IsPlaceBelow}
use Rattle.gather_home.specs.declared.data_home.Home.{Home}
use Rattle.front_core.specs.declared.lot.Lot.{Lot}
use Rattle.front_core.specs.declared.told.ToldSlots.{ToldSlots}
use Rattle.front_core.specs.Ending.{EndsNext}
use Rattle.front_core.specs.declared.answers.SlotAnswers.{SlotAnswers}
use Rattle.front_core.specs.Placed.{AnswersBelow, HomesBelow}
use Rattle.front_core.proofs.Endings.{begin_ends, end_next}
use Rattle.front_core.proofs.Placed.{all_reverse}
use Rattle.front_core.proofs.finishing.finish_all.Goals as goal

pub loop-place-init : goal.loop-place-init
loop-place-init g c =
    let told : ToldSlots = record {
      answers = c.in_ok-with_capacity.field-0;
      effects = c.new.result;
      rows = c.new-2.result;
    } in
    let count = ap (λ (l : List (Option Lot)). length l) c.reverse.ensures.items in
    let same = length-reverse c.args.lots.items in
    record {
      left = omega (arith, count, same);
      many = refl;
      ended = λ items can.
          begin_ends items c.args.lots.items c.reverse.new.self.items c.args.controls.items c.reverse-2.new.self.items
          c.args.homes.items c.reverse-3.new.self.items c.args.subscribers.now told c.reverse.ensures.items
          c.reverse-2.ensures.items c.reverse-3.ensures.items c.in_ok-with_capacity.ensures.items c.new.ensures.items
          c.new-2.ensures.items can;
      below = λ n below. (
        subst (HomesBelow n) (sym c.reverse-3.ensures.items)
            (all_reverse (λ (home : Home DataHalf DataItem). All (IsPlaceBelow n) (places_of home.half))
            c.args.homes.items below),
        subst (AnswersBelow n) (sym c.in_ok-with_capacity.ensures.items)
            (All-nil (λ (a : SlotAnswers). All (IsPlaceBelow n) (places_in (reverse a.packets.items)))),
      );
    }

pub loop-place-preserved : goal.loop-place-preserved
loop-place-preserved g c =
    let at = c.loop-place in
    let lots : List (Option Lot) = c.finish_next.new.lots.items in
    let own = at.invariant.ended c.requires.may.0 c.requires.may.1 in
    let first = c.in_ok-finish_next.ensures.ends at.place c.requires.may.0 own.rest in
    let count : length (reverse at.lots.items) ≡ length (first.lot ∷ reverse lots) =
    ap (λ (l : List (Option Lot)). length l) first.first in
    let low : at.place < length at.subscribers =
    let test = c.loop-place-test.true in
    let end = c.len-place-end.ensures in
    let len = c.reverse.ensures.len in
    let few = c.requires.lots in
    let many = at.invariant.many in
    omega (arith, test, end, len, few, many) in
    record {
      left = (let all = at.invariant.left in
          let old = length-reverse at.lots.items in
          let new = length-reverse lots in
          omega (arith, count, all, old, new));
      many = length-set at.subscribers at.place c.finish_next.new.subscriber ∙ at.invariant.many;
      ended = λ items can.
          let so_far = at.invariant.ended items can in
          end_next items c.args.lots.items at.place at.lots.items lots at.controls.items c.finish_next.new.controls.items
          at.homes.items c.finish_next.new.homes.items c.args.subscribers.now at.subscribers at.told
          c.finish_next.new.told so_far low c.index-subscribers-place.result c.finish_next.new.subscriber
          c.index-subscribers-place.is (subst (λ (was : SubscriberState). EndsNext at.place items at.lots.items lots
          c.finish_next.new.controls.items c.finish_next.new.homes.items was c.finish_next.new.subscriber at.told
          c.finish_next.new.told) (sym c.index-subscribers-place.is)
          (c.in_ok-finish_next.ensures.ends at.place items so_far.rest));
      below = λ n below.
          let so_far = at.invariant.below n below in
          c.in_ok-finish_next.ensures.below n so_far.0 so_far.1;
    }

pub returns-clause-below : goal.returns-clause-below
returns-clause-below g c = λ n below. (c.loop-place.invariant.below n below).1

-- The next of the slots that are left has ended.
use Rattle.std.proofs.Common.{◌≡◌, ℕ, ◌+◌, true≢false, is_some, List, [], ◌∷◌, ◌++◌, refl, sym, ap, subst}
use Rattle.std.specs.Prelude.{Option, Some, None, reverse}
use Rattle.subscriber.specs.Standing.{SubscriberState}
use Rattle.control_half.specs.declared.half.ControlHalf.{ControlHalf}
use Rattle.counter_half.specs.Half.{handled_by}
use Rattle.counter_half.specs.declared.half.DataHalf.{DataHalf}
use Rattle.counter_half.specs.declared.items.DataItem.{DataItem}
use Rattle.gather_home.specs.declared.data_home.Home.{Home}
use Rattle.split_record.specs.Rejoined.{Finishes, commands_sent, start_of}
use Rattle.split_record.specs.declared.finishing.Finished.{Finished}
use Rattle.split_record.specs.declared.front.FrontEnd.{FrontEnd}
use Rattle.front_core.specs.declared.lot.Lot.{Lot}
use Rattle.front_core.specs.declared.lot.Lot.TheVariants.{Moved, Split}
use Rattle.front_core.specs.Lots.{end_of}
use Rattle.front_core.specs.declared.told.ToldSlots.{ToldSlots}
use Rattle.front_core.specs.Ending.{CanEnd, CanEndAll, EndsNext, EndsSplit, SplitEnds, Tells, came_of, nothing_came}
use Rattle.front_core.proofs.Popping.{popped_some}

-- the halves of a split subscriber, of which those that came home are the first
module _ (slot : ℕ) (items : ℕ → List DataItem) (end : FrontEnd) (lots : List (Option Lot))
    (controls : List ControlHalf) (homes : List (Home DataHalf DataItem))
    (can : CanEndAll slot items (Some (Split end) ∷ lots) (reverse controls) (reverse homes)) where
  module _ (controls_left : List ControlHalf) (control : ControlHalf)
      (controls_are : controls ≡ controls_left ++ control ∷ []) where
    can_control : CanEndAll slot items (Some (Split end) ∷ lots) (control ∷ reverse controls_left) (reverse homes)
    can_control = subst (λ (cs : List ControlHalf). CanEndAll slot items (Some (Split end) ∷ lots) cs (reverse homes))
        (popped_some controls controls_left control controls_are) can

    pub home_left : homes ≡ [] → ⊥
    home_left none = subst (λ (hs : List (Home DataHalf DataItem)).
        CanEndAll slot items (Some (Split end) ∷ lots) (control ∷ reverse controls_left) (reverse hs)) none can_control

    module _ (homes_left : List (Home DataHalf DataItem)) (home : Home DataHalf DataItem)
        (homes_are : homes ≡ homes_left ++ home ∷ []) where
      pub can_both : CanEnd slot end (items slot) control home
          × CanEndAll (slot + 1) items lots (reverse controls_left) (reverse homes_left)
      can_both = subst (λ (hs : List (Home DataHalf DataItem)).
          CanEndAll slot items (Some (Split end) ∷ lots) (control ∷ reverse controls_left) hs)
          (popped_some homes homes_left home homes_are) can_control

      pub ends_split : (old new : SubscriberState) (told now : ToldSlots) (finished : Finished)
          → Finishes (start_of end) (commands_sent end) (handled_by home.half ++ home.left.items) end.destination finished
          → (new ≡ record finished.record { destination = old.destination }) × Tells (came_of end.slot finished) told now
          → EndsSplit slot end items lots controls_left homes_left old new told now
      ends_split old new told now finished finishes ended = record {
        came = came_of slot finished;
        ends = record {
          finished = finished;
          finishes = subst (λ (is : List DataItem). Finishes (start_of end) (commands_sent end) is end.destination finished)
              can_both.0.items_are finishes;
          record_is = ended.0;
          came_is = refl;
        };
        tells = subst (λ (k : ℕ). Tells (came_of k finished) told now) can_both.0.own ended.1;
        rest = can_both.1;
      }

-- the front end of a lot
abbrev end_or : FrontEnd → Option Lot → FrontEnd
end_or other None = other
end_or other (Some Moved) = other
end_or other (Some (Split end)) = end

module _ (slot : ℕ) (items : ℕ → List DataItem) (before after : List (Option Lot)) (controls : List ControlHalf)
    (homes : List (Home DataHalf DataItem)) where
  -- as a lot is the first of those that are left
  pub can_first : (lot : Option Lot) → before ≡ after ++ lot ∷ []
      → CanEndAll slot items (reverse before) (reverse controls) (reverse homes)
      → CanEndAll slot items (lot ∷ reverse after) (reverse controls) (reverse homes)
  can_first lot is can = subst (λ (l : List (Option Lot)). CanEndAll slot items l (reverse controls) (reverse homes))
      (popped_some before after lot is) can

  pub split_next : (end : FrontEnd) (old new : SubscriberState) (told now : ToldSlots)
      → before ≡ after ++ Some (Split end) ∷ []
      → EndsSplit slot end items (reverse after) controls homes old new told now
      → EndsNext slot items before after controls homes old new told now
  split_next end old new told now is ends = record {
    lot = Some (Split end);
    first = popped_some before after (Some (Split end)) is;
    came = ends.came;
    tells = ends.tells;
    rest = ends.rest;
    split = λ other same.
        subst (λ (e : FrontEnd). SplitEnds slot e (items slot) old new ends.came) (ap (end_or end) same) ends.ends;
    rests = λ none. absurd (true≢false (ap is_some none));
  }

  pub moved_next : (subscriber : SubscriberState) (told now : ToldSlots) → before ≡ after ++ Some Moved ∷ []
      → CanEndAll slot items (reverse before) (reverse controls) (reverse homes) → Tells nothing_came told now
      → EndsNext slot items before after controls homes subscriber subscriber told now
  moved_next subscriber told now is can tells = record {
    lot = Some Moved;
    first = popped_some before after (Some Moved) is;
    came = nothing_came;
    tells = tells;
    rest = can_first (Some Moved) is can;
    split = λ end same. absurd (true≢false (sym (ap (λ (l : Option Lot). is_some (end_of l)) same)));
    rests = λ none. (refl, refl);
  }

  pub none_next : (subscriber : SubscriberState) (told now : ToldSlots) → before ≡ after ++ None ∷ []
      → CanEndAll slot items (reverse before) (reverse controls) (reverse homes) → Tells nothing_came told now
      → EndsNext slot items before after controls homes subscriber subscriber told now
  none_next subscriber told now is can tells = record {
    lot = None;
    first = popped_some before after None is;
    came = nothing_came;
    tells = tells;
    rest = can_first None is can;
    split = λ end same. absurd (true≢false (sym (ap (λ (l : Option Lot). is_some (end_of l)) same)));
    rests = λ none. (refl, refl);
  }

-- The slots end one after another.
use Rattle.std.proofs.Common.{◌≡◌, ℕ, ◌+◌, ◌<◌, List, [], ◌∷◌, ◌++◌, length, get_or, get_or-set_other, get_or-set_same, set, length-set, length-append, refl, sym, ap, subst, ◌∙◌, arith, append_assoc, append-nil}
use Rattle.std.specs.Prelude.{Option, Some, None, reverse}
use Rattle.std.proofs.lemmas.List.{get_or_default, get_or_past, reverse-reverse}
use Rattle.report_lines.specs.Records.{Effected}
use Rattle.report_lines.specs.declared.entry.ChargeEntry.{ChargeEntry}
use Rattle.slot_execution.specs.Replaying.{effects_told, rows_told}
use Rattle.subscriber.specs.Standing.{SubscriberState}
use Rattle.control_half.specs.declared.half.ControlHalf.{ControlHalf}
use Rattle.counter_half.specs.declared.half.DataHalf.{DataHalf}
use Rattle.counter_half.specs.declared.items.DataItem.{DataItem}
use Rattle.gather_home.specs.declared.data_home.Home.{Home}
use Rattle.split_record.specs.declared.front.FrontEnd.{FrontEnd}
use Rattle.front_core.specs.declared.lot.Lot.{Lot}
use Rattle.front_core.specs.declared.lot.Lot.TheVariants.{Split}
use Rattle.front_core.specs.Lots.{end_of, lot_of}
use Rattle.front_core.specs.declared.answers.SlotAnswers.{SlotAnswers}
use Rattle.front_core.specs.declared.told.ToldSlots.{ToldSlots}
use Rattle.front_core.specs.Ending.{AllEnd, CanEndAll, EndsNext, HaveEnded, SplitEnds}
use Rattle.front_core.proofs.Pushing.{all_push, none_end}

-- of all lots some have ended; the others, and their halves, are left in the order from the last
pub record Ended (items : ℕ → List DataItem) (all : List (Option Lot)) (place : ℕ) (left : List (Option Lot))
    (controls : List ControlHalf) (homes : List (Home DataHalf DataItem)) (old new : List SubscriberState) (told : ToldSlots) :
    Type 0 where
  pub done : List (Option Lot)
  pub all_are : done ++ reverse left ≡ all
  pub many : length done ≡ place
  pub ended : HaveEnded items done old new told
  pub rest : CanEndAll place items (reverse left) (reverse controls) (reverse homes)

pub begin_ends : (items : ℕ → List DataItem) (all left : List (Option Lot)) (controls controls_left : List ControlHalf)
    (homes homes_left : List (Home DataHalf DataItem)) (subs : List SubscriberState) (told : ToldSlots)
    → left ≡ reverse all → controls_left ≡ reverse controls → homes_left ≡ reverse homes
    → told.answers.items ≡ [] → told.effects.items ≡ [] → told.rows.items ≡ []
    → CanEndAll 0 items all controls homes → Ended items all 0 left controls_left homes_left subs subs told
begin_ends items all left controls controls_left homes homes_left subs told lots_are controls_are homes_are none
    no_effects no_rows can =
    let back : reverse left ≡ all = ap reverse lots_are ∙ reverse-reverse all in
    let controls_back : reverse controls_left ≡ controls = ap reverse controls_are ∙ reverse-reverse controls in
    let homes_back : reverse homes_left ≡ homes = ap reverse homes_are ∙ reverse-reverse homes in
    let effects : effects_told told.effects.items ≡ [] = ap effects_told no_effects in
    let rows : rows_told told.rows.items ≡ [] = ap rows_told no_rows in
    record {
      done = [];
      all_are = back;
      many = refl;
      ended = subst (λ (a : List SlotAnswers). AllEnd items [] subs subs a (effects_told told.effects.items)
          (rows_told told.rows.items)) (sym none)
          (subst (λ (e : List Effected). AllEnd items [] subs subs [] e (rows_told told.rows.items)) (sym effects)
          (subst (λ (r : List ChargeEntry). AllEnd items [] subs subs [] [] r) (sym rows) (none_end items subs)));
      rest = subst (λ (l : List (Option Lot)). CanEndAll 0 items l (reverse controls_left) (reverse homes_left)) (sym back)
          (subst (λ (cs : List ControlHalf). CanEndAll 0 items all cs (reverse homes_left)) (sym controls_back)
          (subst (λ (hs : List (Home DataHalf DataItem)). CanEndAll 0 items all controls hs) (sym homes_back) can));
    }

module _ (items : ℕ → List DataItem) (all : List (Option Lot)) (place : ℕ) (left after : List (Option Lot))
    (controls controls_left : List ControlHalf) (homes homes_left : List (Home DataHalf DataItem))
    (old mid : List SubscriberState) (told now : ToldSlots)
    (so_far : Ended items all place left controls homes old mid told) (low : place < length mid)
    (was is : SubscriberState) (found : was ≡ get_or mid place was)
    (next : EndsNext place items left after controls_left homes_left was is told now) where
  abbrev new : List SubscriberState
  new = set mid place is

  no_lot : end_of (lot_of so_far.done place) ≡ None
  no_lot = ap end_of (get_or_past so_far.done place None (let many = so_far.many in omega (arith, many)))

  was_so : (none : SubscriberState) → was ≡ get_or old place none
  was_so none = found ∙ get_or_default mid place was none low ∙ so_far.ended.stays place none no_lot

  is_so : (none : SubscriberState) → is ≡ get_or new place none
  is_so none = sym (get_or-set_same mid place is none low)

  kept_so : (slot : ℕ) (none : SubscriberState) → (slot ≡ length so_far.done → ⊥)
      → get_or new slot none ≡ get_or mid slot none
  kept_so slot none other = get_or-set_other mid place slot is none (λ same. other (same ∙ sym so_far.many))

  split_so : (end : FrontEnd) (none : SubscriberState) → next.lot ≡ Some (Split end)
      → SplitEnds (length so_far.done) end (items (length so_far.done)) (get_or old (length so_far.done) none)
      (get_or new (length so_far.done) none) next.came
  split_so end none same =
      subst (λ (k : ℕ). SplitEnds k end (items k) (get_or old k none) (get_or new k none) next.came)
      (sym so_far.many)
      (subst (λ (s : SubscriberState). SplitEnds place end (items place) s (get_or new place none) next.came)
      (was_so none)
      (subst (λ (s : SubscriberState). SplitEnds place end (items place) was s next.came) (is_so none)
      (next.split end same)))

  stays_so : (none : SubscriberState) → end_of next.lot ≡ None
      → get_or new (length so_far.done) none ≡ get_or mid (length so_far.done) none
  stays_so none rests =
      subst (λ (k : ℕ). get_or new k none ≡ get_or mid k none) (sym so_far.many)
      (sym (is_so none) ∙ (next.rests rests).1 ∙ found ∙ get_or_default mid place was none low)

  pushed : AllEnd items (so_far.done ++ next.lot ∷ []) old new (told.answers.items ++ next.tells.answer ∷ [])
      (effects_told told.effects.items ++ next.came.effects) (rows_told told.rows.items ++ next.came.rows)
  pushed = all_push items so_far.done old mid new told.answers.items (effects_told told.effects.items)
      (rows_told told.rows.items) so_far.ended next.lot next.came next.tells.answer next.tells.answered
      (length-set mid place is) kept_so split_so (λ rests. (next.rests rests).0) stays_so

  pub end_next : Ended items all (place + 1) after controls_left homes_left old new now
  end_next = record {
    done = so_far.done ++ next.lot ∷ [];
    all_are = append_assoc so_far.done (next.lot ∷ []) (reverse after)
        ∙ ap (λ (l : List (Option Lot)). so_far.done ++ l) (sym next.first) ∙ so_far.all_are;
    many = length-append so_far.done (next.lot ∷ []) ∙ ap (λ (n : ℕ). n + 1) so_far.many;
    ended = subst (λ (a : List SlotAnswers). AllEnd items (so_far.done ++ next.lot ∷ []) old new a
        (effects_told now.effects.items) (rows_told now.rows.items)) (sym next.tells.answers)
        (subst (λ (e : List Effected). AllEnd items (so_far.done ++ next.lot ∷ []) old new
        (told.answers.items ++ next.tells.answer ∷ []) e (rows_told now.rows.items)) (sym next.tells.effects)
        (subst (λ (r : List ChargeEntry). AllEnd items (so_far.done ++ next.lot ∷ []) old new
        (told.answers.items ++ next.tells.answer ∷ []) (effects_told told.effects.items ++ next.came.effects) r)
        (sym next.tells.rows) pushed));
    rest = next.rest;
  }

pub all_ended : (items : ℕ → List DataItem) (all : List (Option Lot)) (place : ℕ) (left : List (Option Lot))
    (controls : List ControlHalf) (homes : List (Home DataHalf DataItem)) (old new : List SubscriberState) (told : ToldSlots)
    → Ended items all place left controls homes old new told → left ≡ [] → HaveEnded items all old new told
all_ended items all place left controls homes old new told so_far none =
    subst (λ (l : List (Option Lot)). HaveEnded items l old new told)
    (sym (append-nil so_far.done) ∙ ap (λ (l : List (Option Lot)). so_far.done ++ reverse l) (sym none) ∙ so_far.all_are)
    so_far.ended

-- Batches of commands, and what is learnt of them.
use Rattle.std.proofs.Common.{◌≡◌, ℕ, zero, suc, ◌+◌, ◌-◌, ◌<◌, ◌≤◌, List, [], ◌∷◌, ◌++◌, map, take, drop, set, get_or, length, refl, sym, ap, ◌∙◌, arith, append_assoc, append-nil}
use Rattle.std.proofs.lemmas.List.{drop-set-lt, drop_all, drop_more, map_push, take_all, take_more_set}
use Rattle.pc_base.specs.declared.packet.Place.TheVariants.{Closing}
use Rattle.epoch_schedule.specs.Numbers.{times}
use Rattle.epoch_schedule.specs.Slots.{CommandTags, SlotNow, Met}
use Rattle.epoch_schedule.specs.Halves.{close_one, closed}
use Rattle.epoch_schedule.specs.Parts.{all_learnt, met_behind}

closing_met : (slot : SlotNow) (n : ℕ)
    → (times n close_one slot).met ≡ met_behind slot.commands slot.learnt slot.met n
closing_met slot zero = refl
closing_met slot (suc n) = closing_met (close_one slot) n

pub closed_met : (slot : SlotNow) (n : ℕ) → n ≡ length slot.packets - length slot.met
    → met_behind slot.commands slot.learnt slot.met n ≡ (closed slot).met
closed_met slot n is =
    ap (met_behind slot.commands slot.learnt slot.met) is
    ∙ sym (closing_met slot (length slot.packets - length slot.met))

pub met_less : (commands : List CommandTags) (learnt : ℕ) (met : List Met) (n i : ℕ) → i < n
    → met_behind commands learnt met (n - i)
    ≡ met_behind commands (all_learnt commands learnt (length met))
    (met ++ record { commands = all_learnt commands learnt (length met); place = Closing } ∷ []) (n - (i + 1))
met_less commands learnt met n i below =
    let one : n - i ≡ suc (n - (i + 1)) = omega (arith, below) in
    ap (met_behind commands learnt met) one

-- what the packets of slots met, of which the first ones are closed
pub closed_more : (slots : List SlotNow) (i : ℕ) (old new : SlotNow) (whole : List (List Met)) → i < length slots
    → old ≡ get_or slots i old → new.met ≡ (closed old).met
    → map (λ (slot : SlotNow). slot.met) (take i slots)
    ++ map (λ (slot : SlotNow). (closed slot).met) (drop i slots) ≡ whole
    → map (λ (slot : SlotNow). slot.met) (take (i + 1) (set slots i new))
    ++ map (λ (slot : SlotNow). (closed slot).met) (drop (i + 1) (set slots i new)) ≡ whole
closed_more slots i old new whole low is met all =
    let mets : List SlotNow → List (List Met) = map (λ (slot : SlotNow). slot.met) in
    let left : List SlotNow → List (List Met) = map (λ (slot : SlotNow). (closed slot).met) in
    ap (λ xs. mets xs ++ left (drop (i + 1) (set slots i new))) (take_more_set slots i new low)
    ∙ ap (λ xs. mets (take i slots ++ new ∷ []) ++ left xs) (drop-set-lt (i + 1) slots i new (omega arith))
    ∙ ap (λ xs. xs ++ left (drop (i + 1) slots)) (map_push (λ (slot : SlotNow). slot.met) (take i slots) new)
    ∙ append_assoc (mets (take i slots)) (new.met ∷ []) (left (drop (i + 1) slots))
    ∙ ap (λ x. mets (take i slots) ++ x ∷ left (drop (i + 1) slots)) met
    ∙ ap (λ x. mets (take i slots) ++ (closed x).met ∷ left (drop (i + 1) slots)) is
    ∙ ap (λ xs. mets (take i slots) ++ left xs) (sym (drop_more slots i old low))
    ∙ all

pub closed_all : (slots : List SlotNow) (i : ℕ) (whole : List (List Met)) → length slots ≤ i
    → map (λ (slot : SlotNow). slot.met) (take i slots)
    ++ map (λ (slot : SlotNow). (closed slot).met) (drop i slots) ≡ whole
    → map (λ (slot : SlotNow). slot.met) slots ≡ whole
closed_all slots i whole over all =
    let mets : List SlotNow → List (List Met) = map (λ (slot : SlotNow). slot.met) in
    let left : List SlotNow → List (List Met) = map (λ (slot : SlotNow). (closed slot).met) in
    sym (append-nil (mets slots)) ∙ ap (λ xs. mets xs ++ []) (sym (take_all i slots over))
    ∙ ap (λ xs. mets (take i slots) ++ left xs) (sym (drop_all i slots over)) ∙ all

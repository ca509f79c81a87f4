-- The fifth sentence is first broken at one place.
use Rattle.std.proofs.Common.{◌≡◌, ℕ, suc, ◌+◌, ◌<◌, ◌≤◌, Option, Some, None, List, [], ◌∷◌, ◌++◌, length, length-append, take, drop, refl, sym, ap, ◌∙◌, subst, inl, inr, arith, append_assoc}
use Rattle.std.specs.List.{All, Contains}
use Rattle.std.specs.Option.{option_map}
use Rattle.std.specs.Prelude.{find}
use Rattle.std.proofs.lemmas.Bool.{cases_lt}
use Rattle.std.proofs.lemmas.List.{append_cancel_left, drop_at, take_at}
use Rattle.demux.specs.Trace.{Meaning}
use Rattle.report_lines.specs.declared.entry.ChargeEntry.{ChargeEntry}
use Rattle.report_lines.specs.declared.entry.Entry.{Entry}
use Rattle.report_lines.specs.declared.entry.Entry.TheVariants as entry
use Rattle.lawful_run.specs.LinesTold.{LineTold}
use Rattle.lawful_run.specs.Report.{EpochReport}
use Rattle.lawful_run.specs.Run.{no_events}
use Rattle.audit_core.specs.Entries.{effects_told, opens_told, rows_told, slot_charged}
use Rattle.audit_core.specs.Sentences.{made_report, told_epochs}
use Rattle.audit_core.specs.Agreeing.{AgreeBySlot, AreBySlot, slot_effected}
use Rattle.audit_core.specs.Charges.{AgreeUpTo, AreOfSlots, ChargeBreak, EpochDiffers, EpochsBreak, IsTooMany, ItemBreak, OpenBreakOf, Surplus, in_slot_order, same_life}
use Rattle.audit_core.specs.Places.{FirstDifference, first_of}
use Rattle.audit_core.specs.Telling.{tells}
use Rattle.audit_core.specs.Why.{OneBreakOfCharges}
use Rattle.audit_core.specs.declared.telling.Break.{Break}
use Rattle.audit_core.proofs.ChargeLemmas.{all_behind, effects_by, effects_clash, item_broken, rows_by, rows_clash}

-- ---- two places of a list

-- what stands at the end of a prefix stands within a longer one
within : {X : Type 0} (prefix : List X) (x : X) (later longer rest : List X) → prefix ++ x ∷ later ≡ longer ++ rest
    → length prefix < length longer → (middle : List X) × (longer ≡ prefix ++ x ∷ middle)
within prefix x later [] rest same less = absurd (omega arith)
within [] x later (y ∷ longer) rest same less =
    let head : y ≡ x = cc in
    (longer, ap (λ z. z ∷ longer) head)
within (f ∷ prefix) x later (y ∷ longer) rest same less =
    let head : y ≡ f = cc in
    let tails : prefix ++ x ∷ later ≡ longer ++ rest = cc in
    let found = within prefix x later longer rest tails (omega arith) in
    (found.0, ap (λ z. z ∷ longer) head ∙ ap (λ (zs : List _). f ∷ zs) found.1)

-- something is so behind a prefix, and nothing within the prefix is
record IsFirst {X : Type 0} (P : List X → X → Type 0) (xs : List X) (x : X) : Type 0 where
  prefix : List X
  later : List X
  parts : xs ≡ prefix ++ x ∷ later
  here : P prefix x
  before : (some : List X) (y : X) (more : List X) → prefix ≡ some ++ y ∷ more → P some y → ⊥

module _ {X : Type 0} (P : List X → X → Type 0) (xs : List X) (x y : X) (one : IsFirst P xs x) (other : IsFirst P xs y)
  where
    not_less : length one.prefix < length other.prefix → ⊥
    not_less less =
        let found = within one.prefix x one.later other.prefix (y ∷ other.later) (sym one.parts ∙ other.parts) less in
        other.before one.prefix x found.0 found.1 one.here

    not_more : length other.prefix < length one.prefix → ⊥
    not_more less =
        let found = within other.prefix y other.later one.prefix (x ∷ one.later) (sym other.parts ∙ one.parts) less in
        one.before other.prefix y found.0 found.1 other.here

    as_long : length one.prefix ≡ length other.prefix
    as_long = elim (cases_lt (length one.prefix) (length other.prefix)) [
      | inl less ↦ absurd (not_less less)
      | inr most ↦ elim (cases_lt (length other.prefix) (length one.prefix)) [
        | inl less ↦ absurd (not_more less)
        | inr least ↦ omega (arith, most, least)
      ]
    ]

    one_place : (one.prefix ≡ other.prefix) × (x ≡ y)
    one_place =
        let n = length one.prefix in
        let prefixes : one.prefix ≡ other.prefix =
        sym (take_at one.prefix (x ∷ one.later) n refl) ∙ ap (take n) (sym one.parts ∙ other.parts)
        ∙ take_at other.prefix (y ∷ other.later) n (sym as_long) in
        let rests : x ∷ one.later ≡ y ∷ other.later =
        sym (drop_at one.prefix (x ∷ one.later) n refl) ∙ ap (drop n) (sym one.parts ∙ other.parts)
        ∙ drop_at other.prefix (y ∷ other.later) n (sym as_long) in
        let items : x ≡ y = cc in
        (prefixes, items)

-- the first of a list of which something doesn't hold
first_not : {X : Type 0} (P Q : X → Type 0) (xs prefix : List X) (x : X) (later : List X) → xs ≡ prefix ++ x ∷ later
    → All P prefix → Q x → ((y : X) → P y → Q y → ⊥) → IsFirst (λ some y. Q y) xs x
first_not P Q xs prefix x later parts all here clash = record {
  prefix = prefix;
  later = later;
  parts = parts;
  here = here;
  before = λ some y more is bad. clash y (all_behind P some y more (subst (All P) is all)) bad;
}

-- ---- lists differ first at one place

module _ {X : Type 0} (told made : List X) where
  not_behind : (stands due again due_again : Option X) (one : FirstDifference told made stands due)
      → (other : FirstDifference told made again due_again) → length one.same < length other.same → ⊥
  not_behind stands due again due_again one other less =
      by_left one.told_left refl
    where
      by_left : (left : List X) → one.told_left ≡ left → ⊥
      by_left [] none =
          let short : length told ≡ length one.same + 0 =
          ap length (one.told_parts ∙ ap (λ (xs : List X). one.same ++ xs) none) ∙ length-append one.same [] in
          omega (arith, short, ap length other.told_parts ∙ length-append other.same other.told_left, less)
      by_left (x ∷ later) some =
          let parts : told ≡ one.same ++ x ∷ later =
          one.told_parts ∙ ap (λ (xs : List X). one.same ++ xs) some in
          let found = within one.same x later other.same other.told_left (sym parts ∙ other.told_parts) less in
          let made_left : one.made_left ≡ x ∷ found.0 ++ other.made_left =
          append_cancel_left one.same one.made_left (x ∷ found.0 ++ other.made_left)
          (sym one.made_parts ∙ other.made_parts ∙ ap (λ (xs : List X). xs ++ other.made_left) found.1
          ∙ append_assoc one.same (x ∷ found.0) other.made_left) in
          one.differ (one.stands_there ∙ ap first_of some ∙ sym (ap first_of made_left) ∙ sym one.due_there)

  pub one_difference : (stands due again due_again : Option X) → FirstDifference told made stands due
      → FirstDifference told made again due_again → (stands ≡ again) × (due ≡ due_again)
  one_difference stands due again due_again one other =
      let long : length one.same ≡ length other.same =
      elim (cases_lt (length one.same) (length other.same)) [
        | inl less ↦ absurd (not_behind stands due again due_again one other less)
        | inr most ↦ elim (cases_lt (length other.same) (length one.same)) [
          | inl less ↦ absurd (not_behind again due_again stands due other one less)
          | inr least ↦ omega (arith, most, least)
        ]
      ] in
      let n = length one.same in
      let told_left : one.told_left ≡ other.told_left =
      sym (drop_at one.same one.told_left n refl) ∙ ap (drop n) (sym one.told_parts ∙ other.told_parts)
      ∙ drop_at other.same other.told_left n (sym long) in
      let made_left : one.made_left ≡ other.made_left =
      sym (drop_at one.same one.made_left n refl) ∙ ap (drop n) (sym one.made_parts ∙ other.made_parts)
      ∙ drop_at other.same other.made_left n (sym long) in (
        one.stands_there ∙ ap first_of told_left ∙ sym other.stands_there,
        one.due_there ∙ ap first_of made_left ∙ sym other.due_there,
      )

-- ---- the items of an epoch, and epoch after epoch

not_both : (slots n : ℕ) → n < slots → slots ≤ n → ⊥
not_both slots n low high = omega (arith, low, high)

module _ {X : Type 0} (whose : X → ℕ) (as_entry : X → Entry) (slots : ℕ) where
  one_item : (told made : List X) (found other : Break) → ItemBreak whose as_entry slots told made found
      → ItemBreak whose as_entry slots told made other → found ≡ other
  one_item told made found other (inl one) (inl also) =
      let first = one.first in
      let second = also.first in
      let same = one_place (λ some y. slots ≤ whose y) told one.item also.item
      (first_not (λ y. whose y < slots) (λ y. slots ≤ whose y) told first.prefix one.item first.later first.parts
      first.known first.beyond (λ y low high. not_both slots (whose y) low high))
      (first_not (λ y. whose y < slots) (λ y. slots ≤ whose y) told second.prefix also.item second.later second.parts
      second.known second.beyond (λ y low high. not_both slots (whose y) low high)) in
      one.is ∙ ap (λ y. tells (Some (as_entry y)) None) same.1 ∙ sym also.is
  one_item told made found other (inl one) (inr also) =
      absurd (not_both slots (whose one.item)
      (all_behind (λ y. whose y < slots) one.first.prefix one.item one.first.later
      (subst (AreOfSlots whose slots) one.first.parts also.0)) one.first.beyond)
  one_item told made found other (inr one) (inl also) =
      absurd (not_both slots (whose also.item)
      (all_behind (λ y. whose y < slots) also.first.prefix also.item also.first.later
      (subst (AreOfSlots whose slots) also.first.parts one.0)) also.first.beyond)
  one_item told made found other (inr one) (inr also) =
      let same = one_difference (in_slot_order whose slots told) made one.1.stands one.1.due also.1.stands also.1.due
      one.1.first also.1.first in
      one.1.is ∙ ap (λ stands. tells (option_map as_entry stands) (option_map as_entry one.1.due)) same.0
      ∙ ap (λ due. tells (option_map as_entry also.1.stands) (option_map as_entry due)) same.1 ∙ sym also.1.is

  module _ (told : ℕ → List X) (made : EpochReport → List X) (epochs : List EpochReport)
      (by : (prefix later : List EpochReport) (now : EpochReport) → epochs ≡ prefix ++ now ∷ later
      → AreBySlot whose slots (made now)) where
    agrees_within : (epoch : ℕ) (some : List EpochReport) (now : EpochReport) (more : List EpochReport)
        → AgreeUpTo whose told made epoch (some ++ now ∷ more)
        → AgreeBySlot whose (told (epoch + length some)) (made now)
    agrees_within epoch [] now more agree =
        let at : epoch ≡ epoch + 0 = omega arith in
        subst (λ k. AgreeBySlot whose (told k) (made now)) at agree.0
    agrees_within epoch (first ∷ some) now more agree =
        let at : epoch + 1 + length some ≡ epoch + suc (length some) = omega arith in
        subst (λ k. AgreeBySlot whose (told k) (made now)) at (agrees_within (epoch + 1) some now more agree.1)

    first_epoch : (found : Break) (one : EpochDiffers whose as_entry slots told made epochs found)
        → IsFirst (λ some now. AgreeBySlot whose (told (length some)) (made now) → ⊥) epochs one.now
    first_epoch found one = record {
      prefix = one.prefix;
      later = one.later;
      parts = one.parts;
      here = λ agree. item_broken whose as_entry slots (told (length one.prefix)) (made one.now) found
          (by one.prefix one.later one.now one.parts) one.first agree;
      before = λ some now more is bad.
          let at : 0 + length some ≡ length some = omega arith in
          bad (subst (λ k. AgreeBySlot whose (told k) (made now)) at
          (agrees_within 0 some now more (subst (AgreeUpTo whose told made 0) is one.holds)));
    }

    pub one_epoch : (found other : Break) → EpochsBreak whose as_entry slots told made epochs found
        → EpochsBreak whose as_entry slots told made epochs other → found ≡ other
    unfolding first_epoch
    one_epoch found other (inl one) (inl also) =
        let both : one.item ∷ one.others ≡ also.item ∷ also.others = sym one.stands ∙ also.stands in
        let same : one.item ≡ also.item = cc in
        one.is ∙ ap (λ y. tells (Some (as_entry y)) None) same ∙ sym also.is
    one_epoch found other (inl one) (inr also) =
        absurd (omega (
          arith,
          one.none,
          ap length also.parts ∙ length-append also.prefix (also.now ∷ also.later),
        ))
    one_epoch found other (inr one) (inl also) =
        absurd (omega (arith, also.none, ap length one.parts ∙ length-append one.prefix (one.now ∷ one.later)))
    one_epoch found other (inr one) (inr also) =
        let same = one_place (λ some now. AgreeBySlot whose (told (length some)) (made now) → ⊥) epochs one.now also.now
        (first_epoch found one) (first_epoch other also) in
        one_item (told (length also.prefix)) (made also.now) found other
        (subst (λ (now : EpochReport). ItemBreak whose as_entry slots (told (length also.prefix)) (made now) found) same.1
        (subst (λ (prefix : List EpochReport). ItemBreak whose as_entry slots (told (length prefix)) (made one.now) found)
        same.0 one.first)) also.first

-- ---- open counters

first_too_many : (made told : List ChargeEntry) (open_ : ChargeEntry) → Surplus made told (Some open_)
    → IsFirst (IsTooMany made) told open_
first_too_many made told open_ one = record {
  prefix = one.prefix;
  later = one.later;
  parts = one.parts;
  here = one.too_many;
  before = λ some y more is bad. one.before some more y is bad;
}

one_surplus : (made told : List ChargeEntry) (one other : Option ChargeEntry) → Surplus made told one
    → Surplus made told other → one ≡ other
one_surplus made told None None one other = refl
one_surplus made told None (Some open_) one other = absurd (one other.prefix other.later open_ other.parts other.too_many)
one_surplus made told (Some open_) None one other = absurd (other one.prefix one.later open_ one.parts one.too_many)
one_surplus made told (Some open_) (Some again) one other =
    ap (λ o. Some o) (one_place (IsTooMany made) told open_ again (first_too_many made told open_ one)
    (first_too_many made told again other)).1

one_open : (told made : List ChargeEntry) (found other : Break) → OpenBreakOf told made found
    → OpenBreakOf told made other → found ≡ other
one_open told made found other (inl one) (inl also) =
    let same = one_place (λ some y. Contains told y → ⊥) made one.open_ also.open_
    (first_not (Contains told) (λ y. Contains told y → ⊥) made one.prefix one.open_ one.later one.parts one.holds
    one.missing (λ y there none. none there))
    (first_not (Contains told) (λ y. Contains told y → ⊥) made also.prefix also.open_ also.later also.parts also.holds
    also.missing (λ y there none. none there)) in
    one.is
    ∙ ap (λ y. tells (option_map entry.Charge (find (same_life y) told)) (Some (entry.Charge y))) same.1 ∙ sym also.is
one_open told made found other (inl one) (inr also) =
    absurd (one.missing (all_behind (Contains told) one.prefix one.open_ one.later
    (subst (All (Contains told)) one.parts also.each)))
one_open told made found other (inr one) (inl also) =
    absurd (also.missing (all_behind (Contains told) also.prefix also.open_ also.later
    (subst (All (Contains told)) also.parts one.each)))
one_open told made found other (inr one) (inr also) =
    one.is
    ∙ ap (λ surplus. tells (option_map entry.Charge surplus) None)
    (one_surplus made told one.surplus also.surplus one.first also.first)
    ∙ sym also.is

-- ---- effects go before records, and these before open counters

module _ (slots : ℕ) (made : List (List Meaning)) (entries : List Entry) (epochs : List (List LineTold)) where
  one_charge : (found other : Break) → ChargeBreak slots made entries (made_report slots epochs) found
      → ChargeBreak slots made entries (made_report slots epochs) other → found ≡ other
  one_charge found other (inl one) (inl also) =
      one_epoch slot_effected entry.Effect slots (λ epoch. effects_told made epoch entries)
      (λ (now : EpochReport). now.effects) (made_report slots epochs).epochs (effects_by slots no_events epochs) found
      other one also
  one_charge found other (inl one) (inr also) =
      absurd (effects_clash slots made entries epochs found one also.0)
  one_charge found other (inr one) (inl also) =
      absurd (effects_clash slots made entries epochs other also one.0)
  one_charge found other (inr (effects, inl one)) (inr (effects_too, inl also)) =
      one_epoch slot_charged entry.Charge slots (λ epoch. rows_told made epoch entries)
      (λ (now : EpochReport). now.rows) (made_report slots epochs).epochs (rows_by slots no_events epochs) found other
      one also
  one_charge found other (inr (effects, inl one)) (inr (effects_too, inr also)) =
      absurd (rows_clash slots made entries epochs found one also.0)
  one_charge found other (inr (effects, inr one)) (inr (effects_too, inl also)) =
      absurd (rows_clash slots made entries epochs other also one.0)
  one_charge found other (inr (effects, inr one)) (inr (effects_too, inr also)) =
      one_open (opens_told entries) (made_report slots epochs).opens found other one.1 also.1

pub one_break : OneBreakOfCharges
one_break setup slots made entries told other one also =
    one_charge slots made entries (told_epochs made entries) told other one also

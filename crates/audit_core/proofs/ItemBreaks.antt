-- What was found of the items of an epoch, and of open counters.
use Rattle.std.proofs.Common.{◌≡◌, ℕ, ◌+◌, ◌⊎◌, ◌↔◌, ◌||◌, Bool, true, false, not, IsTrue, IfNone, IfOk, IfSome, Result, Option, None, ◌<◌, ◌++◌, ◌∷◌, List, [], length, get_or, take, drop, refl, sym, ap, ◌∙◌, subst, inl, inr}
use Rattle.std.specs.Borrow.{Bor}
use Rattle.std.specs.List.{All, Contains, filter_map}
use Rattle.std.proofs.lemmas.List.{map-append, take_more}
use Rattle.std.proofs.lemmas.List.Elements.{filter_map-append}
use Rattle.std.specs.Option.{option_map}
use Rattle.std.specs.declared.alloc.AllocError.{AllocError}
use Rattle.report_lines.specs.declared.entry.ChargeEntry.{ChargeEntry}
use Rattle.report_lines.specs.declared.entry.Entry.{Entry}
use Rattle.report_lines.specs.declared.entry.Entry.TheVariants as entry
use Rattle.audit_core.specs.declared.sharing.Keyed.{Keyed}
use Rattle.audit_core.specs.Sharing.{arranged, under}
use Rattle.audit_core.specs.Agreeing.{AgreeBySlot, AreBySlot, lent, of_slot}
use Rattle.audit_core.specs.Charges.{AreOfSlots, ItemBreak, ItemDiffers, OpenBreakOf, Surplus}
use Rattle.audit_core.specs.Matched.{entries_stood}
use Rattle.audit_core.specs.Places.{first_of}
use Rattle.audit_core.specs.Same.{said_at}
use Rattle.audit_core.specs.Telling.{tells_said}
use Rattle.audit_core.specs.declared.report.Stood.{Stood}
use Rattle.audit_core.specs.declared.telling.Break.{Break}
use Rattle.audit_core.specs.declared.telling.SaidEntry.{SaidEntry}
use Rattle.audit_core.proofs.KeyedLemmas.{agreeing, arranged_flat, none_under}
use Rattle.audit_core.proofs.WhyFound.{none_weaker, some_weaker}
use Rattle.audit_core.proofs.TellLemmas.{tells_is}

-- the items of an epoch, where none is of a slot that there isn't
module _ {X : Type 0} (whose : X → ℕ) (as_entry : X → Entry) (slots : ℕ) (told made : List X)
    (keyed : List (Keyed (Bor X))) (in_order : List (Bor X)) (result : Result (Option Break) AllocError)
    (by : AreBySlot whose slots made) (are : (slot : ℕ) → lent (under slot keyed) ≡ of_slot whose slot told)
    (same : in_order ≡ arranged slots keyed) (known : AreOfSlots whose slots told) where
  pub items_differ : IfOk result (λ found. IfSome found (ItemDiffers as_entry (lent in_order) made))
      → IfOk result (λ found. IfSome found (ItemBreak whose as_entry slots told made))
  items_differ differs =
      some_weaker (ItemDiffers as_entry (lent in_order) made) (ItemBreak whose as_entry slots told made) result
      (λ found there. inr (
        known,
        subst (λ xs. ItemDiffers as_entry xs made found)
            (ap lent same ∙ arranged_flat whose slots keyed told made by are) there,
      ))
      differs

  pub items_agree : IfOk result (λ found. IfNone found (lent in_order ≡ made))
      → IfOk result (λ found. IfNone found (AgreeBySlot whose told made))
  items_agree differs =
      none_weaker result
      (λ is. (agreeing whose slots keyed told made by are (none_under whose slots keyed told are known)).0
      (ap lent (sym same) ∙ is)) differs

-- open counters that are too many
pub opens_too_many : (told made : List ChargeEntry) (at : ℕ) (said : Option SaidEntry) (found : Break)
    → All (Contains told) made → (length told ≡ length made → ⊥) → Surplus made told (first_of (drop at told))
    → said ≡ said_at entry.Charge told at → found ≡ tells_said said None → OpenBreakOf told made found
opens_too_many told made at said found each other surplus one is = inr (record {
  each = each;
  other_count = other;
  surplus = first_of (drop at told);
  first = surplus;
  is = is ∙ ap (λ s. tells_said s None) one ∙ tells_is (option_map entry.Charge (first_of (drop at told))) None;
})

pub too_many_by : (again known : Bool) (P Q : Type 0) → (IsTrue again ↔ P) → (IsTrue known ↔ Q)
    → IsTrue (again || not known) ↔ (P ⊎ ¬ Q)
too_many_by true known P Q is has = ((λ yes. inl (is.0 refl)), (λ either. refl))
too_many_by false true P Q is has = (
  (λ yes. cc),
  (λ either. elim either [ inl p ↦ is.1 p | inr none ↦ absurd (none (has.0 refl)) ]),
)
too_many_by false false P Q is has = ((λ yes. inr (λ q. let no = has.1 q in cc)), (λ either. refl))

-- one entry more that was read
pub told_more : {X : Type 0} (of : Entry → Option X) (entries : List Stood) (i : ℕ) (stood : Stood)
    → i < length entries → stood ≡ get_or entries i stood
    → filter_map of (entries_stood (take i entries)) ++ filter_map of (stood.entry ∷ [])
    ≡ filter_map of (entries_stood (take (i + 1) entries))
told_more of entries i stood low is =
    sym (filter_map-append of (entries_stood (take i entries)) (stood.entry ∷ []))
    ∙ ap (filter_map of) (sym (map-append (λ (s : Stood). s.entry) (take i entries) (stood ∷ [])))
    ∙ ap (λ s. filter_map of (entries_stood (take i entries ++ s ∷ []))) is
    ∙ ap (λ l. filter_map of (entries_stood l)) (sym (take_more entries i stood low))

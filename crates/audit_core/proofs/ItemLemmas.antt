-- The items at the first place at which two lists differ.
use Rattle.std.proofs.Common.{◌≡◌, ◌≢◌, ℕ, ◌+◌, ◌<◌, ◌≤◌, Bool, true, false, if◌then◌else◌, Some, None, List, ◌∷◌, length, drop, find, refl, sym, ap, ◌∙◌}
use Rattle.std.specs.Option.{option_map}
use Rattle.std.proofs.lemmas.List.{drop_all}
use Rattle.report_lines.specs.declared.entry.Entry.{Entry}
use Rattle.audit_core.specs.Charges.{ItemDiffers}
use Rattle.audit_core.specs.Places.{first_of}
use Rattle.audit_core.specs.Same.{SameUpTo, said_at}
use Rattle.audit_core.specs.Telling.{said_of, tells_said}
use Rattle.audit_core.specs.declared.telling.Break.{Break}
use Rattle.audit_core.specs.declared.telling.SaidEntry.{SaidEntry}
use Rattle.audit_core.proofs.Differing.{first_difference, some_there}
use Rattle.audit_core.proofs.TellLemmas.{tells_is}

module _ {X : Type 0} (as_entry : X → Entry) where
  -- the entry of the item at a place
  pub said_past : (items : List X) (at : ℕ) → length items ≤ at → None ≡ said_at as_entry items at
  said_past items at past =
      ap (λ rest. option_map said_of (option_map as_entry (first_of rest))) (sym (drop_all at items past))

  pub said_there : (items : List X) (at : ℕ) (x : X) (said : SaidEntry) → drop at items ≡ x ∷ drop (at + 1) items
      → said ≡ said_of (as_entry x)
      → Some said ≡ said_at as_entry items at
  said_there items at x said parts is =
      ap Some is ∙ ap (λ rest. option_map said_of (option_map as_entry (first_of rest))) (sym parts)

  past_differs : (told made : List X) (at : ℕ) → (length made ≤ at → at < length told) → length made ≤ at
      → first_of (drop at told) ≢ first_of (drop at made)
  past_differs told made at some past same =
      some_there told at (some past) (same ∙ ap first_of (drop_all at made past))

  pub item_differs : (told made : List X) (at : ℕ) (found : Break) → SameUpTo told made at
      → (length made ≤ at → at < length told)
      → found ≡ tells_said (said_at as_entry told at) (said_at as_entry made at)
      → ItemDiffers as_entry told made found
  item_differs told made at found up some is = record {
    stands = first_of (drop at told);
    due = first_of (drop at made);
    first = first_difference told made at (first_of (drop at told)) (first_of (drop at made)) up refl refl
        (past_differs told made at some);
    is = is ∙ tells_is (option_map as_entry (first_of (drop at told))) (option_map as_entry (first_of (drop at made)));
  }

-- the first item that passes a test, among those that are left
pub find_next : {X : Type 0} (p : X → Bool) (items : List X) (i : ℕ) (x : X) → drop i items ≡ x ∷ drop (i + 1) items
    → p x ≡ false → find p (drop i items) ≡ find p items
    → find p (drop (i + 1) items) ≡ find p items
find_next p items i x parts fails before =
    ap (λ test. if test then Some x else find p (drop (i + 1) items)) (sym fails)
    ∙ ap (find p) (sym parts) ∙ before

pub find_here : {X : Type 0} (p : X → Bool) (items : List X) (i : ℕ) (x : X) → drop i items ≡ x ∷ drop (i + 1) items
    → p x ≡ true → find p (drop i items) ≡ find p items → Some x ≡ find p items
find_here p items i x parts passes before =
    ap (λ test. if test then Some x else find p (drop (i + 1) items)) (sym passes)
    ∙ ap (find p) (sym parts) ∙ before

pub find_none : {X : Type 0} (p : X → Bool) (items : List X) (i : ℕ) → length items ≤ i
    → find p (drop i items) ≡ find p items → None ≡ find p items
find_none p items i past before = ap (find p) (sym (drop_all i items past)) ∙ before

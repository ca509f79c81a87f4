-- The entries of a report, held against those due one after another.
use Rattle.std.proofs.Common.{◌≡◌, ℕ, ◌+◌, Some, None, ◌<◌, ◌≤◌, List, [], ◌∷◌, ◌++◌, length, map, take, drop, get_or, refl, sym, ap, ◌∙◌, subst, arith, append_assoc, append-nil, length-append}
use Rattle.std.proofs.lemmas.List.{drop_at, take_all}
use Rattle.report_lines.specs.declared.entry.Entry.{Entry}
use Rattle.audit_core.specs.Dues.{DiffersAt, IsOther, StandsSo}
use Rattle.audit_core.specs.Places.{first_of}
use Rattle.audit_core.specs.Telling.{tells}
use Rattle.audit_core.specs.Why.{OrderBreak}
use Rattle.audit_core.specs.declared.telling.Break.{Break}
use Rattle.audit_core.proofs.RestLemmas.{mapped_more}

module _ (entries asked : List Entry) where
  -- what stands at the place
  there : (place : ℕ) (so : StandsSo entries asked place) → first_of (drop place entries) ≡ first_of so.left
  there place so = ap first_of (ap (drop place) so.parts ∙ drop_at asked so.left place (sym so.behind))

  first_taken : (left : List Entry) (due : Entry) → first_of left ≡ Some due
      → (rest : List Entry) × (left ≡ due ∷ rest)
  first_taken [] due is = absurd (cc)
  first_taken (x ∷ rest) due is = let same : x ≡ due = cc in (rest, ap (λ y. y ∷ rest) same)

  -- one more that is asked for stands there
  pub asked_there : (place : ℕ) (due : Entry) → StandsSo entries asked place
      → first_of (drop place entries) ≡ Some due → StandsSo entries (asked ++ due ∷ []) (place + 1)
  asked_there place due so is =
      let rest = first_taken so.left due (sym (there place so) ∙ is) in
      record {
        left = rest.0;
        parts = so.parts ∙ ap (λ l. asked ++ l) rest.1 ∙ sym (append_assoc asked (due ∷ []) rest.0);
        behind = omega (arith, so.behind, length-append asked (due ∷ []));
      }

  -- or doesn't
  pub asked_other : (place : ℕ) (due : Entry) (found : Break) → StandsSo entries asked place
      → IsOther (first_of (drop place entries)) due found → DiffersAt entries (asked ++ due ∷ []) found
  asked_other place due found so other = record {
    same = asked;
    left = so.left;
    due = due;
    later = [];
    told_parts = so.parts;
    made_parts = refl;
    other = subst (λ o. IsOther o due found) (there place so) other;
  }

  -- what differs does so whatever is asked for behind it
  pub differs_on : (more : List Entry) (found : Break) → DiffersAt entries asked found
      → DiffersAt entries (asked ++ more) found
  differs_on more found differs = record {
    same = differs.same;
    left = differs.left;
    due = differs.due;
    later = differs.later ++ more;
    told_parts = differs.told_parts;
    made_parts = ap (λ l. l ++ more) differs.made_parts ∙ append_assoc differs.same (differs.due ∷ differs.later) more;
    other = differs.other;
  }

  pub differs_order : (found : Break) → DiffersAt entries asked found → OrderBreak entries asked found
  differs_order found differs = record {
    stands = first_of differs.left;
    asked = Some differs.due;
    first = record {
      same = differs.same;
      told_left = differs.left;
      made_left = differs.due ∷ differs.later;
      told_parts = differs.told_parts;
      made_parts = differs.made_parts;
      stands_there = refl;
      due_there = refl;
      differ = differs.other.differ;
    };
    is = differs.other.is;
  }

  -- no more are asked for
  pub one_more : (place : ℕ) (one : Entry) (found : Break) → StandsSo entries asked place
      → first_of (drop place entries) ≡ Some one → found ≡ tells (Some one) None → OrderBreak entries asked found
  one_more place one found so is told = record {
    stands = Some one;
    asked = None;
    first = record {
      same = asked;
      told_left = so.left;
      made_left = [];
      told_parts = so.parts;
      made_parts = sym (append-nil asked);
      stands_there = sym is ∙ there place so;
      due_there = refl;
      differ = λ same. cc;
    };
    is = told;
  }

  none_left : (left : List Entry) → first_of left ≡ None → left ≡ []
  none_left [] is = refl
  none_left (x ∷ left) is = absurd (cc)

  pub no_more : (place : ℕ) → StandsSo entries asked place → first_of (drop place entries) ≡ None → entries ≡ asked
  no_more place so is =
      so.parts ∙ ap (λ l. asked ++ l) (none_left so.left (sym (there place so) ∙ is)) ∙ append-nil asked

-- one item more is asked for
pub more_asked : {X : Type 0} (as_entry : X → Entry) (asked : List Entry) (items : List X) (i : ℕ) (x : X)
    → i < length items → x ≡ get_or items i x
    → (asked ++ map as_entry (take i items)) ++ as_entry x ∷ [] ≡ asked ++ map as_entry (take (i + 1) items)
more_asked as_entry asked items i x low is = mapped_more as_entry asked items i x low is

pub all_asked : {X : Type 0} (as_entry : X → Entry) (asked : List Entry) (items : List X) (i : ℕ)
    → length items ≤ i → asked ++ map as_entry (take i items) ≡ asked ++ map as_entry items
all_asked as_entry asked items i past = ap (λ l. asked ++ map as_entry l) (take_all i items past)

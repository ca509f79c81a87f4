-- What lines tell, one behind another, up to the first that tells something else than what was made.
use Rattle.std.proofs.Common.{◌≡◌, ℕ, ◌+◌, ◌≤◌, Option, Some, None, IfSome, List, [], ◌∷◌, ◌++◌, length, map, take, drop, refl, sym, ap, ◌∙◌, subst, arith, append-nil, append_assoc}
use Rattle.std.specs.List.{All, cons_option, filter_map}
use Rattle.std.specs.Option.{option_map, option_to_list}
use Rattle.std.proofs.lemmas.List.{take_all}
use Rattle.std.proofs.lemmas.List.Elements.{All-head, All-tail, filter_map-append}
use Rattle.report_lines.specs.declared.entry.Entry.{Entry}
use Rattle.report_lines.specs.declared.entry.Entry.TheVariants as entry
use Rattle.report_lines.specs.declared.entry.LineEntry.{LineEntry}
use Rattle.lawful_run.specs.LinesTold.{LineTold}
use Rattle.audit_core.specs.Gateway.{FirstSaid, IsOther, TooFew, none_told}
use Rattle.audit_core.specs.Places.{first_of}
use Rattle.audit_core.specs.Telling.{tells}
use Rattle.audit_core.specs.declared.telling.Break.{Break}

-- the first lines tell the first of what was made, and these are left
abbrev pub SaidUpTo : {X : Type 0} → (LineTold → Option X) → List X → List LineTold → ℕ → List X → Type 0
SaidUpTo tell made lines i left = filter_map tell (take i lines) ++ left ≡ made

one_behind : {X : Type 0} (o : Option X) (later : List X) → cons_option o [] ++ later ≡ cons_option o later
one_behind None later = refl
one_behind (Some x) later = refl

module _ {X : Type 0} (tell : LineTold → Option X) (made : List X) (lines : List LineTold) where
  pub said_next : (i : ℕ) (now : LineTold) (left later : List X) → take (i + 1) lines ≡ take i lines ++ now ∷ []
      → left ≡ cons_option (tell now) later → SaidUpTo tell made lines i left → SaidUpTo tell made lines (i + 1) later
  said_next i now left later more parts said =
      ap (λ prefix. filter_map tell prefix ++ later) more
      ∙ ap (λ told. told ++ later) (filter_map-append tell (take i lines) (now ∷ []))
      ∙ append_assoc (filter_map tell (take i lines)) (cons_option (tell now) []) later
      ∙ ap (λ rest. filter_map tell (take i lines) ++ rest) (one_behind (tell now) later ∙ sym parts) ∙ said

  pub said_other : (due : LineEntry → Option X → Option Entry) (i : ℕ) (now : LineTold) (left : List X)
      (next : Option X) (found : Break) → lines ≡ take i lines ++ now ∷ drop (i + 1) lines
      → IsOther (tell now) left next → SaidUpTo tell made lines i left
      → found ≡ tells (Some (entry.Line now.entry)) (due now.entry next)
      → FirstSaid tell due made lines found
  said_other due i now left next found parts other said is = record {
    prefix = take i lines;
    now = now;
    later = drop (i + 1) lines;
    said = other.said;
    left = left;
    parts = parts;
    says = other.says;
    holds = said;
    broken = λ same. other.differs (sym other.first ∙ same);
    is = is ∙ ap (λ o. tells (Some (entry.Line now.entry)) (due now.entry o)) (sym other.first);
  }

  pub said_all : (i : ℕ) (left : List X) → length lines ≤ i → left ≡ [] → SaidUpTo tell made lines i left
      → filter_map tell lines ≡ made
  said_all i left past none said =
      sym (append-nil (filter_map tell lines)) ∙ ap (λ rest. filter_map tell lines ++ rest) (sym none)
      ∙ ap (λ some. filter_map tell some ++ left) (sym (take_all i lines past)) ∙ said

  pub said_too_few : (slot i : ℕ) (left : List X) (found : Break) → length lines ≤ i → (length left ≡ 0 → ⊥)
      → SaidUpTo tell made lines i left → found ≡ none_told slot → TooFew slot made (filter_map tell lines) found
  said_too_few slot i [] found past some said is = absurd (some refl)
  said_too_few slot i (x ∷ left) found past some said is = record {
    next = x;
    left = left;
    holds = ap (λ some. filter_map tell some ++ x ∷ left) (sym (take_all i lines past)) ∙ said;
    is = is;
  }

-- the first of what is left is taken
module _ {A X : Type 0} (f : A → X) where
  pub first_taken : (own : Option A) (old new : List A) → old ≡ option_to_list own ++ new → new ≡ drop 1 old
      → first_of (map f old) ≡ option_map f own
  first_taken None [] new items rest = refl
  first_taken None (a ∷ old) new items rest =
      absurd (omega (arith, ap length items, ap length rest))
  first_taken (Some a) old new items rest = ap (λ some. first_of (map f some)) items

  pub rest_taken : (own : Option A) (x : X) (old new : List A) → old ≡ option_to_list own ++ new
      → option_map f own ≡ Some x → map f old ≡ x ∷ map f new
  rest_taken None x old new items is = cc
  rest_taken (Some a) x old new items is =
      let same : f a ≡ x = cc in
      ap (map f) items ∙ ap (λ y. y ∷ map f new) same

pub own_holds : {A : Type 0} (P : A → Type 0) (own : Option A) (old new : List A)
    → old ≡ option_to_list own ++ new → All P old → IfSome own P
own_holds P None old new items all = tt
own_holds P (Some a) old new items all = All-head P a new (subst (All P) items all)

pub rest_holds : {A : Type 0} (P : A → Type 0) (own : Option A) (old new : List A)
    → old ≡ option_to_list own ++ new → All P old → All P new
rest_holds P None old new items all = subst (All P) items all
rest_holds P (Some a) old new items all = All-tail P a new (subst (All P) items all)

-- the next is told, or another
pub is_told : {A X : Type 0} (f : A → X) (told : Option X) (own : Option A) (x : X) (old new : List A)
    → old ≡ option_to_list own ++ new → told ≡ Some x → option_map f own ≡ Some x
    → map f old ≡ cons_option told (map f new)
is_told f told own x old new items says is =
    rest_taken f own x old new items is ∙ ap (λ o. cons_option o (map f new)) (sym says)

pub is_other : {A X : Type 0} (f : A → X) (told : Option X) (own : Option A) (x : X) (old new : List A)
    → old ≡ option_to_list own ++ new → new ≡ drop 1 old → told ≡ Some x → (option_map f own ≡ Some x → ⊥)
    → IsOther told (map f old) (option_map f own)
is_other f told own x old new items rest says differ = record {
  said = x;
  says = says;
  first = first_taken f own old new items rest;
  differs = differ;
}

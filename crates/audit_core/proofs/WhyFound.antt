-- What was found, and what holds where nothing was.
use Rattle.std.proofs.Common.{◌≡◌, IfNone, IfOk, IfSome, OnOk, Result, Ok, Err, Option, None, Some, refl, ◌∙◌, subst}
use Rattle.std.specs.declared.alloc.AllocError.{AllocError}

pub none_found : {X Q : Type 0} (found : Option X) → IfNone found Q → found ≡ None → Q
none_found None none is = none
none_found (Some x) none is = cc

pub none_when : {X Q : Type 0} (found : Option X) → IfNone found Q → ((x : X) → found ≡ Some x → ⊥) → Q
none_when None none other = none
none_when (Some x) none other = absurd (other x refl)

pub some_found : {X : Type 0} (P : X → Type 0) (found : Option X) (x : X) → IfSome found P → found ≡ Some x → P x
some_found P None x some is = cc
some_found P (Some y) x some is = let same : y ≡ x = cc in subst P same some

-- unless memory ran out
pub none_weaker : {X Q R : Type 0} (result : Result (Option X) AllocError) → (Q → R)
    → IfOk result (λ found. IfNone found Q)
    → IfOk result (λ found. IfNone found R)
none_weaker (Err none) from holds = tt
none_weaker (Ok None) from holds = from holds
none_weaker (Ok (Some found)) from holds = tt

pub some_weaker : {X : Type 0} (P Q : X → Type 0) (result : Result (Option X) AllocError) → ((x : X) → P x → Q x)
    → IfOk result (λ found. IfSome found P)
    → IfOk result (λ found. IfSome found Q)
some_weaker P Q (Err none) from holds = tt
some_weaker P Q (Ok None) from holds = tt
some_weaker P Q (Ok (Some x)) from holds = from x holds

pub ok_by : {X : Type 0} (said due : X) (result : Result X AllocError) → IfOk result (λ found. found ≡ said)
    → said ≡ due → IfOk result (λ found. found ≡ due)
ok_by said due (Ok x) is same = is ∙ same
ok_by said due (Err e) is same = tt

-- what a call's answers come to, unless memory ran out
pub on_two : {T E A B Q : Type 0} (r : Result T E) → (A → B → Q) → OnOk r A → OnOk r B → OnOk r Q
on_two (Ok done) from one two = from one two
on_two (Err e) from one two = tt

pub on_three : {T E A B C Q : Type 0} (r : Result T E) → (A → B → C → Q) → OnOk r A → OnOk r B → OnOk r C → OnOk r Q
on_three (Ok done) from one two three = from one two three
on_three (Err e) from one two three = tt

pub on_four : {T E A B C D Q : Type 0} (r : Result T E) → (A → B → C → D → Q) → OnOk r A → OnOk r B → OnOk r C → OnOk r D
    → OnOk r Q
on_four (Ok done) from one two three four = from one two three four
on_four (Err e) from one two three four = tt

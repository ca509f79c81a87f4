-- What follows of an answer.
use Rattle.std.proofs.Common.{Result, Ok, Err, OnOk}

pub on_ok : {T E : Type 0} {P Q : Type 0} (r : Result T E) → (P → Q) → OnOk r P → OnOk r Q
on_ok (Ok x) follows holds = follows holds
on_ok (Err e) follows holds = tt

-- what holds in any case
pub always_ok : {T E : Type 0} {P : Type 0} (r : Result T E) → P → OnOk r P
always_ok (Ok x) holds = holds
always_ok (Err e) holds = tt

-- from two facts of it
pub on_ok_both : {T E : Type 0} {P Q R : Type 0} (r : Result T E) → (P → Q → R) → OnOk r P → OnOk r Q → OnOk r R
on_ok_both (Ok x) follows first second = follows first second
on_ok_both (Err e) follows first second = tt

-- and from four
pub on_ok_all : {T E : Type 0} {P Q R S U : Type 0} (r : Result T E) → (P → Q → R → S → U) → OnOk r P → OnOk r Q
    → OnOk r R → OnOk r S → OnOk r U
on_ok_all (Ok x) follows first second third fourth = follows first second third fourth
on_ok_all (Err e) follows first second third fourth = tt

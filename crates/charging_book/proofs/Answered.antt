-- What is said of a call that went well.
use Rattle.std.proofs.Common.{Ok, Err, OnOk}
use Rattle.std.specs.Prelude.{Result}

pub on_ok : {T E : Type 0} {P Q : Type 0} (r : Result T E) → (P → Q) → OnOk r P → OnOk r Q
on_ok (Ok value) more is = more is
on_ok (Err fault) more is = tt

-- When F-TEIDs of a Context are the same: instance, interface, TEID and address.
use Rattle.std.specs.Prelude.{ℕ, Bool, nat_eq}
use Rattle.std.specs.Cmp.{IsEquivalence}
use Rattle.std.specs.Ordering.{on, eq_of_both}
use Rattle.std.proofs.lemmas.Cmp.{and_equiv, nat_eq_equiv}
use Rattle.std.specs.Cmp.{on_equiv}
use Rattle.gtpv2_ie.specs.declared.fteid.Fteid.{Fteid}

abbrev pub same_fteid : ℕ × Fteid → ℕ × Fteid → Bool
same_fteid =
    eq_of_both (on (λ (f : ℕ × Fteid). f.0) nat_eq)
    (eq_of_both (on (λ (f : ℕ × Fteid). f.1.interface) nat_eq)
    (eq_of_both (on (λ (f : ℕ × Fteid). f.1.teid) nat_eq) (on (λ (f : ℕ × Fteid). f.1.addr) nat_eq)))

pub same_fteid-is : IsEquivalence same_fteid
same_fteid-is =
    and_equiv (on_equiv (λ (f : ℕ × Fteid). f.0) nat_eq_equiv)
    (and_equiv (on_equiv (λ (f : ℕ × Fteid). f.1.interface) nat_eq_equiv)
    (and_equiv (on_equiv (λ (f : ℕ × Fteid). f.1.teid) nat_eq_equiv)
    (on_equiv (λ (f : ℕ × Fteid). f.1.addr) nat_eq_equiv)))

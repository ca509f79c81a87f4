use Rattle.std.proofs.Common.{◌≡◌, ℕ, ◌-◌, ◌<◌, Option, Some, None, refl, sym, subst, arith}
use Rattle.migration.specs.declared.data_leavers.Leavers.{Leavers}
use Rattle.migration.specs.DataLeavers.{Fewer, Shifts}
use Rattle.migration.proofs.data_leavers.Leavers.take.Goals as goal

-- one that was leaving a slice isn't any more
one_fewer : (was : Option ℕ) (slice : ℕ) (old new : Leavers) → was ≡ Some slice → 0 < old.all → new.all ≡ old.all - 1
    → Fewer slice old.at new.at → Shifts was None old new
one_fewer was slice old new is some all fewer =
    subst (λ (at : Option ℕ). Shifts at None old new) (sym is) (record {
      each = λ other. let a = fewer other in omega arith;
      all = omega (arith, some, all);
    })

pub overflow_sub-self : goal.overflow_sub-self
overflow_sub-self c = let some = c.requires c.in-Some.slice c.in-Some.is in omega (arith, some.0)

pub returns-in-Some : goal.returns-in-Some
returns-in-Some c =
    let some = c.requires c.in-Some.slice c.in-Some.is in
    one_fewer _ c.in-Some.slice _ _ c.in-Some.is some.0 refl c.fewer.ensures

-- Own meters that are kept, and those that aren't yet.
use Rattle.std.proofs.Common.{◌≡◌, ℕ, zero, suc, ◌<◌, List, [], ◌∷◌, length, get_or, set, refl, sym, ◌∙◌, ap, subst, arith}
use Rattle.std.specs.List.{AllByRecursion}
use Rattle.std.proofs.Math.ListN.{length-set}
use Rattle.packet_steps.specs.declared.meters.Meter.{Meter}
use Rattle.packet_steps.specs.Meters.{MetersState, unused, no_meters, own_in_use}

unused_at : (own : List Meter) (index : ℕ) → AllByRecursion (λ (meter : Meter). meter ≡ unused) own
    → get_or own index unused ≡ unused
unused_at [] index each = refl
unused_at (first ∷ others) zero each = each.0
unused_at (first ∷ others) (suc index) each = unused_at others index each.1

-- the own meter at an index, kept or not
pub own_is : (own : List Meter) (index : ℕ) → get_or own index unused ≡ get_or (own_in_use own) index unused
own_is [] index = sym (unused_at no_meters index
    (refl, (refl, (refl, (refl, (refl, (refl, (refl, (refl, (refl, (refl, (refl, tt))))))))))))
own_is (first ∷ others) index = refl

pub kept : (own : List Meter) → 0 < length own → own_in_use own ≡ own
kept [] some = absurd (omega (arith, some))
kept (first ∷ others) some = refl

-- one more in its place
pub put_kept : (own new : List Meter) (index : ℕ) (meter : Meter) → 0 < length own → new ≡ set own index meter
    → own_in_use new ≡ set (own_in_use own) index meter
put_kept own new index meter some is =
    kept new (subst (λ n. 0 < n) (sym (ap length is ∙ length-set own index meter)) some)
    ∙ is ∙ ap (λ all. set all index meter) (sym (kept own some))

-- meters by their two fields
abbrev pub state_of : Meter → List Meter → MetersState
state_of shared own = record { shared = shared; own = own }

pub same_state : (shared was : Meter) (own old : List Meter) → shared ≡ was → own ≡ old
    → state_of shared own ≡ state_of was old
same_state shared was own old same is = λ i. state_of (same i) (is i)

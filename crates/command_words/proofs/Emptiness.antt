-- Lists of kinds of errors that are empty, and values where a test passes.
use Rattle.std.proofs.Common.{◌≡◌, ◌&&◌, Bool, true, false, cond, refl, [], ◌∷◌, Option, Some, None, option_map}
use Rattle.clap.specs.Kinds.{Kinds, or_else}

abbrev pub none : Kinds → Bool
none [] = true
none (k ∷ ks) = false

pub none-or_else : (a b : Kinds) → none (or_else a b) ≡ (none a && none b)
none-or_else [] b = refl
none-or_else (k ∷ ks) b = refl

pub none_is : (a : Kinds) → none a ≡ true → a ≡ []
none_is [] e = refl
none_is (k ∷ ks) e = absurd (cc)

abbrev pub guard : {X : Type 0} → Bool → Option X → Option X
guard b o = cond b o None

pub guard-none : {X : Type 0} (b : Bool) (o : Option X) → o ≡ None → guard b o ≡ None
guard-none true o e = e
guard-none false o e = refl

pub guard-three : {X : Type 0} (a b c : Bool) (o : Option X) → guard a (guard (b && c) o) ≡ guard ((a && b) && c) o
guard-three true b c o = refl
guard-three false b c o = refl

pub map-guard : {X Y : Type 0} (f : X → Y) (b : Bool) (o : Option X)
    → option_map f (guard b o) ≡ guard b (option_map f o)
map-guard f true o = refl
map-guard f false o = refl

-- what passes a test shows that it passes
pub guard-passes : {X : Type 0} (b : Bool) (o : Option X) (x : X) → guard b o ≡ Some x → b ≡ true
guard-passes true o x e = refl
guard-passes false o x e = absurd (cc)

pub and-false : (b : Bool) → (b && false) ≡ false
and-false true = refl
and-false false = refl

pub and-nothing : (b : Bool) → (b && true) ≡ b
and-nothing true = refl
and-nothing false = refl

pub both : (a b : Bool) → (a && b) ≡ true → (a ≡ true) × (b ≡ true)
both true b e = (refl, e)
both false b e = absurd (cc)

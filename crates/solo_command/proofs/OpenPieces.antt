-- Each active bearer of a version has its piece.
use Rattle.std.proofs.Common.{◌≡◌, ◌==◌, Bool, true, false, cond, List, [], ◌∷◌, map, Option, Some, refl, ap, ◌∙◌, inl, inr, eq-eqb}
use Rattle.std.specs.List.{find}
use Rattle.std.proofs.lemmas.Bool.{false≢true}
use Rattle.charging_book.specs.Posted.{is_of}
use Rattle.charging_book.specs.declared.records.Piece.{Piece}
use Rattle.bearer_state.specs.Version.{VersionState}
use Rattle.bearer_state.specs.declared.version.ActiveBearer.{ActiveBearer}
use Rattle.gate_model.proofs.Members.{In, in_contains, in_any, of_map}
use Rattle.subscriber.specs.Alike.{life_of}
use Rattle.subscriber.specs.Charging.{AreOpen}
use Rattle.record_codec.specs.Saved.{piece_for}

found_if : {X : Type 0} (passes : Bool) (x : X) (rest : Option X) → ((y : X) × (rest ≡ Some y))
    → (y : X) × (cond passes (Some x) rest ≡ Some y)
found_if true x rest found = (x, refl)
found_if false x rest found = found

found_here : {X : Type 0} (passes : Bool) (x : X) (rest : Option X) → passes ≡ true
    → (y : X) × (cond passes (Some x) rest ≡ Some y)
found_here true x rest is = (x, refl)
found_here false x rest is = absurd (false≢true is)

in_found : {X : Type 0} (test : X → Bool) (x : X) (xs : List X) → In x xs → test x ≡ true
    → (y : X) × (find test xs ≡ Some y)
in_found test x [] there passed = absurd there
in_found test x (y ∷ xs) (inl here) passed = found_here (test y) y (find test xs) (ap test here ∙ passed)
in_found test x (y ∷ xs) (inr there) passed = found_if (test y) y (find test xs) (in_found test x xs there passed)

-- an active bearer has its piece
pub has_piece : (version : VersionState) (pieces : List Piece) → AreOpen version pieces → (b : ActiveBearer)
    → In b version.bearers → (p : Piece) × (piece_for pieces b ≡ Some p)
has_piece version pieces open_ b there =
    let named = in_any (λ (c : ActiveBearer). c.life == b.life) b version.bearers there (eq-eqb b.life b.life refl) in
    let among = of_map life_of b.life pieces (in_contains b.life (map life_of pieces) ((open_ b.life).1 named)) in
    in_found (is_of b.life) among.0 pieces among.1 (eq-eqb among.0.counts.life b.life among.2)

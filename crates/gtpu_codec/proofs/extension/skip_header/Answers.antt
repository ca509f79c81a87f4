use Rattle.std.proofs.Common.{◌≡◌, ℕ, ◌-◌, ◌*◌, ◌<◌, ◌≤◌, ◌⊎◌, inl, inr, List, length, get_or, take, drop, ◌∷◌, ap, sym, ◌∙◌, arith, length-drop}
use Rattle.std.proofs.Math.Seq.{take-length}
use Rattle.gtpu_codec.specs.Extension.{body_behind}
use Rattle.gtpu_codec.proofs.ExtensionLemmas.{broken_header, whole_header}
use Rattle.gtpu_codec.proofs.extension.skip_header.Goals as goal

pub returns-then-len-eq0 : goal.returns-then-len-eq0
returns-then-len-eq0 c = λ kind more.
    let is : 4 * c.from-len.result ≡ 4 * get_or c.args.octets.now 0 0 = ap (λ units. 4 * units) c.from-len.ensures in
    let broken : (4 * c.from-len.result ≡ 0) ⊎ (length c.args.octets.now < 4 * c.from-len.result)
    = elim c.then-len-eq0.either [ inl none ↦ inl none | inr passes ↦ inr passes.1 ] in
    broken_header kind c.args.octets.now (4 * c.from-len.result) more is broken

-- a slice from a place on is all that stands there
take-drop : (len : ℕ) (octets : List ℕ) → take (length octets - len) (drop len octets) ≡ drop len octets
take-drop len octets =
    ap (λ count. take count (drop len octets)) (sym (length-drop len octets)) ∙ take-length (drop len octets)

pub returns : goal.returns
returns c =
    let len : ℕ = 4 * c.from-len.result in
    let octets : List ℕ = c.args.octets.now in
    let is : len ≡ 4 * get_or octets 0 0 = ap (λ units. 4 * units) c.from-len.ensures in
    let some : 0 < len = omega (arith, c.if-len-eq0.false) in
    let fits : len ≤ length octets = c.if-len-octets.false in
    let rest : take (length octets - len) (drop len octets) ≡ drop len octets = take-drop len octets in (
      rw rest (omega (arith, length-drop len octets, some, fits)),
      λ kind more. whole_header kind octets len more is some fits
          ∙ ap (λ others. body_behind 0 (get_or octets (len - 1) 0 ∷ others)) (sym rest),
    )

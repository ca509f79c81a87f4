-- The text of a line of one message, from its head.
use Rattle.std.proofs.Common.{◌≡◌, ℕ, ◌-◌, List, [], ◌∷◌, ◌++◌, length, take, drop, ap, ◌∙◌, arith, append_assoc, Result, Ok, Err}
use Rattle.std.specs.Prelude.{OnOk}
use Rattle.std.specs.declared.alloc.AllocError.{AllocError}
use Rattle.std.proofs.lemmas.List.{take_all}
use Rattle.text_fields.specs.Fields.{joined}

-- all but the first octet
but_first : (octet : ℕ) (rest : List ℕ) → take (length (octet ∷ rest) - 1) (drop 1 (octet ∷ rest)) ≡ rest
but_first octet rest = take_all (length (octet ∷ rest) - 1) rest (omega arith)

-- the head has a space in front of its first field, which isn't written
pub said_in_head : (answer : Result (Unit {0}) AllocError) (moment word octets out head new : List ℕ)
    → head ≡ 32 ∷ (moment ++ (32 ∷ (word ++ 32 ∷ [])))
    → OnOk answer (new ≡ (out ++ take (length head - 1) (drop 1 head)) ++ octets)
    → OnOk answer (new ≡ out ++ joined (moment ∷ word ∷ octets ∷ []))
said_in_head (Ok done) moment word octets out head new is appended =
    let fields = moment ++ (32 ∷ (word ++ 32 ∷ [])) in
    appended ∙ append_assoc out (take (length head - 1) (drop 1 head)) octets
    ∙ ap (λ text. out ++ (text ++ octets)) (ap (λ h. take (length h - 1) (drop 1 h)) is ∙ but_first 32 fields)
    ∙ ap (λ text. out ++ text) (append_assoc moment (32 ∷ (word ++ 32 ∷ [])) octets
    ∙ ap (λ text. moment ++ 32 ∷ text) (append_assoc word (32 ∷ []) octets))
said_in_head (Err why) moment word octets out head new is appended = tt

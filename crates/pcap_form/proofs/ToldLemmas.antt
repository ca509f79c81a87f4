-- What is said of octets that a source tells, when it gives more of them.
use Rattle.std.proofs.Common.{◌≡◌, ℕ, List, [], ◌++◌, Option, None, Some, refl, sym, ap, ◌∙◌, subst, append_assoc}
use Rattle.std.specs.Io.KnownBytes.{prepend_known}
use Rattle.pcap_form.specs.Ahead.{Ahead, Gains}
use Rattle.pc_outside.specs.WhereTold.{WhereTold}

-- octets that were given stand behind those held, so what is ahead stays
pub told_gains : (start left now : Option (List ℕ)) (before behind : Ahead) (P : List ℕ → List ℕ → Type 0)
    → Gains before behind left now
    → WhereTold start (prepend_known before.held left) P → WhereTold start (prepend_known behind.held now) P
told_gains None left now before behind P gains holds = tt
told_gains (Some octets) None now before behind P gains holds = absurd holds
told_gains (Some octets) (Some xs) None before behind P gains holds = absurd gains.consumed
told_gains (Some octets) (Some xs) (Some ys) before behind P gains holds =
    let same : before.held ++ xs ≡ behind.held ++ ys =
    ap (λ given. before.held ++ given) gains.consumed ∙ sym (append_assoc before.held gains.given ys)
    ∙ ap (λ held. held ++ ys) (sym gains.held)
    in
    subst (P octets) same holds

-- what follows of the octets that are left
pub told_left : (start left : Option (List ℕ)) (held : List ℕ) (P Q : List ℕ → List ℕ → Type 0)
    → ((octets rest : List ℕ) → left ≡ Some rest → P octets (held ++ rest) → Q octets rest)
    → WhereTold start (prepend_known held left) P → WhereTold start left Q
told_left None left held P Q follows holds = tt
told_left (Some octets) None held P Q follows holds = absurd holds
told_left (Some octets) (Some rest) held P Q follows holds = follows octets rest refl holds

-- and of those ahead, when some that were held are passed
pub told_passed : (start left : Option (List ℕ)) (held now : List ℕ) (P Q : List ℕ → List ℕ → Type 0)
    → ((octets rest : List ℕ) → P octets (held ++ rest) → Q octets (now ++ rest))
    → WhereTold start (prepend_known held left) P → WhereTold start (prepend_known now left) Q
told_passed None left held now P Q follows holds = tt
told_passed (Some octets) None held now P Q follows holds = absurd holds
told_passed (Some octets) (Some rest) held now P Q follows holds = follows octets rest holds

-- what holds of the octets that a source tells, before any are taken
pub told_start : (start : Option (List ℕ)) (P : List ℕ → List ℕ → Type 0) → ((octets : List ℕ) → P octets octets)
    → WhereTold start (prepend_known [] start) P
told_start None P holds = tt
told_start (Some octets) P holds = holds octets

use Rattle.std.proofs.Common.{◌≡◌, ◌<◌, ◌∙◌, All, List, ℕ, subst}
use Rattle.std.proofs.lemmas.Result.{IfOk-weaker}
use Rattle.record_codec.specs.Spelling.{state}
use Rattle.record_codec.proofs.saving.saved_text.Goals as goal

pub returns-clause-octets : goal.returns-clause-octets
returns-clause-octets c =
    let same : c.as_slice.result.now ≡ state c.args.file.now = c.as_slice.ensures ∙ c.in_ok-octets.ensures in
    let small : All (λ octet. octet < 256) (state c.args.file.now) =
    subst (λ (octets : List ℕ). All (λ octet. octet < 256) octets) same c.known_octets.ensures in
    IfOk-weaker c.text_of.result _ _ (λ text is. small) c.text_of.ensures

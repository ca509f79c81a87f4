-- The one text of a message spells it, whatever octets follow.
use Rattle.std.proofs.Common.{◌≡◌, ℕ, ◌+◌, ◌^◌, ◌<◌, List, [], ◌∷◌, ◌++◌, length, take, true, Option, Some, None, IfSome, refl, sym, ap, subst, ◌∙◌, arith}
use Rattle.std.proofs.lemmas.List.{take_at, length-append}
use Rattle.wire_octets.specs.Numbers.{be16_octets}
use Rattle.wire_octets.proofs.NumberLemmas.{be16-again, be32-again}
use Rattle.gtpu_codec.specs.declared.kind.GtpUKind.{GtpUKind}
use Rattle.gtpu_codec.specs.declared.kind.GtpUKind.TheVariants as kind
use Rattle.gtpu_codec.specs.declared.message.GtpU.{GtpU}
use Rattle.gtpu_codec.specs.declared.message.GtpU.TheVariants.{EchoRequest, EchoResponse, ErrorIndication, EndMarker, Gpdu}
use Rattle.gtpu_codec.specs.Head.{length_in, counted_in}
use Rattle.gtpu_codec.specs.Spelling.{Spells, SpellsCounted}
use Rattle.gtpu_codec.specs.Text.{IsMessage, text, body_of, head_of, spelling, counted_len}

text_again : (kind : GtpUKind) (teid : ℕ) (seq : Option ℕ) (body more : List ℕ)
    → teid < 2 ^ 32 → IfSome seq (λ n. n < 2 ^ 16) → counted_len seq body < 2 ^ 16
    → Spells (text kind teid seq body ++ more) (record { kind = kind; teid = teid; seq = seq }) body
text_again kind teid None body more fits any short =
    let octets : List ℕ = text kind teid None body ++ more in
    let size : length_in octets ≡ length body = be16-again (length body) [] short in
    let counted : counted_in octets ≡ body
    = ap (λ n. take n (body ++ more)) size ∙ take_at body more (length body) refl in (
      omega arith,
      refl,
      refl,
      refl,
      sym (be32-again teid [] fits),
      omega (arith, size, length-append body more),
      (refl, sym counted),
    )
text_again kind teid (Some seq) body more fits small short =
    let octets : List ℕ = text kind teid (Some seq) body ++ more in
    let inner : List ℕ = be16_octets seq ++ 0 ∷ 0 ∷ body in
    let size : length_in octets ≡ length body + 4 = be16-again (length body + 4) [] short in
    let counted : counted_in octets ≡ inner
    = ap (λ n. take n (inner ++ more)) size ∙ take_at inner more (length body + 4) (omega arith) in (
      omega arith,
      refl,
      refl,
      refl,
      sym (be32-again teid [] fits),
      omega (arith, size, length-append inner more),
      subst (λ xs. SpellsCounted 0x32 true xs (Some seq) body) (sym counted)
          (omega arith, ap Some (sym (be16-again seq (0 ∷ 0 ∷ body) small)), refl),
    )

pub spelled_again : (message : GtpU) (more : List ℕ) → IsMessage message
    → Spells (spelling message ++ more) (head_of message) (body_of message)
spelled_again (EchoRequest seq) more fits =
    text_again kind.EchoRequest 0 (Some seq) (body_of (EchoRequest seq)) more (omega arith) fits (omega arith)
spelled_again (EchoResponse seq) more fits =
    text_again kind.EchoResponse 0 (Some seq) (body_of (EchoResponse seq)) more (omega arith) fits (omega arith)
spelled_again (ErrorIndication seq teid peer) more fits =
    text_again kind.ErrorIndication 0 (Some seq) (body_of (ErrorIndication seq teid peer)) more (omega arith) fits.0
    (omega arith)
spelled_again (EndMarker teid) more fits = text_again kind.EndMarker teid None [] more fits tt (omega arith)
spelled_again (Gpdu teid payload) more fits = text_again kind.Gpdu teid None payload more fits.0 tt fits.1

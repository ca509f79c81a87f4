use Rattle.std.proofs.Common.{◌≡◌, ℕ, ◌+◌, ◌<◌, ◌^◌, [], ◌∷◌, true, List, length, subst, sym, ◌∙◌, refl, arith, lit<, rules}
use Rattle.std.proofs.lemmas.Slice.{pushed}
use Rattle.gtpv2_ie.specs.declared.value.IeValue.TheVariants.{Ebi}
use Rattle.gtpv2_ie.specs.Element.{Element}
use Rattle.gtpv2_ie.specs.Spelling.{spellings}
use Rattle.gtpv2_msg.specs.Header.{header_len}
use Rattle.gtpv2_msg.specs.Kinds.{is_kind, is_request}
use Rattle.packet_steps.proofs.messages.notification.Goals as goal

-- one EBI fits any message
one_ebi_fits : (ebi : ℕ) (ies : List Element) → ies ≡ record { instance = 0; value = Ebi ebi } ∷ []
    → header_len true + length (spellings ies) < 4 + 2 ^ 16
one_ebi_fits ebi ies is = subst (λ (xs : List Element). header_len true + length (spellings xs) < 4 + 2 ^ 16) (sym is)
    (lit< tt)

pub invariant_of-message : goal.invariant_of-message
unfolding is_kind is_request
invariant_of-message c = record {
  kind = refl;
  teid = search rules;
  seq = omega arith;
  len = one_ebi_fits c.args.ebi c.of.result
      (c.of.ensures ∙ pushed (record { instance = 0; value = Ebi c.args.ebi } ∷ []) c.new-ies.ensures.items c.in_ok-push.was c.push.ensures.items);
}

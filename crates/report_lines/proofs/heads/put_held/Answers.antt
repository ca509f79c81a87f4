use Rattle.std.proofs.Common.{◌≡◌, Option, List, ℕ, [], ◌∷◌, ◌++◌, refl, sym, subst}
use Rattle.std.specs.Prelude.{decimal, codes}
use Rattle.hex.specs.Hex.{encode_with}
use Rattle.text_fields.specs.Fields.{behind}
use Rattle.report_lines.specs.Words.{message_word}
use Rattle.report_lines.proofs.HeadLemmas.{all_behind}
use Rattle.report_lines.proofs.heads.put_held.Goals as goal

pub returns-in-None-clause-told : goal.returns-in-None-clause-told
unfolding encode_with
returns-in-None-clause-told c =
    let head = c.put_life-in-None.new.head in
    let life = decimal c.args.life in
    subst (λ (message : Option (List ℕ)). head ++ [] ≡ behind (codes "held" ∷ life ∷ message_word message ∷ []))
    (sym c.in-None.is)
    (all_behind (codes "held" ∷ life ∷ codes "-" ∷ []) head
    (rw (c.put_life-in-None.ensures.value, c.put_word.ensures, c.requires) refl))

use Rattle.std.proofs.Common.{◌≡◌, MatchBool, [], vec_len, sym, subst, arith}
use Rattle.epoch_drive.proofs.Sets.{as_many_kept, none_taken}
use Rattle.epoch_drive.proofs.kept.EpochLines.is_empty.Goals as goal

pub returns : goal.returns
returns c = λ start taken gateway has.
    let kept = as_many_kept start taken gateway c.args.self.now has in
    subst (λ b. MatchBool b (taken ≡ []) (taken ≡ [] → ⊥)) (sym c.is_empty.ensures)
    (none_taken (vec_len c.args.self.now.lines) taken (omega (arith, kept, c.args.self.now.lines.ok.0)))

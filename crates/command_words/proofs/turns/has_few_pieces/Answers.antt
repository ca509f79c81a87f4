use Rattle.std.proofs.Common.{◌≡◌, ◌==◌, ◌∙◌, ◌+◌, ℕ, nat_le, nat_lt, count_by, ap, sym, arith}
use Rattle.std.proofs.lemmas.Bool.Decides.{nat_tests}
use Rattle.std.proofs.lemmas.List.Splits.{length-slice_split}
use Rattle.command_words.specs.Turns.{comma}
use Rattle.command_words.proofs.turns.has_few_pieces.Goals as goal

below : (n : ℕ) → nat_lt n 1024 ≡ nat_le (n + 1) 1024
below n = grind (arith, nat_tests)

pub returns : goal.returns
returns c =
    ap (λ n. nat_lt n 1024) c.commas.ensures ∙ below (count_by (λ octet. octet == comma) c.args.text.now)
    ∙ ap (λ n. nat_le n 1024) (sym (length-slice_split (λ octet. octet == comma) c.args.text.now))

-- The prefix holds the filters, and the first of the rest the entries.
use Rattle.std.proofs.Common.{◌≡◌, ◌+◌, ◌++◌, length, take, sym, ap, subst, ◌∙◌}
use Rattle.std.proofs.Math.Seq.{take-append-add}
use Rattle.gtp_c.proofs.applying.put_both.Goals as goal

pub returns-clause-prefix : goal.returns-clause-prefix
returns-clause-prefix c =
    let filters = c.args.filters.now in
    let entries = c.args.entries.now in
    let rest = c.put_filters.new.out in
    subst (λ prefix. take (length filters + length entries) (prefix ++ rest) ≡ filters ++ entries)
    (sym c.copy_from_slice.ensures.after)
    (take-append-add filters rest (length entries) ∙ ap (λ more. filters ++ more) c.put_filters.ensures.prefix)

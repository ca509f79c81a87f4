use Rattle.std.proofs.Common.{◌++◌, ◌∷◌, [], ◌∙◌, ap}
use Rattle.std.specs.List.{filter_map}
use Rattle.audit_core.specs.Belonging.{row_of}
use Rattle.audit_core.proofs.ItemBreaks.{told_more}
use Rattle.audit_core.proofs.charges.rows_told.Goals as goal

pub loop-stood-preserved : goal.loop-stood-preserved
loop-stood-preserved c =
    c.in_ok-push_row.ensures
    ∙ ap (λ prefix. prefix ++ filter_map row_of (c.stood-item.result.entry ∷ [])) c.loop-stood.invariant
    ∙ told_more row_of c.args.entries.now c.loop-stood.stood-index c.stood-item.result c.loop-stood-test.true
    c.stood-item.is

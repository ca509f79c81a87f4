use Rattle.std.proofs.Common.{rules, ◌≡◌, ◌+◌, ◌∙◌, length, true, false, ap, sym, arith, refl}
use Rattle.trace_lines.specs.Line.{Line}
use Rattle.audit_core.proofs.PieceTaken.{ends_so, fits_more, takes_more}
use Rattle.audit_core.proofs.pieces.Pieces.add.Goals as goal

pub overflow_add-self : goal.overflow_add-self
overflow_add-self c =
    let old = c.args.self.now in
    let takes = c.requires.takes.2 in
    let known = c.requires.takes.0 in
    let lines = c.requires.takes.1 in
    let count : c.len-before.result ≡ length old.kept.items =
    let a = old.kept.ok in omega (arith, c.len-before.ensures) in
    let ends = ends_so old known lines old.line c.args.len _ c.ends_epoch.result takes c.requires.len count
    c.requires.unended c.ends_epoch.ensures in
    let fits = fits_more old known lines old.line c.args.len takes c.requires.unended c.requires.len
    (sym ends ∙ c.if-ends_epoch.false) in
    omega (arith, fits.0)

pub returns-then-ends_epoch-clause-takes : goal.returns-then-ends_epoch-clause-takes
returns-then-ends_epoch-clause-takes c = λ known lines takes.
    let old = c.args.self.now in
    let count : c.len-before.result ≡ length old.kept.items =
    let a = old.kept.ok in omega (arith, c.len-before.ensures) in
    let ends = ends_so old known lines old.line c.args.len _ c.ends_epoch.result takes c.requires.len count
    c.requires.unended c.ends_epoch.ensures in
    takes_more old _ known lines old.line c.in_ok-meant.meant c.in_ok-kept.kept takes refl c.in_ok-meant.ensures
    c.in_ok-kept.ensures c.in_ok-push.ensures.items c.requires.late (search rules) c.requires.unended
    (sym c.if-ends_epoch.true ∙ ends) (λ is. let clash : true ≡ false = is in cc)

pub returns-else-ends_epoch-clause-takes : goal.returns-else-ends_epoch-clause-takes
returns-else-ends_epoch-clause-takes c = λ known lines takes.
    let old = c.args.self.now in
    let count : c.len-before.result ≡ length old.kept.items =
    let a = old.kept.ok in omega (arith, c.len-before.ensures) in
    let ends = ends_so old known lines old.line c.args.len _ c.ends_epoch.result takes c.requires.len count
    c.requires.unended c.ends_epoch.ensures in
    let fits = fits_more old known lines old.line c.args.len takes c.requires.unended c.requires.len
    (sym ends ∙ c.if-ends_epoch.false) in
    takes_more old _ known lines old.line c.in_ok-meant.meant c.in_ok-kept.kept takes refl c.in_ok-meant.ensures
    c.in_ok-kept.ensures c.in_ok-push.ensures.items c.requires.late (search rules) c.requires.unended
    (c.requires.unended ∙ sym c.if-ends_epoch.false ∙ ends) (λ is. fits.1)

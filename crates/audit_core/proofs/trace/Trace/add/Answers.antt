use Rattle.std.proofs.Common.{◌≡◌, ◌+◌, ◌∙◌, ◌++◌, ◌∷◌, [], length, ap, sym, arith, refl}
use Rattle.trace_lines.specs.Line.{Line}
use Rattle.audit_core.proofs.TakenLemmas.{ends_so, fits_more, takes_open, takes_whole}
use Rattle.audit_core.proofs.trace.Trace.add.Goals as goal

pub overflow_add-self : goal.overflow_add-self
overflow_add-self c =
    let old = c.args.self.now in
    let line = c.args.line.now in
    let takes = c.requires.takes.2 in
    let slices = c.requires.takes.0 in
    let done = c.requires.takes.1 in
    let ends = ends_so old slices done line c.args.len c.ends_epoch.result takes c.requires.len c.ends_epoch.ensures in
    let fits = fits_more old slices done line c.args.len takes c.requires.len (sym ends ∙ c.if-ends_epoch.false) in
    omega (arith, fits.0)

pub overflow_add-self-else-ends_epoch : goal.overflow_add-self-else-ends_epoch
overflow_add-self-else-ends_epoch c =
    let old = c.args.self.now in
    let line = c.args.line.now in
    let takes = c.requires.takes.2 in
    let slices = c.requires.takes.0 in
    let done = c.requires.takes.1 in
    let ends = ends_so old slices done line c.args.len c.ends_epoch.result takes c.requires.len c.ends_epoch.ensures in
    let fits = fits_more old slices done line c.args.len takes c.requires.len (sym ends ∙ c.if-ends_epoch.false) in
    omega (arith, fits.1)

pub returns-in_ok-push-2-clause-takes : goal.returns-in_ok-push-2-clause-takes
returns-in_ok-push-2-clause-takes c = λ slices done takes.
    let old = c.args.self.now in
    let line = c.args.line.now in
    let ends = ends_so old slices done line c.args.len c.ends_epoch.result takes c.requires.len c.ends_epoch.ensures in
    takes_whole old _ slices done line c.in_ok-meant.meant c.in_ok-kept.kept takes refl c.in_ok-meant.ensures
    c.in_ok-kept.ensures c.in_ok-push.ensures.items c.requires.late (ap (λ (l : Line). l.moment) c.line.view_is)
    (let a = old.kept.ok in omega (arith, c.requires.few))
    (sym ends ∙ c.if-ends_epoch.true)
    (let len : c.len.result ≡ length c.push.new.self.items =
    let a = c.push.new.self.ok in omega (arith, c.len.ensures) in
    c.in_ok-push-2.ensures.items ∙ ap (λ n. old.ends.items ++ n ∷ []) len) refl refl

pub returns-else-ends_epoch-clause-takes : goal.returns-else-ends_epoch-clause-takes
returns-else-ends_epoch-clause-takes c = λ slices done takes.
    let old = c.args.self.now in
    let line = c.args.line.now in
    let ends = ends_so old slices done line c.args.len c.ends_epoch.result takes c.requires.len c.ends_epoch.ensures in
    takes_open old _ slices done line c.in_ok-meant.meant c.in_ok-kept.kept takes refl c.in_ok-meant.ensures
    c.in_ok-kept.ensures c.in_ok-push.ensures.items c.requires.late (ap (λ (l : Line). l.moment) c.line.view_is)
    (let a = old.kept.ok in omega (arith, c.requires.few))
    (sym ends ∙ c.if-ends_epoch.false) refl refl (ap (λ n. old.open_octets + n) c.requires.len)

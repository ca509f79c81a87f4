use Rattle.std.proofs.Common.{◌≡◌, ◌+◌, ◌∙◌, ◌≤◌, length, refl, sym, ap, subst, vec_len, arith}
use Rattle.at_rest.specs.Coming.{latest_behind}
use Rattle.audit_core.specs.Pieces.{RestsSo}
use Rattle.audit_core.specs.Setups.{setup_of}
use Rattle.audit_core.proofs.PieceBehind.{let_go_so, weighs_fresh}
use Rattle.audit_core.proofs.PieceEnds.{asked, late_is, rest_is}
use Rattle.audit_core.proofs.PieceFound.{comes_with, few_subscribers, fit_of, found_refutes, lawful_of, misfit_refutes, none_some, rests_of, some_none}
use Rattle.audit_core.proofs.pieces.Pieces.end.Goals as goal

pub misfit-requires : goal.misfit-requires
misfit-requires c =
    let a = c.args.self.now.kept.ok in record { few = omega (arith, c.requires.hears.2.few) }

pub returns-then-is_some-clause-lawful : goal.returns-then-is_some-clause-lawful
returns-then-is_some-clause-lawful c = λ known piece hears.
    none_some _ c.in_ok-misfit.misfit (sym c.is_some.ensures ∙ c.if-is_some.true)

pub returns-then-is_some-clause-refuted : goal.returns-then-is_some-clause-refuted
returns-then-is_some-clause-refuted c = λ known piece hears.
    misfit_refutes (setup_of c.args.self.now.setup) known c.args.last piece c.args.self.now c.in_ok-misfit.misfit
    (c.in_ok-misfit.ensures known piece hears)

pub piece_broken-requires-clause-few : goal.piece_broken-requires-clause-few
piece_broken-requires-clause-few c =
    let a = c.args.self.now.subscribers.ok in
    omega (arith, few_subscribers c.args.self.now c.requires.hears.0 c.requires.hears.1 c.requires.hears.2)

pub piece_broken-requires-clause-next : goal.piece_broken-requires-clause-next
piece_broken-requires-clause-next c =
    let own = c.args.self.now in
    let known = c.requires.hears.0 in
    let piece = c.requires.hears.1 in
    let hears = c.requires.hears.2 in
    let fit = fit_of (setup_of own.setup) known c.args.last piece own c.in_ok-misfit.misfit
    (sym c.is_some.ensures ∙ c.if-is_some.false) (c.in_ok-misfit.ensures known piece hears) in (
      asked own known piece hears c.args.last fit,
      comes_with own known piece hears c.args.last fit c.as_slice-2.result.now c.as_slice.result.now
          c.as_slice-3.result.now c.as_slice-2.ensures.value c.as_slice.ensures.value c.as_slice-3.ensures.value,
      sym hears.lines,
      refl,
    )

pub returns-then-is_some-2-clause-lawful : goal.returns-then-is_some-2-clause-lawful
returns-then-is_some-2-clause-lawful c = λ known piece hears.
    none_some _ c.in_ok-found.found (sym c.is_some-2.ensures ∙ c.if-is_some-2.true)

pub returns-then-is_some-2-clause-refuted : goal.returns-then-is_some-2-clause-refuted
returns-then-is_some-2-clause-refuted c = λ known piece hears.
    let own = c.args.self.now in
    let fit = fit_of (setup_of own.setup) known c.args.last piece own c.in_ok-misfit.misfit
    (sym c.is_some.ensures ∙ c.if-is_some.false) (c.in_ok-misfit.ensures known piece hears) in
    let comes = comes_with own known piece hears c.args.last fit c.as_slice-2.result.now c.as_slice.result.now
    c.as_slice-3.result.now c.as_slice-2.ensures.value c.as_slice.ensures.value c.as_slice-3.ensures.value in
    found_refutes own known piece hears c.args.last fit c.in_ok-found.found
    (c.in_ok-found.ensures.found (asked own known piece hears c.args.last fit) comes (sym hears.lines) refl)

pub go_on-requires-clause-few : goal.go_on-requires-clause-few
go_on-requires-clause-few c =
    let a = c.args.self.now.kept.ok in
    omega (arith, c.requires.hears.2.few)

pub go_on-requires-clause-few_epochs : goal.go_on-requires-clause-few_epochs
go_on-requires-clause-few_epochs c = c.requires.hears.2.few_epochs

pub returns-clause-lawful : goal.returns-clause-lawful
returns-clause-lawful c = λ known piece hears.
    let own = c.args.self.now in
    let fit = fit_of (setup_of own.setup) known c.args.last piece own c.in_ok-misfit.misfit
    (sym c.is_some.ensures ∙ c.if-is_some.false) (c.in_ok-misfit.ensures known piece hears) in
    let its = asked own known piece hears c.args.last fit in
    let comes = comes_with own known piece hears c.args.last fit c.as_slice-2.result.now c.as_slice.result.now
    c.as_slice-3.result.now c.as_slice-2.ensures.value c.as_slice.ensures.value c.as_slice-3.ensures.value in
    let none = sym c.is_some-2.ensures ∙ c.if-is_some-2.false in
    let holds = lawful_of own known piece hears c.args.last fit c.in_ok-found.found none
    (c.in_ok-found.ensures.found its comes (sym hears.lines) refl) in
    let rests : RestsSo its own.setup.slices (latest_behind 0 known.lines) own.subscribers.items
    c.piece_broken.new.subscribers.items = rests_of _ c.in_ok-found.found none
    (c.in_ok-found.ensures.stands its own.setup.slices (latest_behind 0 known.lines) comes (sym hears.lines) refl
    (rest_is own known piece hears c.args.last fit) (late_is own known piece hears c.args.last fit)) in
    let rest = c.go_on.ensures.rest in
    let_go_so own known piece hears c.args.last fit c.piece_broken.new.subscribers.items rests holds c.go_on.new.self
    rest.setup rest.least rest.book (ap (λ v. v.items) rest.subscribers) c.go_on.ensures.fresh c.go_on.ensures.epochs
    (let a = own.kept.ok in omega (arith, c.go_on.ensures.lines))

pub returns-then-is_some-clause-weight : goal.returns-then-is_some-clause-weight
returns-then-is_some-clause-weight c = λ known piece hears goes.
    none_some _ c.in_ok-misfit.misfit (sym c.is_some.ensures ∙ c.if-is_some.true)

pub returns-then-is_some-2-clause-weight : goal.returns-then-is_some-2-clause-weight
returns-then-is_some-2-clause-weight c = λ known piece hears goes.
    none_some _ c.in_ok-found.found (sym c.is_some-2.ensures ∙ c.if-is_some-2.true)

pub returns-clause-weight : goal.returns-clause-weight
returns-clause-weight c = λ known piece hears goes.
    let own = c.args.self.now in
    let fit = fit_of (setup_of own.setup) known c.args.last piece own c.in_ok-misfit.misfit
    (sym c.is_some.ensures ∙ c.if-is_some.false) (c.in_ok-misfit.ensures known piece hears) in
    weighs_fresh own known piece hears c.args.last fit goes c.go_on.new.self
    (let a = own.kept.ok in omega (arith, c.go_on.ensures.lines)) c.go_on.ensures.fresh

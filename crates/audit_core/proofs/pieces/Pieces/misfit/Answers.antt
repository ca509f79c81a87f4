use Rattle.std.proofs.Common.{◌≡◌, ◌+◌, ◌∙◌, false, true, Some, length, refl, sym, ap, subst, vec_len, arith}
use Rattle.audit_core.specs.Along.{line_behind, turn}
use Rattle.audit_core.specs.Following.{MisfitOrNone}
use Rattle.audit_core.specs.Ranks.{number_of}
use Rattle.audit_core.specs.Said.{marker}
use Rattle.audit_core.specs.Setups.{setup_of}
use Rattle.audit_core.specs.Telling.{dash}
use Rattle.audit_core.specs.Along.{RefutesNext}
use Rattle.audit_core.proofs.PieceEnds.{early_refutes, fits_so, none_refutes, two_refute}
use Rattle.audit_core.proofs.pieces.Pieces.misfit.Goals as goal

pub returns-then-self : goal.returns-then-self
returns-then-self c = λ known piece hears.
    none_refutes c.args.self.now known piece hears (setup_of c.args.self.now.setup) c.args.last (c.len.result + 1)
    c.in_ok-place.place c.if-self.true (let a = c.args.self.now.entries.ok in omega (arith, c.len.ensures))
    c.in_ok-place.ensures

pub returns-then-self-2 : goal.returns-then-self-2
returns-then-self-2 c = λ known piece hears.
    let own = c.args.self.now in
    let count : own.lines + vec_len own.kept + 1 ≡ own.lines + length own.kept.items + 1 =
    let a = own.kept.ok in omega arith in
    let place = c.behind_lines-more.ensures.place
    ∙ (λ i. line_behind (count i) (c.in_ok-entry.ensures i) (c.in_ok-due.ensures i)) in
    subst (λ s. RefutesNext (setup_of own.setup) known c.args.last piece (number_of s) c.behind_lines-more.result.place)
    (sym c.behind_lines-more.ensures.sentence)
    (two_refute own known piece hears (setup_of own.setup) c.args.last c.behind_lines-more.result.place c.if-self.false
    c.if-self-2.true place)

pub returns-then-last : goal.returns-then-last
returns-then-last c = λ known piece hears.
    fits_so c.args.self.now known piece hears c.args.last c.if-self.false c.if-self-2.false
    (λ is. absurd (let no : true ≡ false = sym c.if-last.true ∙ is in cc))

pub returns-then-self-3 : goal.returns-then-self-3
returns-then-self-3 c = λ known piece hears.
    fits_so c.args.self.now known piece hears c.args.last c.if-self.false c.if-self-2.false (λ is. c.if-self-3.true)

pub returns : goal.returns
returns c = λ known piece hears.
    let own = c.args.self.now in
    let count : own.lines + vec_len own.kept + 1 ≡ own.lines + length own.kept.items + 1 =
    let a = own.kept.ok in omega arith in
    let place = c.behind_lines-early.ensures.place
    ∙ (λ i. line_behind (count i) (c.in_ok-turned.ensures i) (c.in_ok-none.ensures i)) in
    subst (λ b. MisfitOrNone (setup_of own.setup) known b piece own (Some c.behind_lines-early.result)) (sym c.if-last.false)
    (subst (λ s. RefutesNext (setup_of own.setup) known false piece (number_of s) c.behind_lines-early.result.place)
    (sym c.behind_lines-early.ensures.sentence)
    (early_refutes own known piece hears (setup_of own.setup) c.behind_lines-early.result.place c.if-self.false
    c.if-self-2.false c.if-self-3.false place))

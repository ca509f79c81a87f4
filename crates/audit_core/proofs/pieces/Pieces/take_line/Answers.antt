use Rattle.std.proofs.Common.{◌≡◌, ◌+◌, None, length, refl, sym, ap, ◌∙◌, arith}
use Rattle.audit_core.proofs.PieceHeard.{hears_line, on_four}
use Rattle.audit_core.proofs.PieceTaken.{lines_open, piece_bad, piece_line, piece_over, piece_passed, takes_lined, weighs_bad, weighs_line}
use Rattle.audit_core.proofs.WhyFound.{on_two}
use Rattle.audit_core.proofs.pieces.Pieces.take_line.Goals as goal

pub returns-then-self-clause-hears : goal.returns-then-self-clause-hears
returns-then-self-clause-hears c = λ known piece hears.
    hears_line c.args.self.now _ known piece c.args.text.now hears c.requires.unopened c.requires.other refl refl refl refl
    refl refl (omega (arith, hears.few))
    (piece_passed c.args.self.now known hears.trace c.args.text.now hears.takes c.if-self.true)

pub returns-then-self-2-clause-hears : goal.returns-then-self-2-clause-hears
returns-then-self-2-clause-hears c = λ known piece hears.
    hears_line c.args.self.now _ known piece c.args.text.now hears c.requires.unopened c.requires.other refl refl refl refl
    refl refl (omega (arith, hears.few))
    (piece_over c.args.self.now known hears.trace hears.takes c.if-self.false _ c.args.text.now c.if-self-2.true refl)

pub add-requires-clause-len : goal.add-requires-clause-len
add-requires-clause-len c = sym c.in-Ok.ensures.as_long

pub add-requires-clause-slices : goal.add-requires-clause-slices
add-requires-clause-slices c = c.requires.hears.2.setup_is

pub add-requires-clause-takes : goal.add-requires-clause-takes
add-requires-clause-takes c =
    let hears = c.requires.hears.2 in (
      c.requires.hears.0,
      hears.takes.lines,
      takes_lined c.args.self.now c.read_line_in.new.line c.requires.hears.0 hears.takes.lines None
          (lines_open c.args.self.now c.requires.hears.0 hears.trace hears.takes c.if-self.false),
    )

pub returns-in-Ok-clause-hears : goal.returns-in-Ok-clause-hears
returns-in-Ok-clause-hears c = λ known piece hears.
    let counted : c.len.result ≡ length c.args.self.now.kept.items =
    let a = c.args.self.now.kept.ok in omega (arith, c.len.ensures) in
    let rest = c.add.ensures.rest in
    on_four c.add.result
    (λ takes least stopped more. hears_line c.args.self.now c.add.new.self known piece c.args.text.now hears
    c.requires.unopened c.requires.other rest.setup rest.in_report rest.epochs rest.lines rest.none rest.entries
    (omega (arith, more, c.requires.few, c.add.new.self.kept.ok.0, c.args.self.now.kept.ok.0))
    (piece_line c.args.self.now known hears.trace hears.takes c.if-self.false c.add.new.self (c.args.self.now.lines + c.len.result + 1) c.args.text.now
    c.read_line_in.new.line c.if-self-2.false (omega (arith, counted, hears.lines)) c.in-Ok.ensures.line rest.over
    stopped least takes))
    (c.add.ensures.takes known hears.takes.lines
    (takes_lined c.args.self.now c.read_line_in.new.line known hears.takes.lines None
    (lines_open c.args.self.now known hears.trace hears.takes c.if-self.false)))
    c.add.ensures.least c.add.ensures.stopped c.add.ensures.more

pub returns-in-Err-clause-hears : goal.returns-in-Err-clause-hears
returns-in-Err-clause-hears c = λ known piece hears.
    let counted : c.len.result ≡ length c.args.self.now.kept.items =
    let a = c.args.self.now.kept.ok in omega (arith, c.len.ensures) in
    let rest = c.stop.ensures.rest in
    on_four c.stop.result
    (λ takes other stopped more. hears_line c.args.self.now c.stop.new.self known piece c.args.text.now hears
    c.requires.unopened c.requires.other rest.setup rest.in_report rest.epochs rest.lines rest.none rest.entries
    (omega (arith, more.0, c.requires.few, c.stop.new.self.kept.ok.0, c.args.self.now.kept.ok.0))
    (piece_bad c.args.self.now known hears.trace hears.takes c.if-self.false c.stop.new.self (c.args.self.now.lines + c.len.result + 1) c.args.text.now
    c.in-Err.why c.if-self-2.false (omega (arith, counted, hears.lines)) c.in-Err.ensures.refusal other rest.over
    stopped more.1 takes))
    (c.stop.ensures.takes known (c.args.self.now.lines + c.len.result + 1) hears.takes.lines
    (takes_lined c.args.self.now c.read_line_in.new.line known hears.takes.lines None
    (lines_open c.args.self.now known hears.trace hears.takes c.if-self.false)))
    c.stop.ensures.other c.stop.ensures.stopped c.stop.ensures.more

pub returns-in-Ok-clause-weight : goal.returns-in-Ok-clause-weight
returns-in-Ok-clause-weight c =
    on_two c.add.result
    (λ stopped more.
    let a = c.add.new.self.kept.ok in
    let b = c.args.self.now.kept.ok in
    weighs_line c.args.self.now c.add.new.self c.args.self.now.least (c.args.self.now.lines + c.len.result + 1) c.args.text.now c.read_line_in.new.line
    c.add.ensures.rest.lines stopped c.if-self.false c.in-Ok.ensures.line (omega (arith, more)))
    c.add.ensures.stopped c.add.ensures.more

pub returns-in-Err-clause-weight : goal.returns-in-Err-clause-weight
returns-in-Err-clause-weight c =
    on_two c.stop.result
    (λ stopped more.
    let a = c.stop.new.self.kept.ok in
    let b = c.args.self.now.kept.ok in
    weighs_bad c.args.self.now c.stop.new.self c.args.text.now c.stop.ensures.rest.lines stopped c.if-self.false
    (omega (arith, more.0)))
    c.stop.ensures.stopped c.stop.ensures.more

use Rattle.std.proofs.Common.{◌≡◌, ◌+◌, length, sym, arith}
use Rattle.audit_core.proofs.TakenLemmas.{lines_open, open_few, taken_bad, taken_line, taken_over, weighs_bad, weighs_line}
use Rattle.audit_core.proofs.WhyFound.{on_three, on_two}
use Rattle.audit_core.proofs.trace.Trace.take.Goals as goal

pub returns-then-self-clause-taken : goal.returns-then-self-clause-taken
returns-then-self-clause-taken c = λ slices texts taken.
    taken_over c.args.self.now slices texts c.args.text.now taken c.if-self.true

pub add-requires-clause-len : goal.add-requires-clause-len
add-requires-clause-len c = sym c.in-Ok.ensures.as_long

pub add-requires-clause-takes : goal.add-requires-clause-takes
add-requires-clause-takes c =
    let taken = c.requires.taken.2 in (
      c.requires.taken.0,
      taken.lines,
      lines_open c.args.self.now c.requires.taken.0 c.requires.taken.1 taken c.if-self.false,
    )

pub stop-requires-clause-open_ : goal.stop-requires-clause-open_
stop-requires-clause-open_ c =
    let taken = c.requires.taken.2 in
    let before = lines_open c.args.self.now c.requires.taken.0 c.requires.taken.1 taken c.if-self.false in
    omega (arith, open_few c.args.self.now c.requires.taken.0 taken.lines _ before, c.requires.few)

pub returns-in-Ok-clause-taken : goal.returns-in-Ok-clause-taken
returns-in-Ok-clause-taken c = λ slices texts taken.
    let counted : c.len.result ≡ length c.args.self.now.kept.items =
    let a = c.args.self.now.kept.ok in omega (arith, c.len.ensures) in
    on_three c.add.result
    (λ takes least stopped.
    taken_line c.args.self.now c.add.new.self slices (c.len.result + 1) texts c.args.text.now c.read_line_in.new.line taken
    c.if-self.false (omega (arith, counted)) c.in-Ok.ensures.line stopped least takes)
    (c.add.ensures.takes slices taken.lines (lines_open c.args.self.now slices texts taken c.if-self.false))
    c.add.ensures.least c.add.ensures.stopped

pub returns-in-Ok-clause-lines : goal.returns-in-Ok-clause-lines
returns-in-Ok-clause-lines c =
    on_two c.add.result
    (λ stopped count.
    let a = c.add.new.self.kept.ok in
    let b = c.args.self.now.kept.ok in
    weighs_line c.args.self.now c.add.new.self c.args.self.now.least (c.len.result + 1) c.args.text.now
    c.read_line_in.new.line stopped c.if-self.false c.in-Ok.ensures.line (omega (arith, count)))
    c.add.ensures.stopped c.add.ensures.count

pub returns-in-Err-clause-taken : goal.returns-in-Err-clause-taken
returns-in-Err-clause-taken c = λ slices texts taken.
    let counted : c.len.result ≡ length c.args.self.now.kept.items =
    let a = c.args.self.now.kept.ok in omega (arith, c.len.ensures) in
    on_three c.stop.result
    (λ takes other stopped.
    taken_bad c.args.self.now c.stop.new.self slices (c.len.result + 1) texts c.args.text.now c.in-Err.why taken
    c.if-self.false (omega (arith, counted)) c.in-Err.ensures.refusal other stopped takes)
    (c.stop.ensures.takes slices (c.len.result + 1) taken.lines
    (lines_open c.args.self.now slices texts taken c.if-self.false)) c.stop.ensures.other c.stop.ensures.stopped

pub returns-in-Err-clause-lines : goal.returns-in-Err-clause-lines
returns-in-Err-clause-lines c =
    on_two c.stop.result
    (λ stopped count.
    let a = c.stop.new.self.kept.ok in
    let b = c.args.self.now.kept.ok in
    weighs_bad c.args.self.now c.stop.new.self c.args.text.now stopped c.if-self.false (omega (arith, count)))
    c.stop.ensures.stopped c.stop.ensures.count

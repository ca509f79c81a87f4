use Rattle.std.proofs.Common.{◌+◌, length, refl, sym, subst, arith, take}
use Rattle.std.proofs.lemmas.List.{take_all}
use Rattle.audit_core.specs.Holding.{IsKnown}
use Rattle.audit_core.specs.Meant.{line_told, lines_of}
use Rattle.audit_core.specs.Walking.{HasWalked, Walks}
use Rattle.audit_core.proofs.WalkedLemmas.{answer_of, fewer_before, prefix_more, known_at, length-prefix, walked_none}
use Rattle.audit_core.proofs.walking.walk.Goals as goal

pub note_line-requires-clause-known : goal.note_line-requires-clause-known
note_line-requires-clause-known c =
    known_at (length c.args.subscribers.now) c.args.lines.now c.loop-told.told-index c.told-item.result c.requires.known
    c.loop-told-test.true c.told-item.is

pub note_line-requires-clause-few : goal.note_line-requires-clause-few
note_line-requires-clause-few c =
    let i = c.loop-told.told-index in
    let low = c.loop-told-test.true in
    let count = length-prefix c.args.lines.now i (omega (arith, low)) in (
      lines_of (take i c.args.lines.now),
      c.loop-told.invariant.walks,
      fewer_before c.args.subscribers.now (length c.args.lines.now)
          (length (lines_of (take i c.args.lines.now)) + 1) c.requires.few (omega (arith, low, count)),
      omega (arith, low, count, c.requires.short),
    )

pub take-requires-clause-known : goal.take-requires-clause-known
take-requires-clause-known c =
    subst (λ n. IsKnown n (line_told c.told-item.result).meaning) (sym c.loop-told.invariant.walks.places)
    (known_at (length c.args.subscribers.now) c.args.lines.now c.loop-told.told-index c.told-item.result c.requires.known
    c.loop-told-test.true c.told-item.is)

pub take-requires-clause-few : goal.take-requires-clause-few
take-requires-clause-few c =
    let i = c.loop-told.told-index in
    let low = c.loop-told-test.true in
    let count = length-prefix c.args.lines.now i (omega (arith, low)) in (
      length c.args.subscribers.now,
      lines_of (take i c.args.lines.now),
      c.loop-told.invariant.walks,
      omega (arith, low, count, c.requires.short),
    )

pub loop-told-init : goal.loop-told-init
loop-told-init c = record {
  walks = c.in_ok-course.ensures;
  walked_so = λ histories stand. walked_none c.args.setup.now histories _ refl refl;
}

pub loop-told-preserved : goal.loop-told-preserved
loop-told-preserved c =
    let i = c.loop-told.told-index in
    let lines = c.args.lines.now in
    let told = c.told-item.result in
    let low = c.loop-told-test.true in
    let slots = length c.args.subscribers.now in
    let first = c.requires.answered.0 in
    let answers = answer_of lines i told first low c.told-item.is c.requires.answered.1 in
    let more = prefix_more lines i told low c.told-item.is in
    record {
      walks = subst (Walks c.take.new.self slots) more
          (c.take.ensures slots (first + i) (lines_of (take i lines)) c.loop-told.invariant.walks answers);
      walked_so = λ histories stand.
          subst (λ l. HasWalked c.args.setup.now histories l c.note_line.new.walked) more
          (c.in_ok-note_line.ensures (first + i) histories (lines_of (take i lines)) stand
          c.loop-told.invariant.walks answers (c.loop-told.invariant.walked_so histories stand));
    }

pub returns : goal.returns
returns c = λ histories stand.
    subst (λ l. HasWalked c.args.setup.now histories (lines_of l) c.loop-told.walked)
    (take_all c.loop-told.told-index c.args.lines.now (omega arith)) (c.loop-told.invariant.walked_so histories stand)

use Rattle.std.proofs.Common.{◌≤◌, ◌∙◌, [], drop, length, sym, ap, subst, arith}
use Rattle.std.specs.List.{All}
use Rattle.std.proofs.lemmas.List.{drop_all, length-map, take_all}
use Rattle.audit_core.specs.Bounds.{FirstCount, LiesBetween}
use Rattle.audit_core.specs.Meant.{line_told, lines_of}
use Rattle.audit_core.specs.OfSlot.{CountsRise}
use Rattle.audit_core.specs.Passing.{LiesIn}
use Rattle.audit_core.specs.Places.{EachUpTo}
use Rattle.audit_core.specs.Telling.{at_line}
use Rattle.audit_core.specs.declared.told_line.ToldLine.{ToldLine}
use Rattle.audit_core.proofs.CountLemmas.{counts_from, first_here, lies_next}
use Rattle.audit_core.proofs.Differing.{took}
use Rattle.audit_core.proofs.LiftLemmas.{counts_all, first_count}
use Rattle.audit_core.proofs.RestLemmas.{denied, drop_mapped}
use Rattle.audit_core.proofs.ShareLemmas.{IsAnswered, all_answered, all_at, are_of, of_answered}
use Rattle.audit_core.proofs.counts.count_broken.Goals as goal

pub returns-then-not-lies_in-clause-some : goal.returns-then-not-lies_in-clause-some
returns-then-not-lies_in-clause-some c = λ slot first all are same.
    let at = c.loop-at.at in
    let lines = lines_of c.args.lines.now in
    let told = c.index-lines-at.result in
    let now = line_told told in
    let low = c.loop-at-test.true in
    let each : All (IsAnswered slot) lines = subst (All (IsAnswered slot)) (sym same) (all_answered first slot all are) in
    let it = all_at (IsAnswered slot) c.args.lines.now at told low c.index-lines-at.is each in
    let found = c.in_ok-at_line.field-0 in
    let told_is = ap (λ (t : ToldLine). t.entry.now) c.index-lines-at.is in
    first_count first slot c.args.start all found are
    (subst (λ xs. FirstCount slot c.args.start xs found) same
    (first_here it.number slot c.args.start lines at now c.loop-at.passed
    (c.loop-at.invariant.so slot (are_of slot lines each))
    (drop_mapped line_told c.args.lines.now at told low c.index-lines-at.is) it.answers found
    (c.loop-at.invariant.each slot first all are same)
    (λ lies. denied (c.lies_in.ensures slot now told_is (of_answered slot now it)) c.if-not-lies_in.true
    (subst (LiesIn slot c.loop-at.passed) told_is lies))
    (c.in_ok-at_line.ensures ∙ (λ j. at_line (sym told_is j) (c.in_ok-due.ensures j)))))

pub loop-at-preserved : goal.loop-at-preserved
loop-at-preserved c =
    let at = c.loop-at.at in
    let lines = lines_of c.args.lines.now in
    let told = c.index-lines-at.result in
    let now = line_told told in
    let low = c.loop-at-test.true in
    record {
      few = omega (arith, c.loop-at.invariant.few, c.goes_on-passed.ensures.most);
      so = λ slot are. c.goes_on-passed.ensures.passed slot c.args.start are (c.loop-at.invariant.so slot are);
      each = λ slot first all are same.
          let each : All (IsAnswered slot) lines =
          subst (All (IsAnswered slot)) (sym same) (all_answered first slot all are) in
          let it = all_at (IsAnswered slot) c.args.lines.now at told low c.index-lines-at.is each in
          let told_is = ap (λ (t : ToldLine). t.entry.now) c.index-lines-at.is in
          lies_next it.number slot c.args.start lines at now c.loop-at.passed
          (c.loop-at.invariant.so slot (are_of slot lines each))
          (drop_mapped line_told c.args.lines.now at told low c.index-lines-at.is) it.answers
          (took line_told c.args.lines.now at told low c.index-lines-at.is)
          (subst (LiesIn slot c.loop-at.passed) (sym told_is)
          ((c.lies_in.ensures slot now told_is (of_answered slot now it)).0 c.if-not-lies_in.false))
          (c.loop-at.invariant.each slot first all are same);
    }

pub returns-clause-none : goal.returns-clause-none
returns-clause-none c = λ slot first all are same.
    let at = c.loop-at.at in
    let lines = lines_of c.args.lines.now in
    let past : length lines ≤ at = omega (arith, length-map c.args.lines.now line_told) in
    counts_all first slot c.args.start all are
    (subst (CountsRise slot c.args.start) same
    (counts_from slot c.args.start lines
    (subst (λ rest. EachUpTo (LiesBetween slot c.args.start) [] lines rest) (drop_all at lines past)
    (subst (λ prefix. EachUpTo (LiesBetween slot c.args.start) [] prefix (drop at lines)) (take_all at lines past)
    (c.loop-at.invariant.each slot first all are same)))))

use Rattle.std.proofs.Common.{◌≡◌, ◌+◌, ◌≤◌, [], ◌∷◌, ◌++◌, take, drop, sym, ap, subst, ◌∙◌, arith}
use Rattle.std.proofs.lemmas.List.{drop_more, length-take-le, take_more}
use Rattle.trace_lines.specs.Line.{Line}
use Rattle.at_rest.specs.Coming.{AreLater}
use Rattle.front_core.specs.Words.{latest_in}
use Rattle.slice_core.specs.Lines.{TakesAll}
use Rattle.slice_core.proofs.Takes.{takes_more, takes_none, takes_pumped}
use Rattle.slice_core.proofs.lines.take_lines.Goals as goal

pub loop-line-init : goal.loop-line-init
loop-line-init g c =
    let tries = c.args.patience + 1 in
    let old = c.args.front in
    let kept = c.expect.ensures in
    record {
      takes = takes_pumped tries [] old old c.expect.new.self (takes_none tries old c.requires.whole)
          (record {
            whole = kept.whole;
            opened = kept.same.0;
            entries = kept.same.1;
            count = kept.counts.0;
            latest = kept.counts.1;
            fulls = kept.counts.2;
            control = kept.lanes.0;
            data_half = kept.lanes.1;
          });
      later = subst (λ n. AreLater n c.args.lines.now) (sym kept.counts.1) c.requires.later;
    }

pub loop-line-preserved : goal.loop-line-preserved
loop-line-preserved g c =
    let lines = c.args.lines.now in
    let k = c.loop-line.line-index in
    let line = c.line-item.result in
    let within = c.loop-line-test.true in
    let known = c.in_ok-took.ensures in
    let next : take (k + 1) lines ≡ take k lines ++ line ∷ [] =
    take_more lines k line within ∙ ap (λ (l : Line). take k lines ++ l ∷ []) (sym c.line-item.is) in
    let rest : drop k lines ≡ line ∷ drop (k + 1) lines =
    drop_more lines k line within ∙ ap (λ (l : Line). l ∷ drop (k + 1) lines) (sym c.line-item.is) in
    record {
      takes = subst (λ xs. TakesAll (c.args.patience + 1) xs c.args.front c.line_at_once.new.self) (sym next)
          (takes_more (c.args.patience + 1) (take k lines) line c.args.front c.pump_if.new.front c.line_at_once.new.self
          c.in_ok-took.took
          (takes_pumped (c.args.patience + 1) (take k lines) c.args.front c.loop-line.front c.pump_if.new.front
          c.loop-line.invariant.takes c.pump_if.ensures) known.whole known.opened known.taken known.counts known.lanes
          known.takes known.tried);
      later = subst (λ n. AreLater n (drop (k + 1) lines)) (sym known.counts.1)
          (subst (AreLater (latest_in c.loop-line.front)) rest c.loop-line.invariant.later).1;
    }

pub line_at_once-requires-clause-whole : goal.line_at_once-requires-clause-whole
line_at_once-requires-clause-whole g c = c.pump_if.ensures.whole c.loop-line.invariant.takes.whole

pub line_at_once-requires-clause-few : goal.line_at_once-requires-clause-few
line_at_once-requires-clause-few g c =
    let within = c.loop-line-test.true in
    omega (
      arith,
      c.pump_if.ensures.count,
      c.loop-line.invariant.takes.count,
      c.requires.few,
      within,
      length-take-le c.loop-line.line-index c.args.lines.now (omega (arith, within)),
    )

pub line_at_once-requires-clause-late : goal.line_at_once-requires-clause-late
line_at_once-requires-clause-late g c =
    let lines = c.args.lines.now in
    let k = c.loop-line.line-index in
    let line = c.line-item.result in
    let rest : drop k lines ≡ line ∷ drop (k + 1) lines =
    drop_more lines k line c.loop-line-test.true
    ∙ ap (λ (l : Line). l ∷ drop (k + 1) lines) (sym c.line-item.is) in
    subst (λ n. n ≤ line.moment) (sym c.pump_if.ensures.latest)
    (subst (AreLater (latest_in c.loop-line.front)) rest c.loop-line.invariant.later).0

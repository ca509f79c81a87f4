use Rattle.std.proofs.Common.{◌+◌, ap, sym, ◌∙◌}
use Rattle.at_rest.specs.Rest.{Rest}
use Rattle.front_core.specs.Words.{first_slices}
use Rattle.slice_core.specs.Lines.{TakesAll}
use Rattle.slice_core.proofs.Refused.{closes_are, count_is, front_of, latest_is, placed_are, refusals_are}
use Rattle.slice_core.proofs.epoch.run_epoch.Goals as goal

pub returns-clause-closes : goal.returns-clause-closes
returns-clause-closes g c =
    let old = c.in_ok-opened.opened.front in
    let front = c.in_ok-served.field-0 in
    let takes = front_of (TakesAll (c.args.pace.patience + 1) c.args.lines.now old) c.scoped-served.result.front front
    c.in_ok-served.was c.scoped-served.ensures.1.takes in
    let made = c.in_ok-opened.ensures in
    closes_are (c.args.pace.patience + 1) c.args.rest c.args.lines.now old front c.close.result made.opened.0 made.opened.1
    takes c.close.ensures.closes

pub returns-clause-count : goal.returns-clause-count
returns-clause-count g c =
    let old = c.in_ok-opened.opened.front in
    let front = c.in_ok-served.field-0 in
    let takes = front_of (TakesAll (c.args.pace.patience + 1) c.args.lines.now old) c.scoped-served.result.front front
    c.in_ok-served.was c.scoped-served.ensures.1.takes in
    count_is (c.args.pace.patience + 1) c.args.rest.lines c.args.lines.now old front c.close.result
    c.in_ok-opened.ensures.counts.0 takes c.close.ensures.counts

pub returns-clause-latest : goal.returns-clause-latest
returns-clause-latest g c =
    let old = c.in_ok-opened.opened.front in
    let front = c.in_ok-served.field-0 in
    let takes = front_of (TakesAll (c.args.pace.patience + 1) c.args.lines.now old) c.scoped-served.result.front front
    c.in_ok-served.was c.scoped-served.ensures.1.takes in
    latest_is (c.args.pace.patience + 1) c.args.rest.latest c.args.lines.now old front c.close.result
    c.in_ok-opened.ensures.counts.1 takes c.close.ensures.counts

pub returns-clause-refusals : goal.returns-clause-refusals
returns-clause-refusals g c =
    let old = c.in_ok-opened.opened.front in
    let front = c.in_ok-served.field-0 in
    let takes = front_of (TakesAll (c.args.pace.patience + 1) c.args.lines.now old) c.scoped-served.result.front front
    c.in_ok-served.was c.scoped-served.ensures.1.takes in
    let made = c.in_ok-opened.ensures in
    refusals_are (c.args.pace.patience + 1) c.args.rest.fulls c.args.lines.now old front c.close.result made.opened.1
    made.counts.2 takes c.close.ensures.counts c.close.ensures.answered

pub close-requires-clause-places : goal.close-requires-clause-places
close-requires-clause-places g c =
    let old = c.in_ok-opened.opened.front in
    let front = c.in_ok-served.field-0 in
    let takes = front_of (TakesAll (c.args.pace.patience + 1) c.args.lines.now old) c.scoped-served.result.front front
    c.in_ok-served.was c.scoped-served.ensures.1.takes in
    let made = c.in_ok-opened.ensures in
    c.scoped-served.ensures.1.places ∙ made.places.1
    ∙ ap (λ (r : Rest). first_slices r.slices) (sym (takes.opened ∙ made.opened.0))

pub returns-clause-placed : goal.returns-clause-placed
returns-clause-placed g c =
    let old = c.in_ok-opened.opened.front in
    let front = c.in_ok-served.field-0 in
    let takes = front_of (TakesAll (c.args.pace.patience + 1) c.args.lines.now old) c.scoped-served.result.front front
    c.in_ok-served.was c.scoped-served.ensures.1.takes in
    placed_are c.args.rest front c.close.result (takes.opened ∙ c.in_ok-opened.ensures.opened.0) c.close.ensures.placed

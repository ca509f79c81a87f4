use Rattle.std.proofs.Common.{◌++◌, ◌∙◌}
use Rattle.lawful_run.specs.Merging.{behind}
use Rattle.lawful_run.specs.Run.{told_in}
use Rattle.lawful_run.specs.Trace.{meant_from}
use Rattle.front_core.specs.Filled.{told_by}
use Rattle.front_core.specs.Words.{opened_of, taken_by}
use Rattle.check_fronts.proofs.Opens.{opens}
use Rattle.check_fronts.proofs.bench.Bench.close.Goals as goal

pub close_epoch-requires : goal.close_epoch-requires
close_epoch-requires g c = c.requires.open_.workers

pub open-requires-clause-behind : goal.open-requires-clause-behind
open-requires-clause-behind g c =
    let is = c.requires.open_ in
    let closes = c.in_ok-epoch.ensures.closes in
    (is.prior ++ taken_by c.args.self.opened.front, closes.is_behind is.prior is.behind)

pub open-requires-clause-represents : goal.open-requires-clause-represents
open-requires-clause-represents g c =
    let is = c.requires.open_ in
    let closes = c.in_ok-epoch.ensures.closes in
    let lines = meant_from (opened_of c.args.self.opened.front).slices is.prior (taken_by c.args.self.opened.front) in (
      behind is.before (told_in lines (told_by c.in_ok-epoch.field-0.epoch)),
      closes.represents is.prior is.before is.behind is.represents,
    )

pub returns : goal.returns
returns g c =
    let is = c.requires.open_ in
    let closes = c.in_ok-epoch.ensures.closes in
    let lines = meant_from (opened_of c.args.self.opened.front).slices is.prior (taken_by c.args.self.opened.front) in
    let made = c.in_ok-open.ensures in
    record {
      setup = c.requires.setup;
      open_ = opens c.in_ok-open.field-0 c.in_ok-epoch.field-0.rest (is.prior ++ taken_by c.args.self.opened.front)
          (behind is.before (told_in lines (told_by c.in_ok-epoch.field-0.epoch))) made.whole made.controls made.datas
          made.places.1 made.opened.0 (closes.is_behind is.prior is.behind)
          (closes.represents is.prior is.before is.behind is.represents);
      latest = made.counts.1 ∙ c.in_ok-epoch.ensures.latest ∙ c.requires.latest;
    }

use Rattle.std.proofs.Common.{[], ap, ◌∙◌}
use Rattle.lawful_run.specs.Run.{no_events}
use Rattle.at_rest.specs.Rest.{Rest}
use Rattle.check_fronts.proofs.Opens.{opens}
use Rattle.check_fronts.proofs.bench.Bench.new.Goals as goal

pub open-requires-clause-behind : goal.open-requires-clause-behind
open-requires-clause-behind c = ([], c.new-rest.ensures.behind)

pub open-requires-clause-represents : goal.open-requires-clause-represents
open-requires-clause-represents c = (no_events, c.new-rest.ensures.represents)

pub returns : goal.returns
returns c =
    let made = c.in_ok-open.ensures in
    record {
      setup = c.requires;
      open_ = opens c.in_ok-open.field-0 c.new-rest.result [] no_events made.whole made.controls made.datas
          made.places.1 made.opened.0
          c.new-rest.ensures.behind c.new-rest.ensures.represents;
      latest = made.counts.1 ∙ ap (λ (r : Rest). r.latest) c.new-rest.ensures.new;
    }

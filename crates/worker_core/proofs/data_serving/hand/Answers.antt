use Rattle.std.proofs.Common.{rules, ◌∙◌, ap}
use Rattle.worker_core.specs.DataPlaces.{before_here}
use Rattle.worker_core.proofs.DataChanges.{stays_here}
use Rattle.worker_core.proofs.data_serving.hand.Goals as goal

pub returns-clause-here : goal.returns-clause-here
returns-clause-here g c =
    ap (before_here c.args.place) c.in_ok-item.ensures.place
    ∙ stays_here c.args.place (g.H.DataTraveller.places c.learn.new.self)
    ∙ ap (before_here c.args.place) c.learn.ensures.places

pub returns-clause-handed : goal.returns-clause-handed
returns-clause-handed g c = (
  search rules,
  record {
    between = c.learn.new.self;
    learnt = c.in_ok-learnt.learnt;
    first = record {
      lists = c.learn.ensures.handled;
      placed = c.learn.ensures.places;
      asked = c.learn.ensures.asks;
      counted = search rules;
      few = c.in_ok-learnt.ensures.most;
      more = c.in_ok-learnt.ensures.more;
      none = c.in_ok-learnt.ensures.none;
      stopped = c.in_ok-learnt.ensures.stopped;
    };
    taken = search rules;
    lists = c.in_ok-item.ensures.ok;
    placed = c.in_ok-item.ensures.place;
    counts = c.in_ok-item.ensures.batches;
  },
)

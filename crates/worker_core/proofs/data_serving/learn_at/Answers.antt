use Rattle.std.proofs.Common.{rules}
use Rattle.worker_core.proofs.DataChains.{learns_as}
use Rattle.worker_core.proofs.data_serving.learn_at.Goals as goal

pub returns-clause-changed : goal.returns-clause-changed
returns-clause-changed g c = (
  c.index_mut.result.now,
  c.learn.new.self,
  search rules,
  search rules,
  c.learn.ensures.places,
  learns_as g.H.DataTraveller.handled g.H.DataTraveller.places g.H.DataTraveller.takes g.H.DataTraveller.asks g.H.DataTraveller.learns g.H.DataTraveller.batches
      g.H.DataTraveller.empties g.H.DataTraveller.awaits 16 c.learn.result c.index_mut.result.now c.learn.new.self
      c.learn.ensures.handled c.learn.ensures.places c.learn.ensures.asks c.learn.ensures.learns c.learn.ensures.most
      c.learn.ensures.more c.learn.ensures.none c.learn.ensures.stopped,
)
